-- States of nodes: what a test tells, and what a change at one node leaves.
use Rattle.std.proofs.Common.{◌≡◌, ◌≢◌, ◌<◌, ◌==◌, ◌&&◌, ◌||◌, ◌∙◌, ◌⊎◌, ℕ, zero, suc, Bool, true, false, not, nat_lt, List, [], ◌∷◌, get_or, length, set, refl, sym, ap, inl, inr, arith, true≢false}
use Rattle.std.specs.List.{list_any}
use Rattle.std.proofs.lemmas.Bool.{and_parts, and_from, cases_lt, cases_eq, eqb-true, eq-eqb, ltb-true, not-true}
use Rattle.std.proofs.lemmas.List.{get_or-set_same, get_or-set_other, get_or_past}
use Rattle.std.proofs.lemmas.List.Folds.{list_any_at}
use Rattle.net_base.specs.declared.graph.Graph.{Graph}
use Rattle.cut_lists.specs.Rows.{node_words}
use Rattle.cut_core.specs.declared.event.Event.TheVariants.{Claim, Put, Publish}
use Rattle.cut_core.specs.declared.event.NodeState.{NodeState}
use Rattle.cut_core.specs.declared.event.NodeState.TheVariants.{Free, Claimed, Published}
use Rattle.cut_core.specs.Machine.{is_free, is_published, is_claimed_by, is_claimed_with, state_at, has_claim, are_published, fan_ins_at, is_word, is_allowed}

-- ---- What a test tells of a state
pub free-is : (state : NodeState) → is_free state ≡ true → state ≡ Free
free-is Free e = refl
free-is (Claimed actor put) e = absurd (true≢false (sym e))
free-is Published e = absurd (true≢false (sym e))

pub published-is : (state : NodeState) → is_published state ≡ true → state ≡ Published
published-is Free e = absurd (true≢false (sym e))
published-is (Claimed actor put) e = absurd (true≢false (sym e))
published-is Published e = refl

pub claimed-is : (actor count : ℕ) (state : NodeState) → is_claimed_with actor count state ≡ true → state ≡ Claimed actor count
claimed-is actor count Free e = absurd (true≢false (sym e))
claimed-is actor count (Claimed other put) e =
    let parts = and_parts (actor == other) (count == put) e in
    let same : actor ≡ other = eqb-true actor other parts.0 in
    let so_far : count ≡ put = eqb-true count put parts.1 in
    cc
claimed-is actor count Published e = absurd (true≢false (sym e))

-- A node that isn't free is there.
pub there : (states : List NodeState) (node : ℕ) → is_free (state_at states node) ≡ false → node < length states
there states node e = elim (cases_lt node (length states)) [
  | inl h ↦ h
  | inr h ↦ absurd (true≢false (sym (ap is_free (get_or_past states node Free h)) ∙ e))
]

-- ---- What an allowed event has
pub record MayClaim (graph : Graph) (states : List NodeState) (actor node : ℕ) : Type 0 where
  pub node_there : node < length graph.nodes
  pub free : state_at states node ≡ Free
  pub fan_ins : are_published states (fan_ins_at graph node) ≡ true
  pub first : has_claim states actor ≡ false

pub claim-has : (graph : Graph) (states : List NodeState) (actor node : ℕ) → is_allowed graph states (Claim actor node) ≡ true → MayClaim graph states actor node
claim-has graph states actor node e =
    let all = and_parts (nat_lt node (length graph.nodes) && is_free (state_at states node) && are_published states (fan_ins_at graph node)) (not (has_claim states actor)) e in
    let three = and_parts (nat_lt node (length graph.nodes) && is_free (state_at states node)) (are_published states (fan_ins_at graph node)) all.0 in
    let two = and_parts (nat_lt node (length graph.nodes)) (is_free (state_at states node)) three.0 in
    record {
      node_there = ltb-true node (length graph.nodes) two.0;
      free = free-is (state_at states node) two.1;
      fan_ins = three.1;
      first = not-true (has_claim states actor) all.1;
    }

pub record MayPut (graph : Graph) (states : List NodeState) (actor node place word : ℕ) : Type 0 where
  pub claimed : state_at states node ≡ Claimed actor place
  pub place_there : place < length (node_words graph node)
  pub word_is : get_or (node_words graph node) place 0 ≡ word

pub put-has : (graph : Graph) (states : List NodeState) (actor node place word : ℕ) → is_allowed graph states (Put actor node place word) ≡ true → MayPut graph states actor node place word
put-has graph states actor node place word e =
    let all = and_parts (is_claimed_with actor place (state_at states node)) (is_word graph node place word) e in
    let parts = and_parts (nat_lt place (length (node_words graph node))) (get_or (node_words graph node) place 0 == word) all.1 in
    record {
      claimed = claimed-is actor place (state_at states node) all.0;
      place_there = ltb-true place (length (node_words graph node)) parts.0;
      word_is = eqb-true (get_or (node_words graph node) place 0) word parts.1;
    }

pub publish-has : (graph : Graph) (states : List NodeState) (actor node : ℕ) → is_allowed graph states (Publish actor node) ≡ true → state_at states node ≡ Claimed actor (length (node_words graph node))
publish-has graph states actor node e = claimed-is actor (length (node_words graph node)) (state_at states node) e

-- An actor without a claim has claimed no node.
pub no_claim : (states : List NodeState) (actor node count : ℕ) → has_claim states actor ≡ false → state_at states node ≡ Claimed actor count → ⊥
no_claim states actor node count none e =
    let here : node < length states = there states node (ap is_free e) in
    let by : is_claimed_by actor (state_at states node) ≡ true = ap (is_claimed_by actor) e ∙ eq-eqb actor actor refl in
    true≢false (sym (list_any_at (is_claimed_by actor) states node Free here by) ∙ none)

-- ---- A change at one node
module _ (states : List NodeState) (node : ℕ) (state : NodeState) (within : node < length states) where
  pub at_node : state_at (set states node state) node ≡ state
  at_node = get_or-set_same states node state Free within

  pub at_any : (other : ℕ) → ((other ≡ node) × (state_at (set states node state) other ≡ state)) ⊎ ((other ≢ node) × (state_at (set states node state) other ≡ state_at states other))
  at_any other = elim (cases_eq other node) [
    | inl same ↦ inl (same, ap (state_at (set states node state)) same ∙ at_node)
    | inr apart ↦ inr (apart, get_or-set_other states node other state Free apart)
  ]

-- Nodes are published still, where published nodes stay so.
pub are_published-kept : (states next : List NodeState) → ((n : ℕ) → state_at states n ≡ Published → state_at next n ≡ Published) → (nodes : List ℕ) → are_published states nodes ≡ true → are_published next nodes ≡ true
are_published-kept states next keeps [] e = refl
are_published-kept states next keeps (n ∷ nodes) e =
    let parts = and_parts (is_published (state_at states n)) (are_published states nodes) e in
    and_from (is_published (state_at next n)) (are_published next nodes)
    (ap is_published (keeps n (published-is (state_at states n) parts.0))) (are_published-kept states next keeps nodes parts.1)

-- ---- A test over all states, after a change at one
module _ (p : NodeState → Bool) where
  -- Whether one of them passes, where the one that changes didn't,
  pub list_any-set : (states : List NodeState) (node : ℕ) (state : NodeState) → node < length states → p (state_at states node) ≡ false → list_any p (set states node state) ≡ (p state || list_any p states)
  list_any-set [] node state within e = absurd (omega arith)
  list_any-set (first ∷ states) zero state within e = ap (λ b. p state || (b || list_any p states)) (sym e)
  list_any-set (first ∷ states) (suc node) state within e =
      ap (λ b. p first || b) (list_any-set states node state (omega arith) e) ∙ swapped (p first) (p state) (list_any p states)
    where
      swapped : (a b c : Bool) → (a || (b || c)) ≡ (b || (a || c))
      swapped true true c = refl
      swapped true false c = refl
      swapped false true c = refl
      swapped false false c = refl

  -- and where the new one passes just as the old one did.
  pub list_any-same : (states : List NodeState) (node : ℕ) (state : NodeState) → p state ≡ p (state_at states node) → list_any p (set states node state) ≡ list_any p states
  list_any-same [] node state e = refl
  list_any-same (first ∷ states) zero state e = ap (λ b. b || list_any p states) e
  list_any-same (first ∷ states) (suc node) state e = ap (λ b. p first || b) (list_any-same states node state e)
