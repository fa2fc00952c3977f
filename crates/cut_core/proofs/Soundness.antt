-- Each state that the machine reaches is sound.
--
-- An allowed event changes the state of one node, and that node wasn't published. So published nodes stay published, and all
-- other nodes keep what soundness asks. The changed node has its fan-ins published: a claim was allowed only then, and a
-- claimed node is one that isn't free. Its actor has no claim elsewhere: a claim was allowed only to an actor without one, and
-- a put or a publication is by the actor of the one claim.
use Rattle.std.proofs.Common.{◌≡◌, ◌≤◌, ◌<◌, ◌+◌, ◌∙◌, ℕ, true, false, List, [], ◌∷◌, get_or, length, set, refl, sym, ap, subst, inl, inr, arith, true≢false}
use Rattle.std.proofs.lemmas.Bool.{cond_both}
use Rattle.std.proofs.lemmas.List.{length-set, length-map, get_or-map}
use Rattle.net_base.specs.declared.graph.GNode.{GNode}
use Rattle.net_base.specs.declared.graph.GNode.TheVariants.{Inp, Neg, Both}
use Rattle.net_base.specs.declared.graph.Graph.{Graph}
use Rattle.net_base.specs.Graph.{IsNodeAt, IsProper}
use Rattle.cut_lists.specs.Rows.{node_words}
use Rattle.cut_core.specs.declared.event.Event.{Event}
use Rattle.cut_core.specs.declared.event.Event.TheVariants.{Claim, Put, Publish}
use Rattle.cut_core.specs.declared.event.NodeState.{NodeState}
use Rattle.cut_core.specs.declared.event.NodeState.TheVariants.{Free, Claimed, Published}
use Rattle.cut_core.specs.Machine.{is_free, is_published, state_at, are_published, fan_ins, fan_ins_at, is_allowed, after_event, next_states, state_at_start, states_at_start, states_from, state_after}
use Rattle.cut_core.specs.Sound.{IsSound}
use Rattle.cut_core.proofs.States.{there, claim-has, put-has, publish-has, no_claim, at_any, are_published-kept}

-- ---- A change at a node that isn't published
module _ (graph : Graph) (states : List NodeState) (sound : IsSound graph states) (node : ℕ) (within : node < length states)
    (unpublished : is_published (state_at states node) ≡ false) (ready : are_published states (fan_ins_at graph node) ≡ true)
    (state : NodeState) (few : (actor count : ℕ) → state ≡ Claimed actor count → count ≤ length (node_words graph node))
    (one : (actor other count more : ℕ) → state ≡ Claimed actor count → state_at states other ≡ Claimed actor more → other ≡ node) where
  keeps : (n : ℕ) → state_at states n ≡ Published → state_at (set states node state) n ≡ Published
  keeps n e = elim (at_any states node state within n) [
    | inl h ↦ absurd (true≢false (sym (ap is_published (ap (state_at states) (sym h.0) ∙ e)) ∙ unpublished))
    | inr h ↦ h.1 ∙ e
  ]

  ready_at : (n : ℕ) → is_free (state_at (set states node state) n) ≡ false → are_published states (fan_ins_at graph n) ≡ true
  ready_at n e = elim (at_any states node state within n) [
    | inl h ↦ ap (λ (k : ℕ). are_published states (fan_ins_at graph k)) h.0 ∙ ready
    | inr h ↦ sound.fan_ins n (sym (ap is_free h.1) ∙ e)
  ]

  one_at : (actor a b count more : ℕ) → state_at (set states node state) a ≡ Claimed actor count → state_at (set states node state) b ≡ Claimed actor more → a ≡ b
  one_at actor a b count more ea eb = elim (at_any states node state within a) [
    | inl ha ↦ elim (at_any states node state within b) [
      | inl hb ↦ ha.0 ∙ sym hb.0
      | inr hb ↦ ha.0 ∙ sym (one actor b count more (sym ha.1 ∙ ea) (sym hb.1 ∙ eb))
    ]
    | inr ha ↦ elim (at_any states node state within b) [
      | inl hb ↦ one actor a more count (sym hb.1 ∙ eb) (sym ha.1 ∙ ea) ∙ sym hb.0
      | inr hb ↦ sound.one_claim actor a b count more (sym ha.1 ∙ ea) (sym hb.1 ∙ eb)
    ]
  ]

  words_at : (actor n count : ℕ) → state_at (set states node state) n ≡ Claimed actor count → count ≤ length (node_words graph n)
  words_at actor n count e = elim (at_any states node state within n) [
    | inl h ↦ subst (λ (k : ℕ). count ≤ length (node_words graph k)) (sym h.0) (few actor count (sym h.1 ∙ e))
    | inr h ↦ sound.words actor n count (sym h.1 ∙ e)
  ]

  sound-set : IsSound graph (set states node state)
  sound-set = record {
    each = length-set states node state ∙ sound.each;
    inputs = λ n low. keeps n (sound.inputs n low);
    fan_ins = λ n e. are_published-kept states (set states node state) keeps (fan_ins_at graph n) (ready_at n e);
    one_claim = one_at;
    words = words_at;
  }

-- ---- An allowed event
module _ (graph : Graph) (states : List NodeState) (sound : IsSound graph states) where
  -- A claimed node is there, and its fan-ins are published.
  claimed_there : (actor node count : ℕ) → state_at states node ≡ Claimed actor count → node < length states
  claimed_there actor node count e = there states node (ap is_free e)

  pub sound-after : (event : Event) → is_allowed graph states event ≡ true → IsSound graph (after_event states event)
  sound-after (Claim actor node) e =
      let may = claim-has graph states actor node e in
      let within : node < length states = omega (arith, sound.each, may.node_there) in
      sound-set graph states sound node within (ap is_published may.free) may.fan_ins (Claimed actor 0)
      (λ who count is. let none : 0 ≡ count = cc in omega (arith, none))
      (λ who other count more is claimed. let same : actor ≡ who = cc in absurd (no_claim states actor other more may.first (claimed ∙ ap (λ (a : ℕ). Claimed a more) (sym same))))
  sound-after (Put actor node place word) e =
      let may = put-has graph states actor node place word e in
      sound-set graph states sound node (claimed_there actor node place may.claimed) (ap is_published may.claimed) (sound.fan_ins node (ap is_free may.claimed)) (Claimed actor (place + 1))
      (λ who count is. let more : place + 1 ≡ count = cc in omega (arith, more, may.place_there))
      (λ who other count more is claimed. let same : actor ≡ who = cc in sound.one_claim actor other node more place (claimed ∙ ap (λ (a : ℕ). Claimed a more) (sym same)) may.claimed)
  sound-after (Publish actor node) e =
      let claimed = publish-has graph states actor node e in
      sound-set graph states sound node (claimed_there actor node (length (node_words graph node)) claimed) (ap is_published claimed) (sound.fan_ins node (ap is_free claimed)) Published
      (λ who count is. absurd (cc)) (λ who other count more is claimed. absurd (cc))

  pub sound-next : (event : Event) → IsSound graph (next_states graph states event)
  sound-next event = cond_both (is_allowed graph states event) (after_event states event) states (IsSound graph) (sound-after event) (λ e. sound)

-- ---- The start
module _ (graph : Graph) (proper : IsProper graph) where
  node_of : ℕ → GNode
  node_of n = get_or graph.nodes n (Inp 0)

  -- At the start a node has the state of its kind.
  pub start_at : (n : ℕ) → n < length graph.nodes → state_at (states_at_start graph) n ≡ state_at_start (get_or graph.nodes n (Inp 0))
  start_at n within = get_or-map state_at_start graph.nodes n (Inp 0) Free within

  start_there : (n : ℕ) → is_free (state_at (states_at_start graph) n) ≡ false → n < length graph.nodes
  start_there n e = omega (arith, there (states_at_start graph) n e, length-map graph.nodes state_at_start)

  input_at : (n : ℕ) (node : GNode) → IsNodeAt graph.inputs n node → n < graph.inputs → state_at_start node ≡ Published
  input_at n (Inp k) at low = refl
  input_at n (Neg a) at low = absurd (omega (arith, at.0))
  input_at n (Both a b) at low = absurd (omega (arith, at.0))

  -- Just the inputs aren't free.
  taken_at : (n : ℕ) (node : GNode) → IsNodeAt graph.inputs n node → is_free (state_at_start node) ≡ false → n < graph.inputs
  taken_at n (Inp k) at e = omega (arith, at.0, at.1)
  taken_at n (Neg a) at e = absurd (true≢false e)
  taken_at n (Both a b) at e = absurd (true≢false e)

  pub inputs_alone : (n : ℕ) → is_free (state_at (states_at_start graph) n) ≡ false → n < graph.inputs
  inputs_alone n e =
      let within = start_there n e in
      taken_at n (get_or graph.nodes n (Inp 0)) (proper.nodes n (Inp 0) within) (sym (ap is_free (start_at n within)) ∙ e)

  bare : (node : GNode) → is_free (state_at_start node) ≡ false → are_published (states_at_start graph) (fan_ins node) ≡ true
  bare (Inp k) e = refl
  bare (Neg a) e = absurd (true≢false e)
  bare (Both a b) e = absurd (true≢false e)

  unclaimed_kind : (node : GNode) (actor count : ℕ) → state_at_start node ≡ Claimed actor count → ⊥
  unclaimed_kind (Inp k) actor count e = cc
  unclaimed_kind (Neg a) actor count e = cc
  unclaimed_kind (Both a b) actor count e = cc

  unclaimed : (n actor count : ℕ) → state_at (states_at_start graph) n ≡ Claimed actor count → ⊥
  unclaimed n actor count e = unclaimed_kind (get_or graph.nodes n (Inp 0)) actor count (sym (start_at n (start_there n (ap is_free e))) ∙ e)

  pub sound-start : IsSound graph (states_at_start graph)
  sound-start = record {
    each = length-map graph.nodes state_at_start;
    inputs = λ n low.
        let within : n < length graph.nodes = omega (arith, proper.inputs) in
        start_at n within ∙ input_at n (get_or graph.nodes n (Inp 0)) (proper.nodes n (Inp 0) within) low;
    fan_ins = λ n e. bare (get_or graph.nodes n (Inp 0)) (sym (ap is_free (start_at n (start_there n e))) ∙ e);
    one_claim = λ actor a b count more ea eb. absurd (unclaimed a actor count ea);
    words = λ actor n count e. absurd (unclaimed n actor count e);
  }

-- ---- Any list of events
pub sound-from : (graph : Graph) (states : List NodeState) (events : List Event) → IsSound graph states → IsSound graph (states_from graph states events)
sound-from graph states [] sound = sound
sound-from graph states (event ∷ events) sound = sound-from graph (next_states graph states event) events (sound-next graph states sound event)

pub states_sound : (graph : Graph) (events : List Event) → IsProper graph → IsSound graph (state_after graph events)
states_sound graph events proper = sound-from graph (states_at_start graph) events (sound-start graph proper)
