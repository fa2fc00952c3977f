-- What the allowed events did to a node is what its state shows.
--
-- Both laws are one induction over the events: what is due of a node in a state, and then what the next event does to the node,
-- is what is due in the state after it. A put adds the next word, and a publication comes when all words are put; the node that
-- it publishes is no input, since inputs are published in each sound state and this one was claimed.
use Rattle.std.proofs.Common.{◌≡◌, ◌≤◌, ◌<◌, ◌+◌, ◌++◌, ◌==◌, ◌∙◌, ℕ, Bool, true, false, cond, List, [], ◌∷◌, get_or, length, take, nat_lt, add-zero, zero-add, add_assoc, refl, sym, ap, inl, inr, arith, true≢false}
use Rattle.std.specs.List.{count_by}
use Rattle.std.proofs.lemmas.Bool.{cases_lt, eq-eqb, ne_eqb, lt-ltb, le-ltb}
use Rattle.std.proofs.lemmas.List.{append-nil, append_assoc, take_all, take_more, get_or_past, length-map}
use Rattle.std.proofs.lemmas.List.Sums.{sum_by-append}
use Rattle.std.proofs.lemmas.Grind.{flat_map-append}
use Rattle.net_base.specs.declared.graph.GNode.{GNode}
use Rattle.net_base.specs.declared.graph.GNode.TheVariants.{Inp, Neg, Both}
use Rattle.net_base.specs.declared.graph.Graph.{Graph}
use Rattle.net_base.specs.Graph.{IsNodeAt, IsProper}
use Rattle.cut_lists.specs.Rows.{node_words}
use Rattle.cut_core.specs.declared.event.Event.{Event}
use Rattle.cut_core.specs.declared.event.Event.TheVariants.{Claim, Put, Publish}
use Rattle.cut_core.specs.declared.event.NodeState.{NodeState}
use Rattle.cut_core.specs.declared.event.NodeState.TheVariants.{Free, Claimed, Published}
use Rattle.cut_core.specs.Machine.{is_free, is_published, state_at, is_allowed, after_event, next_states, state_at_start, states_at_start, states_from, taken_from, state_after, taken}
use Rattle.cut_core.specs.Sound.{IsSound}
use Rattle.cut_core.specs.Laws.{word_put, words_put, words_due, is_publication, publications_due}
use Rattle.cut_core.proofs.States.{there, claim-has, put-has, publish-has, at_any}
use Rattle.cut_core.proofs.Soundness.{sound-next, sound-start, start_at}

-- ---- An event in a sound state
module _ (graph : Graph) (node : ℕ) where
  due : List NodeState → List ℕ
  due states = words_due graph node (state_at states node)

  published : List NodeState → ℕ
  published states = publications_due graph node (state_at states node)

  module _ (states : List NodeState) (sound : IsSound graph states) where
    -- A claimed node is no input.
    no_input : (actor count : ℕ) → state_at states node ≡ Claimed actor count → nat_lt node graph.inputs ≡ false
    no_input actor count e = elim (cases_lt node graph.inputs) [
      | inl low ↦ absurd (true≢false (sym (ap is_published (sound.inputs node low)) ∙ ap is_published e))
      | inr high ↦ le-ltb node graph.inputs high
    ]

    due-after : (event : Event) → is_allowed graph states event ≡ true → words_due graph node (state_at states node) ++ word_put node event ≡ words_due graph node (state_at (after_event states event) node)
    due-after (Claim actor other) e =
        let may = claim-has graph states actor other e in
        append-nil (words_due graph node (state_at states node)) ∙ elim (at_any states other (Claimed actor 0) (omega (arith, sound.each, may.node_there)) node) [
          | inl h ↦ ap (words_due graph node) (ap (state_at states) h.0 ∙ may.free) ∙ sym (ap (words_due graph node) h.1)
          | inr h ↦ sym (ap (words_due graph node) h.1)
        ]
    due-after (Put actor other place word) e =
        let may = put-has graph states actor other place word e in
        elim (at_any states other (Claimed actor (place + 1)) (there states other (ap is_free may.claimed)) node) [
          | inl h ↦
              let words : List ℕ = node_words graph node in
              let same : node_words graph other ≡ words = ap (node_words graph) (sym h.0) in
              let within : place < length words = omega (arith, may.place_there, ap length same) in
              let is : word ≡ get_or words place 0 = sym may.word_is ∙ ap (λ (ws : List ℕ). get_or ws place 0) same in
              ap (λ (s : NodeState). words_due graph node s ++ word_put node (Put actor other place word)) (ap (state_at states) h.0 ∙ may.claimed)
              ∙ ap (λ (b : Bool). take place words ++ cond b (word ∷ []) []) (eq-eqb node other h.0)
              ∙ ap (λ (w : ℕ). take place words ++ w ∷ []) is
              ∙ sym (take_more words place 0 within) ∙ sym (ap (words_due graph node) h.1)
          | inr h ↦
              ap (λ (b : Bool). words_due graph node (state_at states node) ++ cond b (word ∷ []) []) (ne_eqb node other h.0)
              ∙ append-nil (words_due graph node (state_at states node)) ∙ sym (ap (words_due graph node) h.1)
        ]
    due-after (Publish actor other) e =
        let claimed = publish-has graph states actor other e in
        append-nil (words_due graph node (state_at states node)) ∙ elim (at_any states other Published (there states other (ap is_free claimed)) node) [
          | inl h ↦
              let words : List ℕ = node_words graph node in
              let count : ℕ = length (node_words graph other) in
              let here : state_at states node ≡ Claimed actor count = ap (state_at states) h.0 ∙ claimed in
              let all : length words ≤ count = omega (arith, ap (λ (n : ℕ). length (node_words graph n)) h.0) in
              ap (words_due graph node) here ∙ take_all count words all
              ∙ sym (ap (λ (b : Bool). cond b [] words) (no_input actor count here)) ∙ sym (ap (words_due graph node) h.1)
          | inr h ↦ sym (ap (words_due graph node) h.1)
        ]

    published-after : (event : Event) → is_allowed graph states event ≡ true → publications_due graph node (state_at states node) + cond (is_publication node event) 1 0 ≡ publications_due graph node (state_at (after_event states event) node)
    published-after (Claim actor other) e =
        let may = claim-has graph states actor other e in
        add-zero (publications_due graph node (state_at states node)) ∙ elim (at_any states other (Claimed actor 0) (omega (arith, sound.each, may.node_there)) node) [
          | inl h ↦ ap (publications_due graph node) (ap (state_at states) h.0 ∙ may.free) ∙ sym (ap (publications_due graph node) h.1)
          | inr h ↦ sym (ap (publications_due graph node) h.1)
        ]
    published-after (Put actor other place word) e =
        let may = put-has graph states actor other place word e in
        add-zero (publications_due graph node (state_at states node)) ∙ elim (at_any states other (Claimed actor (place + 1)) (there states other (ap is_free may.claimed)) node) [
          | inl h ↦ ap (publications_due graph node) (ap (state_at states) h.0 ∙ may.claimed) ∙ sym (ap (publications_due graph node) h.1)
          | inr h ↦ sym (ap (publications_due graph node) h.1)
        ]
    published-after (Publish actor other) e =
        let claimed = publish-has graph states actor other e in
        elim (at_any states other Published (there states other (ap is_free claimed)) node) [
          | inl h ↦
              let count : ℕ = length (node_words graph other) in
              let here : state_at states node ≡ Claimed actor count = ap (state_at states) h.0 ∙ claimed in
              ap (λ (s : NodeState). publications_due graph node s + cond (node == other) 1 0) here
              ∙ ap (λ (b : Bool). 0 + cond b 1 0) (eq-eqb node other h.0)
              ∙ sym (ap (λ (b : Bool). cond b 0 1) (no_input actor count here)) ∙ sym (ap (publications_due graph node) h.1)
          | inr h ↦
              ap (λ (b : Bool). publications_due graph node (state_at states node) + cond b 1 0) (ne_eqb node other h.0)
              ∙ add-zero (publications_due graph node (state_at states node)) ∙ sym (ap (publications_due graph node) h.1)
        ]

    -- An event that isn't allowed is skipped on both sides.
    due-next : (event : Event) → due states ++ words_put node (cond (is_allowed graph states event) (event ∷ []) []) ≡ due (next_states graph states event)
    unfolding due
    due-next event = by (is_allowed graph states event) refl
      where
        by : (b : Bool) → is_allowed graph states event ≡ b → words_due graph node (state_at states node) ++ words_put node (cond b (event ∷ []) []) ≡ words_due graph node (state_at (cond b (after_event states event) states) node)
        by true e = ap (λ (ws : List ℕ). words_due graph node (state_at states node) ++ ws) (append-nil (word_put node event)) ∙ due-after event e
        by false e = append-nil (words_due graph node (state_at states node))

    published-next : (event : Event) → published states + count_by (is_publication node) (cond (is_allowed graph states event) (event ∷ []) []) ≡ published (next_states graph states event)
    unfolding published
    published-next event = by (is_allowed graph states event) refl
      where
        by : (b : Bool) → is_allowed graph states event ≡ b → publications_due graph node (state_at states node) + count_by (is_publication node) (cond b (event ∷ []) []) ≡ publications_due graph node (state_at (cond b (after_event states event) states) node)
        by true e = ap (λ (n : ℕ). publications_due graph node (state_at states node) + n) (zero-add (cond (is_publication node event) 1 0)) ∙ published-after event e
        by false e = add-zero (publications_due graph node (state_at states node))

  -- ---- A list of events
  due-from : (states : List NodeState) (events : List Event) → IsSound graph states → due states ++ words_put node (taken_from graph states events) ≡ due (states_from graph states events)
  due-from states [] sound = append-nil (due states)
  due-from states (event ∷ events) sound =
      let first : List Event = cond (is_allowed graph states event) (event ∷ []) [] in
      let next : List NodeState = next_states graph states event in
      ap (λ (ws : List ℕ). due states ++ ws) (flat_map-append (word_put node) first (taken_from graph next events))
      ∙ sym (append_assoc (due states) (words_put node first) (words_put node (taken_from graph next events)))
      ∙ ap (λ (ws : List ℕ). ws ++ words_put node (taken_from graph next events)) (due-next states sound event)
      ∙ due-from next events (sound-next graph states sound event)

  published-from : (states : List NodeState) (events : List Event) → IsSound graph states → published states + count_by (is_publication node) (taken_from graph states events) ≡ published (states_from graph states events)
  published-from states [] sound = add-zero (published states)
  published-from states (event ∷ events) sound =
      let first : List Event = cond (is_allowed graph states event) (event ∷ []) [] in
      let next : List NodeState = next_states graph states event in
      ap (λ (n : ℕ). published states + n) (sum_by-append (λ (e : Event). cond (is_publication node e) 1 0) first (taken_from graph next events))
      ∙ sym (add_assoc (published states) (count_by (is_publication node) first) (count_by (is_publication node) (taken_from graph next events)))
      ∙ ap (λ (n : ℕ). n + count_by (is_publication node) (taken_from graph next events)) (published-next states sound event)
      ∙ published-from next events (sound-next graph states sound event)

  -- ---- The start: nothing is put of an input, and it isn't published by an event.
  module _ (proper : IsProper graph) where
    due-kind : (kind : GNode) → IsNodeAt graph.inputs node kind → words_due graph node (state_at_start kind) ≡ []
    due-kind (Inp k) at = ap (λ (b : Bool). cond b [] (node_words graph node)) (lt-ltb node graph.inputs (omega (arith, at.0, at.1)))
    due-kind (Neg a) at = refl
    due-kind (Both a b) at = refl

    published-kind : (kind : GNode) → IsNodeAt graph.inputs node kind → publications_due graph node (state_at_start kind) ≡ 0
    published-kind (Inp k) at = ap (λ (b : Bool). cond b 0 1) (lt-ltb node graph.inputs (omega (arith, at.0, at.1)))
    published-kind (Neg a) at = refl
    published-kind (Both a b) at = refl

    past : length graph.nodes ≤ node → state_at (states_at_start graph) node ≡ Free
    past high = get_or_past (states_at_start graph) node Free (omega (arith, length-map graph.nodes state_at_start))

    due-start : due (states_at_start graph) ≡ []
    unfolding due
    due-start = elim (cases_lt node (length graph.nodes)) [
      | inl low ↦ ap (words_due graph node) (start_at graph proper node low) ∙ due-kind (get_or graph.nodes node (Inp 0)) (proper.nodes node (Inp 0) low)
      | inr high ↦ ap (words_due graph node) (past high)
    ]

    published-start : published (states_at_start graph) ≡ 0
    unfolding published
    published-start = elim (cases_lt node (length graph.nodes)) [
      | inl low ↦ ap (publications_due graph node) (start_at graph proper node low) ∙ published-kind (get_or graph.nodes node (Inp 0)) (proper.nodes node (Inp 0) low)
      | inr high ↦ ap (publications_due graph node) (past high)
    ]

pub puts_words : (graph : Graph) (events : List Event) (node : ℕ) → IsProper graph → words_put node (taken graph events) ≡ words_due graph node (state_at (state_after graph events) node)
unfolding due
puts_words graph events node proper =
    ap (λ (ws : List ℕ). ws ++ words_put node (taken graph events)) (sym (due-start graph node proper))
    ∙ due-from graph node (states_at_start graph) events (sound-start graph proper)

pub published_once : (graph : Graph) (events : List Event) (node : ℕ) → IsProper graph → count_by (is_publication node) (taken graph events) ≡ publications_due graph node (state_at (state_after graph events) node)
unfolding published
published_once graph events node proper =
    sym (zero-add (count_by (is_publication node) (taken graph events)))
    ∙ ap (λ (n : ℕ). n + count_by (is_publication node) (taken graph events)) (sym (published-start graph node proper))
    ∙ published-from graph node (states_at_start graph) events (sound-start graph proper)
