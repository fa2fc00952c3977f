-- Worked cases, computed from the definitions.
use Rattle.std.proofs.Common.{◌≡◌, ℕ, map, Bool, true, false, List, [], ◌∷◌, refl}
use Rattle.std.specs.List.{count_by}
use Rattle.net_base.specs.declared.graph.GNode.TheVariants.{Inp, Neg, Both}
use Rattle.net_base.specs.declared.graph.Graph.{Graph}
use Rattle.cut_word.specs.Table.{table_of}
use Rattle.cut_word.specs.Word.{first_word, packed}
use Rattle.cut_word.specs.Merge.{both_over}
use Rattle.cut_lists.specs.CutList.{list_from}
use Rattle.cut_core.specs.declared.event.Event.{Event}
use Rattle.cut_core.specs.declared.event.Event.TheVariants.{Claim, Put, Publish}
use Rattle.cut_core.specs.declared.event.NodeState.{NodeState}
use Rattle.cut_core.specs.declared.event.NodeState.TheVariants.{Claimed, Published}
use Rattle.cut_core.specs.Machine.{is_allowed, next_states, states_at_start, state_after, taken}
use Rattle.cut_core.specs.Laws.{words_put, words_due, is_publication, publications_due}

-- two inputs, the complement of the second, and the conjunction of the first with it
graph : Graph
graph = record { inputs = 2; nodes = Inp 0 ∷ Inp 1 ∷ Neg 1 ∷ Both 0 2 ∷ [] }

-- whether each of these events is allowed, in the state after those before it
answers : List NodeState → List Event → List Bool
answers states [] = []
answers states (event ∷ events) = is_allowed graph states event ∷ answers (next_states graph states event) events

-- the complement is claimed and published by actor 0, word by word, and then the conjunction claimed by actor 1
events : List Event
events =
    Claim 0 3 ∷ Claim 0 2 ∷ Claim 1 2 ∷ Put 0 2 0 0x4000030000000000 ∷ Put 0 2 1 0xAA ∷ Publish 0 2 ∷ Put 0 2 2 0
    ∷ Put 0 2 2 0x4000020000000000 ∷ Put 0 2 3 0x55 ∷ Publish 0 2 ∷ Claim 1 3 ∷ []

allowed : answers (states_at_start graph) events
    ≡ false ∷ true ∷ false ∷ true ∷ true ∷ false ∷ false ∷ true ∷ true ∷ true ∷ true ∷ []
unfolding answers events graph list_from first_word packed both_over table_of
allowed = refl

after : state_after graph events ≡ Published ∷ Published ∷ Published ∷ Claimed 1 0 ∷ []
unfolding events graph list_from first_word packed both_over table_of
after = refl

-- what was put of the complement is its cut list
put : words_put 2 (taken graph events) ≡ 0x4000030000000000 ∷ 0xAA ∷ 0x4000020000000000 ∷ 0x55 ∷ []
unfolding events graph list_from first_word packed both_over table_of
put = refl

due : words_due graph 2 (Claimed 0 1) ≡ 0x4000030000000000 ∷ []
unfolding graph list_from first_word packed both_over table_of
due = refl

-- Nothing is put of an input. The complement was published once, the conjunction isn't yet, and inputs never are by an event.
put-input : words_put 0 (taken graph events) ≡ []
unfolding events graph list_from first_word packed both_over table_of
put-input = refl

published : map (λ (node : ℕ). count_by (is_publication node) (taken graph events)) (0 ∷ 1 ∷ 2 ∷ 3 ∷ []) ≡ 0 ∷ 0 ∷ 1 ∷ 0 ∷ []
unfolding events graph list_from first_word packed both_over table_of
published = refl

published-due : map (λ (node : ℕ). publications_due graph node Published) (0 ∷ 1 ∷ 2 ∷ 3 ∷ []) ≡ 0 ∷ 0 ∷ 1 ∷ 1 ∷ []
unfolding graph
published-due = refl

-- Nobody but its actor puts a word of a node or publishes it, a wrong word is refused, and so is a claim of what isn't free or
-- isn't there.
others : answers (states_at_start graph) (Claim 0 2 ∷ Put 1 2 0 0x4000030000000000 ∷ Put 0 2 0 0xAA ∷ Publish 1 2 ∷ Claim 1 0 ∷ Claim 1 4 ∷ [])
    ≡ true ∷ false ∷ false ∷ false ∷ false ∷ false ∷ []
unfolding answers graph list_from first_word packed both_over table_of
others = refl
