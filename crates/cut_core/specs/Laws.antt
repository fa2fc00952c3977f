-- The laws on the machine, over every list of events.
use Rattle.std.specs.Prelude.{ℕ, ◌≡◌, ◌==◌, Bool, false, cond, List, [], ◌∷◌, take, nat_lt, count_by}
use Rattle.std.specs.List.{flat_map}
use Rattle.net_base.specs.declared.graph.Graph.{Graph}
use Rattle.net_base.specs.Graph.{IsProper}
use Rattle.cut_lists.specs.Rows.{node_words}
use Rattle.cut_core.specs.declared.event.Event.{Event}
use Rattle.cut_core.specs.declared.event.Event.TheVariants.{Claim, Put, Publish}
use Rattle.cut_core.specs.declared.event.NodeState.{NodeState}
use Rattle.cut_core.specs.declared.event.NodeState.TheVariants.{Free, Claimed, Published}
use Rattle.cut_core.specs.Machine.{state_at, state_after, taken}
use Rattle.cut_core.specs.Sound.{IsSound}

-- The state after any list of events is sound.
abbrev pub StatesAreSound : Type 0
StatesAreSound = (graph : Graph) (events : List Event) → IsProper graph → IsSound graph (state_after graph events)

-- ---- Words that were put
-- the word that an event puts of a node
abbrev pub word_put : ℕ → Event → List ℕ
word_put node (Claim actor other) = []
word_put node (Put actor other place word) = cond (node == other) (word ∷ []) []
word_put node (Publish actor other) = []

-- the words that events put of a node, in order
abbrev pub words_put : ℕ → List Event → List ℕ
words_put node events = flat_map (word_put node) events

-- What must have been put of a node in a state: nothing while it is free, the first k words of its cut list while it is
-- claimed with k put, and all its words once it is published. Of an input nothing is ever put.
abbrev pub words_due : Graph → ℕ → NodeState → List ℕ
words_due graph node Free = []
words_due graph node (Claimed actor put) = take put (node_words graph node)
words_due graph node Published = cond (nat_lt node graph.inputs) [] (node_words graph node)

-- The words that the allowed events put of a node are those that are due in its state.
abbrev pub PutsAreTheWords : Type 0
PutsAreTheWords =
    (graph : Graph) (events : List Event) (node : ℕ) → IsProper graph
    → words_put node (taken graph events) ≡ words_due graph node (state_at (state_after graph events) node)

-- ---- Publications
-- an event publishes a node
abbrev pub is_publication : ℕ → Event → Bool
is_publication node (Claim actor other) = false
is_publication node (Put actor other place word) = false
is_publication node (Publish actor other) = node == other

-- how often a node must have been published in a state: once where it is published and is no input
abbrev pub publications_due : Graph → ℕ → NodeState → ℕ
publications_due graph node Free = 0
publications_due graph node (Claimed actor put) = 0
publications_due graph node Published = cond (nat_lt node graph.inputs) 0 1

-- The allowed events have one publication of each published node that isn't an input, and none of another.
abbrev pub PublicationsAreOnce : Type 0
PublicationsAreOnce =
    (graph : Graph) (events : List Event) (node : ℕ) → IsProper graph
    → count_by (is_publication node) (taken graph events) ≡ publications_due graph node (state_at (state_after graph events) node)
