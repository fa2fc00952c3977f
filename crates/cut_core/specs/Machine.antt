-- The machine: states of nodes, which events are allowed in them, and the states after events.
use Rattle.std.specs.Prelude.{ℕ, ◌+◌, ◌==◌, ◌&&◌, ◌++◌, Bool, true, false, not, cond, List, [], ◌∷◌, length, map, nat_lt, slice_set, slice_index, slice_index_or}
use Rattle.std.specs.List.{list_all, list_any}
use Rattle.net_base.specs.declared.graph.GNode.{GNode}
use Rattle.net_base.specs.declared.graph.GNode.TheVariants.{Inp, Neg, Both}
use Rattle.net_base.specs.declared.graph.Graph.{Graph}
use Rattle.cut_lists.specs.Rows.{node_words}
use Rattle.cut_core.specs.declared.event.Event.{Event}
use Rattle.cut_core.specs.declared.event.Event.TheVariants.{Claim, Put, Publish}
use Rattle.cut_core.specs.declared.event.NodeState.{NodeState}
use Rattle.cut_core.specs.declared.event.NodeState.TheVariants.{Free, Claimed, Published}

-- ---- The state of a node
abbrev pub is_free : NodeState → Bool
is_free Free = true
is_free (Claimed actor put) = false
is_free Published = false

abbrev pub is_published : NodeState → Bool
is_published Free = false
is_published (Claimed actor put) = false
is_published Published = true

-- claimed by this actor, with any number of words put
abbrev pub is_claimed_by : ℕ → NodeState → Bool
is_claimed_by actor Free = false
is_claimed_by actor (Claimed other put) = actor == other
is_claimed_by actor Published = false

-- claimed by this actor, with this many words put
abbrev pub is_claimed_with : ℕ → ℕ → NodeState → Bool
is_claimed_with actor count Free = false
is_claimed_with actor count (Claimed other put) = actor == other && count == put
is_claimed_with actor count Published = false

-- ---- The states of all nodes, in order
-- the state of the node at a place
abbrev pub state_at : List NodeState → ℕ → NodeState
state_at states node = slice_index_or states node Free

-- an actor has claimed one of the nodes
abbrev pub has_claim : List NodeState → ℕ → Bool
has_claim states actor = list_any (is_claimed_by actor) states

-- these nodes are published
abbrev pub are_published : List NodeState → List ℕ → Bool
are_published states nodes = list_all (λ node. is_published (state_at states node)) nodes

-- ---- The graph
-- the fan-ins of a node
abbrev pub fan_ins : GNode → List ℕ
fan_ins (Inp k) = []
fan_ins (Neg a) = a ∷ []
fan_ins (Both a b) = a ∷ b ∷ []

abbrev pub fan_ins_at : Graph → ℕ → List ℕ
fan_ins_at graph node = fan_ins (slice_index_or graph.nodes node (Inp 0))

-- a number is a word of the node's cut list, at this place
abbrev pub is_word : Graph → ℕ → ℕ → ℕ → Bool
is_word graph node place word = nat_lt place (length (node_words graph node)) && slice_index (node_words graph node) place == word

-- ---- Events
-- A node may be claimed that is free and whose fan-ins are published, by an actor without a claim. Words are put in turn, each
-- that of the cut list. A node may be published by its actor with all words put.
abbrev pub is_allowed : Graph → List NodeState → Event → Bool
is_allowed graph states (Claim actor node) =
    nat_lt node (length graph.nodes) && is_free (state_at states node) && are_published states (fan_ins_at graph node) && not (has_claim states actor)
is_allowed graph states (Put actor node place word) = is_claimed_with actor place (state_at states node) && is_word graph node place word
is_allowed graph states (Publish actor node) = is_claimed_with actor (length (node_words graph node)) (state_at states node)

-- the states after an event that is allowed
abbrev pub after_event : List NodeState → Event → List NodeState
after_event states (Claim actor node) = slice_set states node (Claimed actor 0)
after_event states (Put actor node place word) = slice_set states node (Claimed actor (place + 1))
after_event states (Publish actor node) = slice_set states node Published

-- the states after an event, which is skipped where it isn't allowed
abbrev pub next_states : Graph → List NodeState → Event → List NodeState
next_states graph states event = cond (is_allowed graph states event) (after_event states event) states

-- ---- Lists of events
-- at the start an input is published, and any other node is free
abbrev pub state_at_start : GNode → NodeState
state_at_start (Inp k) = Published
state_at_start (Neg a) = Free
state_at_start (Both a b) = Free

abbrev pub states_at_start : Graph → List NodeState
states_at_start graph = map state_at_start graph.nodes

-- the states after events, from these states on
abbrev pub states_from : Graph → List NodeState → List Event → List NodeState
states_from graph states [] = states
states_from graph states (event ∷ events) = states_from graph (next_states graph states event) events

-- those of the events that are allowed, from these states on
abbrev pub taken_from : Graph → List NodeState → List Event → List Event
taken_from graph states [] = []
taken_from graph states (event ∷ events) = cond (is_allowed graph states event) (event ∷ []) [] ++ taken_from graph (next_states graph states event) events

-- the states after a list of events
abbrev pub state_after : Graph → List Event → List NodeState
state_after graph events = states_from graph (states_at_start graph) events

-- the events that were allowed
abbrev pub taken : Graph → List Event → List Event
taken graph events = taken_from graph (states_at_start graph) events
