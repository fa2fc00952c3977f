-- Sound states: what holds in each state that the machine reaches.
use Rattle.std.specs.Prelude.{◌≡◌, ◌<◌, ◌≤◌, ℕ, true, false, List, length}
use Rattle.net_base.specs.declared.graph.Graph.{Graph}
use Rattle.cut_lists.specs.Rows.{node_words}
use Rattle.cut_core.specs.declared.event.NodeState.{NodeState}
use Rattle.cut_core.specs.declared.event.NodeState.TheVariants.{Claimed, Published}
use Rattle.cut_core.specs.Machine.{is_free, state_at, are_published, fan_ins_at}

-- Each node has a state; inputs are published, and so are the fan-ins of a node that isn't free; an actor has at most one
-- claim; and no more words are put than a node has.
pub record IsSound (graph : Graph) (states : List NodeState) : Type 0 where
  pub each : length states ≡ length graph.nodes
  pub inputs : (node : ℕ) → node < graph.inputs → state_at states node ≡ Published
  pub fan_ins : (node : ℕ) → is_free (state_at states node) ≡ false → are_published states (fan_ins_at graph node) ≡ true
  pub one_claim : (actor node other count more : ℕ) → state_at states node ≡ Claimed actor count → state_at states other ≡ Claimed actor more → node ≡ other
  pub words : (actor node count : ℕ) → state_at states node ≡ Claimed actor count → count ≤ length (node_words graph node)
