-- Cores: the states of the nodes, the rows of those that aren't free, and the actors that have a claim.
use Rattle.std.specs.Prelude.{◌≡◌, ◌<◌, ◌≤◌, ℕ, false, List, length, nat_eq, slice_index_or, count_by}
use Rattle.indexmap.specs.IndexSet.{contains, spare}
use Rattle.net_base.specs.declared.graph.Graph.{Graph}
use Rattle.net_base.specs.Graph.{IsProper}
use Rattle.cut_lists.specs.declared.row.Row.{Row}
use Rattle.cut_lists.specs.Rows.{node_words, row_with}
use Rattle.cut_core.specs.declared.event.NodeState.{NodeState}
use Rattle.cut_core.specs.declared.machine.Core.{Core}
use Rattle.cut_core.specs.Machine.{is_free, state_at, has_claim}
use Rattle.cut_core.specs.Sound.{IsSound}

-- the states that a core is in, by node
abbrev pub states_of : Core → List NodeState
states_of core = core.states.items

-- rows are those of the nodes that aren't free
pub record AreRowsOf (graph : Graph) (states : List NodeState) (rows : List Row) : Type 0 where
  pub each : length rows ≡ length graph.nodes
  pub known : (node : ℕ) (d : Row) → node < length graph.nodes → is_free (state_at states node) ≡ false → slice_index_or rows node d ≡ row_with (node_words graph node)

-- A core is one of a proper graph: its state is sound, it has the rows of the nodes that aren't free and the actors with a
-- claim, and there is room for as many more actors as nodes are free.
pub record IsCoreOf (graph : Graph) (core : Core) : Type 0 where
  pub proper : IsProper graph
  pub sound : IsSound graph core.states.items
  pub rows : AreRowsOf graph core.states.items core.rows.items
  pub claimants : (actor : ℕ) → contains nat_eq core.claimants actor ≡ has_claim core.states.items actor
  pub room : count_by is_free core.states.items ≤ spare core.claimants
