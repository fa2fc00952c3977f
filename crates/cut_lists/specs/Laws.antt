-- The laws on cut lists.
use Rattle.std.specs.Prelude.{ℕ, ◌≡◌, ◌<◌, ◌≤◌, List, [], ◌∷◌, length, take, drop, All}
use Rattle.net_base.specs.declared.graph.Graph.{Graph}
use Rattle.net_base.specs.Graph.{IsProper}
use Rattle.net_base.specs.NodeValues.{node_value}
use Rattle.cut_word.specs.Cut.{CutView, IsCut, IsRight, trivial_cut}
use Rattle.cut_lists.specs.CutList.{cut_list}

-- Each cut of a node's list is right for the node: over every input row, its value at the values of its leaves is the node's.
abbrev pub EachCutIsRight : Type 0
EachCutIsRight =
    (graph : Graph) (node : ℕ) → IsProper graph → node < length graph.nodes
    → All (IsRight (node_value graph) (λ row. node_value graph row node)) (cut_list graph node)

-- Cuts are as those of a node: at most eight, each a cut, the trivial one first, and all others over lower nodes.
pub record AreOfNode (node : ℕ) (cuts : List CutView) : Type 0 where
  pub few : length cuts ≤ 8
  pub each : All IsCut cuts
  pub trivial : take 1 cuts ≡ trivial_cut node ∷ []
  pub lower : All (λ (cut : CutView). All (λ leaf. leaf < node) cut.leaves) (drop 1 cuts)

-- Each node of a proper graph has such a list.
abbrev pub ListsAreOfNodes : Type 0
ListsAreOfNodes =
    (graph : Graph) (node : ℕ) → IsProper graph → node < length graph.nodes → AreOfNode node (cut_list graph node)
