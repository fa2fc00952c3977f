-- Nodes of a graph, each of which is there once: when two are equal, the place of one, and the nodes with one more.
use Rattle.std.specs.Prelude.{◌==◌, ◌<◌, ◌≡◌, ◌&&◌, ◌++◌, ℕ, Bool, false, List, [], ◌∷◌, length, map, nat_lt, slice_index_or, if◌then◌else◌}
use Rattle.std.specs.List.{position_or_len, range_with_len}
use Rattle.net_base.specs.declared.graph.GNode.{GNode}
use Rattle.net_base.specs.declared.graph.GNode.TheVariants.{Inp, Neg, Both}
use Rattle.net_base.specs.declared.graph.Graph.{Graph}

-- whether two nodes are one
abbrev pub same_node : GNode → GNode → Bool
same_node (Inp i) (Inp j) = i == j
same_node (Neg a) (Neg b) = a == b
same_node (Both a b) (Both c d) = (a == c) && (b == d)
same_node node other = false

-- the node at a place
abbrev pub node_at : List GNode → ℕ → GNode
node_at nodes place = slice_index_or nodes place (Inp 0)

-- the place of a node: where it is already, or else the next one
abbrev pub node_place : GNode → List GNode → ℕ
node_place node nodes = position_or_len (same_node node) nodes

-- the nodes with this one, which goes last where it is new
abbrev pub with_node : GNode → List GNode → List GNode
with_node node nodes = if nat_lt (node_place node nodes) (length nodes) then nodes else nodes ++ node ∷ []

-- each node is there once
abbrev pub HasEachOnce : List GNode → Type 0
HasEachOnce nodes = (place : ℕ) → place < length nodes → node_place (node_at nodes place) nodes ≡ place

-- the graph of inputs alone
abbrev pub input_graph : ℕ → Graph
input_graph inputs = record { inputs = inputs; nodes = map Inp (range_with_len 0 inputs) }
