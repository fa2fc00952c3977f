-- The values of the nodes of a graph over one row of input values, each from the values of the nodes before it.
use Rattle.std.specs.Prelude.{◌≡◌, ◌<◌, ◌++◌, ◌&&◌, ℕ, Bool, false, not, List, [], length, take, slice_index_or}
use Rattle.net_base.specs.declared.graph.GNode.{GNode}
use Rattle.net_base.specs.declared.graph.GNode.TheVariants.{Inp, Neg, Both}
use Rattle.net_base.specs.declared.graph.Ref.{Ref}
use Rattle.net_base.specs.declared.graph.Ref.TheVariants.{Const, Node}
use Rattle.net_base.specs.declared.graph.Graph.{Graph}
use Rattle.net_base.specs.Graph.{IsProper}
use Rattle.net_base.specs.PerItem.{per_item}

-- the value of a node: the input's bit of the row, the complement, or the conjunction
abbrev pub value_of : List Bool → List Bool → GNode → Bool
value_of row values (Inp k) = slice_index_or row k false
value_of row values (Neg a) = not (slice_index_or values a false)
value_of row values (Both a b) = slice_index_or values a false && slice_index_or values b false

-- the values of all nodes over a row
abbrev pub node_values : List Bool → List GNode → List Bool
node_values row nodes = per_item (value_of row) [] nodes

-- the value of a node over a row
abbrev pub node_value : Graph → List Bool → ℕ → Bool
node_value graph row node = slice_index_or (node_values row graph.nodes) node false

-- the value of a signal over a row
abbrev pub ref_value : Graph → List Bool → Ref → Bool
ref_value graph row (Const value) = value
ref_value graph row (Node node) = node_value graph row node

-- In a proper graph a node has the value that its fan-ins give it, among the values of all nodes.
abbrev pub NodesFollowFanIns : Type 0
NodesFollowFanIns =
    (graph : Graph) (row : List Bool) (node : ℕ) (d : GNode) → IsProper graph → node < length graph.nodes
    → node_value graph row node ≡ value_of row (node_values row graph.nodes) (slice_index_or graph.nodes node d)

-- Nodes that are added later don't change the values of those before.
abbrev pub LaterNodesKeepValues : Type 0
LaterNodesKeepValues =
    (row : List Bool) (nodes more : List GNode) → take (length nodes) (node_values row (nodes ++ more)) ≡ node_values row nodes
