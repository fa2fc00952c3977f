use Rattle.std.proofs.Common.{ℕ, ◌<◌, get_or}
use Rattle.net_base.specs.declared.graph.GNode.{GNode}
use Rattle.net_base.specs.Graph.{IsNodeAt}
use Rattle.net_base.proofs.graph.are_nodes.Given as goal

-- the nodes so far stand where they may
abbrev pub invariant-loop-place : goal.invariant-loop-place
invariant-loop-place l = (k : ℕ) (d : GNode) → k < l.place → IsNodeAt l.inputs k (get_or l.nodes k d)
