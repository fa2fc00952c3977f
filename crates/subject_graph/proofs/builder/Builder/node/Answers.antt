use Rattle.std.proofs.Common.{◌≡◌, ◌≤◌, ◌+◌, length, ap, arith}
use Rattle.net_base.specs.declared.graph.Graph.{Graph}
use Rattle.subject_graph.specs.Nodes.{node_place, with_node}
use Rattle.subject_graph.proofs.Places.{length-with_node, place-le}
use Rattle.subject_graph.proofs.builder.Builder.node.Goals as goal

pub returns-then-place-clause-made : goal.returns-then-place-clause-made
returns-then-place-clause-made c =
    let nodes = c.self.inside.nodes in
    let node = c.args.node in
    let same : nodes ≡ c.args.self.now.nodes = ap (λ (g : Graph). g.nodes) c.self.view_is in
    let low : node_place node nodes ≤ length nodes = place-le node nodes in
    let place : c.place-place.result ≡ node_place node nodes = c.place-place.ensures in
    let more : length (with_node node nodes) ≡ length nodes + 1 = length-with_node node nodes (omega arith) in
    omega (arith, more, ap (λ ns. length (with_node node ns)) same)
