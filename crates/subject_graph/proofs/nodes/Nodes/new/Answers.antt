use Rattle.std.proofs.Common.{◌≡◌, replicate}
use Rattle.subject_graph.specs.declared.nodes.TheConstants.{BUCKETS}
use Rattle.subject_graph.proofs.Links.{none-IsNodes}
use Rattle.subject_graph.proofs.nodes.Nodes.new.Goals as goal

pub invariant_of-result : goal.invariant_of-result
invariant_of-result c =
    let heads : c.in_ok-heads.heads.items ≡ replicate BUCKETS 0 = c.in_ok-heads.ensures.items_if_clones_equal (λ y e. e) in
    none-IsNodes c.in_ok-heads.heads.items c.new-2.result.items c.new.result heads c.new-2.ensures.items c.new.ensures
