use Rattle.std.proofs.Common.{◌≤◌, ◌^◌, ◌∙◌, List, ℕ, length, take, ap, subst, arith}
use Rattle.std.specs.List.{flat_map}
use Rattle.std.proofs.lemmas.List.{take_all, length-take-le}
use Rattle.net_base.specs.declared.graph.GNode.{GNode}
use Rattle.net_base.specs.declared.graph.GNode.TheVariants.{Inp}
use Rattle.balance_map.specs.FanOuts.{fan_ins}
use Rattle.balance_map.specs.Steps.{AreCounts}
use Rattle.balance_map.proofs.Counts.{flat_map-more, length-fan_ins}
use Rattle.balance_map.proofs.fan_outs.count_fan_ins.Goals as goal

pub count_node-requires-clause-room : goal.count_node-requires-clause-room
count_node-requires-clause-room c =
    let before : List GNode = take c.loop-node.node-index c.as_slice-node-items.result.now in
    let few : length before ≤ 2 ^ 20 = omega (arith, length-take-le c.loop-node.node-index c.as_slice-node-items.result.now, ap length c.as_slice-node-items.ensures, c.requires.subject.graph.few) in
    (flat_map fan_ins before, c.loop-node.invariant, omega (arith, length-fan_ins before))

pub loop-node-preserved : goal.loop-node-preserved
loop-node-preserved c =
    let before : List ℕ = flat_map fan_ins (take c.loop-node.node-index c.as_slice-node-items.result.now) in
    subst (λ (reads : List ℕ). AreCounts reads c.count_node.new.counts)
    (flat_map-more fan_ins c.as_slice-node-items.result.now c.loop-node.node-index (Inp 0) c.loop-node-test.true)
    (c.count_node.ensures before c.loop-node.invariant)

pub returns : goal.returns
returns c =
    subst (λ (nodes : List GNode). AreCounts (flat_map fan_ins nodes) c.loop-node.counts)
    (take_all c.loop-node.node-index c.as_slice-node-items.result.now c.loop-node-test.false ∙ c.as_slice-node-items.ensures) c.loop-node.invariant
