use Rattle.std.proofs.Common.{All, subst}
use Rattle.std.proofs.lemmas.List.{take_all}
use Rattle.std.proofs.lemmas.List.Elements.{All-more}
use Rattle.stage_flow.specs.Given.{at_vertex, count_at}
use Rattle.stage_flow.specs.Raising.{MayRise}
use Rattle.stage_flow.proofs.raising.may_all_rise.Goals as goal

pub loop-vertex-preserved : goal.loop-vertex-preserved
loop-vertex-preserved c =
    All-more (MayRise c.args.arcs.now c.args.flow.now (at_vertex c.args.labels.now.far) (count_at c.args.labels.now.hops) c.args.marks.now c.args.heights.now c.args.floor) c.args.reached.now c.loop-vertex.vertex-index 0
    c.loop-vertex-test.true c.loop-vertex.invariant (c.may_rise.ensures c.if-not-may_rise.false)

pub returns : goal.returns
returns c = λ yes.
    subst (All (MayRise c.args.arcs.now c.args.flow.now (at_vertex c.args.labels.now.far) (count_at c.args.labels.now.hops) c.args.marks.now c.args.heights.now c.args.floor)) (take_all c.loop-vertex.vertex-index c.args.reached.now c.loop-vertex-test.false) c.loop-vertex.invariant
