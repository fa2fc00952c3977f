use Rattle.std.proofs.Common.{All, subst}
use Rattle.std.proofs.lemmas.List.{take_all}
use Rattle.stage_flow.specs.Given.{at_vertex, count_at}
use Rattle.stage_flow.specs.Sending.{ways_by}
use Rattle.stage_flow.specs.Raising.{StaysFitting}
use Rattle.stage_flow.proofs.NearArcs.{all-more}
use Rattle.stage_flow.proofs.raising.stay_fitting_from.Goals as goal

pub loop-near-preserved : goal.loop-near-preserved
loop-near-preserved c =
    all-more (StaysFitting (at_vertex c.args.labels.now.far) (count_at c.args.labels.now.hops) c.args.heights.now c.args.floor c.args.vertex) c.args.flow.now c.args.vertex c.args.nears.now c.loop-near.near-index (record { other = 0; code = 0 })
    c.loop-near-test.true c.loop-near.invariant (c.stays_fitting.ensures c.if-not-stays_fitting.false)

pub returns : goal.returns
returns c = λ yes.
    subst (λ nears. All (StaysFitting (at_vertex c.args.labels.now.far) (count_at c.args.labels.now.hops) c.args.heights.now c.args.floor c.args.vertex) (ways_by c.args.vertex c.args.flow.now nears))
    (take_all c.loop-near.near-index c.args.nears.now c.loop-near-test.false) c.loop-near.invariant
