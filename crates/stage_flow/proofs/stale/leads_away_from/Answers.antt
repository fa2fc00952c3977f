use Rattle.stage_flow.specs.Given.{at_vertex, count_at}
use Rattle.stage_flow.specs.Staleness.{LeadsAway}
use Rattle.stage_flow.proofs.NearArcs.{all-more}
use Rattle.stage_flow.proofs.StaleVertices.{any-by}
use Rattle.stage_flow.proofs.stale.leads_away_from.Goals as goal

pub returns-then-leads_away-clause-away : goal.returns-then-leads_away-clause-away
returns-then-leads_away-clause-away c = λ yes.
    any-by (LeadsAway (at_vertex c.args.labels.now.far) (count_at c.args.labels.now.hops) c.args.marks.now c.args.vertex) c.args.flow.now c.args.vertex c.args.nears.now c.loop-near.near-index (record { other = 0; code = 0 })
    c.loop-near-test.true (c.leads_away.ensures.away c.if-leads_away.true)

pub loop-near-preserved : goal.loop-near-preserved
loop-near-preserved c =
    all-more (λ way. LeadsAway (at_vertex c.args.labels.now.far) (count_at c.args.labels.now.hops) c.args.marks.now c.args.vertex way → ⊥) c.args.flow.now c.args.vertex c.args.nears.now c.loop-near.near-index (record { other = 0; code = 0 })
    c.loop-near-test.true c.loop-near.invariant (c.leads_away.ensures.none c.if-leads_away.false)
