use Rattle.std.proofs.Common.{◌∙◌}
use Rattle.stage_flow.specs.Given.{at_vertex, count_at}
use Rattle.stage_flow.proofs.StaleVertices.{tails-step}
use Rattle.stage_flow.proofs.stale.push_tails.Goals as goal

pub loop-near-preserved : goal.loop-near-preserved
loop-near-preserved c =
    tails-step c.args.flow.now (at_vertex c.args.labels.now.far) (count_at c.args.labels.now.hops) c.args.vertex c.args.nears.now c.loop-near.near-index (record { other = 0; code = 0 }) c.loop-near.pending.items c.push_tail.new.pending.items
    c.loop-near-test.true c.in_ok-push_tail.ensures
    ∙ c.loop-near.invariant
