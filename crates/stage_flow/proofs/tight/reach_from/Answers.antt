use Rattle.std.proofs.Common.{◌∙◌}
use Rattle.stage_flow.specs.Given.{at_vertex, count_at}
use Rattle.stage_flow.proofs.SendingSearch.{reached-step}
use Rattle.stage_flow.proofs.tight.reach_from.Goals as goal

pub loop-near-preserved : goal.loop-near-preserved
loop-near-preserved c = (
  c.in_ok-reach_over.ensures.each ∙ c.loop-near.invariant.0,
  reached-step c.args.flow.now (at_vertex c.args.labels.now.far) (count_at c.args.labels.now.hops) c.args.marks.now c.args.vertex c.args.nears.now c.loop-near.near-index (record { other = 0; code = 0 }) c.loop-near.reached.keys.items c.reach_over.new.reached.keys.items
      c.loop-near-test.true c.in_ok-reach_over.ensures.keys
      ∙ c.loop-near.invariant.1,
)
