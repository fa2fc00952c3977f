use Rattle.std.proofs.Common.{◌∙◌}
use Rattle.std.specs.Option.{option_map}
use Rattle.stage_flow.specs.Given.{at_vertex, count_at}
use Rattle.stage_flow.specs.Sending.{way_of, comes_last}
use Rattle.stage_flow.proofs.SendingPath.{least-step}
use Rattle.stage_flow.proofs.tight.least_into.Goals as goal

pub loop-near-preserved : goal.loop-near-preserved
loop-near-preserved c =
    least-step (comes_last (at_vertex c.args.labels.now.far) (count_at c.args.labels.now.hops) c.args.reached.now.keys.items c.args.vertex) c.args.flow.now c.args.vertex c.args.nears.now c.loop-near.near-index (record { other = 0; code = 0 })
    (option_map way_of c.loop-near.found) (option_map way_of c.least_over-found.result) c.loop-near-test.true c.least_over-found.ensures
    ∙ c.loop-near.invariant
