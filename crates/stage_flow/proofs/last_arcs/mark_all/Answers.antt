use Rattle.std.proofs.Common.{length}
use Rattle.stage_flow.specs.Given.{at_vertex, count_at}
use Rattle.stage_flow.specs.Search.{IsLastInto}
use Rattle.stage_flow.proofs.SearchTests.{marked-more}
use Rattle.stage_flow.proofs.last_arcs.mark_all.Goals as goal

pub loop-place-preserved : goal.loop-place-preserved
loop-place-preserved c =
    marked-more (IsLastInto (at_vertex c.args.far.now) (count_at c.args.hops.now) (length c.args.far.now)) c.args.net.now c.args.flow.now c.loop-place.place c.mirror.result c.as_slice-pin-items.result.now c.as_slice-units.result.now
    c.loop-place.marks c.mark_pin.new.marks c.as_slice-pin-items.ensures c.as_slice-units.ensures c.mirror.ensures.value c.loop-place.invariant c.mark_pin.ensures
