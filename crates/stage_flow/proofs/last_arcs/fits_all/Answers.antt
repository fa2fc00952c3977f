use Rattle.std.proofs.Common.{rules}
use Rattle.stage_flow.specs.Given.{at_vertex}
use Rattle.stage_flow.specs.LawsOfEpochs.{Fits}
use Rattle.stage_flow.proofs.SearchTests.{holds-more}
use Rattle.stage_flow.proofs.last_arcs.fits_all.Goals as goal

pub loop-place-preserved : goal.loop-place-preserved
loop-place-preserved c =
    holds-more (Fits (at_vertex c.args.far.now)) c.args.net.now c.args.flow.now c.loop-place.place c.mirror.result c.as_slice-pin-items.result.now c.as_slice-units.result.now
    c.as_slice-pin-items.ensures c.as_slice-units.ensures c.mirror.ensures.value c.loop-place.invariant (c.if-not-fits_pin.ensures (search rules))
