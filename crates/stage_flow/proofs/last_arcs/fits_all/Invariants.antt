use Rattle.stage_flow.specs.Given.{at_vertex}
use Rattle.stage_flow.specs.LawsOfEpochs.{Fits}
use Rattle.stage_flow.specs.Search.{HoldsBelow}
use Rattle.stage_flow.proofs.last_arcs.fits_all.Given as goal

abbrev pub invariant-loop-place : goal.invariant-loop-place
invariant-loop-place l = HoldsBelow (Fits (at_vertex l.far)) l.net l.flow l.place
