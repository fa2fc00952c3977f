use Rattle.std.proofs.Common.{take, All}
use Rattle.stage_flow.specs.Given.{at_vertex, count_at}
use Rattle.stage_flow.specs.Sending.{ways_by}
use Rattle.stage_flow.specs.Raising.{StaysFitting}
use Rattle.stage_flow.proofs.raising.stay_fitting_from.Given as goal

abbrev pub invariant-loop-near : goal.invariant-loop-near
invariant-loop-near l = All (StaysFitting (at_vertex l.labels.far) (count_at l.labels.hops) l.heights l.floor l.vertex) (ways_by l.vertex l.flow (take l.near-index l.nears))
