use Rattle.std.proofs.Common.{take, All}
use Rattle.stage_flow.specs.Given.{at_vertex, count_at}
use Rattle.stage_flow.specs.Raising.{MayRise}
use Rattle.stage_flow.proofs.raising.may_all_rise.Given as goal

abbrev pub invariant-loop-vertex : goal.invariant-loop-vertex
invariant-loop-vertex l = All (MayRise l.arcs l.flow (at_vertex l.labels.far) (count_at l.labels.hops) l.marks l.heights l.floor) (take l.vertex-index l.reached)
