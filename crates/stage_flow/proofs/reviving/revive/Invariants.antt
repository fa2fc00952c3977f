use Rattle.std.proofs.Common.{◌≡◌, ◌<◌, length, All}
use Rattle.stage_flow.specs.Residual.{vertex_count}
use Rattle.stage_flow.specs.Given.{at_vertex, count_at}
use Rattle.stage_flow.specs.Mending.{AreRightOutside}
use Rattle.stage_flow.specs.Raising.{AreDeadBut, NoneIsMarkedAnew}
use Rattle.stage_flow.proofs.HalfwaySteps.{stale_count}
use Rattle.stage_flow.proofs.reviving.revive.Given as goal

abbrev pub invariant-loop-vertex : goal.invariant-loop-vertex
invariant-loop-vertex l = record {
  each : length l.marks ≡ length l.initial.marks;
  right : AreRightOutside l.arcs l.flow (at_vertex l.labels.far) (count_at l.labels.hops) l.marks;
  dead : AreDeadBut l.arcs l.flow (at_vertex l.labels.far) (count_at l.labels.hops) l.marks l.pending.items;
  low : All (λ vertex. vertex < vertex_count l.arcs) l.pending.items;
  fewer : NoneIsMarkedAnew l.initial.marks l.marks;
}

abbrev pub decreases-loop-vertex : goal.decreases-loop-vertex
decreases-loop-vertex l = stale_count l.marks
