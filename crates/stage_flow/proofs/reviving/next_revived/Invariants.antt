use Rattle.std.proofs.Common.{◌<◌, All}
use Rattle.stage_flow.specs.Residual.{vertex_count}
use Rattle.stage_flow.specs.Given.{at_vertex, count_at}
use Rattle.stage_flow.specs.Raising.{AreDeadBut}
use Rattle.stage_flow.proofs.reviving.next_revived.Given as goal

abbrev pub invariant-loop-vertex : goal.invariant-loop-vertex
invariant-loop-vertex l = record {
  low : All (λ vertex. vertex < vertex_count l.arcs) l.pending.items;
  dead : AreDeadBut l.arcs l.flow (at_vertex l.labels.far) (count_at l.labels.hops) l.marks l.pending.items;
}

abbrev pub decreases-loop-vertex : goal.decreases-loop-vertex
decreases-loop-vertex l = goal.left-loop-vertex l
