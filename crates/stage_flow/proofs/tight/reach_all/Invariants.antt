use Rattle.std.proofs.Common.{◌≡◌, ◌-◌, length}
use Rattle.stage_flow.specs.Residual.{vertex_count}
use Rattle.stage_flow.specs.Given.{at_vertex, count_at}
use Rattle.stage_flow.proofs.SendingSearch.{ReachesOn}
use Rattle.stage_flow.proofs.tight.reach_all.Given as goal

abbrev pub invariant-loop-next : goal.invariant-loop-next
invariant-loop-next l = record {
  each : length l.reached.marks.items ≡ length l.initial.reached.marks.items;
  reaches : ReachesOn l.arcs l.flow (at_vertex l.labels.far) (count_at l.labels.hops) l.marks l.from l.reached.keys.items l.next;
}

abbrev pub decreases-loop-next : goal.decreases-loop-next
decreases-loop-next l = vertex_count l.arcs - l.next
