use Rattle.std.proofs.Common.{◌≡◌, ◌≤◌, ◌-◌, length}
use Rattle.stage_flow.specs.Residual.{vertex_count}
use Rattle.stage_flow.specs.Rounds.{flow_after}
use Rattle.stage_flow.specs.Given.{at_vertex, count_at}
use Rattle.stage_flow.specs.Staleness.{AreKept}
use Rattle.stage_flow.specs.Keeping.{IsInOrder}
use Rattle.stage_flow.proofs.solving.make_rounds.Given as goal

abbrev pub invariant-loop-sent : goal.invariant-loop-sent
invariant-loop-sent l = record {
  few : l.sent ≤ l.arcs.drivers;
  flow : l.flow ≡ flow_after l.arcs l.sent;
  kept : AreKept l.arcs l.flow (at_vertex l.labels.far) (count_at l.labels.hops) l.mender.marks.items;
  order : IsInOrder l.arcs l.mender;
  room : length l.room.reached.marks.items ≡ vertex_count l.arcs;
  far : length l.labels.far ≡ vertex_count l.arcs;
  hops : length l.labels.hops ≡ vertex_count l.arcs;
}

abbrev pub decreases-loop-sent : goal.decreases-loop-sent
decreases-loop-sent l = l.net.drivers - l.sent
