use Rattle.std.proofs.Common.{◌≡◌, length}
use Rattle.stage_flow.specs.Given.{at_vertex, count_at}
use Rattle.stage_flow.specs.Staleness.{SayWhoWaits, AreSpread}
use Rattle.stage_flow.proofs.StaleVertices.{unmarked}
use Rattle.stage_flow.proofs.stale.spread.Given as goal

abbrev pub invariant-loop-vertex : goal.invariant-loop-vertex
invariant-loop-vertex l = record {
  each : length l.marks ≡ length l.initial.marks;
  waits : SayWhoWaits l.arcs l.flow (count_at l.labels.hops) l.marks l.served;
  spread : AreSpread l.arcs l.flow (at_vertex l.labels.far) (count_at l.labels.hops) l.marks l.vertices.items l.pending.items;
}

abbrev pub decreases-loop-vertex : goal.decreases-loop-vertex
decreases-loop-vertex l = unmarked l.marks
