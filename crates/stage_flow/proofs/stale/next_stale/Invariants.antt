use Rattle.std.proofs.Common.{◌≡◌, ◌<◌, ◌⊎◌, ℕ, true, All, Contains}
use Rattle.stage_flow.specs.Residual.{vertex_count}
use Rattle.stage_flow.specs.Given.{at_vertex, count_at}
use Rattle.stage_flow.specs.Passes.{mark_at}
use Rattle.stage_flow.specs.Mending.{IsSound}
use Rattle.stage_flow.proofs.stale.next_stale.Given as goal

abbrev pub invariant-loop-vertex : goal.invariant-loop-vertex
invariant-loop-vertex l = record {
  low : All (λ vertex. vertex < vertex_count l.arcs) l.pending.items;
  looked : (vertex : ℕ) → Contains l.initial.pending.items vertex → Contains l.pending.items vertex ⊎ ((mark_at l.marks vertex ≡ true) ⊎ IsSound l.arcs l.flow (at_vertex l.labels.far) (count_at l.labels.hops) l.marks vertex);
}

abbrev pub decreases-loop-vertex : goal.decreases-loop-vertex
decreases-loop-vertex l = goal.left-loop-vertex l
