use Rattle.std.proofs.Common.{◌≡◌, ◌<◌, ℕ, true, All, Contains}
use Rattle.stage_flow.specs.Passes.{mark_at}
use Rattle.stage_flow.proofs.beginning.marked.Given as goal

abbrev pub invariant-loop-vertex : goal.invariant-loop-vertex
invariant-loop-vertex l = record {
  low : All (λ vertex. vertex < l.vertex) l.vertices.items;
  all : (vertex : ℕ) → vertex < l.vertex → mark_at l.marks vertex ≡ true → Contains l.vertices.items vertex;
}
