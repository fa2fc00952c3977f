use Rattle.std.proofs.Common.{◌≡◌, ◌<◌, ℕ, length}
use Rattle.stage_flow.specs.Given.{at_vertex}
use Rattle.stage_flow.specs.Beginning.{most_at}
use Rattle.stage_flow.proofs.beginning.first_lengths.Given as goal

abbrev pub invariant-loop-vertex : goal.invariant-loop-vertex
invariant-loop-vertex l = record {
  long : length l.far.items ≡ l.vertex;
  most : (vertex : ℕ) → vertex < l.vertex → at_vertex l.far.items vertex ≡ most_at l.marks l.potentials l.top vertex;
}
