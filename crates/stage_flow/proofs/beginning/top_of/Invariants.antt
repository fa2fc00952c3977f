use Rattle.std.proofs.Common.{◌≡◌, ◌<◌, ◌^◌, ◌-ℤ◌, ◌≤ℤ◌, ℕ, pos, true}
use Rattle.stage_flow.specs.Given.{at_vertex}
use Rattle.stage_flow.specs.Passes.{mark_at}
use Rattle.stage_flow.proofs.beginning.top_of.Given as goal

abbrev pub invariant-loop-vertex : goal.invariant-loop-vertex
invariant-loop-vertex l = record {
  below : (vertex : ℕ) → vertex < l.vertex → mark_at l.marks vertex ≡ true → at_vertex l.potentials vertex ≤ℤ l.top;
  low : (pos 0 -ℤ pos (2 ^ 40)) ≤ℤ l.top;
  high : l.top ≤ℤ pos (2 ^ 40);
}
