use Rattle.std.proofs.Common.{◌≡◌, ◌<◌, ℕ, not}
use Rattle.stage_flow.specs.Passes.{mark_at}
use Rattle.stage_flow.proofs.beginning.others_of.Given as goal

abbrev pub invariant-loop-vertex : goal.invariant-loop-vertex
invariant-loop-vertex l = (vertex : ℕ) → vertex < l.vertex → mark_at l.others.items vertex ≡ not (mark_at l.marks vertex)
