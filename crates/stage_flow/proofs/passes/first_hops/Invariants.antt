use Rattle.std.proofs.Common.{◌≡◌, ◌<◌, ℕ, true}
use Rattle.stage_flow.specs.Given.{count_at}
use Rattle.stage_flow.specs.Passes.{mark_at}
use Rattle.stage_flow.proofs.passes.first_hops.Given as goal

abbrev pub invariant-loop-vertex : goal.invariant-loop-vertex
invariant-loop-vertex l = (vertex : ℕ) → vertex < l.vertex → mark_at l.starts vertex ≡ true → count_at l.hops.items vertex ≡ 0
