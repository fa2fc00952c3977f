use Rattle.std.proofs.Common.{◌≡◌, ◌<◌, ◌≤◌, ℕ, pos, cond, length}
use Rattle.stage_flow.specs.Given.{at_vertex}
use Rattle.stage_flow.specs.Passes.{mark_at, least}
use Rattle.stage_flow.proofs.passes.first_far.Given as goal

abbrev pub invariant-loop-vertex : goal.invariant-loop-vertex
invariant-loop-vertex l =
    ((vertex : ℕ) → vertex < l.vertex → at_vertex l.far.items vertex ≡ cond (mark_at l.starts vertex) (pos 0) least)
    × ((vertex : ℕ) → l.vertex ≤ vertex → vertex < length l.starts → at_vertex l.far.items vertex ≡ least)
