use Rattle.std.proofs.Common.{◌≡◌, ◌<◌, ℕ, suc, true, false, length, get_or}
use Rattle.stage_flow.specs.Given.{count_at}
use Rattle.stage_flow.proofs.last_arcs.are_reached.Given as goal

abbrev pub invariant-loop-vertex : goal.invariant-loop-vertex
invariant-loop-vertex l = ((vertex : ℕ) → vertex < l.vertex → count_at l.hops vertex < length l.marks) × ((vertex : ℕ) → suc vertex < l.vertex → get_or l.marks (suc vertex) false ≡ true)
