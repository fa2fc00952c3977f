use Rattle.std.proofs.Common.{◌≡◌, ◌<◌, ℕ, pos, length, get_or, min}
use Rattle.stage_flow.proofs.potentials.first_potentials.Given as goal

abbrev pub invariant-loop-vertex : goal.invariant-loop-vertex
invariant-loop-vertex l = record { long : length l.potentials.items ≡ l.vertex; own : (k : ℕ) → k < l.vertex → get_or l.potentials.items k (pos 0) ≡ pos (min k l.sink) }
