use Rattle.std.proofs.Common.{◌≤◌, ℕ, length, get_or}
use Rattle.blif_check.proofs.levels.levels_in_order.Given as goal

abbrev pub invariant-loop-signal : goal.invariant-loop-signal
invariant-loop-signal l = (signal : ℕ) → get_or l.levels signal 0 ≤ length l.tables
