use Rattle.std.proofs.Common.{◌≡◌, ◌<◌, ℕ, get_or, length}
use Rattle.std.specs.Prelude.{slice_index}
use Rattle.blif_model.specs.Order.{driver_of, level_behind}
use Rattle.blif_check.proofs.levels.next_levels.Given as goal

abbrev pub invariant-loop-signal : goal.invariant-loop-signal
invariant-loop-signal l = (length l.next.items ≡ l.signal) × ((signal : ℕ) → signal < l.signal → get_or l.next.items signal 0 ≡ level_behind (slice_index l.levels) (driver_of l.tables signal))
