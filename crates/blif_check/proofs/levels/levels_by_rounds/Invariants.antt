use Rattle.std.proofs.Common.{◌≡◌, ℕ, get_or}
use Rattle.blif_model.specs.Order.{level_within}
use Rattle.blif_check.proofs.levels.levels_by_rounds.Given as goal

abbrev pub invariant-loop-round : goal.invariant-loop-round
invariant-loop-round l = (signal : ℕ) → get_or l.levels.items signal 0 ≡ level_within l.tables l._round signal
