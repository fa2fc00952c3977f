use Rattle.std.proofs.Common.{◌≡◌, ◌||◌, ℕ, false, drop, get_or, nat_eq}
use Rattle.net_base.specs.Keys.{is_among}
use Rattle.blif_check.proofs.drivers.mark_all.Given as goal

-- the marks so far, and those of the signals to come
abbrev pub invariant-loop-signal : goal.invariant-loop-signal
invariant-loop-signal l = (signal : ℕ) → (get_or l.marks signal false || is_among nat_eq signal (drop l.signal-index l.signals)) ≡ (get_or l.initial.marks signal false || is_among nat_eq signal l.signals)
