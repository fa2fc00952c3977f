use Rattle.std.proofs.Common.{◌≡◌, nat_eq, take}
use Rattle.std.specs.List.{IsDistinct}
use Rattle.blif_model.proofs.regular.are_distinct.Given as goal

-- the signals seen are those so far, and none of them stands twice
abbrev pub invariant-loop-signal : goal.invariant-loop-signal
invariant-loop-signal l = (l.seen.keys ≡ take l.signal-index l.signals) × IsDistinct nat_eq (take l.signal-index l.signals)
