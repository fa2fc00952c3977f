use Rattle.std.proofs.Common.{◌≡◌, drop}
use Rattle.blif_check.specs.Check.{first_unmarked}
use Rattle.blif_check.proofs.drivers.first_unmarked.Given as goal

abbrev pub invariant-loop-signal : goal.invariant-loop-signal
invariant-loop-signal l = first_unmarked l.marks (drop l.signal-index l.signals) ≡ first_unmarked l.marks l.signals
