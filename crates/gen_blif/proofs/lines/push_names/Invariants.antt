use Rattle.std.proofs.Common.{◌≡◌, ◌++◌, drop}
use Rattle.gen_blif.specs.Lines.{signal_fields}
use Rattle.gen_blif.proofs.lines.push_names.Given as goal

-- the line so far and the names that are left are the whole
abbrev pub invariant-loop-signal : goal.invariant-loop-signal
invariant-loop-signal l = l.out.items ++ signal_fields (drop l.signal-index l.signals) ≡ l.initial.out.items ++ signal_fields l.signals
