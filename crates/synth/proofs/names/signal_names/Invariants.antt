use Rattle.std.proofs.Common.{◌≡◌, ◌++◌, drop, map}
use Rattle.blif_model.specs.Order.{name_of}
use Rattle.synth.proofs.names.signal_names.Given as goal

-- the names so far and those of the signals that are left are the names of all
abbrev pub invariant-loop-signal : goal.invariant-loop-signal
invariant-loop-signal l = l.names.items ++ map (name_of l.design) (drop l.signal-index l.signals) ≡ map (name_of l.design) l.signals
