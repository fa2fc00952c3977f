use Rattle.std.proofs.Common.{◌≡◌, drop, nat_eq}
use Rattle.indexmap.specs.IndexSet.{insert_all}
use Rattle.blif_check.proofs.cycles.reach_all.Given as goal

abbrev pub invariant-loop-signal : goal.invariant-loop-signal
invariant-loop-signal l = insert_all nat_eq l.reached.keys (drop l.signal-index l.signals) ≡ insert_all nat_eq l.initial.reached.keys l.signals
