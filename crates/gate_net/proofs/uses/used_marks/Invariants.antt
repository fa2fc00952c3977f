use Rattle.std.proofs.Common.{◌≡◌, ◌<◌, ◌||◌, ℕ, false, length, drop, get_or}
use Rattle.std.specs.List.{list_any}
use Rattle.gate_net.specs.declared.row.Driver.TheVariants.{Gate}
use Rattle.gate_net.specs.Rows.{same_driver}
use Rattle.gate_net.proofs.uses.used_marks.Given as goal

-- a gate is marked so far, or is among the drivers that remain, where it is among them all
abbrev pub invariant-loop-driver : goal.invariant-loop-driver
invariant-loop-driver l = (length l.marks.items ≡ l.gates) × ((k : ℕ) → k < l.gates → (get_or l.marks.items k false || list_any (same_driver (Gate k)) (drop l.driver-index l.drivers)) ≡ list_any (same_driver (Gate k)) l.drivers)
