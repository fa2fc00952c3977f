use Rattle.std.proofs.Common.{◌≡◌, ◌<◌, ◌||◌, ℕ, false, length, drop, get_or}
use Rattle.flow_net.specs.Uses.{is_used}
use Rattle.flow_net.proofs.numbers.used_marks.Given as goal

abbrev pub invariant-loop-one : goal.invariant-loop-one
invariant-loop-one l = (length l.marks.items ≡ l.inputs) × ((i : ℕ) → i < l.inputs → (get_or l.marks.items i false || is_used i (drop l.one-index l.uses)) ≡ is_used i l.uses)
