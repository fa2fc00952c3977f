use Rattle.std.proofs.Common.{◌≡◌, ◌≤◌, ◌+◌, length, drop}
use Rattle.splitters.specs.Elements.{with_gates, gate_pins}
use Rattle.splitters.proofs.drivers.lay_gates.Given as goal

abbrev pub invariant-loop-gate : goal.invariant-loop-gate
invariant-loop-gate l = record {
  rows : l.row-items ≡ l.chained.gates.gates;
  layout : with_gates l.chained l.gate l.pin (drop l.gate l.chained.gates.gates) l.layout ≡ with_gates l.chained 0 0 l.chained.gates.gates l.initial.layout;
  room : l.pin + gate_pins (drop l.gate l.chained.gates.gates) ≤ length l.layout.taken;
  pins : length l.layout.taken ≡ length l.initial.layout.taken;
}
