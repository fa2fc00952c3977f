use Rattle.std.proofs.Common.{◌≡◌, length, drop}
use Rattle.splitters.specs.Elements.{take_wires}
use Rattle.splitters.proofs.layout.take_wires.Given as goal

abbrev pub invariant-loop-i : goal.invariant-loop-i
invariant-loop-i l = record {
  value : take_wires (drop l.i l.pins) (drop l.i l.wires) l.taken.items ≡ take_wires l.pins l.wires l.initial.taken.items;
  count : length l.taken.items ≡ length l.initial.taken.items;
}
