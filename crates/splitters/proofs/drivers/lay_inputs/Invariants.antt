use Rattle.std.proofs.Common.{◌≡◌, length, drop}
use Rattle.splitters.specs.Elements.{with_inputs}
use Rattle.splitters.proofs.drivers.lay_inputs.Given as goal

abbrev pub invariant-loop-i : goal.invariant-loop-i
invariant-loop-i l = record {
  layout : with_inputs l.chained l.i (drop l.i l.wires) l.layout ≡ with_inputs l.chained 0 l.wires l.initial.layout;
  pins : length l.layout.taken ≡ length l.initial.layout.taken;
}
