use Rattle.std.proofs.Common.{◌≡◌, ◌≤◌, ◌-◌, ◌++◌, length}
use Rattle.splitters.specs.Elements.{input_wires, inputs_of}
use Rattle.splitters.proofs.build.input_wires.Given as goal

abbrev pub invariant-loop-i : goal.invariant-loop-i
invariant-loop-i l = record {
  wires : l.wires.items ++ input_wires l.chained l.i l.next (l.inputs - l.i) ≡ inputs_of l.chained;
  few : l.next ≤ l.i;
  each : length l.wires.items ≡ l.i;
}
