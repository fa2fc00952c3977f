use Rattle.std.proofs.Common.{◌≡◌, ◌+◌, length, drop}
use Rattle.splitters.proofs.tapped.Table.{Gathers}
use Rattle.splitters.proofs.table.gather.Given as goal

abbrev pub invariant-loop-pin : goal.invariant-loop-pin
invariant-loop-pin l = record {
  count : length l.table.items ≡ l.inputs + l.gates;
  gathers : Gathers l.inputs l.gates l.needs l.drivers l.table.items l.pin (drop l.pin l.drivers);
}
