use Rattle.std.proofs.Common.{◌≡◌, ◌+◌, length, drop}
use Rattle.splitters.proofs.dros.Lengths.{Lengthens}
use Rattle.splitters.proofs.fits.chain_lengths.Given as goal

abbrev pub invariant-loop-pin : goal.invariant-loop-pin
invariant-loop-pin l = record {
  count : length l.lengths.items ≡ l.inputs + l.gates;
  lengthens : Lengthens l.inputs l.gates l.needs l.drivers l.lengths.items l.pin (drop l.pin l.drivers);
}
