use Rattle.std.proofs.Common.{◌≡◌, ◌+◌, drop}
use Rattle.splitters.specs.Elements.{gate_pins}
use Rattle.splitters.proofs.build.gate_pins.Given as goal

abbrev pub invariant-loop-row : goal.invariant-loop-row
invariant-loop-row l = l.count + gate_pins (drop l.row-index l.rows) ≡ gate_pins l.rows
