use Rattle.std.proofs.Common.{◌≡◌, ◌-◌, ◌≤◌, [], length}
use Rattle.netlist_text.specs.Scanning.{pins_from}
use Rattle.netlist_text.proofs.line.pins.Given as goal

-- the pins that are left, behind those that were read, are the whole
abbrev pub invariant-loop-rest : goal.invariant-loop-rest
invariant-loop-rest l = record {
  few : length l.pins ≤ l.count;
  whole : pins_from (l.count - length l.pins) l.pins l.rest ≡ pins_from l.count [] l.fn.bytes;
}

abbrev pub decreases-loop-rest : goal.decreases-loop-rest
decreases-loop-rest l = l.count - length l.pins
