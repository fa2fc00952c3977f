use Rattle.std.proofs.Common.{◌≡◌, ◌++◌, drop}
use Rattle.std.specs.List.{flat_map}
use Rattle.gate_net.specs.declared.row.GateRow.{GateRow}
use Rattle.gate_net.proofs.pins.push_gate_pins.Given as goal

abbrev pub invariant-loop-row : goal.invariant-loop-row
invariant-loop-row l = l.drivers.items ++ flat_map (λ (row : GateRow). row.pins) (drop l.row-index l.rows) ≡ l.initial.drivers.items ++ flat_map (λ (row : GateRow). row.pins) l.rows
