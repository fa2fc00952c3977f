-- The values of gates and outputs over one row of input values, by a fold that appends one value per gate.
use Rattle.std.specs.Prelude.{◌≡◌, ◌<◌, ◌++◌, ℕ, Bool, true, false, List, [], length, take, map, slice_index_or}
use Rattle.net_base.specs.PerItem.{per_item}
use Rattle.cell_lib.specs.Cell.{cell_value}
use Rattle.gate_net.specs.declared.row.Driver.{Driver}
use Rattle.gate_net.specs.declared.row.Driver.TheVariants.{Input, Gate}
use Rattle.gate_net.specs.declared.row.End.{End}
use Rattle.gate_net.specs.declared.row.End.TheVariants.{Zero, One, From}
use Rattle.gate_net.specs.declared.row.GateRow.{GateRow}
use Rattle.gate_net.specs.declared.net.GateNet.{GateNet}
use Rattle.gate_net.specs.Net.{IsGateNet}

-- the value of a driver: the bit of the input row, or the gate's value among those so far
abbrev pub driver_value : List Bool → List Bool → Driver → Bool
driver_value bits values (Input i) = slice_index_or bits i false
driver_value bits values (Gate k) = slice_index_or values k false

-- the value of a gate: its cell's, over the values at its pins
abbrev pub gate_value : List Bool → List Bool → GateRow → Bool
gate_value bits values row = cell_value row.cell (map (driver_value bits values) row.pins)

-- the values of these gates over an input row
abbrev pub values_by : List Bool → List GateRow → List Bool
values_by bits gates = per_item (gate_value bits) [] gates

-- the values of all gates of a netlist
abbrev pub gate_values : GateNet → List Bool → List Bool
gate_values net bits = values_by bits net.gates

-- the value of an end over an input row
abbrev pub end_value : GateNet → List Bool → End → Bool
end_value net bits Zero = false
end_value net bits One = true
end_value net bits (From driver) = driver_value bits (gate_values net bits) driver

-- In a well-formed netlist a gate has the value that its drivers give it, among the values of all gates.
abbrev pub GatesFollowDrivers : Type 0
GatesFollowDrivers =
    (net : GateNet) (bits : List Bool) (gate : ℕ) (d : GateRow) → IsGateNet net → gate < length net.gates
    → slice_index_or (gate_values net bits) gate false ≡ gate_value bits (gate_values net bits) (slice_index_or net.gates gate d)

-- Gates that are added later don't change the values of those before.
abbrev pub LaterGatesKeepValues : Type 0
LaterGatesKeepValues =
    (bits : List Bool) (gates more : List GateRow) → take (length gates) (values_by bits (gates ++ more)) ≡ values_by bits gates
