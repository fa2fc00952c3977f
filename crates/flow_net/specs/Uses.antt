-- The uses of drivers in a gate netlist, in the order of pins, and the numbers of drivers.
use Rattle.std.specs.Prelude.{◌+◌, ◌++◌, ◌||◌, ◌<◌, ℕ, zero, suc, Bool, false, cond, List, [], ◌∷◌, length, map, slice_index, slice_index_or}
use Rattle.std.specs.List.{flat_map}
use Rattle.gate_net.specs.declared.row.Driver.{Driver}
use Rattle.gate_net.specs.declared.row.Driver.TheVariants.{Input, Gate}
use Rattle.gate_net.specs.declared.row.GateRow.{GateRow}
use Rattle.gate_net.specs.declared.net.GateNet.{GateNet}
use Rattle.gate_net.specs.Rows.{same_driver}
use Rattle.gate_net.specs.Net.{end_drivers}
use Rattle.flow_net.specs.declared.uses.Use.{Use}

-- the use of a driver by the user at a vertex
abbrev pub use_by : ℕ → Driver → Use
use_by user driver = record { driver = driver; user = user }

-- the uses by gates, of which the first stands at the vertex `user`
abbrev pub gate_uses : ℕ → List GateRow → List Use
gate_uses user [] = []
gate_uses user (row ∷ rows) = map (use_by user) row.pins ++ gate_uses (suc user) rows

-- the vertex of the sink: behind the source, 0, and the gates, from 1 on
abbrev pub sink_of : GateNet → ℕ
sink_of net = suc (length net.gates)

-- All uses, in the order of pins: by gate and place in the gate, then the outputs that are no constants, by the sink.
abbrev pub uses_of : GateNet → List Use
uses_of net = gate_uses 1 net.gates ++ map (use_by (sink_of net)) (flat_map end_drivers net.outputs)

-- whether an input is used
abbrev pub is_used : ℕ → List Use → Bool
is_used i [] = false
is_used i (one ∷ uses) = same_driver (Input i) one.driver || is_used i uses

-- how many inputs below this one are used
abbrev pub used_below : List Use → ℕ → ℕ
used_below uses zero = 0
used_below uses (suc i) = used_below uses i + cond (is_used i uses) 1 0

-- how many inputs of the netlist are used
abbrev pub used_inputs : GateNet → ℕ
used_inputs net = used_below (uses_of net) net.inputs

-- The number of a driver: used inputs in order, then gates in order.
abbrev pub driver_number : GateNet → Driver → ℕ
driver_number net (Input i) = used_below (uses_of net) i
driver_number net (Gate k) = used_inputs net + k

-- the driver is no input past the last
abbrev pub IsInputBelow : ℕ → Driver → Type 0
IsInputBelow inputs (Input i) = i < inputs
IsInputBelow inputs (Gate k) = Unit {0}

-- how many of the marks before a place are set
abbrev pub marked_below : List Bool → ℕ → ℕ
marked_below marks zero = 0
marked_below marks (suc i) = marked_below marks i + cond (slice_index_or marks i false) 1 0

-- a driver's number, from how many used inputs there are below each input and below the end
abbrev pub number_by : List ℕ → ℕ → Driver → ℕ
number_by numbers inputs (Input i) = slice_index numbers i
number_by numbers inputs (Gate k) = slice_index numbers inputs + k
