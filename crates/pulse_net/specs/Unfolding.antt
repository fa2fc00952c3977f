-- The gates that a netlist computes with: its splitters and DROs taken out, each pin traced back to its driver.
use Rattle.std.specs.Prelude.{ℕ, ◌+◌, ◌/◌, List, [], ◌∷◌, ◌++◌, length, map, Option, Some, None, slice_index_or, if◌then◌else◌, is_some}
use Rattle.std.specs.List.{flat_map}
use Rattle.cell_lib.specs.declared.cell.Cell.{Cell}
use Rattle.cell_lib.specs.Cell.{is_dro}
use Rattle.gate_net.specs.declared.row.Driver.{Driver}
use Rattle.gate_net.specs.declared.row.Driver.TheVariants.{Input, Gate}
use Rattle.gate_net.specs.declared.row.End.{End}
use Rattle.gate_net.specs.declared.row.End.TheVariants as ends
use Rattle.gate_net.specs.declared.row.GateRow.{GateRow}
use Rattle.flow_net.specs.Levels.{phases_of}
use Rattle.pulse_net.specs.declared.net.Element.{Element}
use Rattle.pulse_net.specs.declared.net.Element.TheVariants.{Clocked, Split}
use Rattle.pulse_net.specs.declared.net.Outlet.{Outlet}
use Rattle.pulse_net.specs.declared.net.Outlet.TheVariants.{Zero, One, Wire}
use Rattle.pulse_net.specs.declared.net.PulseNet.{PulseNet}
use Rattle.pulse_net.specs.declared.unfolding.Unfolded.{Unfolded}
use Rattle.pulse_net.specs.Wires.{Wires, found, carried}

-- What is known when some elements are unfolded: the driver of each wire so far, the gates with their stages in order,
-- and the driver of each DRO passed.
pub record Unfolding : Type 0 where
  pub wires : Wires Driver
  pub gates : List GateRow
  pub stages : List ℕ
  pub dros : List Driver

-- the driver of a wire; a valid netlist reads no wire that isn't made, and what is said of one is free
abbrev pub driver_of : Wires Driver → ℕ → Driver
driver_of wires wire = carried (Input 0) wires wire

-- the wires with one more; a wire is made once, so the first time counts
abbrev pub with_wire : Wires Driver → ℕ → Driver → Wires Driver
with_wire wires wire driver = if is_some (found wires wire) then wires else wires ++ (wire, driver) ∷ []

-- a wire is made with this driver
abbrev pub make_driven : ℕ → Driver → Unfolding → Unfolding
make_driven wire driver so = record so { wires = with_wire so.wires wire driver }

-- the driver of a DRO: that of its pin
abbrev pub dro_driver : List Driver → Driver
dro_driver pins = slice_index_or pins 0 (Input 0)

-- a DRO hands its driver on, and is counted
abbrev pub pass_dro : ℕ → Driver → Unfolding → Unfolding
pass_dro out driver so = make_driven out driver (record so { dros = so.dros ++ driver ∷ [] })

-- any other cell is a gate of its own, even where an equal one is there, and drives its wire
abbrev pub add_gate : Cell → ℕ → ℕ → List Driver → Unfolding → Unfolding
add_gate cell stage out pins so =
    make_driven out (Gate (length so.gates)) (record so { gates = so.gates ++ record { cell = cell; pins = pins } ∷ []; stages = so.stages ++ stage ∷ [] })

-- a clocked element, where its pins have these drivers
abbrev pub unfold_cell : Cell → ℕ → ℕ → List Driver → Unfolding → Unfolding
unfold_cell cell stage out pins so =
    if is_dro cell then pass_dro out (dro_driver pins) so else add_gate cell stage out pins so

-- an element; a splitter hands its driver on to both sides
abbrev pub unfold_element : Element → Unfolding → Unfolding
unfold_element (Clocked cell stage pins out) so = unfold_cell cell stage out (map (driver_of so.wires) pins) so
unfold_element (Split from left right) so =
    let driver = driver_of so.wires from in make_driven right driver (make_driven left driver so)

-- elements in order
abbrev pub unfold_elements : List Element → Unfolding → Unfolding
unfold_elements [] so = so
unfold_elements (element ∷ elements) so = unfold_elements elements (unfold_element element so)

-- used inputs from a place on drive their wires
abbrev pub unfold_inputs : ℕ → List (Option ℕ) → Unfolding → Unfolding
unfold_inputs place [] so = so
unfold_inputs place (None ∷ inputs) so = unfold_inputs (place + 1) inputs so
unfold_inputs place (Some wire ∷ inputs) so = unfold_inputs (place + 1) inputs (make_driven wire (Input place) so)

-- nothing is known
abbrev pub nothing_unfolded : Unfolding
nothing_unfolded = record { wires = []; gates = []; stages = []; dros = [] }

abbrev pub unfolding_of : PulseNet → Unfolding
unfolding_of net = unfold_elements net.elements (unfold_inputs 0 net.inputs nothing_unfolded)

-- what an output gives: a constant, or its wire's driver
abbrev pub end_of : Wires Driver → Outlet → End
end_of wires Zero = ends.Zero
end_of wires One = ends.One
end_of wires (Wire wire) = ends.From (driver_of wires wire)

-- the epochs of stages, with n phases: a stage is n * epoch + phase
abbrev pub epochs_of : ℕ → List ℕ → List ℕ
epochs_of n stages = map (λ stage. stage / n) stages

-- the gates of what is known, their phases and epochs, and how many DROs were passed
abbrev pub unfolded_from : PulseNet → Unfolding → Unfolded
unfolded_from net so = record {
  gates = record { inputs = length net.inputs; gates = so.gates; outputs = map (end_of so.wires) net.outputs };
  phases = phases_of net.phases so.stages;
  epochs = record { gates = epochs_of net.phases so.stages; sink = net.latency };
  dros = length so.dros;
}

-- A netlist unfolded: its gates in order, with phases and epochs, its latency as the sink's epoch, and the number of DROs.
abbrev pub unfolded : PulseNet → Unfolded
unfolded net = unfolded_from net (unfolding_of net)

-- the wire of an element that is a gate
abbrev pub gate_wire : Element → List ℕ
gate_wire (Clocked cell stage pins out) = if is_dro cell then [] else out ∷ []
gate_wire (Split from left right) = []

-- the output wires of the gates, in order
abbrev pub gate_wires : PulseNet → List ℕ
gate_wires net = flat_map gate_wire net.elements
