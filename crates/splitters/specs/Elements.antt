-- The netlist of gates with shared chains: its elements in order, and the wire of each pin.
use Rattle.std.specs.Prelude.{ℕ, zero, suc, ◌+◌, ◌*◌, ◌-◌, cond, List, [], ◌∷◌, ◌++◌, length, take, drop, replicate, Option, Some, None, slice_index, slice_set}
use Rattle.cell_lib.specs.declared.cell.Cell.{Cell}
use Rattle.cell_lib.specs.declared.cell.Cell.TheVariants.{Dro}
use Rattle.gate_net.specs.declared.row.Driver.TheVariants.{Input, Gate}
use Rattle.gate_net.specs.declared.row.End.{End}
use Rattle.gate_net.specs.declared.row.End.TheVariants.{Zero as False, One as True, From}
use Rattle.gate_net.specs.declared.row.GateRow.{GateRow}
use Rattle.gate_net.specs.Net.{pin_drivers}
use Rattle.flow_net.specs.Uses.{uses_of, is_used}
use Rattle.pulse_net.specs.declared.net.Element.{Element}
use Rattle.pulse_net.specs.declared.net.Element.TheVariants.{Clocked}
use Rattle.pulse_net.specs.declared.net.Outlet.{Outlet}
use Rattle.pulse_net.specs.declared.net.Outlet.TheVariants.{Zero, One, Wire}
use Rattle.pulse_net.specs.declared.net.Names.{Names}
use Rattle.pulse_net.specs.declared.net.PulseNet.{PulseNet}
use Rattle.dro_chains.specs.declared.chain.Chained.{Chained}
use Rattle.splitters.specs.Spread.{spread_lines, spread_wires}
use Rattle.splitters.specs.Taps.{taps_of}

-- what is laid out so far: the next wire, the elements in order, and for each pin the wire that it takes, once it has one
pub record Layout : Type 0 where
  pub next : ℕ
  pub elements : List Element
  pub taken : List ℕ

-- the pins take their wires
abbrev pub take_wires : List ℕ → List ℕ → List ℕ → List ℕ
take_wires [] wires taken = taken
take_wires (pin ∷ pins) [] taken = taken
take_wires (pin ∷ pins) (wire ∷ wires) taken = take_wires pins wires (slice_set taken pin wire)

-- a clocked element makes the next wire
abbrev pub with_cell : Cell → ℕ → List ℕ → Layout → Layout
with_cell cell stage pins layout = record layout {
  next = layout.next + 1;
  elements = layout.elements ++ Clocked cell stage pins layout.next ∷ [];
}

-- a wire is spread over its targets, `targets` of them
abbrev pub with_spread : ℕ → ℕ → Layout → Layout
with_spread wire targets layout = record layout {
  next = layout.next + 2 * (targets - 1);
  elements = layout.elements ++ spread_lines wire layout.next targets;
}

-- these pins take these wires
abbrev pub with_taken : List ℕ → List ℕ → Layout → Layout
with_taken pins wires layout = record layout { taken = take_wires pins wires layout.taken }

-- the last wire of a chain is spread over its pins
abbrev pub with_last : ℕ → List ℕ → Layout → Layout
with_last wire pins layout = with_taken pins (spread_wires wire layout.next (length pins)) (with_spread wire (length pins) layout)

-- the wires of the targets where a chain goes on: the next DRO, then these pins
abbrev pub tap_wires : ℕ → List ℕ → Layout → List ℕ
tap_wires wire pins layout = spread_wires wire layout.next (length pins + 1)

-- a wire is spread over the next DRO of its chain and these pins
abbrev pub with_tap : ℕ → List ℕ → Layout → Layout
with_tap wire pins layout = with_taken pins (drop 1 (tap_wires wire pins layout)) (with_spread wire (length pins + 1) layout)

-- the same, and then the DRO itself, at a stage
abbrev pub with_dro : ℕ → ℕ → List ℕ → Layout → Layout
with_dro stage wire pins layout = with_cell Dro stage (slice_index (tap_wires wire pins layout) 0 ∷ []) (with_tap wire pins layout)

-- A chain from a wire at a stage: each DRO stands n stages behind what it takes from, and its line comes before its own
-- splitters.
abbrev pub with_chain : ℕ → ℕ → ℕ → List (List ℕ) → Layout → Layout
with_chain n stage wire [] layout = layout
with_chain n stage wire (pins ∷ []) layout = with_last wire pins layout
with_chain n stage wire (pins ∷ (more ∷ taps)) layout =
    with_chain n (stage + n) (with_tap wire pins layout).next (more ∷ taps) (with_dro (stage + n) wire pins layout)

-- the wires of inputs from a number on, `more` of them: the used ones get the next wires in order
abbrev pub input_wires : Chained → ℕ → ℕ → ℕ → List (Option ℕ)
input_wires chained input next zero = []
input_wires chained input next (suc more) =
    cond (is_used input (uses_of chained.gates)) (Some next) None
    ∷ input_wires chained (input + 1) (next + cond (is_used input (uses_of chained.gates)) 1 0) more

-- how many of these have a wire
abbrev pub wire_count : List (Option ℕ) → ℕ
wire_count [] = 0
wire_count (None ∷ wires) = wire_count wires
wire_count (Some wire ∷ wires) = wire_count wires + 1

-- the chains of the used inputs, from an input on
abbrev pub with_inputs : Chained → ℕ → List (Option ℕ) → Layout → Layout
with_inputs chained input [] layout = layout
with_inputs chained input (None ∷ wires) layout = with_inputs chained (input + 1) wires layout
with_inputs chained input (Some wire ∷ wires) layout =
    with_inputs chained (input + 1) wires (with_chain chained.n 0 wire (taps_of chained (Input input)) layout)

-- a gate takes the wires of its pins, from a pin on, and then comes its chain
abbrev pub with_gate : Chained → ℕ → ℕ → GateRow → Layout → Layout
with_gate chained gate pin row layout =
    let stage = slice_index chained.stages gate in
    with_chain chained.n stage layout.next (taps_of chained (Gate gate))
    (with_cell row.cell stage (take (length row.pins) (drop pin layout.taken)) layout)

-- all gates from one on
abbrev pub with_gates : Chained → ℕ → ℕ → List GateRow → Layout → Layout
with_gates chained gate pin [] layout = layout
with_gates chained gate pin (row ∷ rows) layout =
    with_gates chained (gate + 1) (pin + length row.pins) rows (with_gate chained gate pin row layout)

-- the outlets of these outputs, from a pin on
abbrev pub outlets : List ℕ → ℕ → List End → List Outlet
outlets taken pin [] = []
outlets taken pin (False ∷ ends) = Zero ∷ outlets taken pin ends
outlets taken pin (True ∷ ends) = One ∷ outlets taken pin ends
outlets taken pin (From driver ∷ ends) = Wire (slice_index taken pin) ∷ outlets taken (pin + 1) ends

-- how many pins these gates have
abbrev pub gate_pins : List GateRow → ℕ
gate_pins [] = 0
gate_pins (row ∷ rows) = length row.pins + gate_pins rows

-- the wires of all inputs
abbrev pub inputs_of : Chained → List (Option ℕ)
inputs_of chained = input_wires chained 0 0 chained.gates.inputs

-- before the first driver: the inputs have the first wires, and no pin has its wire
abbrev pub empty_layout : Chained → Layout
empty_layout chained = record {
  next = wire_count (inputs_of chained);
  elements = [];
  taken = replicate (length (pin_drivers chained.gates)) 0;
}

-- all drivers in order: the used inputs, then the gates
abbrev pub layout_of : Chained → Layout
layout_of chained = with_gates chained 0 0 chained.gates.gates (with_inputs chained 0 (inputs_of chained) (empty_layout chained))

-- The netlist of gates with shared chains.
abbrev pub elements_of : Chained → Names → PulseNet
elements_of chained names =
    let layout = layout_of chained in
    record {
      names = names;
      phases = chained.n;
      latency = chained.latency;
      inputs = inputs_of chained;
      elements = layout.elements;
      outputs = outlets layout.taken (gate_pins chained.gates.gates) chained.gates.outputs;
    }
