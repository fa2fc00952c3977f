-- Gate netlists: which are well formed, what drives each pin, and which drivers have a use.
use Rattle.std.specs.Prelude.{◌≡◌, ◌≢◌, ◌<◌, ◌+◌, ◌^◌, ◌++◌, ℕ, List, [], ◌∷◌, length, All, Contains, slice_index_or}
use Rattle.std.specs.List.{flat_map}
use Rattle.cell_lib.specs.declared.cell.Cell.TheVariants.{Dro}
use Rattle.cell_lib.specs.Cell.{arity_of}
use Rattle.gate_net.specs.declared.row.Driver.{Driver}
use Rattle.gate_net.specs.declared.row.Driver.TheVariants.{Input, Gate}
use Rattle.gate_net.specs.declared.row.End.{End}
use Rattle.gate_net.specs.declared.row.End.TheVariants.{Zero, One, From}
use Rattle.gate_net.specs.declared.row.GateRow.{GateRow}
use Rattle.gate_net.specs.declared.net.GateNet.{GateNet}
use Rattle.gate_net.specs.Rows.{with_row}

-- the driver is one of the inputs, or one of the gates, given how many there are of each
abbrev pub IsThere : ℕ → ℕ → Driver → Type 0
IsThere inputs gates (Input i) = i < inputs
IsThere inputs gates (Gate k) = k < gates

-- the end is a constant, or its driver is there
abbrev pub IsEndThere : ℕ → ℕ → End → Type 0
IsEndThere inputs gates Zero = Unit {0}
IsEndThere inputs gates One = Unit {0}
IsEndThere inputs gates (From driver) = IsThere inputs gates driver

-- what a gate at a place may be: no DRO, as many pins as its cell has, and each pin's driver before it
pub record IsGate (inputs place : ℕ) (row : GateRow) : Type 0 where
  pub not_dro : row.cell ≢ Dro
  pub arity : length row.pins ≡ arity_of row.cell
  pub drivers : All (IsThere inputs place) row.pins

-- each row is a gate at its place
abbrev pub AreGates : ℕ → List GateRow → Type 0
AreGates inputs rows = (place : ℕ) (d : GateRow) → place < length rows → IsGate inputs place (slice_index_or rows place d)

-- a well-formed gate netlist
pub record IsGateNet (net : GateNet) : Type 0 where
  pub gates : AreGates net.inputs net.gates
  pub outputs : All (IsEndThere net.inputs (length net.gates)) net.outputs
  pub few_gates : length net.gates < 2 ^ 31
  pub few_outputs : length net.outputs < 2 ^ 31

-- the netlist without gates and outputs
abbrev pub bare_net : ℕ → GateNet
bare_net inputs = record { inputs = inputs; gates = []; outputs = [] }

-- the netlist with one gate more, unless an equal one is there
abbrev pub with_gate : GateNet → GateRow → GateNet
with_gate net row = record net { gates = with_row row net.gates }

-- the netlist with one output more
abbrev pub with_output : GateNet → End → GateNet
with_output net end = record net { outputs = net.outputs ++ end ∷ [] }

-- A gate behind its drivers, added at the end, leaves a well-formed netlist well formed.
abbrev pub AddedGatesKeepNets : Type 0
AddedGatesKeepNets =
    (net : GateNet) (row : GateRow) → IsGateNet net → IsGate net.inputs (length net.gates) row → length net.gates + 1 < 2 ^ 31
    → IsGateNet (record net { gates = net.gates ++ row ∷ [] })

-- what drives an end: nothing, where it is a constant
abbrev pub end_drivers : End → List Driver
end_drivers Zero = []
end_drivers One = []
end_drivers (From driver) = driver ∷ []

-- The driver of each pin, in the order of pins: by gate and place in the gate, then the outputs that are no constants.
abbrev pub pin_drivers : GateNet → List Driver
pin_drivers net = flat_map (λ row. row.pins) net.gates ++ flat_map end_drivers net.outputs

-- each gate drives a pin of a gate, or an output
abbrev pub EachGateIsUsed : GateNet → Type 0
EachGateIsUsed net = (k : ℕ) → k < length net.gates → Contains (pin_drivers net) (Gate k)
