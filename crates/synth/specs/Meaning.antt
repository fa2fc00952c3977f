-- What a netlist means: the values that are read on it.
use Rattle.std.specs.Prelude.{ℕ, Bool, ◌≡◌, ◌<◌, List, length, map, slice_index_or, pos, Ok}
use Rattle.blif_model.specs.declared.design.Design.{Design}
use Rattle.blif_model.specs.declared.design.Ordered.{Ordered}
use Rattle.blif_model.specs.Order.{name_of, table_order}
use Rattle.blif_model.specs.Values.{signal_value}
use Rattle.blif_read.specs.Reading.{design_of}
use Rattle.gate_net.specs.declared.row.End.TheVariants.{Zero}
use Rattle.gate_net.specs.declared.net.GateNet.{GateNet}
use Rattle.gate_net.specs.Values.{end_value}
use Rattle.flow_net.specs.declared.net.Net.{Net}
use Rattle.flow_net.specs.declared.net.Flow.{Flow}
use Rattle.flow_net.specs.Network.{network_of}
use Rattle.flow_net.specs.Epochs.{dro_count, HasFewestDros}
use Rattle.flow_net.specs.Flows.{IsFullFlow, flow_value}
use Rattle.pulse_net.specs.declared.net.Names.{Names}
use Rattle.pulse_net.specs.declared.net.PulseNet.{PulseNet}
use Rattle.pulse_net.specs.Validity.{IsValid}
use Rattle.pulse_net.specs.Pulses.{value_read}
use Rattle.pulse_net.specs.Laws.{row_of}
use Rattle.pulse_net.specs.Unfolding.{unfolded}
use Rattle.pulse_net.specs.Dros.{dros}

-- the names of a design: of the model, the inputs and the outputs, in order
abbrev pub names_of : Design → Names
names_of design = record {
  model = design.name;
  inputs = map (name_of design) design.inputs;
  outputs = map (name_of design) design.outputs;
}

-- the value of each output, by its place, over a row of input bits
abbrev pub OutputValues : Type 0
OutputValues = List Bool → ℕ → Bool

-- the value that the tables of a design give an output
abbrev pub output_value : Ordered → OutputValues
output_value ordered bits output = signal_value ordered bits (slice_index_or ordered.design.outputs output 0)

-- the value that gates give an output
abbrev pub gates_value : GateNet → OutputValues
gates_value gates bits output = end_value gates bits (slice_index_or gates.outputs output Zero)

-- A netlist means names and values: it is valid, with n phases and these names, and for every list of input rows the value
-- read at each output for each row is the output's value over that row.
pub record Means (n : ℕ) (its_names : Names) (value : OutputValues) (net : PulseNet) : Type 0 where
  pub valid : IsValid net
  pub phases : net.phases ≡ n
  pub names : net.names ≡ its_names
  pub values : (rows : List (List Bool)) (c output : ℕ) → c < length rows → output < length its_names.outputs → value_read net rows output c ≡ value (row_of rows c) output

-- A netlist means a text, with n phases: the text has a design whose tables have an order, and the netlist means its names and
-- the values of its tables.
pub record MeansText (n : ℕ) (text : List ℕ) (net : PulseNet) : Type 0 where
  pub design : Design
  pub order : List ℕ
  pub is_read : design_of text ≡ Ok design
  pub is_ordered : table_order design ≡ Ok order
  pub means : Means n (names_of design) (output_value (record { design = design; order = order })) net

-- the network of the gates that a netlist unfolds to
abbrev pub unfolded_network : PulseNet → Net
unfolded_network net = network_of (unfolded net).gates (unfolded net).phases

-- A netlist needs the fewest DROs, and a flow shows it: no balanced epochs of its gates at its phases, with any epoch of the sink, need
-- fewer than its own, it has just as many as these need, and the flow, which is full, is worth as many.
pub record NeedsFewest (net : PulseNet) (flow : Flow) : Type 0 where
  pub fewest : HasFewestDros (unfolded_network net) (unfolded net).epochs
  pub count : dros net.elements ≡ dro_count (unfolded_network net) (unfolded net).epochs
  pub full : IsFullFlow (unfolded_network net) flow
  pub worth : flow_value (unfolded_network net) flow ≡ pos (dros net.elements)
