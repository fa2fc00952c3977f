-- What is read on a netlist is the value of the gates, which is that of the graph, which is that of the tables.
use Rattle.std.proofs.Common.{◌≡◌, ◌<◌, ◌∙◌, ℕ, Bool, false, List, length, sym, ap, arith}
use Rattle.std.specs.Prelude.{map, slice_index_or}
use Rattle.std.proofs.lemmas.List.{get_or-map, length-map}
use Rattle.blif_model.specs.declared.design.Ordered.{Ordered}
use Rattle.blif_model.specs.Values.{signal_value}
use Rattle.blif_model.specs.Order.{name_of}
use Rattle.gate_net.specs.declared.row.End.TheVariants.{Zero}
use Rattle.gate_net.specs.declared.net.GateNet.{GateNet}
use Rattle.gate_net.specs.Values.{end_value}
use Rattle.pulse_net.specs.declared.net.PulseNet.{PulseNet}
use Rattle.pulse_net.specs.Laws.{row_of}
use Rattle.synth.specs.Meaning.{names_of, gates_value, output_value, Means}

-- Where gates and tables have the same values at all outputs, each output has one value.
outputs-same : (gates : GateNet) (ordered : Ordered) (row : List Bool) (output : ℕ) → map (end_value gates row) gates.outputs ≡ map (signal_value ordered row) ordered.design.outputs → output < length gates.outputs → output < length ordered.design.outputs →
    gates_value gates row output ≡ output_value ordered row output
outputs-same gates ordered row output same of_gates of_design =
    sym (get_or-map (end_value gates row) gates.outputs output Zero false of_gates)
    ∙ ap (λ values. slice_index_or values output false) same
    ∙ get_or-map (signal_value ordered row) ordered.design.outputs output 0 false of_design

-- So a netlist that means the values of the gates means those of the tables.
pub means-tables : (n : ℕ) (gates : GateNet) (ordered : Ordered) (net : PulseNet) → length gates.outputs ≡ length ordered.design.outputs →
    ((row : List Bool) → map (end_value gates row) gates.outputs ≡ map (signal_value ordered row) ordered.design.outputs) →
    Means n (names_of ordered.design) (gates_value gates) net → Means n (names_of ordered.design) (output_value ordered) net
means-tables n gates ordered net each same means = record {
  valid = means.valid;
  phases = means.phases;
  names = means.names;
  values = λ rows c output row_there output_there.
      let there : output < length ordered.design.outputs = omega (arith, output_there, length-map ordered.design.outputs (name_of ordered.design)) in
      means.values rows c output row_there output_there ∙ outputs-same gates ordered (row_of rows c) output (same (row_of rows c)) (omega (arith, there, each)) there;
}
