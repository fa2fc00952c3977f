-- The lemmas on the network of unfolded gates that other crates cite.
use Rattle.std.proofs.Common.{◌<◌, ◌≤◌, ◌+◌, ◌*◌, ◌^◌, length, ap, arith}
use Rattle.std.proofs.lemmas.List.{length-map}
use Rattle.flow_net.specs.Network.{HasNetwork}
use Rattle.flow_net.proofs.CallerLemmas.{length-uses_of-le}
use Rattle.pulse_net.specs.declared.net.PulseNet.{PulseNet}
use Rattle.pulse_net.specs.Validity.{IsValid}
use Rattle.pulse_net.specs.Unfolding.{nothing_unfolded, unfold_inputs, end_of, unfolding_of, unfolded}
use Rattle.pulse_net.proofs.PulsesAreGateValues.{is_gate_net}
use Rattle.pulse_net.proofs.UnfoldedGateCount.{gates-inputs, gates-elements}
pub use Rattle.pulse_net.proofs.EachGateIsUsed.{each_gate_is_used}
pub use Rattle.pulse_net.proofs.BalancedUnfolding.{unfolded_gates_are_phased, unfolded_epochs_are_balanced, dros_are_at_least_the_count, unused_netlists_have_latency_one, no_netlist_has_fewer_dros}

-- There are no more gates than elements.
pub unfolded_gates-le : (net : PulseNet) → length (unfolding_of net).gates ≤ length net.elements
unfolded_gates-le net =
    let start = unfold_inputs 0 net.inputs nothing_unfolded in
    omega (arith, gates-elements net.elements start, ap length (gates-inputs net.inputs 0 nothing_unfolded))

-- A valid netlist of not too many elements and outputs unfolds to gates and phases that have a network: three pins a gate, and
-- one an output, are fewer than 2 ^ 30.
pub unfolded-has_network : (net : PulseNet) → IsValid net → 3 * length net.elements + length net.outputs < 2 ^ 30 → HasNetwork (unfolded net).gates (unfolded net).phases
unfolded-has_network net valid few =
    let u = unfolded net in
    let formed = is_gate_net net valid (omega arith) (omega arith) in
    let ends = length-map net.outputs (end_of (unfolding_of net).wires) in
    record {
      formed = formed;
      phased = (unfolded_gates_are_phased net valid).each;
      few_pins = omega (arith, length-uses_of-le u.gates formed, unfolded_gates-le net, ends);
    }
