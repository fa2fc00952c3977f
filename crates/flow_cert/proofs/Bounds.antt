-- The network of a well-formed netlist is bounded: its arcs end at its vertices, and pins, drivers and vertices are few.
use Rattle.std.proofs.Common.{◌<◌, ◌≤◌, ◌+◌, ◌-◌, ℕ, List, sym, subst, arith}
use Rattle.std.proofs.lemmas.List.{length-map}
use Rattle.std.proofs.lemmas.List.Elements.{All-weaker}
use Rattle.gate_net.specs.declared.net.GateNet.{GateNet}
use Rattle.flow_net.specs.declared.net.Net.{Net}
use Rattle.flow_net.specs.declared.net.Pin.{Pin}
use Rattle.flow_net.specs.Uses.{uses_of}
use Rattle.flow_net.specs.Network.{pin_of, network_of, HasNetwork}
use Rattle.flow_net.proofs.CallerLemmas.{used_below-le-uses, gates-le-uses, IsLaid, network-laid, weights-few, home-low}
use Rattle.flow_cert.specs.Verdicts.{vertices}
use Rattle.flow_cert.specs.Meaning.{IsNetwork}
use Rattle.flow_cert.specs.Sums.{IsBounded}

-- A pin that is laid out starts and ends at vertices.
pub laid-starts : (net : Net) (pin : Pin) → net.gates ≤ net.drivers → IsLaid net pin → pin.from < net.gates + 2
laid-starts net pin few laid = let low = home-low net pin.driver few laid.numbered in omega (arith, laid.starts)

network_of-bounded : (net : GateNet) (phases : List ℕ) → HasNetwork net phases → IsBounded (network_of net phases)
network_of-bounded net phases has =
    let network = network_of net phases in
    let laid = network-laid net phases has.formed in
    let gates = gates-le-uses net has.formed in
    let inputs = used_below-le-uses (uses_of net) net.inputs in
    let few : network.gates ≤ network.drivers = omega arith in
    record {
      few_vertices = omega (arith, gates, inputs, has.few_pins);
      few_drivers = omega (arith, gates, inputs, has.few_pins);
      few_pins = omega (arith, length-map (uses_of net) (pin_of net phases), has.few_pins);
      weights = weights-few net phases;
      starts = All-weaker (IsLaid network) (λ pin. pin.from < vertices network) (λ pin h. omega (arith, laid-starts network pin few h)) network.pins laid;
      ends = All-weaker (IsLaid network) (λ pin. pin.to < vertices network) (λ pin h. omega (arith, h.ends)) network.pins laid;
      mirrors = All-weaker (IsLaid network) (λ pin. pin.driver < network.drivers) (λ pin h. h.numbered) network.pins laid;
    }

pub network-bounded : (net : Net) → IsNetwork net → IsBounded net
network-bounded net (gates, phases, has, is) = subst IsBounded (sym is) (network_of-bounded gates phases has)
