-- In the network of a netlist each arc's ends are vertices, and each pin's weight is at most 1: what the laws on rounds ask of it.
use Rattle.std.proofs.Common.{◌<◌, ◌+◌, ℕ, List, length, get_or, All, arith}
use Rattle.std.proofs.lemmas.List.Elements.{All-map, All-weaker}
use Rattle.gate_net.specs.declared.row.Driver.{Driver}
use Rattle.gate_net.specs.declared.row.Driver.TheVariants.{Input, Gate}
use Rattle.gate_net.specs.declared.net.GateNet.{GateNet}
use Rattle.gate_net.specs.Net.{IsGateNet}
use Rattle.flow_net.specs.declared.net.Pin.{Pin}
use Rattle.flow_net.specs.declared.net.Net.{Net}
use Rattle.flow_net.specs.Uses.{uses_of}
use Rattle.flow_net.specs.Network.{vertex_of, pin_of, network_of}
use Rattle.flow_net.specs.Arcs.{Arc, forward_arc, back_arc}
use Rattle.flow_net.specs.DriverNumbers.{IsNumbered}
use Rattle.flow_net.proofs.CallerLemmas.{uses-numbered, drivers_are_numbered, All-arcs_from, users-low}
use Rattle.stage_flow.specs.Residual.{vertex_count}
use Rattle.stage_flow.specs.LawsOfWalks.{EndsAreVertices}

-- a pin that starts and ends at source, gates or sink, and has one of the drivers
pub record IsPinLow (net : Net) (pin : Pin) : Type 0 where
  pub from : pin.from < net.gates + 2
  pub to : pin.to < net.gates + 2
  pub driver : pin.driver < net.drivers

abbrev IsLowArc : Net → Arc → Type 0
IsLowArc net arc = (arc.tail < vertex_count net) × (arc.head < vertex_count net)

pub ends-are_vertices : (net : Net) → All (IsPinLow net) net.pins → EndsAreVertices net
ends-are_vertices net low =
    All-arcs_from (IsLowArc net) net 0 net.pins
    (All-weaker (IsPinLow net) (λ pin. (at : ℕ) → IsLowArc net (forward_arc at pin) × IsLowArc net (back_arc net at pin)) each net.pins low)
  where
    each : (pin : Pin) → IsPinLow net pin → (at : ℕ) → IsLowArc net (forward_arc at pin) × IsLowArc net (back_arc net at pin)
    each pin h at = ((omega (arith, h.from), omega (arith, h.to)), (omega (arith, h.to), omega (arith, h.driver)))

vertex-low : (net : GateNet) (driver : Driver) → IsNumbered net driver → vertex_of driver < length net.gates + 2
vertex-low net (Input i) numbered = omega arith
vertex-low net (Gate k) numbered = let h : k < length net.gates = numbered in omega arith

pub network-pins_low : (net : GateNet) (phases : List ℕ) → IsGateNet net → All (IsPinLow (network_of net phases)) (network_of net phases).pins
network-pins_low net phases formed =
    All-map (IsPinLow (network_of net phases)) (pin_of net phases) (uses_of net)
    (λ k d within.
    let one = get_or (uses_of net) k d in
    let numbered = uses-numbered net formed k d within in record {
      from = vertex-low net one.driver numbered;
      to = users-low net k d within;
      driver = (drivers_are_numbered net phases formed).below one.driver numbered;
    })

pub network-ends : (net : GateNet) (phases : List ℕ) → IsGateNet net → EndsAreVertices (network_of net phases)
network-ends net phases formed = ends-are_vertices (network_of net phases) (network-pins_low net phases formed)
