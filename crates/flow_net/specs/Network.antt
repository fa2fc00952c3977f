-- The network of a gate netlist: a pin for each use, with its driver, its two vertices and its weight.
use Rattle.std.specs.Prelude.{◌≡◌, ◌<◌, ◌+◌, ◌^◌, ℕ, zero, suc, List, length, map, slice_index}
use Rattle.gate_net.specs.declared.row.Driver.{Driver}
use Rattle.gate_net.specs.declared.row.Driver.TheVariants.{Input, Gate}
use Rattle.gate_net.specs.declared.net.GateNet.{GateNet}
use Rattle.gate_net.specs.Net.{IsGateNet}
use Rattle.gate_net.specs.Entries.{entry_of}
use Rattle.phase_rule.specs.Stages.{weight_of}
use Rattle.flow_net.specs.declared.uses.Use.{Use}
use Rattle.flow_net.specs.declared.net.Pin.{Pin}
use Rattle.flow_net.specs.declared.net.Net.{Net}
use Rattle.flow_net.specs.Uses.{uses_of, used_inputs, driver_number, number_by}

-- the vertex of a driver: the source, 0, stands for all inputs, and gate k is vertex k + 1
abbrev pub vertex_of : Driver → ℕ
vertex_of (Input i) = 0
vertex_of (Gate k) = suc k

-- the phase of a user's vertex: a gate's own, and 0 of the source and the sink
abbrev pub vertex_phase : List ℕ → ℕ → ℕ
vertex_phase phases zero = 0
vertex_phase phases (suc k) = slice_index phases k

-- the pin of a use
abbrev pub pin_of : GateNet → List ℕ → Use → Pin
pin_of net phases one = record {
  driver = driver_number net one.driver;
  from = vertex_of one.driver;
  to = one.user;
  weight = weight_of (vertex_phase phases one.user) (entry_of phases one.driver);
}

-- the same, by a table of the numbers of used inputs
abbrev pub pin_by : List ℕ → ℕ → List ℕ → Use → Pin
pin_by numbers inputs phases one = record {
  driver = number_by numbers inputs one.driver;
  from = vertex_of one.driver;
  to = one.user;
  weight = weight_of (vertex_phase phases one.user) (entry_of phases one.driver);
}

-- the network of a gate netlist whose gates have these phases
abbrev pub network_of : GateNet → List ℕ → Net
network_of net phases = record {
  gates = length net.gates;
  drivers = used_inputs net + length net.gates;
  pins = map (pin_of net phases) (uses_of net);
}

-- which gate netlists and phases have a network: well formed, with a phase per gate, and fewer than 2 ^ 30 pins
pub record HasNetwork (net : GateNet) (phases : List ℕ) : Type 0 where
  pub formed : IsGateNet net
  pub phased : length phases ≡ length net.gates
  pub few_pins : length (uses_of net) < 2 ^ 30
