-- Weak duality: no full flow is worth more than the DROs that balanced epochs cost.
use Rattle.std.specs.Prelude.{◌≤ℤ◌, ℕ, pos, List}
use Rattle.gate_net.specs.declared.net.GateNet.{GateNet}
use Rattle.gate_net.specs.Net.{IsGateNet}
use Rattle.flow_net.specs.declared.net.Epochs.{Epochs}
use Rattle.flow_net.specs.declared.net.Flow.{Flow}
use Rattle.flow_net.specs.Network.{network_of}
use Rattle.flow_net.specs.Epochs.{IsBalanced, dro_count}
use Rattle.flow_net.specs.Flows.{IsFullFlow, flow_value}

-- In the network of every well-formed netlist, with any phases, every full flow is worth at most the DRO count of all
-- balanced epochs. Nothing is asked of a gate without a use: where there is one, no flow is full.
abbrev pub WeakDuality : Type 0
WeakDuality =
    (net : GateNet) (phases : List ℕ) (flow : Flow) (epochs : Epochs)
    → IsGateNet net
    → IsFullFlow (network_of net phases) flow
    → IsBalanced (network_of net phases) epochs
    → flow_value (network_of net phases) flow ≤ℤ pos (dro_count (network_of net phases) epochs)
