-- What holds of the gates, phases, epochs and DROs that a valid netlist unfolds to: the epochs are balanced, and the DROs are
-- no fewer than they cost.
use Rattle.std.specs.Prelude.{◌≡◌, ◌≤◌, []}
use Rattle.gate_net.specs.Net.{EachGateIsUsed}
use Rattle.phase_rule.specs.Levels.{ArePhases}
use Rattle.flow_net.specs.declared.net.Net.{Net}
use Rattle.flow_net.specs.declared.net.Epochs.{Epochs}
use Rattle.flow_net.specs.Uses.{uses_of}
use Rattle.flow_net.specs.Network.{network_of}
use Rattle.flow_net.specs.Epochs.{IsBalanced, HasFewestDros, dro_count}
use Rattle.pulse_net.specs.declared.net.PulseNet.{PulseNet}
use Rattle.pulse_net.specs.declared.unfolding.Unfolded.{Unfolded}
use Rattle.pulse_net.specs.Validity.{IsValid}
use Rattle.pulse_net.specs.Unfolding.{unfolded}
use Rattle.pulse_net.specs.Dros.{dros}

-- the network of unfolded gates
abbrev pub unfolded_network : Unfolded → Net
unfolded_network unfolded = network_of unfolded.gates unfolded.phases

-- In a valid netlist each unfolded gate drives a pin of a gate, or an output.
abbrev pub UnfoldedGatesAreUsed : Type 0
UnfoldedGatesAreUsed = (net : PulseNet) → IsValid net → EachGateIsUsed (unfolded net).gates

-- In a valid netlist with n phases each unfolded gate has one phase, below n.
abbrev pub UnfoldedGatesArePhased : Type 0
UnfoldedGatesArePhased = (net : PulseNet) → IsValid net → ArePhases net.phases (unfolded net).gates (unfolded net).phases

-- In a valid netlist the epochs rise by a pin's weight or more from its driver to its user.
abbrev pub UnfoldedEpochsAreBalanced : Type 0
UnfoldedEpochsAreBalanced = (net : PulseNet) → IsValid net → IsBalanced (unfolded_network (unfolded net)) (unfolded net).epochs

-- In a valid netlist there are at least as many DROs as its epochs cost, where all pins of a driver share one chain.
abbrev pub DrosAreAtLeastTheCount : Type 0
DrosAreAtLeastTheCount = (net : PulseNet) → IsValid net → dro_count (unfolded_network (unfolded net)) (unfolded net).epochs ≤ (unfolded net).dros

-- In a valid netlist where nothing is used, neither by a gate nor by an output, the latency is 1.
abbrev pub UnusedNetlistsHaveLatencyOne : Type 0
UnusedNetlistsHaveLatencyOne = (net : PulseNet) → IsValid net → uses_of (unfolded net).gates ≡ [] → (unfolded net).epochs.sink ≡ 1

-- Where epochs need the fewest DROs among balanced ones, no valid netlist that unfolds to these gates and phases has fewer.
abbrev pub NoNetlistHasFewerDros : Type 0
NoNetlistHasFewerDros =
    (net : PulseNet) (epochs : Epochs) → IsValid net → HasFewestDros (unfolded_network (unfolded net)) epochs → dro_count (unfolded_network (unfolded net)) epochs ≤ dros net.elements
