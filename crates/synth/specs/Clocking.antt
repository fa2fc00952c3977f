-- The clock of gates: phases from levels, the flow of the rounds on their network, and the chains that the least optimal epochs ask for.
use Rattle.std.specs.Prelude.{ℕ, Result}
use Rattle.gate_net.specs.declared.net.GateNet.{GateNet}
use Rattle.phase_rule.specs.Levels.{levels_of, phases_of}
use Rattle.flow_net.specs.declared.net.Net.{Net}
use Rattle.flow_net.specs.declared.net.Flow.{Flow}
use Rattle.flow_net.specs.declared.net.Epochs.{Epochs}
use Rattle.flow_net.specs.Network.{network_of}
use Rattle.flow_net.specs.Epochs.{dro_count}
use Rattle.stage_flow.specs.Rounds.{rounds_of}
use Rattle.stage_flow.specs.RoundEpochs.{least_epochs}
use Rattle.dro_chains.specs.declared.chain.Chained.{Chained}
use Rattle.dro_chains.specs.Chains.{chained_of, chains_of, HasChains}

-- the network of gates with n phases
abbrev pub clock_network : ℕ → GateNet → Net
clock_network n gates = network_of gates (phases_of n (levels_of gates))

-- the flow that shows that no epochs need fewer DROs
abbrev pub clock_flow : ℕ → GateNet → Flow
clock_flow n gates = rounds_of (clock_network n gates)

-- the least of the epochs that need the fewest DROs
abbrev pub clock_epochs : ℕ → GateNet → Epochs
clock_epochs n gates = least_epochs (clock_network n gates)

-- the chains of gates with n phases
abbrev pub clocked : ℕ → GateNet → Chained
clocked n gates = chained_of gates (phases_of n (levels_of gates)) n (clock_epochs n gates)

-- the same, unless they have too many DROs, and then how many
abbrev pub clocks : ℕ → GateNet → Result Chained ℕ
clocks n gates = chains_of gates (phases_of n (levels_of gates)) n (clock_epochs n gates)

-- and that these chains mean a netlist
abbrev pub HasClock : ℕ → GateNet → Type 0
HasClock n gates = HasChains gates (phases_of n (levels_of gates)) n (clock_epochs n gates)

-- the DRO count of these epochs
abbrev pub clock_dros : ℕ → GateNet → ℕ
clock_dros n gates = dro_count (clock_network n gates) (clock_epochs n gates)
