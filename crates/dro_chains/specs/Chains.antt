-- What `chains` needs, what it answers, and when it refuses.
use Rattle.std.specs.Prelude.{◌≡◌, ◌≤◌, ◌<◌, ◌*◌, ◌^◌, ℕ, cond, nat_lt, Option, Some, None, Result, Ok, Err, List, [], ◌∷◌, length, map, slice_index}
use Rattle.gate_net.specs.declared.net.GateNet.{GateNet}
use Rattle.gate_net.specs.Net.{EachGateIsUsed}
use Rattle.phase_rule.specs.declared.level.TheConstants.{MAX_PHASES}
use Rattle.phase_rule.specs.Levels.{ArePhases}
use Rattle.phase_rule.specs.Stages.{stage_of}
use Rattle.flow_net.specs.declared.net.Epochs.{Epochs}
use Rattle.flow_net.specs.Uses.{uses_of}
use Rattle.flow_net.specs.Network.{network_of, HasNetwork}
use Rattle.flow_net.specs.Epochs.{need_of, chain_lengths, dro_count, IsBalanced}
use Rattle.dro_chains.specs.declared.chain.Chained.{Chained}
use Rattle.dro_chains.specs.declared.chain.ChainFault.{ChainFault}
use Rattle.dro_chains.specs.declared.chain.ChainFault.TheVariants.{TooManyDros, NoMemory}
use Rattle.dro_chains.specs.declared.chain.TheConstants.{MAX_DROS}

-- the stages of gates of these epochs and phases
abbrev pub stages_of : ℕ → List ℕ → List ℕ → List ℕ
stages_of n [] phases = []
stages_of n (epoch ∷ epochs) [] = []
stages_of n (epoch ∷ epochs) (phase ∷ phases) = stage_of n epoch phase ∷ stages_of n epochs phases

-- the netlist has a network, with an epoch per gate, and every stage fits 32 bits
pub record CanChain (net : GateNet) (phases : List ℕ) (n : ℕ) (epochs : Epochs) : Type 0 where
  pub network : HasNetwork net phases
  pub each : length epochs.gates ≡ length net.gates
  pub stages : (k : ℕ) → k < length epochs.gates → stage_of n (slice_index epochs.gates k) (slice_index phases k) < 2 ^ 32
  pub latency : n * epochs.sink < 2 ^ 32

-- Where the chains mean a netlist: each gate has a use and a phase of n, 1 to `MAX_PHASES`, the epochs are balanced, and
-- the latency is 1 or more, and 1 where there is no pin.
pub record HasChains (net : GateNet) (phases : List ℕ) (n : ℕ) (epochs : Epochs) : Type 0 where
  pub fits : CanChain net phases n epochs
  pub used : EachGateIsUsed net
  pub some_phase : 1 ≤ n
  pub few_phases : n ≤ MAX_PHASES
  pub phased : ArePhases n net phases
  pub balanced : IsBalanced (network_of net phases) epochs
  pub latency : 1 ≤ epochs.sink
  pub empty : uses_of net ≡ [] → epochs.sink ≡ 1

-- the chains of a netlist: one per driver, as long as the largest need of its pins, and a need per pin
abbrev pub chained_of : GateNet → List ℕ → ℕ → Epochs → Chained
chained_of net phases n epochs = record {
  gates = net;
  n = n;
  stages = stages_of n epochs.gates phases;
  latency = epochs.sink;
  lengths = chain_lengths epochs (network_of net phases).pins (network_of net phases).drivers;
  needs = map (need_of epochs) (network_of net phases).pins;
}

-- what `chains` answers: the chains, unless they have too many DROs, and then how many
abbrev pub chains_of : GateNet → List ℕ → ℕ → Epochs → Result Chained ℕ
chains_of net phases n epochs = cond (nat_lt MAX_DROS (dro_count (network_of net phases) epochs)) (Err (dro_count (network_of net phases) epochs)) (Ok (chained_of net phases n epochs))

-- the answer that a fault tells; want of memory tells none
abbrev pub told : ChainFault → Option (Result Chained ℕ)
told (TooManyDros count) = Some (Err count)
told NoMemory = None
