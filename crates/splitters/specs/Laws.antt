-- What is proved of the netlist of gates with shared chains.
use Rattle.std.specs.Prelude.{◌≡◌, ◌≤◌, ℕ, ◌+◌, ◌*◌, List, [], ◌∷◌, length, slice_index, sum, ⊤, flat_map}
use Rattle.gate_net.specs.declared.row.Driver.{Driver}
use Rattle.gate_net.specs.declared.row.GateRow.{GateRow}
use Rattle.gate_net.specs.Net.{pin_drivers, end_drivers, IsGateNet, EachGateIsUsed}
use Rattle.gate_net.specs.Entries.{entry_of}
use Rattle.pulse_net.specs.declared.net.Names.{Names}
use Rattle.pulse_net.specs.declared.net.PulseNet.{PulseNet}
use Rattle.phase_rule.specs.declared.level.TheConstants.{MAX_PHASES}
use Rattle.pulse_net.specs.Wired.{IsInTime}
use Rattle.pulse_net.specs.Validity.{IsValid}
use Rattle.pulse_net.specs.Unfolding.{unfolded}
use Rattle.pulse_net.specs.Dros.{dros}
use Rattle.gate_net.specs.declared.net.GateNet.{GateNet}
use Rattle.flow_net.specs.declared.net.Epochs.{Epochs}
use Rattle.flow_net.specs.Network.{network_of}
use Rattle.flow_net.specs.Epochs.{dro_count}
use Rattle.dro_chains.specs.Chains.{HasChains, chained_of}
use Rattle.dro_chains.specs.declared.chain.Chained.{Chained}
use Rattle.dro_chains.specs.declared.chain.TheConstants.{MAX_DROS}
use Rattle.splitters.specs.Taps.{chain_dros, CanSplit}
use Rattle.splitters.specs.Elements.{gate_pins, elements_of}

-- the stage of a tap: n stages for each DRO behind its driver
abbrev pub tap_stage : Chained → Driver → ℕ → ℕ
tap_stage chained driver need = entry_of chained.stages driver + chained.n * need

-- each of these pins, from a number on, takes from its tap 1 to n ticks before its user's stage
abbrev pub PinsInTime : Chained → ℕ → ℕ → List Driver → Type 0
PinsInTime chained user pin [] = ⊤
PinsInTime chained user pin (driver ∷ drivers) =
    IsInTime chained.n (tap_stage chained driver (slice_index chained.needs pin)) user × PinsInTime chained user (pin + 1) drivers

-- the same of the pins of gates, from a gate and a pin on
abbrev pub GatesInTime : Chained → ℕ → ℕ → List GateRow → Type 0
GatesInTime chained gate pin [] = ⊤
GatesInTime chained gate pin (row ∷ rows) =
    PinsInTime chained (slice_index chained.stages gate) pin row.pins × GatesInTime chained (gate + 1) (pin + length row.pins) rows

-- Gates with shared chains keep time: they are well formed and each has a use, there are 1 to 16 phases, each pin takes
-- from its tap 1 to n ticks before its gate, or before the reading, at stage n * E, and the latency E is 1 or more, and 1
-- where there is no pin.
pub record KeepsTime (chained : Chained) : Type 0 where
  pub formed : IsGateNet chained.gates
  pub used : EachGateIsUsed chained.gates
  pub some_phase : 1 ≤ chained.n
  pub few_phases : chained.n ≤ MAX_PHASES
  pub latency : 1 ≤ chained.latency
  pub gates : GatesInTime chained 0 0 chained.gates.gates
  pub outputs : PinsInTime chained (chained.n * chained.latency) (gate_pins chained.gates.gates) (flat_map end_drivers chained.gates.outputs)
  pub empty : pin_drivers chained.gates ≡ [] → chained.latency ≡ 1

-- the names fit the gates: one for each input, and one for each output
pub record HasNames (chained : Chained) (names : Names) : Type 0 where
  pub inputs : length names.inputs ≡ chained.gates.inputs
  pub outputs : length names.outputs ≡ length chained.gates.outputs

-- Where the chains keep time and the names fit, the netlist is valid.
abbrev pub LayoutIsValid : Type 0
LayoutIsValid = (chained : Chained) (names : Names) → KeepsTime chained → HasNames chained names → IsValid (elements_of chained names)

-- Chains that mean a netlist keep time.
abbrev pub ChainsKeepTime : Type 0
ChainsKeepTime = (net : GateNet) (phases : List ℕ) (n : ℕ) (epochs : Epochs) → HasChains net phases n epochs → KeepsTime (chained_of net phases n epochs)

-- Chains that mean a netlist can be laid out, where they have no more DROs than `chains` allows.
abbrev pub ChainsCanBeSplit : Type 0
ChainsCanBeSplit =
    (net : GateNet) (phases : List ℕ) (n : ℕ) (epochs : Epochs) → HasChains net phases n epochs
    → dro_count (network_of net phases) epochs ≤ MAX_DROS → CanSplit (chained_of net phases n epochs)

-- So they are laid out as a valid netlist.
abbrev pub ChainsAreValid : Type 0
ChainsAreValid =
    (net : GateNet) (phases : List ℕ) (n : ℕ) (epochs : Epochs) (names : Names) → HasChains net phases n epochs
    → HasNames (chained_of net phases n epochs) names → IsValid (elements_of (chained_of net phases n epochs) names)

-- There are as many DROs as the chains are long: a driver's has one for each tap behind its first.
abbrev pub DrosAreTheChains : Type 0
DrosAreTheChains =
    (chained : Chained) (names : Names) → IsGateNet chained.gates
    → dros (elements_of chained names).elements ≡ chain_dros chained

-- Chains that mean a netlist are laid out with as many DROs as the chain lengths sum up to, which is their DRO count.
abbrev pub DrosAreTheCount : Type 0
DrosAreTheCount =
    (net : GateNet) (phases : List ℕ) (n : ℕ) (epochs : Epochs) (names : Names) → HasChains net phases n epochs
    → (dros (elements_of (chained_of net phases n epochs) names).elements ≡ sum (chained_of net phases n epochs).lengths)
    × (dros (elements_of (chained_of net phases n epochs) names).elements ≡ dro_count (network_of net phases) epochs)

-- Chains that mean a netlist are laid out as one that unfolds to the gates, the phases and the epochs that the chains were
-- made for, with as many DROs as the DRO count.
abbrev pub ChainsUnfold : Type 0
ChainsUnfold =
    (net : GateNet) (phases : List ℕ) (n : ℕ) (epochs : Epochs) (names : Names) → HasChains net phases n epochs
    → unfolded (elements_of (chained_of net phases n epochs) names)
    ≡ record { gates = net; phases = phases; epochs = epochs; dros = dro_count (network_of net phases) epochs }

-- The same of chains and a netlist at hand: where the chains are those of gates, phases and epochs and mean a netlist, the
-- netlist unfolds to these gates, phases and epochs, with as many DROs as the chain lengths sum up to.
abbrev pub UnfoldsBack : Chained → PulseNet → Type 0
UnfoldsBack chained net =
    (gates : GateNet) (phases : List ℕ) (n : ℕ) (epochs : Epochs) → HasChains gates phases n epochs → chained ≡ chained_of gates phases n epochs
    → unfolded net ≡ record { gates = gates; phases = phases; epochs = epochs; dros = sum chained.lengths }
