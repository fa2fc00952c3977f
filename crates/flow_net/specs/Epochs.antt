-- Epochs: which are balanced, what each pin needs, and how many DROs the shared chains have.
use Rattle.std.specs.Prelude.{◌≡◌, ◌≤◌, ◌<◌, ◌+◌, ◌++◌, ◌/◌, ◌==◌, ℕ, zero, suc, cond, max, List, [], ◌∷◌, length, map, sum, All, slice_index_or}
use Rattle.std.specs.List.{flat_map}
use Rattle.gate_net.specs.declared.net.GateNet.{GateNet}
use Rattle.gate_net.specs.Net.{IsGateNet, end_drivers}
use Rattle.gate_net.specs.Entries.{entry_of}
use Rattle.phase_rule.specs.Levels.{largest, levels_of, phases_of}
use Rattle.phase_rule.specs.Stages.{need_over_epochs}
use Rattle.flow_net.specs.declared.net.Pin.{Pin}
use Rattle.flow_net.specs.declared.net.Net.{Net}
use Rattle.flow_net.specs.declared.net.Epochs.{Epochs}
use Rattle.flow_net.specs.Network.{network_of}

-- the epoch of a vertex: 0 of the source, a gate's own, and the sink's behind the gates
abbrev pub epoch_at : Epochs → ℕ → ℕ
epoch_at epochs zero = 0
epoch_at epochs (suc k) = slice_index_or epochs.gates k epochs.sink

-- the user of the pin is its weight or more epochs behind the driver
abbrev pub IsPinBalanced : Epochs → Pin → Type 0
IsPinBalanced epochs pin = epoch_at epochs pin.from + pin.weight ≤ epoch_at epochs pin.to

-- there is an epoch per gate, and every pin is balanced
pub record IsBalanced (net : Net) (epochs : Epochs) : Type 0 where
  pub each : length epochs.gates ≡ net.gates
  pub pins : All (IsPinBalanced epochs) net.pins

-- the DROs that a pin needs: the gap in epochs less the weight
abbrev pub need_of : Epochs → Pin → ℕ
need_of epochs pin = need_over_epochs (epoch_at epochs pin.to) (epoch_at epochs pin.from) pin.weight

-- The chain length of a driver: the largest need of its pins, since they all tap one chain.
abbrev pub chain_length : Epochs → List Pin → ℕ → ℕ
chain_length epochs [] driver = 0
chain_length epochs (pin ∷ pins) driver = cond (pin.driver == driver) (max (need_of epochs pin) (chain_length epochs pins driver)) (chain_length epochs pins driver)

-- the chain lengths of the first n drivers, in order
abbrev pub chain_lengths : Epochs → List Pin → ℕ → List ℕ
chain_lengths epochs pins zero = []
chain_lengths epochs pins (suc driver) = chain_lengths epochs pins driver ++ chain_length epochs pins driver ∷ []

-- the DRO count: the sum over drivers of the largest need of their pins
abbrev pub dro_count : Net → Epochs → ℕ
dro_count net epochs = sum (chain_lengths epochs net.pins net.drivers)

-- no balanced epochs have a lower DRO count
pub record HasFewestDros (net : Net) (epochs : Epochs) : Type 0 where
  pub balanced : IsBalanced net epochs
  pub fewest : (other : Epochs) → IsBalanced net other → dro_count net epochs ≤ dro_count net other

-- The earliest epochs with n phases: each gate's level over n, and the sink 1 behind the last driver of an output.
abbrev pub earliest_gates : ℕ → GateNet → List ℕ
earliest_gates n net = map (λ level. level / n) (levels_of net)

abbrev pub earliest_epochs : ℕ → GateNet → Epochs
earliest_epochs n net = record {
  gates = earliest_gates n net;
  sink = 1 + largest (map (entry_of (earliest_gates n net)) (flat_map end_drivers net.outputs));
}

-- With phases from levels, the earliest epochs are balanced.
abbrev pub EarliestEpochsAreBalanced : Type 0
EarliestEpochsAreBalanced = (n : ℕ) (net : GateNet) → 0 < n → IsGateNet net → IsBalanced (network_of net (phases_of n (levels_of net))) (earliest_epochs n net)
