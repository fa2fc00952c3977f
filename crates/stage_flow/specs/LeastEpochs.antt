-- The least optimal epochs: of all balanced epochs with the least DRO count those that are lowest at every gate and at the sink.
use Rattle.std.specs.Prelude.{◌≡◌, ◌≤◌, ℕ, [], slice_index_or}
use Rattle.flow_net.specs.declared.net.Net.{Net}
use Rattle.flow_net.specs.declared.net.Epochs.{Epochs}
use Rattle.flow_net.specs.Epochs.{HasFewestDros}

-- each gate's epoch, and the sink's, is no later than in the others
pub record AreNoLater (epochs others : Epochs) : Type 0 where
  pub gates : (gate : ℕ) → slice_index_or epochs.gates gate 0 ≤ slice_index_or others.gates gate 0
  pub sink : epochs.sink ≤ others.sink

-- the least optimal epochs; where there is no pin the sink has epoch 1
pub record AreLeastEpochs (net : Net) (epochs : Epochs) : Type 0 where
  pub optimal : HasFewestDros net epochs
  pub least : net.pins ≡ [] → epochs.sink ≡ 1
  pub lowest : (other : Epochs) → HasFewestDros net other → (net.pins ≡ [] → other.sink ≡ 1) → AreNoLater epochs other
