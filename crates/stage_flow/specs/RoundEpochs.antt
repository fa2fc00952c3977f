-- The least optimal epochs as an answer: they are read off the flow of the rounds, by the lengths of longest walks from the source.
use Rattle.std.specs.Prelude.{◌≡◌, ◌<◌, ◌≤◌, ◌==◌, ℕ, ℤ, pos, cond, length, replicate, List, Option, Some, None}
use Rattle.gate_net.specs.declared.net.GateNet.{GateNet}
use Rattle.gate_net.specs.Net.{IsGateNet, EachGateIsUsed}
use Rattle.flow_net.specs.declared.net.Net.{Net}
use Rattle.flow_net.specs.declared.net.Flow.{Flow}
use Rattle.flow_net.specs.declared.net.Epochs.{Epochs}
use Rattle.flow_net.specs.Network.{network_of}
use Rattle.flow_net.specs.Epochs.{epoch_at, dro_count}
use Rattle.flow_net.specs.Flows.{flow_value}
use Rattle.stage_flow.specs.Residual.{vertex_count}
use Rattle.stage_flow.specs.Longest.{Reach}
use Rattle.stage_flow.specs.Rounds.{best_to, rounds_of}
use Rattle.stage_flow.specs.LeastEpochs.{AreLeastEpochs}
use Rattle.stage_flow.specs.LawsOfEpochs.{epochs_by}

-- how long a walk is, 0 where there is none
abbrev pub span : Option Reach → ℤ
span None = pos 0
span (Some reach) = reach.length

-- how far a vertex is from the source: the length of the longest residual walk to it
abbrev pub far_from_source : Net → Flow → ℕ → ℤ
far_from_source net flow vertex = span (best_to net flow 0 vertex)

-- without a pin no gate waits, and the sink has epoch 1
abbrev pub epochs_of_nothing : Net → Epochs
epochs_of_nothing net = record { gates = replicate net.gates 0; sink = 1 }

-- The least optimal epochs: how far each gate and the sink is from the source, in the residual network of the flow of all rounds.
abbrev pub least_epochs : Net → Epochs
least_epochs net = cond (length net.pins == 0) (epochs_of_nothing net) (epochs_by net (far_from_source net (rounds_of net)))

-- They are the least optimal epochs, they need as many DROs as that flow is worth, each is below the number of vertices, and the sink's
-- is 1 or more.
pub record AreLeastOfRounds (net : Net) (epochs : Epochs) : Type 0 where
  pub least : AreLeastEpochs net epochs
  pub worth : pos (dro_count net epochs) ≡ flow_value net (rounds_of net)
  pub low : (vertex : ℕ) → epoch_at epochs vertex < vertex_count net
  pub sink : 1 ≤ epochs.sink

abbrev pub RoundsGiveLeastEpochs : Type 0
RoundsGiveLeastEpochs =
    (net : GateNet) (phases : List ℕ) → IsGateNet net → EachGateIsUsed net → length phases ≡ length net.gates → AreLeastOfRounds (network_of net phases) (least_epochs (network_of net phases))
