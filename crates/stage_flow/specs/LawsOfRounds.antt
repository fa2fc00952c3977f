-- All rounds: with labels for each of them, and that there are labels.
use Rattle.std.specs.Prelude.{◌≡◌, ℕ, ℤ, suc, pos, List, Some, All}
use Rattle.gate_net.specs.declared.net.GateNet.{GateNet}
use Rattle.gate_net.specs.Net.{IsGateNet, EachGateIsUsed}
use Rattle.flow_net.specs.declared.net.Net.{Net}
use Rattle.flow_net.specs.declared.net.Flow.{Flow}
use Rattle.flow_net.specs.declared.net.Epochs.{Epochs}
use Rattle.flow_net.specs.Network.{network_of}
use Rattle.flow_net.specs.Epochs.{dro_count, HasFewestDros}
use Rattle.flow_net.specs.Flows.{IsFullFlow, flow_value}
use Rattle.stage_flow.specs.Residual.{ways_of}
use Rattle.stage_flow.specs.Rounds.{sender, flow_after, rounds_of}
use Rattle.stage_flow.specs.LeastEpochs.{AreLeastEpochs}
use Rattle.stage_flow.specs.LawsOfWalks.{AreLabels, AreLabelsFor, FitsWay, potential_by}
use Rattle.stage_flow.specs.LawsOfSending.{IsPartFlow, SomeMirrorWants}
use Rattle.stage_flow.specs.LawsOfEpochs.{epochs_by}

-- labels for the sender of each round
abbrev pub AreRoundLabels : Net → (ℕ → ℕ → ℤ) → (ℕ → ℕ → ℕ) → Type 0
AreRoundLabels net far hops =
    (rounds from : ℕ) → IsPartFlow net (flow_after net rounds) → sender net (flow_after net rounds) ≡ Some from → AreLabelsFor net (flow_after net rounds) (far rounds) (hops rounds) from

-- The rounds make a full flow where there are labels for the sender of each, and the potentials by the labels of the last round fit
-- each residual arc of it.
abbrev pub LabelledRoundsMakeAFullFlow : Type 0
LabelledRoundsMakeAFullFlow =
    (net : GateNet) (phases : List ℕ) (far : ℕ → ℕ → ℤ) (hops : ℕ → ℕ → ℕ)
    → IsGateNet net
    → EachGateIsUsed net
    → AreRoundLabels (network_of net phases) far hops
    → IsFullFlow (network_of net phases) (rounds_of (network_of net phases))
    × ((last : ℕ) → suc last ≡ (network_of net phases).drivers → All (FitsWay (potential_by (far last))) (ways_of (network_of net phases) (rounds_of (network_of net phases))))

-- So the epochs of these potentials have the fewest DROs, as many as the flow is worth.
abbrev pub LabelledRoundsHaveFewestDros : Type 0
LabelledRoundsHaveFewestDros =
    (net : GateNet) (phases : List ℕ) (far : ℕ → ℕ → ℤ) (hops : ℕ → ℕ → ℕ) (last : ℕ)
    → IsGateNet net
    → EachGateIsUsed net
    → AreRoundLabels (network_of net phases) far hops
    → suc last ≡ (network_of net phases).drivers
    → HasFewestDros (network_of net phases) (epochs_by (network_of net phases) (potential_by (far last)))
    × (pos (dro_count (network_of net phases) (epochs_by (network_of net phases) (potential_by (far last)))) ≡ flow_value (network_of net phases) (rounds_of (network_of net phases)))

-- ---- There are labels
-- While a mirror wants, there are labels where potentials fit each residual arc. Labels, negated, are such potentials, so without any
-- there are no labels: `proofs/ExamplesOfLabels.antt` has such a flow.
abbrev pub LabelsExist : Type 0
LabelsExist =
    (net : GateNet) (phases : List ℕ) (flow : Flow) (potential : ℕ → ℤ)
    → IsGateNet net
    → EachGateIsUsed net
    → IsPartFlow (network_of net phases) flow
    → SomeMirrorWants (network_of net phases) flow
    → All (FitsWay potential) (ways_of (network_of net phases) flow)
    → (far : ℕ → ℤ) × (hops : ℕ → ℕ) × AreLabels (network_of net phases) flow far hops

-- Some do fit before each round, so there are labels while a mirror wants,
abbrev pub LabelsExistInRounds : Type 0
LabelsExistInRounds =
    (net : GateNet) (phases : List ℕ) (rounds : ℕ)
    → IsGateNet net
    → EachGateIsUsed net
    → SomeMirrorWants (network_of net phases) (flow_after (network_of net phases) rounds)
    → (far : ℕ → ℤ) × (hops : ℕ → ℕ) × AreLabels (network_of net phases) (flow_after (network_of net phases) rounds) far hops

-- and labels for the sender of each round.
abbrev pub RoundsHaveLabels : Type 0
RoundsHaveLabels =
    (net : GateNet) (phases : List ℕ)
    → IsGateNet net
    → EachGateIsUsed net
    → (far : ℕ → ℕ → ℤ) × (hops : ℕ → ℕ → ℕ) × AreRoundLabels (network_of net phases) far hops

-- So the rounds make a full flow,
abbrev pub RoundsAreFull : Type 0
RoundsAreFull =
    (net : GateNet) (phases : List ℕ)
    → IsGateNet net
    → EachGateIsUsed net
    → IsFullFlow (network_of net phases) (rounds_of (network_of net phases))

-- and some epochs have the fewest DROs, as many as the flow is worth.
abbrev pub FewestDrosExist : Type 0
FewestDrosExist =
    (net : GateNet) (phases : List ℕ)
    → IsGateNet net
    → EachGateIsUsed net
    → (epochs : Epochs)
    × HasFewestDros (network_of net phases) epochs
    × (pos (dro_count (network_of net phases) epochs) ≡ flow_value (network_of net phases) (rounds_of (network_of net phases)))

-- So there are least optimal epochs.
abbrev pub LeastEpochsExist : Type 0
LeastEpochsExist =
    (net : GateNet) (phases : List ℕ)
    → IsGateNet net
    → EachGateIsUsed net
    → (epochs : Epochs)
    × AreLeastEpochs (network_of net phases) epochs
    × (pos (dro_count (network_of net phases) epochs) ≡ flow_value (network_of net phases) (rounds_of (network_of net phases)))
