-- Laws of epochs against flows. Potentials that fit a full flow give epochs with the fewest DROs, the lengths of longest walks from
-- the source give the least of these, and there are no other least ones.
use Rattle.std.specs.Prelude.{◌≡◌, ◌≢◌, ◌<◌, ◌+◌, ◌-◌, ◌+ℤ◌, ◌-ℤ◌, ◌≤ℤ◌, ℕ, ℤ, suc, pos, negsuc, List, [], length, map, replicate, All, Any, Bool, false, IsTrue, Some}
use Rattle.std.specs.List.{range_with_len}
use Rattle.gate_net.specs.declared.net.GateNet.{GateNet}
use Rattle.gate_net.specs.Net.{IsGateNet, EachGateIsUsed}
use Rattle.flow_net.specs.declared.net.Net.{Net}
use Rattle.flow_net.specs.declared.net.Flow.{Flow}
use Rattle.flow_net.specs.declared.net.Epochs.{Epochs}
use Rattle.flow_net.specs.Uses.{uses_of}
use Rattle.flow_net.specs.Network.{network_of}
use Rattle.flow_net.specs.Epochs.{epoch_at, dro_count, HasFewestDros}
use Rattle.flow_net.specs.Flows.{IsFullFlow, flow_value}
use Rattle.stage_flow.specs.Residual.{Way, ways_of, vertex_count}
use Rattle.stage_flow.specs.Longest.{Reach, is_better}
use Rattle.stage_flow.specs.Rounds.{best_to}
use Rattle.stage_flow.specs.LawsOfWalks.{label}
use Rattle.stage_flow.specs.LeastEpochs.{AreLeastEpochs}

-- a residual arc is no longer than the potential rises on it
abbrev pub Fits : (ℕ → ℤ) → Way → Type 0
Fits potential way = (potential way.tail +ℤ way.length) ≤ℤ potential way.head

-- potentials fit a flow where they fit each of its residual arcs
abbrev pub FitsFlow : Net → Flow → (ℕ → ℤ) → Type 0
FitsFlow net flow potential = All (Fits potential) (ways_of net flow)

-- epochs are the potentials of gates and sink, counted from the source's
pub record AreRises (net : Net) (potential : ℕ → ℤ) (epochs : Epochs) : Type 0 where
  pub each : length epochs.gates ≡ net.gates
  pub rises : (vertex : ℕ) → vertex < net.gates + 2 → potential vertex ≡ potential 0 +ℤ pos (epoch_at epochs vertex)

-- how far the potential rises from the source to a vertex, 0 where it falls
abbrev pub not_below : ℤ → ℕ
not_below (pos n) = n
not_below (negsuc n) = 0

abbrev pub rise_to : (ℕ → ℤ) → ℕ → ℕ
rise_to potential vertex = not_below (potential vertex -ℤ potential 0)

-- the epochs of potentials
abbrev pub epochs_by : Net → (ℕ → ℤ) → Epochs
epochs_by net potential = record {
  gates = map (λ gate. rise_to potential (suc gate)) (range_with_len 0 net.gates);
  sink = rise_to potential (suc net.gates);
}

-- The lengths of longest walks from the source: they fit, and a walk with fewer arcs than there are vertices attains each.
pub record AreFarthest (net : Net) (flow : Flow) (far : ℕ → ℤ) : Type 0 where
  pub origin : far 0 ≡ pos 0
  pub fits : FitsFlow net flow far
  pub attained : (vertex : ℕ) → vertex < net.gates + 2 → (reach : Reach) × (best_to net flow 0 vertex ≡ Some reach) × (reach.length ≡ far vertex)

-- a residual arc by which a longest walk from the source comes to its head: the length goes on by the arc's, with an arc more
pub record IsLastArc (far : ℕ → ℤ) (hops : ℕ → ℕ) (vertex : ℕ) (way : Way) : Type 0 where
  pub ends : way.head ≡ vertex
  pub reaches : far vertex ≡ far way.tail +ℤ way.length
  pub counts : hops vertex ≡ hops way.tail + 1

-- Labels of vertices by a search from the source: lengths that fit, and numbers of arcs. Each vertex but the source has an arc by
-- which a walk of this length, with so many arcs, comes to it.
pub record AreLabelsFromSource (net : Net) (flow : Flow) (far : ℕ → ℤ) (hops : ℕ → ℕ) : Type 0 where
  pub origin : far 0 ≡ pos 0
  pub starts : hops 0 ≡ 0
  pub fits : FitsFlow net flow far
  pub few : (vertex : ℕ) → vertex < vertex_count net → hops vertex < vertex_count net
  pub comes : (vertex : ℕ) → suc vertex < vertex_count net → Any (λ way. IsLastArc far hops (suc vertex) way × (way.tail < vertex_count net)) (ways_of net flow)

-- What such a search labels are the lengths of longest walks.
abbrev pub LabelsAreFarthest : Type 0
LabelsAreFarthest = (net : Net) (flow : Flow) (far : ℕ → ℤ) (hops : ℕ → ℕ) → AreLabelsFromSource net flow far hops → AreFarthest net flow far

-- In the network of a well-formed netlist in which each gate has a use, potentials that fit a flow rise from the source to every
-- gate and to the sink, unless there is no pin.
abbrev pub PotentialsRise : Type 0
PotentialsRise =
    (net : GateNet) (phases : List ℕ) (flow : Flow) (potential : ℕ → ℤ)
    → IsGateNet net
    → EachGateIsUsed net
    → uses_of net ≢ []
    → FitsFlow (network_of net phases) flow potential
    → AreRises (network_of net phases) potential (epochs_by (network_of net phases) potential)

-- No vertex at all has a lower potential than the source.
abbrev pub SourceIsLowest : Type 0
SourceIsLowest =
    (net : GateNet) (phases : List ℕ) (flow : Flow) (potential : ℕ → ℤ)
    → IsGateNet net
    → EachGateIsUsed net
    → uses_of net ≢ []
    → FitsFlow (network_of net phases) flow potential
    → (vertex : ℕ)
    → vertex < vertex_count (network_of net phases)
    → potential 0 ≤ℤ potential vertex

-- Potentials that fit a full flow give epochs that cost as many DROs as the flow is worth, and no balanced epochs cost fewer.
abbrev pub FittingPotentialsAreOptimal : Type 0
FittingPotentialsAreOptimal =
    (net : GateNet) (phases : List ℕ) (flow : Flow) (potential : ℕ → ℤ) (epochs : Epochs)
    → IsGateNet net
    → IsFullFlow (network_of net phases) flow
    → FitsFlow (network_of net phases) flow potential
    → AreRises (network_of net phases) potential epochs
    → HasFewestDros (network_of net phases) epochs × (pos (dro_count (network_of net phases) epochs) ≡ flow_value (network_of net phases) flow)

-- The lengths of longest walks from the source, in the residual network of a full flow, are the least optimal epochs.
abbrev pub LongestLengthsAreLeastEpochs : Type 0
LongestLengthsAreLeastEpochs =
    (net : GateNet) (phases : List ℕ) (flow : Flow) (far : ℕ → ℤ)
    → IsGateNet net
    → EachGateIsUsed net
    → uses_of net ≢ []
    → IsFullFlow (network_of net phases) flow
    → AreFarthest (network_of net phases) flow far
    → AreLeastEpochs (network_of net phases) (epochs_by (network_of net phases) far)

-- and each is below the number of vertices.
abbrev pub LongestLengthsAreFew : Type 0
LongestLengthsAreFew =
    (net : GateNet) (phases : List ℕ) (flow : Flow) (far : ℕ → ℤ)
    → AreFarthest (network_of net phases) flow far
    → (vertex : ℕ)
    → vertex < length net.gates + 2
    → epoch_at (epochs_by (network_of net phases) far) vertex < vertex_count (network_of net phases)

-- So is what a search from the source labels, at every vertex.
abbrev pub LabelsAreFew : Type 0
LabelsAreFew =
    (net : GateNet) (phases : List ℕ) (flow : Flow) (far : ℕ → ℤ) (hops : ℕ → ℕ)
    → AreLabelsFromSource (network_of net phases) flow far hops
    → (vertex : ℕ)
    → vertex < vertex_count (network_of net phases)
    → far vertex ≤ℤ pos (vertex_count (network_of net phases) - 1)

-- A search from the source meets every vertex: a set of vertices with the source that no residual arc leaves holds them all.
abbrev pub EveryVertexIsReached : Type 0
EveryVertexIsReached =
    (net : GateNet) (phases : List ℕ) (flow : Flow) (met : ℕ → Bool)
    → IsGateNet net
    → EachGateIsUsed net
    → uses_of net ≢ []
    → IsTrue (met 0)
    → All (λ way. IsTrue (met way.tail) → IsTrue (met way.head)) (ways_of (network_of net phases) flow)
    → (vertex : ℕ)
    → vertex < vertex_count (network_of net phases)
    → IsTrue (met vertex)

-- Labels from the source exist where potentials fit, and they are lengths of longest walks with the fewest arcs: no residual arc leads
-- further than its head is labelled, nor as far by fewer arcs.
abbrev pub LeadsNoFurther : (ℕ → ℤ) → (ℕ → ℕ) → Way → Type 0
LeadsNoFurther far hops way = is_better (record { length = far way.tail +ℤ way.length; hops = suc (hops way.tail) }) (label far hops way.head) ≡ false

abbrev pub SourceLabelsExist : Type 0
SourceLabelsExist =
    (net : GateNet) (phases : List ℕ) (flow : Flow) (potential : ℕ → ℤ)
    → IsGateNet net
    → EachGateIsUsed net
    → uses_of net ≢ []
    → FitsFlow (network_of net phases) flow potential
    → (far : ℕ → ℤ) × (hops : ℕ → ℕ)
    × AreLabelsFromSource (network_of net phases) flow far hops
    × All (LeadsNoFurther far hops) (ways_of (network_of net phases) flow)

-- Without a pin nothing waits: the least epochs are 0 at the gates, and the sink's is 1.
abbrev pub NothingIsLeastWithoutPins : Type 0
NothingIsLeastWithoutPins = (net : Net) → net.pins ≡ [] → AreLeastEpochs net (record { gates = replicate net.gates 0; sink = 1 })

-- There are no two least optimal epochs.
abbrev pub LeastEpochsAreUnique : Type 0
LeastEpochsAreUnique = (net : Net) (a b : Epochs) → AreLeastEpochs net a → AreLeastEpochs net b → a ≡ b
