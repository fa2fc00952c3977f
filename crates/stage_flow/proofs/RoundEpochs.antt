-- The epochs read off the flow of the rounds are the least optimal ones. Labels from the source exist, a longest walk attains each of
-- them at gates and sink, and so the epochs by these labels are the epochs by the lengths of longest walks.
use Rattle.std.proofs.Common.{◌≡◌, ◌≢◌, ◌<◌, ◌≤◌, ◌+◌, ◌==◌, ◌∙◌, ℕ, zero, suc, ℤ, ◌-ℤ◌, true, false, List, [], ◌∷◌, length, map, refl, sym, ap, subst, arith, ⊎_elim}
use Rattle.std.specs.List.{range_with_len}
use Rattle.std.proofs.lemmas.Bool.{cases_lt, ne_eqb}
use Rattle.std.proofs.lemmas.Int.{ints}
use Rattle.std.proofs.lemmas.List.FromFn.{length-map-range_with_len}
use Rattle.gate_net.specs.declared.net.GateNet.{GateNet}
use Rattle.gate_net.specs.Net.{IsGateNet}
use Rattle.flow_net.specs.declared.uses.Use.{Use}
use Rattle.flow_net.specs.declared.net.Net.{Net}
use Rattle.flow_net.specs.declared.net.Flow.{Flow}
use Rattle.flow_net.specs.declared.net.Epochs.{Epochs}
use Rattle.flow_net.specs.Uses.{uses_of}
use Rattle.flow_net.specs.Network.{pin_of, network_of}
use Rattle.flow_net.specs.Epochs.{epoch_at}
use Rattle.flow_net.proofs.CallerLemmas.{network-laid, use-laid}
use Rattle.stage_flow.specs.Residual.{vertex_count}
use Rattle.stage_flow.specs.Rounds.{rounds_of}
use Rattle.stage_flow.specs.LeastEpochs.{AreLeastEpochs}
use Rattle.stage_flow.specs.Given.{IsNetwork}
use Rattle.stage_flow.specs.LawsOfEpochs.{AreFarthest, rise_to, not_below, epochs_by}
use Rattle.stage_flow.specs.RoundEpochs.{span, far_from_source, least_epochs, AreLeastOfRounds, RoundsGiveLeastEpochs}
use Rattle.stage_flow.proofs.LeastLengths.{potential_of, optimal-fits, labels-least, farthest-few}
use Rattle.stage_flow.proofs.SourceLabels.{labels-are_farthest}
use Rattle.stage_flow.proofs.SourceLabelsExist.{source_labels-exist}
use Rattle.stage_flow.proofs.SolvingEpochs.{found-nothing, sink-at}
use Rattle.stage_flow.proofs.Unique.{least-unique}
use Rattle.stage_flow.proofs.SinkEpochs.{sink-late}
use Rattle.stage_flow.proofs.RoundLabels.{rounds-are_full, fewest-exist}

-- What rises alike gives the same epochs.
map-range_same : (f g : ℕ → ℕ) (from count : ℕ) → ((k : ℕ) → k < from + count → f k ≡ g k) → map f (range_with_len from count) ≡ map g (range_with_len from count)
map-range_same f g from zero same = refl
map-range_same f g from (suc count) same =
    ap (λ v. v ∷ map f (range_with_len (from + 1) count)) (same from (omega arith))
    ∙ ap (λ list. g from ∷ list) (map-range_same f g (from + 1) count (λ k low. same k (omega arith)))

epochs_by-same : (net : Net) (far far' : ℕ → ℤ) → ((vertex : ℕ) → vertex < net.gates + 2 → far vertex ≡ far' vertex) → epochs_by net far ≡ epochs_by net far'
epochs_by-same net far far' same = λ i. record {
  gates = map-range_same (λ gate. rise_to far (suc gate)) (λ gate. rise_to far' (suc gate)) 0 net.gates (λ k low. rises (suc k) (omega arith)) i;
  sink = rises (suc net.gates) (omega arith) i;
}
  where
    rises : (vertex : ℕ) → vertex < net.gates + 2 → rise_to far vertex ≡ rise_to far' vertex
    rises vertex low = λ i. not_below (same vertex low i -ℤ same 0 (omega arith) i)

-- A longest walk is as long as its label says.
far-is_label : (net : Net) (flow : Flow) (far : ℕ → ℤ) → AreFarthest net flow far → (vertex : ℕ) → vertex < net.gates + 2 → far_from_source net flow vertex ≡ far vertex
far-is_label net flow far farthest vertex low =
    let (reach, found, long) = farthest.attained vertex low in
    ap span found ∙ long

pub cons-some : (one : Use) (uses : List Use) → one ∷ uses ≡ [] → ⊥
cons-some one uses e = absurd (cc)

-- Behind the gates each vertex has the sink's epoch.
low-everywhere : (whole : Net) (far : ℕ → ℤ) → ((vertex : ℕ) → vertex < whole.gates + 2 → epoch_at (epochs_by whole far) vertex < vertex_count whole) → (vertex : ℕ) → epoch_at (epochs_by whole far) vertex < vertex_count whole
low-everywhere whole far few vertex =
    let epochs = epochs_by whole far in
    let count = length-map-range_with_len (λ gate. rise_to far (suc gate)) 0 whole.gates in
    ⊎_elim {C = epoch_at epochs vertex < vertex_count whole} (λ (within : vertex < whole.gates + 2). few vertex within)
    (λ (past : whole.gates + 2 ≤ vertex).
    omega (arith, sink-at epochs vertex (omega (arith, count)), sink-at epochs (whole.gates + 1) (omega (arith, count)), few (whole.gates + 1) (omega arith)))
    (cases_lt vertex (whole.gates + 2))

-- Where there is a use there is a driver.
some-driver : (net : GateNet) (phases : List ℕ) → IsGateNet net → uses_of net ≢ [] → 0 < (network_of net phases).drivers
some-driver net phases formed some = by (uses_of net) refl
  where
    by : (uses : List Use) → uses_of net ≡ uses → 0 < (network_of net phases).drivers
    by [] none = absurd (some none)
    by (one ∷ uses) is =
        let laid = use-laid net phases formed 0 one (omega (arith, ap (λ (u : List Use). length u) is)) in
        omega (arith, laid.numbered)

pub rounds_give-least_epochs : RoundsGiveLeastEpochs
rounds_give-least_epochs net phases formed each phased = by (uses_of net) refl
  where
    by : (uses : List Use) → uses_of net ≡ uses → AreLeastOfRounds (network_of net phases) (least_epochs (network_of net phases))
    by [] none =
        let whole = network_of net phases in
        let found = found-nothing whole (rounds_of whole) (ap (map (pin_of net phases)) none) in
        let empty : (length whole.pins == 0) ≡ true = ap (λ (uses : List Use). length (map (pin_of net phases) uses) == 0) none in
        rw empty (record { least = found.least; worth = sym found.value; low = found.low; sink = omega arith })
    by (one ∷ uses) is =
        let whole = network_of net phases in
        let flow = rounds_of whole in
        let full = rounds-are_full net phases formed each in
        let (epochs, fewest, value) = fewest-exist net phases formed each in
        let fits = optimal-fits whole flow epochs (omega arith) (network-laid net phases formed) full fewest.balanced (omega (arith, ints, value)) in
        let some = λ (none : uses_of net ≡ []). cons-some one uses (sym is ∙ none) in
        let (far, hops, labels, further) = source_labels-exist net phases flow (potential_of whole epochs) formed each some fits in
        let (least, worth) = labels-least net phases flow far hops formed each some full labels in
        let driven : 0 < whole.drivers = some-driver net phases formed some in
        let farthest = labels-are_farthest whole flow far hops labels in
        let few = farthest-few net phases flow far farthest in
        let there : (length whole.pins == 0) ≡ false = ap (λ (uses : List Use). length (map (pin_of net phases) uses) == 0) is ∙ ne_eqb (suc (length (map (pin_of net phases) uses))) 0 (λ e. absurd (omega (arith, e))) in
        let same : epochs_by whole far ≡ epochs_by whole (far_from_source whole flow) = epochs_by-same whole far (far_from_source whole flow) (λ v low. sym (far-is_label whole flow far farthest v low)) in
        rw there (subst (AreLeastOfRounds whole) same (record { least = least; worth = worth; low = low-everywhere whole far few; sink = sink-late net phases (epochs_by whole far) formed each phased driven least.optimal.balanced }))

-- So epochs that are the least optimal ones are those.
pub least-are_of_rounds : (net : Net) (epochs : Epochs) → IsNetwork net → AreLeastEpochs net epochs → epochs ≡ least_epochs net
least-are_of_rounds net epochs is least =
    let found = rounds_give-least_epochs is.gates is.phases is.formed.formed is.used is.formed.phased in
    least-unique net epochs (least_epochs net) least (subst (λ (n : Net). AreLeastEpochs n (least_epochs n)) (sym is.is) found.least)
