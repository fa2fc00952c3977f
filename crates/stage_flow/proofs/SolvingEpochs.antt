-- What is found after all rounds: the least optimal epochs, which cost as many DROs as the flow is worth, and are below the number of
-- vertices.
use Rattle.std.proofs.Common.{◌≡◌, ◌≢◌, ◌<◌, ◌≤◌, ◌+◌, ◌^◌, ◌∙◌, ℕ, zero, suc, ℤ, pos, List, [], ◌∷◌, ◌++◌, length, get_or, map, replicate, sum, refl, sym, ap, subst, arith, ⊎_elim}
use Rattle.std.specs.List.{range_with_len}
use Rattle.std.proofs.lemmas.Bool.{cases_lt}
use Rattle.std.proofs.lemmas.List.{get_or_past}
use Rattle.std.proofs.lemmas.List.FromFn.{length-map-range_with_len, map-range_with_len_more}
use Rattle.flow_net.specs.declared.net.Net.{Net}
use Rattle.flow_net.specs.declared.net.Flow.{Flow}
use Rattle.flow_net.specs.declared.net.Epochs.{Epochs}
use Rattle.flow_net.specs.Uses.{uses_of}
use Rattle.flow_net.specs.Network.{pin_of, network_of}
use Rattle.flow_net.specs.Arcs.{arcs_from}
use Rattle.flow_net.specs.Flows.{IsFullFlow, value_on, flow_value}
use Rattle.flow_net.specs.Epochs.{epoch_at, chain_lengths, dro_count}
use Rattle.stage_flow.specs.Residual.{vertex_count}
use Rattle.stage_flow.specs.LeastEpochs.{AreLeastEpochs}
use Rattle.stage_flow.specs.Given.{IsNetwork}
use Rattle.stage_flow.specs.RoundEpochs.{epochs_of_nothing}
use Rattle.stage_flow.specs.LawsOfEpochs.{AreLabelsFromSource, rise_to, epochs_by}
use Rattle.stage_flow.proofs.Supply.{epoch_at-epochs_by, supplied-rise}
use Rattle.stage_flow.proofs.SourceLabels.{labels-are_farthest}
use Rattle.stage_flow.proofs.LeastLengths.{fitting-optimal, farthest-least, farthest-few, nothing-least, sum-no_chains}
use Rattle.stage_flow.proofs.ProgressNetworks.{vertices-few}

-- epochs are the least optimal ones, cost what the flow is worth, and are low
pub record AreFound (net : Net) (flow : Flow) (epochs : Epochs) : Type 0 where
  pub least : AreLeastEpochs net epochs
  pub value : flow_value net flow ≡ pos (dro_count net epochs)
  pub low : (vertex : ℕ) → epoch_at epochs vertex < vertex_count net

-- Epochs gate by gate.
pub rises-push : (rise : ℕ → ℕ) (items more : List ℕ) (gate own : ℕ) → items ≡ map (λ k. rise (suc k)) (range_with_len 0 gate) → own ≡ rise (suc gate) → more ≡ items ++ own ∷ [] → more ≡ map (λ k. rise (suc k)) (range_with_len 0 (gate + 1))
rises-push rise items more gate own before is pushed =
    let last : 0 + gate ≡ gate = omega arith in
    pushed
    ∙ ap (λ list. list ++ own ∷ []) before
    ∙ ap (λ v. map (λ k. rise (suc k)) (range_with_len 0 gate) ++ v ∷ []) is
    ∙ sym (map-range_with_len_more (λ k. rise (suc k)) 0 gate gate last)

-- Behind the gates each vertex has the sink's epoch.
pub sink-at : (epochs : Epochs) (vertex : ℕ) → length epochs.gates < vertex → epoch_at epochs vertex ≡ epochs.sink
sink-at epochs zero past = absurd (omega arith)
sink-at epochs (suc k) past = get_or_past epochs.gates k epochs.sink (omega arith)

pub found-by_lengths : (net : Net) (flow : Flow) (far : ℕ → ℤ) (hops : ℕ → ℕ) → IsNetwork net → net.pins ≢ [] → IsFullFlow net flow → AreLabelsFromSource net flow far hops → AreFound net flow (epochs_by net far)
found-by_lengths net flow far hops is some full labels =
    let n = network_of is.gates is.phases in
    let used : uses_of is.gates ≢ [] = λ (none : uses_of is.gates ≡ []). some (ap (λ (m : Net). m.pins) is.is ∙ ap (map (pin_of is.gates is.phases)) none) in
    subst (λ (m : Net). AreFound m flow (epochs_by m far)) (sym is.is)
    (found n refl used (subst (λ (m : Net). IsFullFlow m flow) is.is full) (subst (λ (m : Net). AreLabelsFromSource m flow far hops) is.is labels))
  where
    found : (n : Net) → n ≡ network_of is.gates is.phases → uses_of is.gates ≢ [] → IsFullFlow (network_of is.gates is.phases) flow → AreLabelsFromSource (network_of is.gates is.phases) flow far hops
        → AreFound (network_of is.gates is.phases) flow (epochs_by (network_of is.gates is.phases) far)
    found n same used full labels =
        let m = network_of is.gates is.phases in
        let epochs = epochs_by m far in
        let formed = is.formed.formed in
        let farthest = labels-are_farthest m flow far hops labels in
        let rises = supplied-rise is.gates is.phases flow far formed is.used used farthest.fits in
        let both = fitting-optimal is.gates is.phases flow far epochs formed full farthest.fits rises in
        let low = farthest-few is.gates is.phases flow far farthest in
        let each = length-map-range_with_len (λ gate. rise_to far (suc gate)) 0 m.gates in
        record {
          least = farthest-least is.gates is.phases flow far formed is.used used full farthest;
          value = sym both.1;
          low = λ vertex.
              ⊎_elim {C = epoch_at epochs vertex < vertex_count m} (λ (within : vertex < m.gates + 2). low vertex within)
              (λ (past : m.gates + 2 ≤ vertex).
              omega (arith, sink-at epochs vertex (omega (arith, each)), sink-at epochs (m.gates + 1) (omega (arith, each)), low (m.gates + 1) (omega arith)))
              (cases_lt vertex (m.gates + 2));
        }

-- The lengths fit the epochs' numbers.
pub rises-few : (net : Net) (flow : Flow) (far : ℕ → ℤ) (hops : ℕ → ℕ) → IsNetwork net → net.pins ≢ [] → IsFullFlow net flow → AreLabelsFromSource net flow far hops → (vertex : ℕ) → vertex < net.gates + 2 → rise_to far vertex < 2 ^ 32
rises-few net flow far hops is some full labels vertex within =
    let found = found-by_lengths net flow far hops is some full labels in
    omega (arith, found.low vertex, epoch_at-epochs_by net far vertex within, vertices-few net is)

-- ---- Without pins
zero-or_one : (n k : ℕ) → get_or (replicate {A = ℕ} n 0) k 1 ≤ 1
zero-or_one zero k = omega arith
zero-or_one (suc n) zero = omega arith
zero-or_one (suc n) (suc k) = zero-or_one n k

low-nothing : (net : Net) (vertex : ℕ) → epoch_at (epochs_of_nothing net) vertex < vertex_count net
low-nothing net zero = omega arith
low-nothing net (suc k) = omega (arith, zero-or_one net.gates k)

pub found-nothing : (net : Net) (flow : Flow) → net.pins ≡ [] → AreFound net flow (epochs_of_nothing net)
found-nothing net flow none =
    let epochs = epochs_of_nothing net in
    let free : dro_count net epochs ≡ 0 = ap (λ pins. sum (chain_lengths epochs pins net.drivers)) none ∙ sum-no_chains epochs net.drivers in
    let worthless : flow_value net flow ≡ pos 0 = ap (λ pins. value_on flow (arcs_from net 0 pins)) none in
    record {
      least = nothing-least net none;
      value = worthless ∙ ap pos (sym free);
      low = low-nothing net;
    }
