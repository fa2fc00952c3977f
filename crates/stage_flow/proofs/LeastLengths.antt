-- The least optimal epochs. Optimal epochs cost what the flow is worth, so with their chains they rise by just its length on each arc
-- that carries units: they fit the residual network. Along a walk potentials that fit rise by its length or more, so no optimal epochs
-- are below the lengths of longest walks from the source. Where these lengths fit too, they are optimal themselves.
use Rattle.std.proofs.Common.{◌≡◌, ◌≢◌, ◌≤◌, ◌<◌, ◌+◌, ◌-◌, ◌∙◌, ◌⊎◌, inl, inr, ℕ, zero, suc, ℤ, pos, negsuc, ◌+ℤ◌, ◌-ℤ◌, ◌≤ℤ◌, List, [], length, get_or, All, Option, Some, IfSome, sum, replicate, refl, sym, ap, subst, arith, ⊎_elim}
use Rattle.std.proofs.lemmas.Bool.{cases_lt}
use Rattle.std.proofs.lemmas.Int.{ints}
use Rattle.std.proofs.lemmas.List.{get_or_past, get_or_default, nil_from_length, length-map, length-replicate, get_or-replicate}
use Rattle.std.proofs.lemmas.List.Sums.{sum_by_push}
use Rattle.std.proofs.lemmas.List.Elements.{All-nil}
use Rattle.gate_net.specs.declared.net.GateNet.{GateNet}
use Rattle.gate_net.specs.Net.{IsGateNet, EachGateIsUsed}
use Rattle.flow_net.specs.declared.net.Net.{Net}
use Rattle.flow_net.specs.declared.net.Flow.{Flow}
use Rattle.flow_net.specs.declared.net.Epochs.{Epochs}
use Rattle.flow_net.specs.Uses.{uses_of}
use Rattle.flow_net.specs.Network.{pin_of, network_of}
use Rattle.flow_net.specs.Arcs.{Arc, arcs_of}
use Rattle.flow_net.specs.Flows.{units_on, IsFullFlow, flow_value}
use Rattle.flow_net.specs.Epochs.{epoch_at, chain_lengths, dro_count, IsPinBalanced, IsBalanced}
use Rattle.flow_net.proofs.CallerLemmas.{IsLaid, Rises, potential, potential-vertex, potentials-rise, rise-is_count, network-laid, weights-few}
use Rattle.stage_flow.specs.Residual.{ways_of, vertex_count}
use Rattle.stage_flow.specs.Longest.{Reach, best_within}
use Rattle.stage_flow.specs.LeastEpochs.{AreNoLater, AreLeastEpochs}
use Rattle.stage_flow.specs.LawsOfEpochs.{FitsFlow, AreFarthest, AreLabelsFromSource, not_below, epochs_by, FittingPotentialsAreOptimal, LongestLengthsAreLeastEpochs, LongestLengthsAreFew, LabelsAreFew, NothingIsLeastWithoutPins}
use Rattle.stage_flow.proofs.ResidualArcs.{IsMet, met-ways, ways-met, All-arcs_by, All-ways, RisesAtMost, value-tight}
use Rattle.stage_flow.proofs.Optimum.{rises-fewest, value-is_count}
use Rattle.stage_flow.proofs.Supply.{epoch_at-epochs_by, supplied-rise}
use Rattle.stage_flow.proofs.BestWithin.{best-below, best-few}
use Rattle.stage_flow.proofs.SourceLabels.{labels-attained, labels-farthest}

-- ---- Optimal epochs fit
-- the potentials of epochs, with their chains behind them
abbrev pub potential_of : Net → Epochs → ℕ → ℤ
potential_of net epochs vertex = pos (potential net epochs vertex)

pub optimal-fits : (net : Net) (flow : Flow) (epochs : Epochs) → net.gates ≤ net.drivers → All (IsLaid net) net.pins → IsFullFlow net flow → IsBalanced net epochs → pos (dro_count net epochs) ≤ℤ flow_value net flow → FitsFlow net flow (potential_of net epochs)
optimal-fits net flow epochs few laid full balanced spent =
    let p = potential net epochs in
    let rise = potentials-rise net epochs few laid balanced in
    let count = rise-is_count net flow epochs few laid full in
    let tight = value-tight flow p (arcs_of net) rise (omega (arith, ints)) in
    ways-met flow (potential_of net epochs) (arcs_of net) (λ k d within. met (get_or (arcs_of net) k d) (rise k d within) (tight k d within))
  where
    met : (arc : Arc) → Rises (potential net epochs) arc → RisesAtMost flow (potential net epochs) arc → IsMet flow (potential_of net epochs) arc
    met arc rise low = record {
      rises = omega (arith, ints, rise);
      tight = ⊎_elim {C = (units_on flow arc ≡ 0) ⊎ (pos (potential net epochs arc.head) ≤ℤ (pos (potential net epochs arc.tail) +ℤ arc.length))} inl (λ h. inr (omega (arith, ints))) low;
    }

-- ---- Epochs, vertex by vertex
pub no-later : (gates : ℕ) (a b : Epochs) → length a.gates ≡ gates → length b.gates ≡ gates → ((vertex : ℕ) → vertex < gates + 2 → epoch_at a vertex ≤ epoch_at b vertex) → AreNoLater a b
no-later gates a b first second each = record {
  gates = λ gate.
      ⊎_elim {C = get_or a.gates gate 0 ≤ get_or b.gates gate 0}
      (λ within.
      omega (
        arith,
        each (suc gate) (omega arith),
        get_or_default a.gates gate a.sink 0 (omega arith),
        get_or_default b.gates gate b.sink 0 (omega arith),
      ))
      (λ past. omega (arith, get_or_past a.gates gate 0 (omega arith), get_or_past b.gates gate 0 (omega arith)))
      (cases_lt gate gates);
  sink =
      omega (
        arith,
        each (suc gates) (omega arith),
        get_or_past a.gates gates a.sink (omega arith),
        get_or_past b.gates gates b.sink (omega arith),
      );
}

-- ---- The laws
pub fitting-optimal : FittingPotentialsAreOptimal
fitting-optimal net phases flow p epochs formed full fits rises =
    let n = network_of net phases in
    let laid = network-laid net phases formed in
    let met = met-ways flow p (arcs_of n) fits in
    (rises-fewest n flow p epochs (omega arith) laid met rises full, value-is_count n flow p epochs (omega arith) laid met rises full)

-- what is found has what whatever is found has
found-holds : (P : Reach → Type 0) (found : Option Reach) (reach : Reach) → found ≡ Some reach → IfSome found P → P reach
found-holds P found reach is holds = subst (λ one. IfSome one P) is holds

-- No optimal epochs are below the lengths of longest walks.
pub far-below : (net : Net) (flow : Flow) (far : ℕ → ℤ) (epochs : Epochs) → FitsFlow net flow (potential_of net epochs) → AreFarthest net flow far → (vertex : ℕ) → vertex < net.gates + 2 → far vertex ≤ℤ pos (epoch_at epochs vertex)
far-below net flow far epochs fits farthest vertex within =
    let q = potential_of net epochs in
    let found = farthest.attained vertex within in
    let arcs = vertex_count net - 1 in
    let low = found-holds (λ reach. (q 0 +ℤ reach.length) ≤ℤ q vertex) (best_within (ways_of net flow) 0 arcs vertex) found.0 found.1 (best-below q (ways_of net flow) 0 arcs vertex fits) in
    omega (arith, ints, found.2, potential-vertex net epochs 0 (omega arith), potential-vertex net epochs vertex within)

pub farthest-least : LongestLengthsAreLeastEpochs
farthest-least net phases flow far formed used some full farthest =
    let n = network_of net phases in
    let laid = network-laid net phases formed in
    let epochs = epochs_by n far in
    let rises = supplied-rise net phases flow far formed used some farthest.fits in
    let both = fitting-optimal net phases flow far epochs formed full farthest.fits rises in
    record {
      optimal = both.0;
      least = λ none. absurd (some (nil_from_length (uses_of net) (omega (arith, ap length none, length-map (uses_of net) (pin_of net phases)))));
      lowest = λ other best sink.
          let spent = best.fewest epochs both.0.balanced in
          let fits = optimal-fits n flow other (omega arith) laid full best.balanced (omega (arith, ints, both.1)) in
          no-later n.gates epochs other both.0.balanced.each best.balanced.each
          (λ vertex within. omega (arith, ints, rises.rises vertex within, farthest.origin, far-below n flow far other fits farthest vertex within));
    }

-- What a search from the source finds, over the residual network of a full flow: the least epochs, which cost what the flow is worth.
pub labels-least : (net : GateNet) (phases : List ℕ) (flow : Flow) (far : ℕ → ℤ) (hops : ℕ → ℕ) → IsGateNet net → EachGateIsUsed net → uses_of net ≢ [] → IsFullFlow (network_of net phases) flow → AreLabelsFromSource (network_of net phases) flow far hops
    → AreLeastEpochs (network_of net phases) (epochs_by (network_of net phases) far) × (pos (dro_count (network_of net phases) (epochs_by (network_of net phases) far)) ≡ flow_value (network_of net phases) flow)
labels-least net phases flow far hops formed used some full labels =
    let n = network_of net phases in
    let rises = supplied-rise net phases flow far formed used some labels.fits in (
      farthest-least net phases flow far formed used some full (labels-farthest n flow far hops labels),
      (fitting-optimal net phases flow far (epochs_by n far) formed full labels.fits rises).1,
    )

-- No residual arc is longer than 1.
short-ways : (net : GateNet) (phases : List ℕ) (flow : Flow) → All (λ way. way.length ≤ℤ pos 1) (ways_of (network_of net phases) flow)
short-ways net phases flow =
    let n = network_of net phases in
    let P = λ (arc : Arc). (arc.length ≤ℤ pos 1) × (negsuc 0 ≤ℤ arc.length) in
    All-ways P (λ way. way.length ≤ℤ pos 1) flow (λ arc h. (h.0, omega (arith, ints, h.1))) (arcs_of n)
    (All-arcs_by (λ arc. Unit {0}) P (λ pin. pin.weight ≤ 1) n
    (λ at pin light forward back. ((omega (arith, ints), omega (arith, ints)), (omega (arith, ints), omega (arith, ints))))
    0 n.pins (weights-few net phases) (λ k d within. tt))

not_below-le : (z : ℤ) (n : ℕ) → z ≤ℤ pos n → not_below z ≤ n
not_below-le (pos m) n low = omega (arith, ints)
not_below-le (negsuc m) n low = omega arith

pub farthest-few : LongestLengthsAreFew
farthest-few net phases flow far farthest vertex within =
    let n = network_of net phases in
    let arcs = vertex_count n - 1 in
    let found = farthest.attained vertex within in
    let low = found-holds (λ reach. reach.length ≤ℤ pos arcs) (best_within (ways_of n flow) 0 arcs vertex) found.0 found.1 (best-few (ways_of n flow) 0 arcs vertex (short-ways net phases flow)) in
    let few = not_below-le (far vertex -ℤ far 0) arcs (omega (arith, ints, found.2, farthest.origin)) in
    omega (arith, epoch_at-epochs_by n far vertex within)

pub labels-few : LabelsAreFew
labels-few net phases flow far hops labels vertex within =
    let n = network_of net phases in
    let arcs = vertex_count n - 1 in
    let found = labels-attained n flow far hops labels vertex within in
    let low = found-holds (λ reach. reach.length ≤ℤ pos arcs) (best_within (ways_of n flow) 0 arcs vertex) found.0 found.1 (best-few (ways_of n flow) 0 arcs vertex (short-ways net phases flow)) in
    omega (arith, ints, found.2)

-- ---- Without pins
pub sum-no_chains : (epochs : Epochs) (drivers : ℕ) → sum (chain_lengths epochs [] drivers) ≡ 0
sum-no_chains epochs zero = refl
sum-no_chains epochs (suc drivers) = omega (arith, sum-no_chains epochs drivers, sum_by_push (λ x. x) (chain_lengths epochs [] drivers) 0)

pub nothing-least : NothingIsLeastWithoutPins
nothing-least net none =
    let zeros : List ℕ = replicate net.gates 0 in
    let epochs : Epochs = record { gates = zeros; sink = 1 } in
    let free : dro_count net epochs ≡ 0 = ap (λ pins. sum (chain_lengths epochs pins net.drivers)) none ∙ sum-no_chains epochs net.drivers in
    record {
      optimal = record {
        balanced = record {
          each = length-replicate {A = ℕ} net.gates 0;
          pins = subst (All (IsPinBalanced epochs)) (sym none) (All-nil (IsPinBalanced epochs));
        };
        fewest = λ other balanced. omega arith;
      };
      least = λ empty. refl;
      lowest = λ other best sink.
          record {
            gates = λ gate.
                ⊎_elim {C = get_or zeros gate 0 ≤ get_or other.gates gate 0}
                (λ within. omega (arith, get_or-replicate {A = ℕ} net.gates gate 0 0 within))
                (λ past. omega (arith, get_or_past zeros gate 0 (omega (arith, length-replicate {A = ℕ} net.gates 0))))
                (cases_lt gate net.gates);
            sink = omega (arith, sink none);
          };
    }
