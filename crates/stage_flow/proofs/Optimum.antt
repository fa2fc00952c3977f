-- Complementary slackness. Epochs that are counted off potentials which fit a full flow are balanced, and the flow is worth as much
-- as they cost; so by weak duality no balanced epochs cost less. The mirror of a driver has a potential that no pin's need passes, so
-- the driver's chain ends below it; where a back arc carries units the chain ends just there, since the arc is tight. So on each arc
-- with units the epochs, with chains behind them, rise by the arc's length, and the flow is worth what it gains: the DRO count.
use Rattle.std.proofs.Common.{◌≡◌, ◌≤◌, ◌<◌, ◌+◌, ◌==◌, inl, inr, ℕ, ℤ, pos, ◌+ℤ◌, ◌-ℤ◌, ◌≤ℤ◌, Bool, true, false, cond, max, List, [], ◌∷◌, get_or, All, refl, ap, arith, ⊎_elim}
use Rattle.std.proofs.lemmas.Bool.Decides.{nat_tests}
use Rattle.std.proofs.lemmas.Int.{ints}
use Rattle.std.proofs.lemmas.List.Elements.{All-head, All-tail, All-weaker}
use Rattle.flow_net.specs.declared.net.Pin.{Pin}
use Rattle.flow_net.specs.declared.net.Net.{Net}
use Rattle.flow_net.specs.declared.net.Flow.{Flow}
use Rattle.flow_net.specs.declared.net.Epochs.{Epochs}
use Rattle.flow_net.specs.Arcs.{mirror_of, forward_arc, back_arc, arcs_of}
use Rattle.flow_net.specs.Flows.{IsFullFlow, flow_value}
use Rattle.flow_net.specs.Epochs.{epoch_at, need_of, chain_length, dro_count, IsPinBalanced, IsBalanced, HasFewestDros}
use Rattle.flow_net.proofs.CallerLemmas.{home, IsLaid, potential, potential-vertex, potential-mirror, rise-is_count, value-le_count, home-low}
use Rattle.stage_flow.specs.LawsOfEpochs.{AreRises}
use Rattle.stage_flow.proofs.ResidualArcs.{IsMet, All-pins, All-arcs_by, RisesAtMost, rise-le_value}

pub from-below : (net : Net) → net.gates ≤ net.drivers → (pin : Pin) → IsLaid net pin → pin.from < net.gates + 2
from-below net few pin laid = omega (arith, laid.starts, home-low net pin.driver few laid.numbered)

-- A chain ends below a bound that the driver and each of its pins' needs are below.
pub chain-below : (epochs : Epochs) (driver base : ℕ) (bound : ℤ) → pos base ≤ℤ bound → (pins : List Pin) → All (λ pin. pin.driver ≡ driver → pos (base + need_of epochs pin) ≤ℤ bound) pins
    → pos (base + chain_length epochs pins driver) ≤ℤ bound
chain-below epochs driver base bound low [] needs = omega (arith, ints)
chain-below epochs driver base bound low (pin ∷ pins) needs =
    by (pin.driver == driver) refl (need_of epochs pin) (chain_length epochs pins driver)
    (All-head (λ one. one.driver ≡ driver → pos (base + need_of epochs one) ≤ℤ bound) pin pins needs)
    (chain-below epochs driver base bound low pins (All-tail (λ one. one.driver ≡ driver → pos (base + need_of epochs one) ≤ℤ bound) pin pins needs))
  where
    by : (b : Bool) → (pin.driver == driver) ≡ b → (need rest : ℕ) → (pin.driver ≡ driver → pos (base + need) ≤ℤ bound) → pos (base + rest) ≤ℤ bound → pos (base + cond b (max need rest) rest) ≤ℤ bound
    by true e need rest own behind = let same : pin.driver ≡ driver = grind (arith, nat_tests) in let h = own same in omega (arith, ints)
    by false e need rest own behind = behind

module _ (net : Net) (flow : Flow) (p : ℕ → ℤ) (epochs : Epochs) (few : net.gates ≤ net.drivers) (laid : All (IsLaid net) net.pins) (met : All (IsMet flow p) (arcs_of net)) (rises : AreRises net p epochs) where
  abbrev arcs_met : Pin → Type 0
  arcs_met pin = (at : ℕ) × IsMet flow p (forward_arc at pin) × IsMet flow p (back_arc net at pin)

  pin-balanced : (pin : Pin) → IsLaid net pin → arcs_met pin → IsPinBalanced epochs pin
  pin-balanced pin own arcs =
      let from = rises.rises pin.from (from-below net few pin own) in
      let to = rises.rises pin.to own.ends in
      omega (arith, ints, arcs.1.rises)

  pub rises-balanced : IsBalanced net epochs
  rises-balanced = record {
    each = rises.each;
    pins = λ k d within. pin-balanced (get_or net.pins k d) (laid k d within) (All-pins (IsMet flow p) net 0 net.pins met k d within);
  }

  -- No need passes the mirror's potential.
  need-low : (pin : Pin) → IsLaid net pin → arcs_met pin → (pos (epoch_at epochs (home net pin.driver) + need_of epochs pin) +ℤ p 0) ≤ℤ p (mirror_of net pin.driver)
  need-low pin own arcs =
      let from = rises.rises pin.from (from-below net few pin own) in
      let to = rises.rises pin.to own.ends in
      let same : epoch_at epochs pin.from ≡ epoch_at epochs (home net pin.driver) = ap (epoch_at epochs) own.starts in
      let gap = pin-balanced pin own arcs in
      omega (arith, ints, arcs.2.rises)

  needs-low : All (λ pin. (pos (epoch_at epochs (home net pin.driver) + need_of epochs pin) +ℤ p 0) ≤ℤ p (mirror_of net pin.driver)) net.pins
  needs-low k d within = need-low (get_or net.pins k d) (laid k d within) (All-pins (IsMet flow p) net 0 net.pins met k d within)

  -- So no chain does, where the driver has a pin.
  chain-low : (pin : Pin) → IsLaid net pin → arcs_met pin → (pos (epoch_at epochs (home net pin.driver) + chain_length epochs net.pins pin.driver) +ℤ p 0) ≤ℤ p (mirror_of net pin.driver)
  chain-low pin own arcs =
      let base = epoch_at epochs (home net pin.driver) in
      let bound = p (mirror_of net pin.driver) -ℤ p 0 in
      let low = need-low pin own arcs in
      let all = chain-below epochs pin.driver base bound (omega (arith, ints)) net.pins
      (All-weaker (λ one. (pos (epoch_at epochs (home net one.driver) + need_of epochs one) +ℤ p 0) ≤ℤ p (mirror_of net one.driver))
      (λ one. one.driver ≡ pin.driver → pos (base + need_of epochs one) ≤ℤ bound)
      (λ one h same.
      let e = ap (λ driver. epoch_at epochs (home net driver)) same in
      let m = ap (λ driver. p (mirror_of net driver)) same in
      omega (arith, ints)) net.pins needs-low) in
      omega (arith, ints)

  -- Where units are, the epochs rise by the arc's length or less.
  at-most : (at : ℕ) (pin : Pin) → IsLaid net pin → IsMet flow p (forward_arc at pin) → IsMet flow p (back_arc net at pin) → RisesAtMost flow (potential net epochs) (forward_arc at pin) × RisesAtMost flow (potential net epochs) (back_arc net at pin)
  at-most at pin own forward back =
      let from = rises.rises pin.from (from-below net few pin own) in
      let to = rises.rises pin.to own.ends in
      let from_is : potential net epochs pin.from ≡ epoch_at epochs pin.from = potential-vertex net epochs pin.from (from-below net few pin own) in
      let to_is : potential net epochs pin.to ≡ epoch_at epochs pin.to = potential-vertex net epochs pin.to own.ends in
      let mirror_is = potential-mirror net epochs pin.driver in
      let chain = chain-low pin own (at, forward, back) in (
        ⊎_elim {C = RisesAtMost flow (potential net epochs) (forward_arc at pin)} inl (λ tight. inr (omega (arith, ints))) forward.tight,
        ⊎_elim {C = RisesAtMost flow (potential net epochs) (back_arc net at pin)} inl (λ tight. inr (omega (arith, ints))) back.tight,
      )

  pub value-is_count : IsFullFlow net flow → pos (dro_count net epochs) ≡ flow_value net flow
  value-is_count full =
      let low = rise-le_value flow (potential net epochs) (arcs_of net) (All-arcs_by (IsMet flow p) (RisesAtMost flow (potential net epochs)) (IsLaid net) net at-most 0 net.pins laid met) in
      let rise = rise-is_count net flow epochs few laid full in
      let high = value-le_count net flow epochs few laid full rises-balanced in
      omega (arith, ints)

  pub rises-fewest : IsFullFlow net flow → HasFewestDros net epochs
  rises-fewest full = record {
    balanced = rises-balanced;
    fewest = λ other balanced.
        let most = value-le_count net flow other few laid full balanced in
        let same = value-is_count full in
        omega (arith, ints);
  }
