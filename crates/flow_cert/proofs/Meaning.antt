-- A yes means the fewest DROs. Without a cause there are units for each pin, each pin has its gap, each vertex has what it
-- wants, so the flow is full, and it is worth what the epochs cost. By weak duality it is worth no more than what any
-- balanced epochs cost, so none cost less.
use Rattle.std.proofs.Common.{◌≡◌, ◌<◌, ◌≤◌, ◌+◌, ◌==◌, ◌∙◌, ℕ, zero, suc, ℤ, pos, ◌-ℤ◌, Bool, true, false, cond, nat_lt, Some, None, List, [], ◌∷◌, length, get_or, All, refl, sym, ap, subst, arith, ⊎_elim}
use Rattle.std.specs.Prelude.{Option}
use Rattle.std.specs.Ordering.{int_eq}
use Rattle.std.proofs.lemmas.Bool.{cases_lt}
use Rattle.std.proofs.lemmas.Bool.Decides.{nat_tests, Decides-int_eq}
use Rattle.std.proofs.lemmas.Int.{ints}
use Rattle.std.proofs.lemmas.List.Elements.{All-nil, All-cons}
use Rattle.flow_net.specs.declared.net.Pin.{Pin}
use Rattle.flow_net.specs.declared.net.Net.{Net}
use Rattle.flow_net.specs.declared.net.Flow.{Flow}
use Rattle.flow_net.specs.declared.net.Epochs.{Epochs}
use Rattle.flow_net.specs.Network.{network_of}
use Rattle.flow_net.specs.Arcs.{Arc, forward_arc, back_arc, arcs_from, arcs_of}
use Rattle.flow_net.specs.Flows.{units_on, units_out, units_in, out_minus_in, wants, flow_value, IsFullFlow}
use Rattle.flow_net.specs.Epochs.{epoch_at, dro_count, IsPinBalanced, IsBalanced, HasFewestDros}
use Rattle.flow_net.proofs.CallerLemmas.{total, IsLaid, network-laid, value-le_count, sum-is_total}
use Rattle.flow_cert.specs.declared.verdict.Cause.{Cause}
use Rattle.flow_cert.specs.declared.verdict.Cause.TheVariants.{Length, Unbalanced, Balance, Value}
use Rattle.flow_cert.specs.declared.verdict.Verdict.TheVariants.{Fewest}
use Rattle.flow_cert.specs.Verdicts.{length_cause, gap_of, pin_cause, vertices, vertex_cause, value_cause, first_of, cause_of, verdict_by}
use Rattle.flow_cert.specs.Meaning.{IsNetwork, Means, AYesMeansFewest}
use Rattle.flow_cert.proofs.Bounds.{laid-starts}

-- ---- Without a cause
some-is_no_none : {X : Type 0} (x : X) → Some x ≡ None → ⊥
some-is_no_none x e = absurd (cc)

first_of-none : (one later : Option Cause) → first_of one later ≡ None → (one ≡ None) × (later ≡ None)
first_of-none None later e = (refl, e)
first_of-none (Some cause) later e = absurd (some-is_no_none cause e)

none-passed : (b : Bool) (cause : Cause) → cond b None (Some cause) ≡ None → b ≡ true
none-passed true cause e = refl
none-passed false cause e = absurd (some-is_no_none cause e)

-- Pins without a cause are balanced,
pins-balanced : (epochs : Epochs) (place : ℕ) (pins : List Pin) → pin_cause epochs place pins ≡ None → All (IsPinBalanced epochs) pins
pins-balanced epochs place [] e = All-nil (IsPinBalanced epochs)
pins-balanced epochs place (pin ∷ pins) e =
    let both = by (nat_lt (epoch_at epochs pin.to) (epoch_at epochs pin.from + pin.weight)) (Unbalanced place (gap_of epochs pin) pin.weight) (pin_cause epochs (place + 1) pins) e in
    let gap : epoch_at epochs pin.from + pin.weight ≤ epoch_at epochs pin.to = reached (epoch_at epochs pin.to) (epoch_at epochs pin.from + pin.weight) both.0 in
    All-cons (IsPinBalanced epochs) pin pins gap (pins-balanced epochs (place + 1) pins both.1)
  where
    by : (b : Bool) (cause : Cause) (rest : Option Cause) → cond b (Some cause) rest ≡ None → (b ≡ false) × (rest ≡ None)
    by true cause rest e = absurd (some-is_no_none cause e)
    by false cause rest e = (refl, e)

    reached : (a b : ℕ) → nat_lt a b ≡ false → b ≤ a
    reached a b test = grind (arith, nat_tests)

int_eq-same : (x y : ℤ) → int_eq x y ≡ true → x ≡ y
int_eq-same x y e = (Decides-int_eq x y).0 e

-- and vertices without a cause have what they want,
vertices-have : (net : Net) (flow : Flow) (vertex more : ℕ) → vertex_cause net flow vertex more ≡ None → (k : ℕ) → k < more → out_minus_in net flow (vertex + k) ≡ wants net (vertex + k)
vertices-have net flow vertex zero e k low = absurd (omega arith)
vertices-have net flow vertex (suc more) e zero low =
    let both = by (int_eq (out_minus_in net flow vertex) (wants net vertex)) (Balance vertex (out_minus_in net flow vertex) (wants net vertex)) (vertex_cause net flow (vertex + 1) more) e in
    let same : vertex ≡ vertex + 0 = omega arith in
    subst (λ v. out_minus_in net flow v ≡ wants net v) same (int_eq-same (out_minus_in net flow vertex) (wants net vertex) both.0)
  where
    by : (b : Bool) (cause : Cause) (rest : Option Cause) → cond b rest (Some cause) ≡ None → (b ≡ true) × (rest ≡ None)
    by true cause rest e = (refl, e)
    by false cause rest e = absurd (some-is_no_none cause e)
vertices-have net flow vertex (suc more) e (suc k) low =
    let rest = by (int_eq (out_minus_in net flow vertex) (wants net vertex)) (Balance vertex (out_minus_in net flow vertex) (wants net vertex)) (vertex_cause net flow (vertex + 1) more) e in
    let same : vertex + 1 + k ≡ vertex + suc k = omega arith in
    subst (λ v. out_minus_in net flow v ≡ wants net v) same (vertices-have net flow (vertex + 1) more rest k (omega arith))
  where
    by : (b : Bool) (cause : Cause) (rest : Option Cause) → cond b rest (Some cause) ≡ None → rest ≡ None
    by true cause rest e = e
    by false cause rest e = absurd (some-is_no_none cause e)

-- ---- Beyond the vertices
apart : (a b : ℕ) → a < b → (a == b) ≡ false
apart a b low = grind (arith, nat_tests)

past-total : (flow : Flow) (end : Arc → ℕ) (bound vertex : ℕ) (net : Net) (place : ℕ) (pins : List Pin) → bound ≤ vertex
    → ((at : ℕ) (k : ℕ) (d : Pin) → k < length pins → (end (forward_arc at (get_or pins k d)) < bound) × (end (back_arc net at (get_or pins k d)) < bound))
    → total (λ arc. cond (end arc == vertex) (units_on flow arc) 0) (arcs_from net place pins) ≡ 0
past-total flow end bound vertex net place [] far low = refl
past-total flow end bound vertex net place (pin ∷ pins) far low =
    let own = low place 0 pin (omega arith) in
    let first = apart (end (forward_arc place pin)) vertex (omega (arith, own.0)) in
    let second = apart (end (back_arc net place pin)) vertex (omega (arith, own.1)) in
    let one = ap (λ b. cond b (units_on flow (forward_arc place pin)) 0) first in
    let two = ap (λ b. cond b (units_on flow (back_arc net place pin)) 0) second in
    omega (arith, one, two, past-total flow end bound vertex net (place + 1) pins far (λ at k d within. low at (suc k) d (omega arith)))

wants-past : (net : Net) (vertex : ℕ) → vertices net ≤ vertex → wants net vertex ≡ pos 0
wants-past net zero far = absurd (omega arith)
wants-past net (suc k) far =
    let gate : nat_lt k net.gates ≡ false = grind (arith, nat_tests) in
    let sink : (k == net.gates) ≡ false = grind (arith, nat_tests) in
    let mirror : nat_lt k (net.gates + 1 + net.drivers) ≡ false = grind (arith, nat_tests) in
    rw (gate, sink, mirror) refl

-- No arc ends beyond the vertices, and nothing is wanted there.
past-has : (net : Net) (flow : Flow) (vertex : ℕ) → net.gates ≤ net.drivers → All (IsLaid net) net.pins → vertices net ≤ vertex → out_minus_in net flow vertex ≡ wants net vertex
past-has net flow vertex few laid far =
    let out : units_out net flow vertex ≡ 0 =
    sum-is_total (λ arc. cond (arc.tail == vertex) (units_on flow arc) 0) (arcs_of net)
    ∙ past-total flow (λ arc. arc.tail) (vertices net) vertex net 0 net.pins far
    (λ at k d within.
    let pin = get_or net.pins k d in
    let from = laid-starts net pin few (laid k d within) in
    let to = (laid k d within).ends in
    (omega (arith, from), omega (arith, to))) in
    let into : units_in net flow vertex ≡ 0 =
    sum-is_total (λ arc. cond (arc.head == vertex) (units_on flow arc) 0) (arcs_of net)
    ∙ past-total flow (λ arc. arc.head) (vertices net) vertex net 0 net.pins far
    (λ at k d within.
    let pin = get_or net.pins k d in
    let to = (laid k d within).ends in
    let numbered = (laid k d within).numbered in
    (omega (arith, to), omega (arith, numbered))) in
    let none : pos (units_out net flow vertex) -ℤ pos (units_in net flow vertex) ≡ pos 0 = omega (arith, ints, out, into) in
    none ∙ sym (wants-past net vertex far)

-- ---- Together
module _ (net : Net) (epochs : Epochs) (flow : Flow) (few : net.gates ≤ net.drivers) (laid : All (IsLaid net) net.pins) (each : length epochs.gates ≡ net.gates) where
  fewest : cause_of net epochs flow ≡ None → HasFewestDros net epochs
  fewest none =
      let lines = first_of-none (length_cause net flow) (first_of (pin_cause epochs 0 net.pins) (first_of (vertex_cause net flow 0 (vertices net)) (value_cause (flow_value net flow) (dro_count net epochs)))) none in
      let gaps = first_of-none (pin_cause epochs 0 net.pins) (first_of (vertex_cause net flow 0 (vertices net)) (value_cause (flow_value net flow) (dro_count net epochs))) lines.1 in
      let balances = first_of-none (vertex_cause net flow 0 (vertices net)) (value_cause (flow_value net flow) (dro_count net epochs)) gaps.1 in
      let balanced : IsBalanced net epochs = record { each = each; pins = pins-balanced epochs 0 net.pins gaps.0 } in
      let lines_test = none-passed (length flow.pins == length net.pins) (Length (length flow.pins) (length net.pins)) lines.0 in
      let full : IsFullFlow net flow = record { each = same (length flow.pins) (length net.pins) lines_test; wanted = at (vertices-have net flow 0 (vertices net) balances.0) } in
      let worth = int_eq-same (flow_value net flow) (pos (dro_count net epochs)) (none-passed (int_eq (flow_value net flow) (pos (dro_count net epochs))) (Value (flow_value net flow) (pos (dro_count net epochs))) balances.1) in
      record {
        balanced = balanced;
        fewest = λ others other. omega (arith, ints, worth, value-le_count net flow others few laid full other);
      }
    where
      same : (a b : ℕ) → (a == b) ≡ true → a ≡ b
      same a b test = grind (arith, nat_tests)

      at : ((k : ℕ) → k < vertices net → out_minus_in net flow (0 + k) ≡ wants net (0 + k)) → (vertex : ℕ) → out_minus_in net flow vertex ≡ wants net vertex
      at have vertex =
          ⊎_elim {C = out_minus_in net flow vertex ≡ wants net vertex}
          (λ low. let same : 0 + vertex ≡ vertex = omega arith in subst (λ v. out_minus_in net flow v ≡ wants net v) same (have vertex low))
          (past-has net flow vertex few laid)
          (cases_lt vertex (vertices net))

means : (net : Net) (epochs : Epochs) (cause : Option Cause) (count : ℕ) → dro_count net epochs ≡ count → (cause ≡ None → HasFewestDros net epochs) → Means net epochs (verdict_by cause count)
means net epochs None count costs h = (h refl, costs)
means net epochs (Some cause) count costs h = tt

-- A yes means the fewest, and any other verdict means nothing.
pub a_yes-fewest : AYesMeansFewest
a_yes-fewest gates phases epochs flow formed each =
    let net = network_of gates phases in
    means net epochs (cause_of net epochs flow) (dro_count net epochs) refl
    (fewest net epochs flow (omega arith) (network-laid gates phases formed) each)

-- The same of a network that is some netlist's, with one epoch per gate: where no cause holds, the DRO count is the fewest.
pub network-yes : (net : Net) (epochs : Epochs) (flow : Flow) (count : ℕ) → IsNetwork net → length epochs.gates ≡ net.gates → count ≡ dro_count net epochs → None ≡ cause_of net epochs flow → Means net epochs (Fewest count)
network-yes net epochs flow count (gates, phases, has, is) each costs none =
    let few : net.gates ≤ net.drivers = subst (λ (n : Net). n.gates ≤ n.drivers) (sym is) (omega arith) in
    let laid : All (IsLaid net) net.pins = subst (λ (n : Net). All (IsLaid n) n.pins) (sym is) (network-laid gates phases has.formed) in
    (fewest net epochs flow few laid each (sym none), sym costs)
