-- The arcs of one pin more: what they add to the balances of vertices, and to the value of a flow.
use Rattle.std.proofs.Common.{◌≡◌, ◌<◌, ◌≤◌, ◌+◌, ◌*◌, ◌==◌, ◌∙◌, ℕ, zero, suc, ℤ, pos, ◌+ℤ◌, ◌-ℤ◌, ◌*ℤ◌, Bool, true, false, cond, Some, List, [], ◌∷◌, length, get_or, drop, refl, ap, arith}
use Rattle.std.specs.List.{flat_map}
use Rattle.std.specs.Ordering.{int_eq}
use Rattle.std.proofs.lemmas.Int.{ints}
use Rattle.flow_net.specs.declared.net.Pin.{Pin}
use Rattle.flow_net.specs.declared.net.Net.{Net}
use Rattle.flow_net.specs.declared.net.Units.{Units}
use Rattle.flow_net.specs.declared.net.Flow.{Flow}
use Rattle.flow_net.specs.Arcs.{Arc, forward_arc, back_arc, arcs_from, arcs_of, mirror_of}
use Rattle.flow_net.specs.Flows.{pin_units, units_on, units_out, units_in, out_minus_in, wants, value_on}
use Rattle.flow_net.proofs.CallerLemmas.{total, sum-is_total}
use Rattle.flow_cert.specs.declared.verdict.Cause.TheVariants.{Balance}
use Rattle.flow_cert.specs.Verdicts.{vertex_cause}
use Rattle.flow_cert.specs.Sums.{balance_cause}

-- units out less units in over arcs
abbrev pub balance_on : Flow → ℕ → List Arc → ℤ
balance_on flow vertex arcs = pos (total (λ arc. cond (arc.tail == vertex) (units_on flow arc) 0) arcs) -ℤ pos (total (λ arc. cond (arc.head == vertex) (units_on flow arc) 0) arcs)

-- over all arcs it is the balance
pub balance_on-all : (net : Net) (flow : Flow) (vertex : ℕ) → balance_on flow vertex (arcs_of net) ≡ out_minus_in net flow vertex
balance_on-all net flow vertex =
    let out : units_out net flow vertex ≡ total (λ arc. cond (arc.tail == vertex) (units_on flow arc) 0) (arcs_of net) = sum-is_total (λ arc. cond (arc.tail == vertex) (units_on flow arc) 0) (arcs_of net) in
    let into : units_in net flow vertex ≡ total (λ arc. cond (arc.head == vertex) (units_on flow arc) 0) (arcs_of net) = sum-is_total (λ arc. cond (arc.head == vertex) (units_on flow arc) 0) (arcs_of net) in
    omega (arith, ints, out, into)

-- The arcs of the pin at place k have the numbers 2 k and 2 k + 1.
units-at : (pins : List Units) (k : ℕ) (d : Units) → k < length pins → (get_or (flat_map pin_units pins) (2 * k) 0 ≡ (get_or pins k d).forward) × (get_or (flat_map pin_units pins) (2 * k + 1) 0 ≡ (get_or pins k d).back)
units-at [] k d within = absurd (omega arith)
units-at (on ∷ pins) zero d within = (refl, refl)
units-at (on ∷ pins) (suc k) d within =
    let rest = units-at pins k d (omega arith) in
    let units = flat_map pin_units (on ∷ pins) in
    let even : 2 * suc k ≡ suc (suc (2 * k)) = omega arith in
    let odd : 2 * suc k + 1 ≡ suc (suc (2 * k + 1)) = omega arith in
    (ap (λ n. get_or units n 0) even ∙ rest.0, ap (λ n. get_or units n 0) odd ∙ rest.1)

drop-at : (pins : List Pin) (k : ℕ) (d : Pin) → k < length pins → drop k pins ≡ get_or pins k d ∷ drop (k + 1) pins
drop-at [] k d within = absurd (omega arith)
drop-at (pin ∷ pins) zero d within = refl
drop-at (pin ∷ pins) (suc k) d within =
    let next : suc (k + 1) ≡ suc k + 1 = omega arith in
    drop-at pins k d (omega arith) ∙ ap (λ n. get_or pins k d ∷ drop n (pin ∷ pins)) next

pos-cond : (b : Bool) (units : ℕ) → pos (cond b units 0) ≡ cond b (pos units) (pos 0)
pos-cond true units = refl
pos-cond false units = refl

-- no pin, and no units
abbrev pub no_pin : Pin
no_pin = record { driver = 0; from = 0; to = 0; weight = 0 }

abbrev pub no_units : Units
no_units = record { forward = 0; back = 0 }

-- One pin more: its forward arc and its back arc.
pub balance_on-pin : (net : Net) (flow : Flow) (vertex k : ℕ) → k < length net.pins → length flow.pins ≡ length net.pins
    → let pin = get_or net.pins k no_pin in let on = get_or flow.pins k no_units in
    balance_on flow vertex (arcs_from net k (drop k net.pins))
    ≡ (((cond (pin.from == vertex) (pos on.forward) (pos 0) -ℤ cond (pin.to == vertex) (pos on.forward) (pos 0))
    +ℤ (cond (pin.to == vertex) (pos on.back) (pos 0) -ℤ cond (mirror_of net pin.driver == vertex) (pos on.back) (pos 0)))
    +ℤ balance_on flow vertex (arcs_from net (k + 1) (drop (k + 1) net.pins)))
balance_on-pin net flow vertex k within each =
    let pin = get_or net.pins k no_pin in
    let units = get_or flow.pins k no_units in
    let rest = arcs_from net (k + 1) (drop (k + 1) net.pins) in
    let on = units-at flow.pins k no_units (omega arith) in
    ap (λ pins. balance_on flow vertex (arcs_from net k pins)) (drop-at net.pins k no_pin within)
    ∙ by (pin.from == vertex) (pin.to == vertex) (mirror_of net pin.driver == vertex) (units_on flow (forward_arc k pin)) (units_on flow (back_arc net k pin)) units.forward units.back
    (total (λ arc. cond (arc.tail == vertex) (units_on flow arc) 0) rest) (total (λ arc. cond (arc.head == vertex) (units_on flow arc) 0) rest) on.0 on.1
  where
    by : (from to mirror : Bool) (f b forward back out into : ℕ) → f ≡ forward → b ≡ back
        → pos (cond from f 0 + (cond to b 0 + out)) -ℤ pos (cond to f 0 + (cond mirror b 0 + into))
        ≡ (((cond from (pos forward) (pos 0) -ℤ cond to (pos forward) (pos 0)) +ℤ (cond to (pos back) (pos 0) -ℤ cond mirror (pos back) (pos 0))) +ℤ (pos out -ℤ pos into))
    by from to mirror f b forward back out into same same' =
        let one = ap (λ u. cond from u 0) same in
        let two = ap (λ u. cond to u 0) same' in
        let three = ap (λ u. cond to u 0) same in
        let four = ap (λ u. cond mirror u 0) same' in
        omega (arith, ints, one, two, three, four, pos-cond from forward, pos-cond to forward, pos-cond to back, pos-cond mirror back)

-- The same by the lists of pins and units.
pub balance_on-lists : (net : Net) (flow : Flow) (pins : List Pin) (units : List Units) (vertex k : ℕ) → pins ≡ net.pins → units ≡ flow.pins → k < length net.pins → length flow.pins ≡ length net.pins
    → let pin = get_or pins k no_pin in let on = get_or units k no_units in
    balance_on flow vertex (arcs_from net k (drop k net.pins))
    ≡ (((cond (pin.from == vertex) (pos on.forward) (pos 0) -ℤ cond (pin.to == vertex) (pos on.forward) (pos 0))
    +ℤ (cond (pin.to == vertex) (pos on.back) (pos 0) -ℤ cond (mirror_of net pin.driver == vertex) (pos on.back) (pos 0)))
    +ℤ balance_on flow vertex (arcs_from net (k + 1) (drop (k + 1) net.pins)))
balance_on-lists net flow pins units vertex k same same' within each = rw (same, same') (balance_on-pin net flow vertex k within each)

-- What a pin is worth.
pub value_on-pin : (net : Net) (flow : Flow) (k : ℕ) → k < length net.pins → length flow.pins ≡ length net.pins → (get_or net.pins k no_pin).weight ≤ 1
    → value_on flow (arcs_from net k (drop k net.pins))
    ≡ ((pos (get_or net.pins k no_pin).weight *ℤ (pos (get_or flow.pins k no_units).forward -ℤ pos (get_or flow.pins k no_units).back)) +ℤ value_on flow (arcs_from net (k + 1) (drop (k + 1) net.pins)))
value_on-pin net flow k within each few =
    let pin = get_or net.pins k no_pin in
    let on = units-at flow.pins k no_units (omega arith) in
    ap (λ pins. value_on flow (arcs_from net k pins)) (drop-at net.pins k no_pin within)
    ∙ by pin.weight (units_on flow (forward_arc k pin)) (units_on flow (back_arc net k pin)) (get_or flow.pins k no_units).forward (get_or flow.pins k no_units).back (value_on flow (arcs_from net (k + 1) (drop (k + 1) net.pins))) few on.0 on.1
  where
    by : (weight f b forward back : ℕ) (rest : ℤ) → weight ≤ 1 → f ≡ forward → b ≡ back
        → (pos weight *ℤ pos f) +ℤ (((pos 0 -ℤ pos weight) *ℤ pos b) +ℤ rest) ≡ ((pos weight *ℤ (pos forward -ℤ pos back)) +ℤ rest)
    by zero f b forward back rest few same same' = omega (arith, ints, same, same')
    by (suc zero) f b forward back rest few same same' = omega (arith, ints, same, same')
    by (suc (suc weight)) f b forward back rest few same same' = absurd (omega arith)

-- The causes by balances are those of the flow.
pub balance_cause-is : (net : Net) (flow : Flow) (balances : List ℤ) (vertex more : ℕ) → length balances ≡ more → ((k : ℕ) → k < more → get_or balances k (pos 0) ≡ out_minus_in net flow (vertex + k)) → balance_cause net vertex balances ≡ vertex_cause net flow vertex more
balance_cause-is net flow [] vertex zero each here = refl
balance_cause-is net flow [] vertex (suc more) each here = absurd (omega arith)
balance_cause-is net flow (has ∷ balances) vertex zero each here = absurd (omega arith)
balance_cause-is net flow (has ∷ balances) vertex (suc more) each here =
    let same : vertex + 0 ≡ vertex = omega arith in
    let own : has ≡ out_minus_in net flow vertex = here 0 (omega arith) ∙ ap (out_minus_in net flow) same in
    let rest = balance_cause-is net flow balances (vertex + 1) more (omega arith)
    (λ k low.
    let next : vertex + suc k ≡ vertex + 1 + k = omega arith in
    here (suc k) (omega arith) ∙ ap (out_minus_in net flow) next) in
    let cause = λ (x : ℤ). Some (Balance vertex x (wants net vertex)) in
    (λ i. cond (int_eq (own i) (wants net vertex)) (rest i) (cause (own i)))
