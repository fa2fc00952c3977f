-- Units on arcs: an arc is found by its number, the residual arcs of a flow by their arcs, and one unit more or less changes the
-- units of one arc alone.
use Rattle.std.proofs.Common.{◌≡◌, ◌<◌, ◌+◌, ◌*◌, ◌/◌, ◌%◌, ◌==◌, ◌∙◌, ℕ, zero, suc, Bool, true, false, cond, List, [], ◌∷◌, length, get_or, set, Contains, refl, ap, sym, subst, arith, ⊎_elim, length-set}
use Rattle.std.specs.List.{flat_map}
use Rattle.std.proofs.lemmas.Bool.{cases_eq, eqb-true, eqb-false}
use Rattle.std.proofs.lemmas.List.{get_or-set_same, get_or-set_other}
use Rattle.flow_net.specs.declared.net.Pin.{Pin}
use Rattle.flow_net.specs.declared.net.Net.{Net}
use Rattle.flow_net.specs.declared.net.Units.{Units}
use Rattle.flow_net.specs.declared.net.Flow.{Flow}
use Rattle.flow_net.specs.Arcs.{Arc, arcs_from, arcs_of}
use Rattle.flow_net.specs.Flows.{pin_units, units_on}
use Rattle.stage_flow.specs.Residual.{Way}
use Rattle.stage_flow.specs.Rounds.{moved, with_unit, along}
use Rattle.stage_flow.specs.Sending.{side}

-- ---- Arcs by their numbers
pub length-arcs_from : (net : Net) (place : ℕ) (pins : List Pin) → length (arcs_from net place pins) ≡ 2 * length pins
length-arcs_from net place [] = refl
length-arcs_from net place (pin ∷ pins) = let rest = length-arcs_from net (place + 1) pins in omega (arith, rest)

-- The arc at a place has the place as its number.
pub arcs_from-number : (net : Net) (place : ℕ) (pins : List Pin) (k : ℕ) (d : Arc) → k < length (arcs_from net place pins) → (get_or (arcs_from net place pins) k d).number ≡ 2 * place + k
arcs_from-number net place [] k d within = absurd (omega arith)
arcs_from-number net place (pin ∷ pins) zero d within = omega arith
arcs_from-number net place (pin ∷ pins) (suc zero) d within = omega arith
arcs_from-number net place (pin ∷ pins) (suc (suc k)) d within =
    let rest = arcs_from-number net (place + 1) pins k d (omega arith) in
    omega (arith, rest)

-- Arcs with one number are one.
pub arc-same : (net : Net) (a b : Arc) → Contains (arcs_of net) a → Contains (arcs_of net) b → a.number ≡ b.number → a ≡ b
arc-same net a b (k, within, is) (j, inside, at) same =
    let first = arcs_from-number net 0 net.pins k a within in
    let second = arcs_from-number net 0 net.pins j b inside in
    let own = ap (λ (arc : Arc). arc.number) is in
    let other = ap (λ (arc : Arc). arc.number) at in
    let place : k ≡ j = omega (arith, first, second, own, other, same) in
    sym is ∙ any k a b within ∙ ap (λ i. get_or (arcs_of net) i b) place ∙ at
  where
    any : (k : ℕ) (a b : Arc) → k < length (arcs_of net) → get_or (arcs_of net) k a ≡ get_or (arcs_of net) k b
    any k a b within = from (arcs_of net) k within
      where
        from : (arcs : List Arc) (k : ℕ) → k < length arcs → get_or arcs k a ≡ get_or arcs k b
        from [] k within = absurd (omega arith)
        from (arc ∷ arcs) zero within = refl
        from (arc ∷ arcs) (suc k) within = from arcs k (omega arith)

-- Its number leads to a pin.
pub arc-low : (net : Net) (arc : Arc) → Contains (arcs_of net) arc → arc.number / 2 < length net.pins
arc-low net arc (k, within, is) =
    let first = arcs_from-number net 0 net.pins k arc within in
    let own = ap (λ (one : Arc). one.number) is in
    omega (arith, first, own, length-arcs_from net 0 net.pins)

-- ---- Units by their numbers
pub units-at : (pins : List Units) (number : ℕ) (d : Units) → number / 2 < length pins → get_or (flat_map pin_units pins) number 0 ≡ side number (get_or pins (number / 2) d)
units-at [] number d within = absurd (omega arith)
units-at (units ∷ pins) zero d within = refl
units-at (units ∷ pins) (suc zero) d within = refl
units-at (units ∷ pins) (suc (suc number)) d within =
    let half : suc (suc number) / 2 ≡ suc (number / 2) = omega arith in
    let even : suc (suc number) % 2 ≡ number % 2 = omega arith in
    units-at pins number d (omega (arith, half))
    ∙ ap (λ n. cond (n == 0) (get_or pins (number / 2) d).forward (get_or pins (number / 2) d).back) (sym even)
    ∙ ap (λ n. side (suc (suc number)) (get_or (units ∷ pins) n d)) (sym half)

side-own : (way : Way) (number : ℕ) (units : Units) → number ≡ way.number → side number (with_unit way units) ≡ moved way.takes (side number units)
side-own way number units same =
    subst (λ n. side n (with_unit way units) ≡ moved way.takes (side n units)) (sym same) (by (way.number % 2 == 0))
  where
    by : (test : Bool) →
        cond test (cond test (record units { forward = moved way.takes units.forward }) (record units { back = moved way.takes units.back })).forward (cond test (record units { forward = moved way.takes units.forward }) (record units { back = moved way.takes units.back })).back
        ≡ moved way.takes (cond test units.forward units.back)
    by true = refl
    by false = refl

side-other : (way : Way) (number : ℕ) (units : Units) → (number ≡ way.number → ⊥) → number / 2 ≡ way.number / 2 → side number (with_unit way units) ≡ side number units
side-other way number units differs half = by (number % 2 == 0) (way.number % 2 == 0) refl refl
  where
    by : (own other : Bool) → (number % 2 == 0) ≡ own → (way.number % 2 == 0) ≡ other →
        cond own (cond other (record units { forward = moved way.takes units.forward }) (record units { back = moved way.takes units.back })).forward (cond other (record units { forward = moved way.takes units.forward }) (record units { back = moved way.takes units.back })).back
        ≡ cond own units.forward units.back
    by true true even also =
        let h : number % 2 ≡ 0 = eqb-true (number % 2) 0 even in
        let k : way.number % 2 ≡ 0 = eqb-true (way.number % 2) 0 also in
        absurd (differs (omega (arith, half)))
    by true false even also = refl
    by false true even also = refl
    by false false even also =
        let h = eqb-false (number % 2) 0 even in
        let k = eqb-false (way.number % 2) 0 also in
        let one : number % 2 ≡ 1 = odd (number) h in
        let two : way.number % 2 ≡ 1 = odd (way.number) k in
        absurd (differs (omega (arith, half)))
      where
        odd : (n : ℕ) → (n % 2 ≡ 0 → ⊥) → n % 2 ≡ 1
        odd n h = ⊎_elim {C = n % 2 ≡ 1} (λ same. absurd (h same)) (λ other. omega (arith, other)) (cases_eq (n % 2) 0)

-- A unit along a residual arc changes its own arc's units, and no others.
pub units_on-along : (way : Way) (flow : Flow) (arc : Arc) → arc.number / 2 < length flow.pins → arc.number ≡ way.number → units_on (along way flow) arc ≡ moved way.takes (units_on flow arc)
units_on-along way flow arc within same =
    let d : Units = record { forward = 0; back = 0 } in
    let half : arc.number / 2 ≡ way.number / 2 = ap (λ n. n / 2) same in
    let old = get_or flow.pins (way.number / 2) d in
    let new = with_unit way old in
    let long = length-set flow.pins (way.number / 2) new in
    units-at (set flow.pins (way.number / 2) new) arc.number d (omega (arith, long))
    ∙ ap (λ n. side arc.number (get_or (set flow.pins (way.number / 2) new) n d)) half
    ∙ ap (side arc.number) (get_or-set_same flow.pins (way.number / 2) new d (omega (arith, half)))
    ∙ side-own way arc.number old same
    ∙ ap (λ n. moved way.takes (side arc.number (get_or flow.pins n d))) (sym half)
    ∙ ap (moved way.takes) (sym (units-at flow.pins arc.number d within))

pub units_on-others : (way : Way) (flow : Flow) (arc : Arc) → arc.number / 2 < length flow.pins → (arc.number ≡ way.number → ⊥) → units_on (along way flow) arc ≡ units_on flow arc
units_on-others way flow arc within differs =
    let d : Units = record { forward = 0; back = 0 } in
    let old = get_or flow.pins (way.number / 2) d in
    let new = with_unit way old in
    let long = length-set flow.pins (way.number / 2) new in
    let pins = set flow.pins (way.number / 2) new in
    let same : side arc.number (get_or pins (arc.number / 2) d) ≡ side arc.number (get_or flow.pins (arc.number / 2) d) =
    ⊎_elim {C = side arc.number (get_or pins (arc.number / 2) d) ≡ side arc.number (get_or flow.pins (arc.number / 2) d)}
    (λ half.
    ap (λ n. side arc.number (get_or pins n d)) half
    ∙ ap (side arc.number) (get_or-set_same flow.pins (way.number / 2) new d (omega (arith, half)))
    ∙ side-other way arc.number old differs half
    ∙ ap (λ n. side arc.number (get_or flow.pins n d)) (sym half))
    (λ apart. ap (side arc.number) (get_or-set_other flow.pins (way.number / 2) (arc.number / 2) new d apart))
    (cases_eq (arc.number / 2) (way.number / 2)) in
    units-at pins arc.number d (omega (arith, long)) ∙ same ∙ sym (units-at flow.pins arc.number d within)

pub length-along : (way : Way) (flow : Flow) → length (along way flow).pins ≡ length flow.pins
length-along way flow = length-set flow.pins (way.number / 2) (with_unit way (get_or flow.pins (way.number / 2) (record { forward = 0; back = 0 })))
