-- What potentials that fit a flow say of the arcs: no arc is longer than the potential rises on it, and an arc that carries units
-- is just as long, since its reverse fits too.
use Rattle.std.proofs.Common.{◌≡◌, ◌≤◌, ◌<◌, ◌+◌, ◌*◌, ◌==◌, ◌++◌, ◌⊎◌, inl, inr, ℕ, zero, suc, ℤ, pos, negsuc, ◌+ℤ◌, ◌-ℤ◌, ◌*ℤ◌, ◌≤ℤ◌, Bool, true, false, cond, List, [], ◌∷◌, All, refl, arith, ⊎_elim}
use Rattle.std.specs.List.{flat_map}
use Rattle.std.proofs.Math.Nat.{mul-le-mul_right}
use Rattle.std.proofs.lemmas.Bool.{cases_lt}
use Rattle.std.proofs.lemmas.Bool.Decides.{nat_tests}
use Rattle.std.proofs.lemmas.Int.{ints}
use Rattle.std.proofs.lemmas.List.Elements.{All-nil, All-cons, All-head, All-tail}
use Rattle.flow_net.specs.declared.net.Pin.{Pin}
use Rattle.flow_net.specs.declared.net.Net.{Net}
use Rattle.flow_net.specs.declared.net.Flow.{Flow}
use Rattle.flow_net.specs.Arcs.{Arc, forward_arc, back_arc, arcs_from}
use Rattle.flow_net.specs.Flows.{units_on, value_on}
use Rattle.flow_net.proofs.CallerLemmas.{Rises, value-le_rise, total}
use Rattle.stage_flow.specs.Residual.{Way, adding, taking, ways_on}
use Rattle.stage_flow.specs.LawsOfEpochs.{Fits}

-- an arc is no longer than the potential rises on it, and as long if it carries units
pub record IsMet (flow : Flow) (p : ℕ → ℤ) (arc : Arc) : Type 0 where
  pub rises : (p arc.tail +ℤ arc.length) ≤ℤ p arc.head
  pub tight : (units_on flow arc ≡ 0) ⊎ (p arc.head ≤ℤ (p arc.tail +ℤ arc.length))

pub met-ways : (flow : Flow) (p : ℕ → ℤ) (arcs : List Arc) → All (Fits p) (flat_map (ways_on flow) arcs) → All (IsMet flow p) arcs
met-ways flow p [] fits = All-nil (IsMet flow p)
met-ways flow p (arc ∷ arcs) fits =
    let ways = cond (units_on flow arc == 0) [] (taking arc ∷ []) ++ flat_map (ways_on flow) arcs in
    let rest = by (units_on flow arc == 0) refl (All-tail (Fits p) (adding arc) ways fits) in
    All-cons (IsMet flow p) arc arcs (record { rises = All-head (Fits p) (adding arc) ways fits; tight = rest.0 }) (met-ways flow p arcs rest.1)
  where
    by : (b : Bool) → (units_on flow arc == 0) ≡ b → All (Fits p) (cond b [] (taking arc ∷ []) ++ flat_map (ways_on flow) arcs)
        → ((units_on flow arc ≡ 0) ⊎ (p arc.head ≤ℤ (p arc.tail +ℤ arc.length))) × All (Fits p) (flat_map (ways_on flow) arcs)
    by true e fits = (inl (grind (arith, nat_tests)), fits)
    by false e fits =
        let back : (p arc.head +ℤ (pos 0 -ℤ arc.length)) ≤ℤ p arc.tail = All-head (Fits p) (taking arc) (flat_map (ways_on flow) arcs) fits in
        (inr (omega (arith, ints)), All-tail (Fits p) (taking arc) (flat_map (ways_on flow) arcs) fits)

-- And where arcs are met, the residual arcs fit.
pub ways-met : (flow : Flow) (p : ℕ → ℤ) (arcs : List Arc) → All (IsMet flow p) arcs → All (Fits p) (flat_map (ways_on flow) arcs)
ways-met flow p [] met = All-nil (Fits p)
ways-met flow p (arc ∷ arcs) met =
    let own = All-head (IsMet flow p) arc arcs met in
    All-cons (Fits p) (adding arc) (cond (units_on flow arc == 0) [] (taking arc ∷ []) ++ flat_map (ways_on flow) arcs) own.rises
    (by (units_on flow arc == 0) refl own.tight (ways-met flow p arcs (All-tail (IsMet flow p) arc arcs met)))
  where
    back : (units_on flow arc == 0) ≡ false → (units_on flow arc ≡ 0) ⊎ (p arc.head ≤ℤ (p arc.tail +ℤ arc.length)) → (p arc.head +ℤ (pos 0 -ℤ arc.length)) ≤ℤ p arc.tail
    back e (inl none) = absurd (grind (arith, nat_tests))
    back e (inr tight) = omega (arith, ints)

    by : (b : Bool) → (units_on flow arc == 0) ≡ b → (units_on flow arc ≡ 0) ⊎ (p arc.head ≤ℤ (p arc.tail +ℤ arc.length)) → All (Fits p) (flat_map (ways_on flow) arcs)
        → All (Fits p) (cond b [] (taking arc ∷ []) ++ flat_map (ways_on flow) arcs)
    by true e tight rest = rest
    by false e tight rest = All-cons (Fits p) (taking arc) (flat_map (ways_on flow) arcs) (back e tight) rest

-- What holds of all residual arcs holds where a unit is added.
pub adding-ways : (Q : Way → Type 0) (flow : Flow) (arcs : List Arc) → All Q (flat_map (ways_on flow) arcs) → All (λ arc. Q (adding arc)) arcs
adding-ways Q flow [] each = All-nil (λ arc. Q (adding arc))
adding-ways Q flow (arc ∷ arcs) each =
    let ways = cond (units_on flow arc == 0) [] (taking arc ∷ []) ++ flat_map (ways_on flow) arcs in
    All-cons (λ arc. Q (adding arc)) arc arcs (All-head Q (adding arc) ways each)
    (adding-ways Q flow arcs (by (units_on flow arc == 0) (All-tail Q (adding arc) ways each)))
  where
    by : (b : Bool) → All Q (cond b [] (taking arc ∷ []) ++ flat_map (ways_on flow) arcs) → All Q (flat_map (ways_on flow) arcs)
    by true rest = rest
    by false rest = All-tail Q (taking arc) (flat_map (ways_on flow) arcs) rest

-- What follows for both residual arcs of an arc follows for all.
pub All-ways : (P : Arc → Type 0) (Q : Way → Type 0) (flow : Flow) → ((arc : Arc) → P arc → Q (adding arc) × Q (taking arc)) → (arcs : List Arc) → All P arcs → All Q (flat_map (ways_on flow) arcs)
All-ways P Q flow step [] each = All-nil Q
All-ways P Q flow step (arc ∷ arcs) each =
    let own = step arc (All-head P arc arcs each) in
    All-cons Q (adding arc) (cond (units_on flow arc == 0) [] (taking arc ∷ []) ++ flat_map (ways_on flow) arcs) own.0
    (by (units_on flow arc == 0) own.1 (All-ways P Q flow step arcs (All-tail P arc arcs each)))
  where
    by : (b : Bool) → Q (taking arc) → All Q (flat_map (ways_on flow) arcs) → All Q (cond b [] (taking arc ∷ []) ++ flat_map (ways_on flow) arcs)
    by true back rest = rest
    by false back rest = All-cons Q (taking arc) (flat_map (ways_on flow) arcs) back rest

-- What holds of all arcs holds of both arcs of each pin, at some number,
pub All-pins : (P : Arc → Type 0) (net : Net) (place : ℕ) (pins : List Pin) → All P (arcs_from net place pins) → All (λ pin. (at : ℕ) × P (forward_arc at pin) × P (back_arc net at pin)) pins
All-pins P net place [] each = All-nil (λ (pin : Pin). (at : ℕ) × P (forward_arc at pin) × P (back_arc net at pin))
All-pins P net place (pin ∷ pins) each =
    let rest = All-tail P (forward_arc place pin) (back_arc net place pin ∷ arcs_from net (place + 1) pins) each in
    All-cons (λ (one : Pin). (at : ℕ) × P (forward_arc at one) × P (back_arc net at one)) pin pins
    (place, All-head P (forward_arc place pin) (back_arc net place pin ∷ arcs_from net (place + 1) pins) each, All-head P (back_arc net place pin) (arcs_from net (place + 1) pins) rest)
    (All-pins P net (place + 1) pins (All-tail P (back_arc net place pin) (arcs_from net (place + 1) pins) rest))

-- and what follows for a pin's arcs follows for all.
pub All-arcs_by : (P Q : Arc → Type 0) (R : Pin → Type 0) (net : Net) → ((at : ℕ) (pin : Pin) → R pin → P (forward_arc at pin) → P (back_arc net at pin) → Q (forward_arc at pin) × Q (back_arc net at pin))
    → (place : ℕ) (pins : List Pin) → All R pins → All P (arcs_from net place pins) → All Q (arcs_from net place pins)
All-arcs_by P Q R net step place [] each met = All-nil Q
All-arcs_by P Q R net step place (pin ∷ pins) each met =
    let behind = arcs_from net (place + 1) pins in
    let rest = All-tail P (forward_arc place pin) (back_arc net place pin ∷ behind) met in
    let own = step place pin (All-head R pin pins each) (All-head P (forward_arc place pin) (back_arc net place pin ∷ behind) met) (All-head P (back_arc net place pin) behind rest) in
    All-cons Q (forward_arc place pin) (back_arc net place pin ∷ behind) own.0
    (All-cons Q (back_arc net place pin) behind own.1
    (All-arcs_by P Q R net step (place + 1) pins (All-tail R pin pins each) (All-tail P (back_arc net place pin) behind rest)))

-- ---- Values
-- where units are, the potential rises by the arc's length or less
abbrev pub RisesAtMost : Flow → (ℕ → ℕ) → Arc → Type 0
RisesAtMost flow p arc = (units_on flow arc ≡ 0) ⊎ (pos (p arc.head) ≤ℤ (arc.length +ℤ pos (p arc.tail)))

priced_down : (length : ℤ) (tail head units : ℕ) → (units ≡ 0) ⊎ (pos head ≤ℤ (length +ℤ pos tail)) → pos (head * units) ≤ℤ (length *ℤ pos units +ℤ pos (tail * units))
priced_down (pos gain) tail head units (inl none) = rw none (omega (arith, ints))
priced_down (negsuc loss) tail head units (inl none) = rw none (omega (arith, ints))
priced_down (pos gain) tail head units (inr low) =
    let h : head ≤ gain + tail = omega (arith, ints) in
    let more : head * units ≤ (gain + tail) * units = mul-le-mul_right units h in
    omega (arith, ints, more)
priced_down (negsuc loss) tail head units (inr low) =
    let h : head + suc loss ≤ tail = omega (arith, ints) in
    let more : (head + suc loss) * units ≤ tail * units = mul-le-mul_right units h in
    omega (arith, ints, more)

-- So a flow is worth at least what it gains in potential.
pub rise-le_value : (flow : Flow) (p : ℕ → ℕ) (arcs : List Arc) → All (RisesAtMost flow p) arcs → pos (total (λ arc. p arc.head * units_on flow arc) arcs) ≤ℤ (value_on flow arcs +ℤ pos (total (λ arc. p arc.tail * units_on flow arc) arcs))
rise-le_value flow p [] low = omega (arith, ints)
rise-le_value flow p (arc ∷ arcs) low =
    omega (
      arith,
      ints,
      priced_down arc.length (p arc.tail) (p arc.head) (units_on flow arc) (All-head (RisesAtMost flow p) arc arcs low),
      rise-le_value flow p arcs (All-tail (RisesAtMost flow p) arc arcs low),
    )

-- Conversely, where the arcs' rises are their lengths or more, and a flow is worth no less than it gains, an arc with units rises
-- by its length alone.
times-lt : (a b units : ℕ) → a < b → a * suc units < b * suc units
times-lt a b units less = let more : suc a * suc units ≤ b * suc units = mul-le-mul_right (suc units) less in omega (arith, more)

at_most : (length : ℤ) (tail head units : ℕ) → (length +ℤ pos tail) ≤ℤ pos head → pos (head * units) ≤ℤ (length *ℤ pos units +ℤ pos (tail * units)) → (units ≡ 0) ⊎ (pos head ≤ℤ (length +ℤ pos tail))
at_most length tail head zero rises spent = inl refl
at_most (pos gain) tail head (suc units) rises spent =
    ⊎_elim {C = (suc units ≡ 0) ⊎ (pos head ≤ℤ (pos gain +ℤ pos tail))}
    (λ less. absurd (omega (arith, ints, times-lt (gain + tail) head units less)))
    (λ low. inr (omega (arith, ints)))
    (cases_lt (gain + tail) head)
at_most (negsuc loss) tail head (suc units) rises spent =
    ⊎_elim {C = (suc units ≡ 0) ⊎ (pos head ≤ℤ (negsuc loss +ℤ pos tail))}
    (λ less. absurd (omega (arith, ints, times-lt tail (head + suc loss) units less)))
    (λ low. inr (omega (arith, ints)))
    (cases_lt tail (head + suc loss))

pub value-tight : (flow : Flow) (p : ℕ → ℕ) (arcs : List Arc) → All (Rises p) arcs
    → pos (total (λ arc. p arc.head * units_on flow arc) arcs) ≤ℤ (value_on flow arcs +ℤ pos (total (λ arc. p arc.tail * units_on flow arc) arcs))
    → All (RisesAtMost flow p) arcs
value-tight flow p [] rise spent = All-nil (RisesAtMost flow p)
value-tight flow p (arc ∷ arcs) rise spent =
    let one = value-le_rise flow p (arc ∷ []) (All-cons (Rises p) arc [] (All-head (Rises p) arc arcs rise) (All-nil (Rises p))) in
    let more = value-le_rise flow p arcs (All-tail (Rises p) arc arcs rise) in
    All-cons (RisesAtMost flow p) arc arcs
    (at_most arc.length (p arc.tail) (p arc.head) (units_on flow arc) (All-head (Rises p) arc arcs rise) (omega (arith, ints)))
    (value-tight flow p arcs (All-tail (Rises p) arc arcs rise) (omega (arith, ints)))
