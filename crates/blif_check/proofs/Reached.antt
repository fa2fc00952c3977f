-- What is reached from some signals: all signals to which walks lead.
-- Signals are added behind those that are there, and are gone through in order. Each was found by a walk, and of each that
-- was gone through the pins are there too (`ReachesOn`). At the end all were gone through, so a walk that begins at one of
-- them never leaves them. A walk that comes back to a signal goes through one of its pins first. So there is one exactly
-- where the signal is among what is reached from its pins. All that is reached is a pin, so there is an end.
use Rattle.std.proofs.Common.{◌≡◌, ◌<◌, ◌≤◌, ◌+◌, ◌++◌, ◌||◌, ◌∙◌, ◌⊎◌, ℕ, zero, suc, Bool, true, false, cond, IsTrue, List, [], ◌∷◌, length, take, get_or, Some, nat_eq, refl, sym, ap, subst, arith, true≢false, ⊎_elim, length-append}
use Rattle.std.specs.Cmp.{nat_eq_equiv}
use Rattle.std.specs.List.{IsDistinct}
use Rattle.std.proofs.lemmas.Bool.{or_cases, or_left, or_right, eqb-true, eq-eqb}
use Rattle.std.proofs.lemmas.List.{take_more, take-append-le}
use Rattle.std.proofs.lemmas.List.Folds.{list_any-append}
use Rattle.std.proofs.lemmas.Map.Made.{length-le_from_is_member}
use Rattle.indexmap.specs.IndexSet.{insert_all}
use Rattle.net_base.specs.Keys.{is_among}
use Rattle.net_base.proofs.CallerLemmas.{keys-grow, keys-among}
use Rattle.blif_model.specs.declared.design.Table.{Table}
use Rattle.blif_model.specs.Order.{driver_of, pins_of, leads}
use Rattle.blif_model.proofs.CallerLemmas.{leads-push, list_any-some, list_any-among}
use Rattle.blif_check.specs.Cycles.{ComesBack, AreReached, all_pins}

-- While signals are reached: the first few of them have all their pins there.
pub record ReachesOn (tables : List Table) (first reached : List ℕ) (next : ℕ) : Type 0 where
  pub few : next ≤ length reached
  pub kept : (x : ℕ) → is_among nat_eq x first ≡ true → is_among nat_eq x reached ≡ true
  pub found : (x : ℕ) → is_among nat_eq x reached ≡ true → (from steps : ℕ) × (is_among nat_eq from first ≡ true) × (leads tables steps from x ≡ true)
  pub listed : (x : ℕ) → is_among nat_eq x reached ≡ true → is_among nat_eq x (all_pins tables) ≡ true
  pub closed : (x pin : ℕ) → is_among nat_eq x (take next reached) ≡ true → is_among nat_eq pin (pins_of (driver_of tables x)) ≡ true → is_among nat_eq pin reached ≡ true

-- The pins of a table are among all pins.
pub pins-listed : (tables : List Table) (signal pin : ℕ) → is_among nat_eq pin (pins_of (driver_of tables signal)) ≡ true → is_among nat_eq pin (all_pins tables) ≡ true
pins-listed [] signal pin among = absurd (true≢false (sym among))
pins-listed (table ∷ tables) signal pin among =
    list_any-append (nat_eq pin) table.pins (all_pins tables) ∙ by (nat_eq signal table.target) among (pins-listed tables signal pin)
  where
    by : (b : Bool) → is_among nat_eq pin (pins_of (cond b (Some table) (driver_of tables signal))) ≡ true
        → (is_among nat_eq pin (pins_of (driver_of tables signal)) ≡ true → is_among nat_eq pin (all_pins tables) ≡ true)
        → (is_among nat_eq pin table.pins || is_among nat_eq pin (all_pins tables)) ≡ true
    by true among rest = or_left (is_among nat_eq pin table.pins) (is_among nat_eq pin (all_pins tables)) among
    by false among rest = or_right (is_among nat_eq pin table.pins) (is_among nat_eq pin (all_pins tables)) (rest among)

-- At first nothing was looked at.
pub reaches-first : (tables : List Table) (first : List ℕ) → ((x : ℕ) → is_among nat_eq x first ≡ true → is_among nat_eq x (all_pins tables) ≡ true) → ReachesOn tables first first 0
reaches-first tables first listed = record {
  few = omega arith;
  kept = λ x among. among;
  found = λ x among. (x, zero, among, eq-eqb x x refl);
  listed = listed;
  closed = λ x pin among pins. absurd (true≢false (sym among));
}

-- The pins of the next signal come to what was reached.
pub reaches-next : (tables : List Table) (first reached : List ℕ) (next signal : ℕ) → next < length reached → signal ≡ get_or reached next 0
    → ReachesOn tables first reached next → ReachesOn tables first (insert_all nat_eq reached (pins_of (driver_of tables signal))) (next + 1)
reaches-next tables first reached next signal within here was =
    let pins = pins_of (driver_of tables signal) in
    let new = insert_all nat_eq reached pins in
    let grown = keys-grow reached pins in
    let among_new : (x : ℕ) → is_among nat_eq x new ≡ true → (is_among nat_eq x reached ≡ true) ⊎ (is_among nat_eq x pins ≡ true) =
    λ x among. or_cases (is_among nat_eq x reached) (is_among nat_eq x pins) (sym (keys-among reached pins x) ∙ among) in
    let old : (x : ℕ) → is_among nat_eq x reached ≡ true → is_among nat_eq x new ≡ true =
    λ x among. keys-among reached pins x ∙ or_left (is_among nat_eq x reached) (is_among nat_eq x pins) among in
    let looked : take (next + 1) new ≡ take next reached ++ signal ∷ [] =
    ap (take (next + 1)) grown.1 ∙ take-append-le (next + 1) reached grown.0 (omega arith) ∙ take_more reached next 0 within ∙ ap (λ s. take next reached ++ s ∷ []) (sym here) in
    let itself : is_among nat_eq signal reached ≡ true = at-among reached next signal within here in
    record {
      few = omega (arith, ap length grown.1, length-append reached grown.0);
      kept = λ x among. old x (was.kept x among);
      found = λ x among. ⊎_elim {C = (from steps : ℕ) × (is_among nat_eq from first ≡ true) × (leads tables steps from x ≡ true)}
          (λ before. was.found x before)
          (λ pin. let walk = was.found signal itself in (walk.0, suc walk.1, walk.2, leads-push tables walk.1 walk.0 signal x walk.3 pin))
          (among_new x among);
      listed = λ x among. ⊎_elim {C = is_among nat_eq x (all_pins tables) ≡ true} (was.listed x) (pins-listed tables signal x) (among_new x among);
      closed = λ x pin among through.
          ⊎_elim {C = is_among nat_eq pin new ≡ true}
          (λ before. old pin (was.closed x pin before through))
          (λ last. keys-among reached pins pin ∙ or_right (is_among nat_eq pin reached) (is_among nat_eq pin pins)
          (subst (λ s. is_among nat_eq pin (pins_of (driver_of tables s)) ≡ true) (eqb-true x signal (only x last)) through))
          (or_cases (is_among nat_eq x (take next reached)) (is_among nat_eq x (signal ∷ [])) (sym (list_any-append (nat_eq x) (take next reached) (signal ∷ [])) ∙ ap (is_among nat_eq x) (sym looked) ∙ among));
    }
  where
    only : (x : ℕ) → is_among nat_eq x (signal ∷ []) ≡ true → nat_eq x signal ≡ true
    only x among = ⊎_elim {C = nat_eq x signal ≡ true} (λ same. same) (λ none. absurd (true≢false (sym none))) (or_cases (nat_eq x signal) false among)

    at-among : (xs : List ℕ) (i x : ℕ) → i < length xs → x ≡ get_or xs i 0 → is_among nat_eq x xs ≡ true
    at-among [] i x within at = absurd (omega arith)
    at-among (y ∷ xs) zero x within at = or_left (nat_eq x y) (is_among nat_eq x xs) (eq-eqb x y at)
    at-among (y ∷ xs) (suc i) x within at = or_right (nat_eq x y) (is_among nat_eq x xs) (at-among xs i x (omega arith) at)

-- There are no more than all pins,
pub reaches-few : (tables : List Table) (first reached : List ℕ) (next : ℕ) → IsDistinct nat_eq reached → ReachesOn tables first reached next → length reached ≤ length (all_pins tables)
reaches-few tables first reached next distinct was = length-le_from_is_member nat_eq_equiv reached (all_pins tables) distinct was.listed

-- A walk from what was reached ends there.
stays : (tables : List Table) (first reached : List ℕ) (steps from to : ℕ) → AreReached tables first reached → is_among nat_eq from reached ≡ true → leads tables steps from to ≡ true → is_among nat_eq to reached ≡ true
stays tables first reached zero from to are among walk = subst (λ s. is_among nat_eq s reached ≡ true) (eqb-true from to walk) among
stays tables first reached (suc steps) from to are among walk =
    let step = list_any-some (λ pin. leads tables steps pin to) (pins_of (driver_of tables from)) walk in
    stays tables first reached steps step.0 to are (are.closed from step.0 among step.1) step.2

-- So a walk comes back to a signal exactly where it is reached from its pins.
pub back-reached : (tables : List Table) (first reached : List ℕ) (signal : ℕ) → ((x : ℕ) → is_among nat_eq x first ≡ is_among nat_eq x (pins_of (driver_of tables signal)))
    → AreReached tables first reached → is_among nat_eq signal reached ≡ true → ComesBack tables signal
back-reached tables first reached signal pins are among =
    let walk = are.found signal among in
    (suc walk.1, omega arith, list_any-among (λ pin. leads tables walk.1 pin signal) (pins_of (driver_of tables signal)) walk.0 (sym (pins walk.0) ∙ walk.2) walk.3)

pub reached-back : (tables : List Table) (first reached : List ℕ) (signal : ℕ) → ((x : ℕ) → is_among nat_eq x first ≡ is_among nat_eq x (pins_of (driver_of tables signal)))
    → AreReached tables first reached → ComesBack tables signal → is_among nat_eq signal reached ≡ true
reached-back tables first reached signal pins are cycle = by cycle.0 cycle.1 cycle.2
  where
    by : (steps : ℕ) → 0 < steps → IsTrue (leads tables steps signal signal) → is_among nat_eq signal reached ≡ true
    by zero some walk = absurd (omega arith)
    by (suc steps) some walk =
        let step = list_any-some (λ pin. leads tables steps pin signal) (pins_of (driver_of tables signal)) walk in
        stays tables first reached steps step.0 signal are (are.kept step.0 (pins step.0 ∙ step.1)) step.2
