-- Who takes from a tap: none of the pins that its driver doesn't drive, and some at the last tap.
use Rattle.std.proofs.Common.{◌≡◌, ◌≤◌, ◌<◌, ℕ, zero, suc, ◌+◌, max, Bool, true, false, cond, ◌&&◌, ◌||◌, ◌==◌, List, [], ◌∷◌, ◌++◌, length, get_or, refl, ap, ◌∙◌, arith}
use Rattle.std.proofs.lemmas.Bool.{eqb-true, or_left, or_right, eqb-false, ne_eqb}
use Rattle.std.specs.Prelude.{⊤}
use Rattle.gate_net.specs.declared.row.Driver.{Driver}
use Rattle.gate_net.specs.Rows.{same_driver}
use Rattle.splitters.specs.Taps.{with_pin, takers, tap_count}

-- a driver drives none of these pins
abbrev pub DrivesNone : Driver → List Driver → Type 0
DrivesNone driver [] = ⊤
DrivesNone driver (other ∷ others) = (same_driver driver other ≡ false) × DrivesNone driver others

-- The pins of a tap stand behind those that its driver doesn't drive.
pub takers-late : (needs : List ℕ) (driver : Driver) (need pin : ℕ) (used rest : List Driver) → DrivesNone driver used →
    takers needs driver need pin (used ++ rest) ≡ takers needs driver need (pin + length used) rest
takers-late needs driver need pin [] rest none = let e : pin ≡ pin + 0 = omega arith in ap (λ p. takers needs driver need p rest) e
takers-late needs driver need pin (other ∷ used) rest none =
    let e : (pin + 1) + length used ≡ pin + suc (length used) = omega arith in
    ap (λ b. with_pin (b && (get_or needs pin 0 == need)) pin (takers needs driver need (pin + 1) (used ++ rest))) none.0
    ∙ takers-late needs driver need (pin + 1) used rest none.1
    ∙ ap (λ p. takers needs driver need p rest) e

-- the last tap has a pin
pub takers-last : (needs : List ℕ) (driver : Driver) (need pin : ℕ) (drivers : List Driver) → tap_count needs driver pin drivers ≡ suc need → 1 ≤ length (takers needs driver need pin drivers)
takers-last needs driver need pin [] h = absurd (omega arith)
takers-last needs driver need pin (other ∷ drivers) h =
    by (same_driver driver other) (get_or needs pin 0 == need) (λ e. eqb-true (get_or needs pin 0) need e) (λ ne. eqb-false (get_or needs pin 0) need ne) h (takers-last needs driver need (pin + 1) drivers)
  where
    by : (same here : Bool) → (here ≡ true → get_or needs pin 0 ≡ need) → (here ≡ false → get_or needs pin 0 ≡ need → ⊥) →
        max (cond same (get_or needs pin 0 + 1) 0) (tap_count needs driver (pin + 1) drivers) ≡ suc need →
        (tap_count needs driver (pin + 1) drivers ≡ suc need → 1 ≤ length (takers needs driver need (pin + 1) drivers)) →
        1 ≤ length (with_pin (same && here) pin (takers needs driver need (pin + 1) drivers))
    by true true equal apart h rest = omega arith
    by true false equal apart h rest = let d = apart refl in rest (omega arith)
    by false here equal apart h rest = rest (omega arith)

-- below a number of taps
abbrev pub below : ℕ → ℕ → Bool
below its zero = false
below its (suc count) = below its count || (its == count)

pub below-from : (its count : ℕ) → count ≤ its → below its count ≡ false
below-from its zero high = refl
below-from its (suc count) high =
    ap (λ b. b || (its == count)) (below-from its count (omega arith)) ∙ ne_eqb its count (λ e. omega arith)

pub below-true : (its count : ℕ) → its < count → below its count ≡ true
below-true its zero low = absurd (omega arith)
below-true its (suc count) low = by (its == count) refl (below-true its count)
  where
    by : (here : Bool) → (its == count) ≡ here → (its < count → below its count ≡ true) → (below its count || here) ≡ true
    by true e rest = or_right (below its count) true refl
    by false e rest = or_left (below its count) false (rest (omega (arith, eqb-false its count e)))
