-- The taps of a driver: there are some where it drives a pin, their pins are there, and their stages fit.
use Rattle.std.proofs.Common.{◌-◌, ⊎_elim, ◌*◌, ◌≡◌, ◌≤◌, ◌<◌, ◌^◌, ℕ, zero, suc, ◌+◌, max, cond, Bool, true, false, not, IsTrue, ◌↔◌, ◌||◌, ◌&&◌, ◌==◌, List, [], ◌∷◌, All, length, get_or, refl, ap, sym, subst, ◌∙◌, arith}
use Rattle.std.proofs.lemmas.List.Elements.{All-nil, All-cons}
use Rattle.std.proofs.lemmas.Bool.{true≢false, cases_lt}
use Rattle.std.proofs.lemmas.Bool.Decides.{Decides-like}
use Rattle.std.specs.Bool.{Decides, one_answer}
use Rattle.std.specs.List.{list_any}
use Rattle.gate_net.specs.declared.row.Driver.{Driver}
use Rattle.gate_net.specs.Rows.{same_driver}
use Rattle.gate_net.proofs.CallerLemmas.{same_driver-decides}
use Rattle.splitters.specs.Taps.{with_pin, takers, tap_count, taps_from, taps_at}

-- Each tap has pins that there are.
with_pin-below : (same : Bool) (pin limit : ℕ) (pins : List ℕ) → pin < limit → All (λ p. p < limit) pins → All (λ p. p < limit) (with_pin same pin pins)
with_pin-below true pin limit pins below rest = All-cons (λ p. p < limit) pin pins below rest
with_pin-below false pin limit pins below rest = rest

takers-below : (needs : List ℕ) (driver : Driver) (need pin limit : ℕ) (drivers : List Driver) → pin + length drivers ≤ limit → All (λ p. p < limit) (takers needs driver need pin drivers)
takers-below needs driver need pin limit [] few = All-nil (λ p. p < limit)
takers-below needs driver need pin limit (other ∷ drivers) few =
    with_pin-below (same_driver driver other && (get_or needs pin 0 == need)) pin limit (takers needs driver need (pin + 1) drivers) (omega arith)
    (takers-below needs driver need (pin + 1) limit drivers (omega arith))

-- the pins of each tap are below a limit
abbrev pub AreBelow : ℕ → List (List ℕ) → Type 0
AreBelow limit taps = All (λ pins. All (λ pin. pin < limit) pins) taps

taps_from-below : (needs : List ℕ) (drivers : List Driver) (driver : Driver) (need count : ℕ) → AreBelow (length drivers) (taps_from needs drivers driver need count)
taps_from-below needs drivers driver need zero = All-nil (λ pins. All (λ pin. pin < length drivers) pins)
taps_from-below needs drivers driver need (suc count) =
    All-cons (λ pins. All (λ pin. pin < length drivers) pins) (takers needs driver need 0 drivers) (taps_from needs drivers driver (need + 1) count)
    (takers-below needs driver need 0 (length drivers) drivers (omega arith))
    (taps_from-below needs drivers driver (need + 1) count)

pub taps_at-below : (needs : List ℕ) (drivers : List Driver) (driver : Driver) → AreBelow (length drivers) (taps_at needs drivers driver)
taps_at-below needs drivers driver = taps_from-below needs drivers driver 0 (tap_count needs driver 0 drivers)

-- A driver has a tap exactly where it drives a pin.
pub tap_count-some : (needs : List ℕ) (driver : Driver) (pin : ℕ) (drivers : List Driver) → Decides (list_any (same_driver driver) drivers) (1 ≤ tap_count needs driver pin drivers)
tap_count-some needs driver pin [] = (λ e. absurd (true≢false (sym e)), λ some. absurd (omega arith))
tap_count-some needs driver pin (other ∷ drivers) = by (same_driver driver other) (tap_count-some needs driver (pin + 1) drivers)
  where
    by : (same : Bool) → Decides (list_any (same_driver driver) drivers) (1 ≤ tap_count needs driver (pin + 1) drivers) →
        Decides (same || list_any (same_driver driver) drivers) (1 ≤ max (cond same (get_or needs pin 0 + 1) 0) (tap_count needs driver (pin + 1) drivers))
    by true rest = (λ e. omega arith, λ some. refl)
    by false rest = (λ e. let some = rest.0 e in omega (arith, some), λ some. rest.1 (omega (arith, some)))

pub length-taps_from : (needs : List ℕ) (drivers : List Driver) (driver : Driver) (need count : ℕ) → length (taps_from needs drivers driver need count) ≡ count
length-taps_from needs drivers driver need zero = refl
length-taps_from needs drivers driver need (suc count) = omega (arith, length-taps_from needs drivers driver (need + 1) count)

pub length-taps_at : (needs : List ℕ) (drivers : List Driver) (driver : Driver) → length (taps_at needs drivers driver) ≡ tap_count needs driver 0 drivers
length-taps_at needs drivers driver = length-taps_from needs drivers driver 0 (tap_count needs driver 0 drivers)

-- taps that are tested for none
some-taps : (taps : List (List ℕ)) (empty : Bool) → (IsTrue empty ↔ (taps ≡ [])) → Decides (not empty) (1 ≤ length taps)
some-taps taps true tells = (λ e. absurd (true≢false (sym e)), λ some. let none : length taps ≡ 0 = ap length (tells.0 refl) in absurd (omega (arith, some, none)))
some-taps [] false tells = absurd (true≢false (sym (tells.1 refl)))
some-taps (tap ∷ taps) false tells = (λ e. omega arith, λ some. refl)

-- So whether it has taps tells whether it is used.
pub is_used-taps : (needs : List ℕ) (drivers : List Driver) (driver : Driver) (taps : List (List ℕ)) (empty : Bool) → taps ≡ taps_at needs drivers driver →
    (IsTrue empty ↔ (taps ≡ [])) → not empty ≡ list_any (same_driver driver) drivers
is_used-taps needs drivers driver taps empty are tells =
    let many : length taps ≡ tap_count needs driver 0 drivers = ap length are ∙ length-taps_at needs drivers driver in
    one_answer (not empty) (list_any (same_driver driver) drivers)
    (Decides-like (not empty) (λ some. omega (arith, some, many)) (λ some. omega (arith, some, many)) (some-taps taps empty tells))
    (tap_count-some needs driver 0 drivers)

-- The last DRO of a chain fits: it is the one that some pin takes from.
fits-next : (same : Bool) (n stage need more limit : ℕ) → (same ≡ true → stage + n * need < limit) → stage + n * (more - 1) < limit → stage + n * (max (cond same (need + 1) 0) more - 1) < limit
fits-next false n stage need more limit mine rest =
    let e : max 0 more ≡ more = omega arith in
    subst (λ (m : ℕ). stage + n * (m - 1) < limit) (sym e) rest
fits-next true n stage need more limit mine rest =
    ⊎_elim {C = stage + n * (max (need + 1) more - 1) < limit}
    (λ below.
    let e : need ≡ max (need + 1) more - 1 = omega arith in
    subst (λ (m : ℕ). stage + n * m < limit) e (mine refl))
    (λ above.
    let e : more ≡ max (need + 1) more = omega arith in
    subst (λ (m : ℕ). stage + n * (m - 1) < limit) e rest)
    (cases_lt more (need + 1))

tap_count-fits : (stage_of : Driver → ℕ) (n limit : ℕ) (needs : List ℕ) (driver : Driver) (pin : ℕ) (drivers : List Driver) → stage_of driver < limit →
    ((k : ℕ) (d : Driver) → k < length drivers → stage_of (get_or drivers k d) + n * get_or needs (pin + k) 0 < limit) →
    stage_of driver + n * (tap_count needs driver pin drivers - 1) < limit
tap_count-fits stage_of n limit needs driver pin [] first each = omega arith
tap_count-fits stage_of n limit needs driver pin (other ∷ drivers) first each =
    let here : pin + 0 ≡ pin = omega arith in
    fits-next (same_driver driver other) n (stage_of driver) (get_or needs pin 0) (tap_count needs driver (pin + 1) drivers) limit
    (λ same.
    subst (λ (d : Driver). stage_of d + n * get_or needs pin 0 < limit) (sym ((same_driver-decides driver other).0 same))
    (subst (λ (m : ℕ). stage_of other + n * get_or needs m 0 < limit) here (each 0 other (omega arith))))
    (tap_count-fits stage_of n limit needs driver (pin + 1) drivers first
    (λ k d below.
    let next : pin + suc k ≡ (pin + 1) + k = omega arith in
    subst (λ (m : ℕ). stage_of (get_or drivers k d) + n * get_or needs m 0 < limit) next (each (suc k) d (omega arith))))

pub chain-fits : (stage_of : Driver → ℕ) (n : ℕ) (needs : List ℕ) (driver : Driver) (drivers : List Driver) (stage count : ℕ) →
    stage ≡ stage_of driver → stage < 2 ^ 32 → count ≡ tap_count needs driver 0 drivers →
    ((k : ℕ) (d : Driver) → k < length drivers → stage_of (get_or drivers k d) + n * get_or needs k 0 < 2 ^ 32) →
    stage + n * (count - 1) < 2 ^ 32
chain-fits stage_of n needs driver drivers stage count here small many each =
    let all : stage_of driver + n * (tap_count needs driver 0 drivers - 1) < 2 ^ 32 =
    tap_count-fits stage_of n (2 ^ 32) needs driver 0 drivers (subst (λ (m : ℕ). m < 2 ^ 32) here small)
    (λ k d below. let e : k ≡ 0 + k = omega arith in subst (λ (m : ℕ). stage_of (get_or drivers k d) + n * get_or needs m 0 < 2 ^ 32) e (each k d below)) in
    subst (λ (m : ℕ). stage + n * (m - 1) < 2 ^ 32) (sym many) (subst (λ (m : ℕ). m + n * (tap_count needs driver 0 drivers - 1) < 2 ^ 32) (sym here) all)
