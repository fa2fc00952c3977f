-- The pins of all taps are no more than the pins: each has one driver and one need.
use Rattle.std.proofs.Common.{◌≡◌, ◌≤◌, ℕ, zero, suc, ◌+◌, Bool, true, false, cond, ◌&&◌, ◌==◌, List, [], ◌∷◌, length, get_or, refl, sym, arith}
use Rattle.std.proofs.lemmas.Bool.{eqb-true}
use Rattle.gate_net.specs.declared.row.Driver.{Driver}
use Rattle.gate_net.specs.declared.row.Driver.TheVariants.{Input, Gate}
use Rattle.gate_net.specs.Rows.{same_driver}
use Rattle.splitters.specs.Taps.{with_pin, takers, taps_from}

-- the sum of a count over numbers from one on, `more` of them
abbrev sum_from : (ℕ → ℕ) → ℕ → ℕ → ℕ
sum_from count from zero = 0
sum_from count from (suc more) = count from + sum_from count (from + 1) more

sum_from-none : (count : ℕ → ℕ) (from more : ℕ) → ((k : ℕ) → from ≤ k → count k ≡ 0) → sum_from count from more ≡ 0
sum_from-none count from zero none = refl
sum_from-none count from (suc more) none = omega (arith, none from (omega arith), sum_from-none count (from + 1) more (λ k low. none k (omega arith)))

-- where each number counts no more than two others do, so does the sum
sum_from-plus : (count first second : ℕ → ℕ) (from more : ℕ) → ((k : ℕ) → count k ≤ first k + second k) → sum_from count from more ≤ sum_from first from more + sum_from second from more
sum_from-plus count first second from zero each = omega arith
sum_from-plus count first second from (suc more) each = omega (arith, each from, sum_from-plus count first second (from + 1) more each)

-- A test that one number at most passes, counts 1 at most.
sum_from-one : (test : ℕ → Bool) (x from more : ℕ) → ((k : ℕ) → test k ≡ true → k ≡ x) → sum_from (λ k. cond (test k) 1 0) from more ≤ 1
sum_from-one test x from zero only = omega arith
sum_from-one test x from (suc more) only = by (test from) refl (sum_from-one test x (from + 1) more only)
  where
    behind : (here : Bool) (k : ℕ) → test k ≡ here → test from ≡ true → from + 1 ≤ k → cond {A = ℕ} here 1 0 ≡ 0
    behind true k e first low = let a : k ≡ x = only k e in let b : from ≡ x = only from first in absurd (omega arith)
    behind false k e first low = refl

    by : (here : Bool) → test from ≡ here → sum_from (λ k. cond (test k) 1 0) (from + 1) more ≤ 1 → cond here 1 0 + sum_from (λ k. cond (test k) 1 0) (from + 1) more ≤ 1
    by true e rest = omega (arith, sum_from-none (λ k. cond (test k) 1 0) (from + 1) more (λ k low. behind (test k) k refl e low))
    by false e rest = omega (arith, rest)

-- how many of these pins have this driver
abbrev pub pins_of : Driver → List Driver → ℕ
pins_of driver [] = 0
pins_of driver (other ∷ drivers) = cond (same_driver driver other) 1 0 + pins_of driver drivers

-- how many pins these taps have
abbrev pub tap_pins : List (List ℕ) → ℕ
tap_pins [] = 0
tap_pins (pins ∷ taps) = length pins + tap_pins taps

length-with_pin : (here : Bool) (pin : ℕ) (pins : List ℕ) → length (with_pin here pin pins) ≡ cond here 1 0 + length pins
length-with_pin true pin pins = omega arith
length-with_pin false pin pins = omega arith

-- A pin takes from one tap of its driver.
takers-count : (needs : List ℕ) (driver : Driver) (pin need count : ℕ) (drivers : List Driver) → sum_from (λ k. length (takers needs driver k pin drivers)) need count ≤ pins_of driver drivers
takers-count needs driver pin need count [] = omega (arith, sum_from-none (λ k. 0) need count (λ k low. refl))
takers-count needs driver pin need count (other ∷ drivers) = by (same_driver driver other) (takers-count needs driver (pin + 1) need count drivers)
  where
    by : (same : Bool) → sum_from (λ k. length (takers needs driver k (pin + 1) drivers)) need count ≤ pins_of driver drivers →
        sum_from (λ k. length (with_pin (same && (get_or needs pin 0 == k)) pin (takers needs driver k (pin + 1) drivers))) need count ≤ cond same 1 0 + pins_of driver drivers
    by true rest =
        let both = sum_from-plus (λ k. length (with_pin (get_or needs pin 0 == k) pin (takers needs driver k (pin + 1) drivers))) (λ k. cond (get_or needs pin 0 == k) 1 0) (λ k. length (takers needs driver k (pin + 1) drivers)) need count
        (λ k. omega (arith, length-with_pin (get_or needs pin 0 == k) pin (takers needs driver k (pin + 1) drivers))) in
        omega (arith, rest, both, sum_from-one (λ k. get_or needs pin 0 == k) (get_or needs pin 0) need count (λ k same. sym (eqb-true (get_or needs pin 0) k same)))
    by false rest = omega (arith, rest)

tap_pins-from : (needs : List ℕ) (drivers : List Driver) (driver : Driver) (need count : ℕ) → tap_pins (taps_from needs drivers driver need count) ≡ sum_from (λ k. length (takers needs driver k 0 drivers)) need count
tap_pins-from needs drivers driver need zero = refl
tap_pins-from needs drivers driver need (suc count) = omega (arith, tap_pins-from needs drivers driver (need + 1) count)

-- The taps of a driver have no more pins than the driver.
pub tap_pins-few : (needs : List ℕ) (drivers : List Driver) (driver : Driver) (need count : ℕ) → tap_pins (taps_from needs drivers driver need count) ≤ pins_of driver drivers
tap_pins-few needs drivers driver need count = omega (arith, tap_pins-from needs drivers driver need count, takers-count needs driver 0 need count drivers)

-- the pins of inputs from one on, a number of them, and of gates
abbrev pub input_pins : List Driver → ℕ → ℕ → ℕ
input_pins drivers = sum_from (λ i. pins_of (Input i) drivers)

abbrev pub gate_pins_of : List Driver → ℕ → ℕ → ℕ
gate_pins_of drivers = sum_from (λ k. pins_of (Gate k) drivers)

-- A pin has one driver.
pub driver_pins-few : (drivers : List Driver) (input inputs gate gates : ℕ) → input_pins drivers input inputs + gate_pins_of drivers gate gates ≤ length drivers
driver_pins-few [] input inputs gate gates = omega (arith, sum_from-none (λ k. 0) input inputs (λ k low. refl), sum_from-none (λ k. 0) gate gates (λ k low. refl))
driver_pins-few (Input i ∷ drivers) input inputs gate gates =
    let a = sum_from-plus (λ k. pins_of (Input k) (Input i ∷ drivers)) (λ k. cond (k == i) 1 0) (λ k. pins_of (Input k) drivers) input inputs (λ k. omega arith) in
    let b = sum_from-plus (λ k. pins_of (Gate k) (Input i ∷ drivers)) (λ k. 0) (λ k. pins_of (Gate k) drivers) gate gates (λ k. omega arith) in
    let c : sum_from (λ k. cond {A = ℕ} (k == i) 1 0) input inputs ≤ 1 = sum_from-one (λ k. k == i) i input inputs (λ k same. eqb-true k i same) in
    omega (arith, a, b, c, sum_from-none (λ k. 0) gate gates (λ k low. refl), driver_pins-few drivers input inputs gate gates)
driver_pins-few (Gate j ∷ drivers) input inputs gate gates =
    let a = sum_from-plus (λ k. pins_of (Input k) (Gate j ∷ drivers)) (λ k. 0) (λ k. pins_of (Input k) drivers) input inputs (λ k. omega arith) in
    let b = sum_from-plus (λ k. pins_of (Gate k) (Gate j ∷ drivers)) (λ k. cond (k == j) 1 0) (λ k. pins_of (Gate k) drivers) gate gates (λ k. omega arith) in
    let c : sum_from (λ k. cond {A = ℕ} (k == j) 1 0) gate gates ≤ 1 = sum_from-one (λ k. k == j) j gate gates (λ k same. eqb-true k j same) in
    omega (arith, a, b, c, sum_from-none (λ k. 0) input inputs (λ k low. refl), driver_pins-few drivers input inputs gate gates)
