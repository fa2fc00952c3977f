-- Of the ticks of a window just one can have a pulse, where a signal keeps to one clock.
use Rattle.std.proofs.Common.{◌≡◌, ℕ, zero, suc, ◌+◌, ◌*◌, ◌/◌, ◌%◌, ◌<◌, ◌≤◌, true, sym, ap, ◌∙◌, ⊎_elim, arith}
use Rattle.std.proofs.lemmas.Bool.{or_cases, or_left, or_right, cases_Bool, cases_order, false_from_ne_true, true≢false}
use Rattle.std.proofs.Math.Nat.{div-add-mod}
use Rattle.pulse_net.specs.Pulses.{Signal, pulsed_within}

-- multiples of n at least n apart
multiples_apart : (n a b : ℕ) → a < b → n * a + n ≤ n * b
multiples_apart n a b h = grind arith

-- two ticks of one clock that are less than an epoch apart are one tick
pub same_tick : (n a b : ℕ) → a % n ≡ b % n → a < b + n → b < a + n → a ≡ b
same_tick n a b same above below =
    let qa = div-add-mod a n in
    let qb = div-add-mod b n in
    ⊎_elim (λ e. sym qa ∙ ap (λ q. n * q + a % n) e ∙ ap (λ r. n * (b / n) + r) same ∙ qb)
    (⊎_elim (λ l. let m = multiples_apart n (a / n) (b / n) l in absurd (omega arith)) (λ l. let m = multiples_apart n (b / n) (a / n) l in absurd (omega arith)))
    (cases_order (a / n) (b / n))

-- a pulse at a tick of the window is found
pulsed_within-found : (signal : Signal) (tick window at : ℕ) → at < tick → tick ≤ at + window → signal at ≡ true → pulsed_within signal tick window ≡ true
pulsed_within-found signal zero window at before late pulse = absurd (omega arith)
pulsed_within-found signal (suc tick) zero at before late pulse = absurd (omega arith)
pulsed_within-found signal (suc tick) (suc window) at before late pulse =
    ⊎_elim (λ e. or_left (signal tick) _ (ap signal (sym e) ∙ pulse))
    (⊎_elim (λ l. or_right (signal tick) _ (pulsed_within-found signal tick window at l (omega arith) pulse)) (λ l. absurd (omega arith)))
    (cases_order at tick)

-- what is found is a pulse at a tick of the window
pub pulsed_within-tick : (signal : Signal) (tick window : ℕ) → pulsed_within signal tick window ≡ true → (at : ℕ) × (at < tick) × (tick ≤ at + window) × (signal at ≡ true)
pulsed_within-tick signal zero window h = absurd (true≢false (sym h))
pulsed_within-tick signal (suc tick) zero h = absurd (true≢false (sym h))
pulsed_within-tick signal (suc tick) (suc window) h =
    ⊎_elim (λ here. (tick, omega arith, omega arith, here))
    (λ earlier. let w = pulsed_within-tick signal tick window earlier in (w.0, omega (arith, w.1), omega (arith, w.2), w.3))
    (or_cases (signal tick) (pulsed_within signal tick window) h)

-- The window lemma. A signal pulses only at the ticks of one clock. Of the n ticks of a window just one is such a tick.
-- So what pulsed within the window is what the signal does at that tick.
pub pulsed_within-at_clock : (n : ℕ) (signal : Signal) (tick at : ℕ) → ((t : ℕ) → signal t ≡ true → t % n ≡ at % n) → at < tick → tick ≤ at + n → pulsed_within signal tick n ≡ signal at
pulsed_within-at_clock n signal tick at clocked before late =
    ⊎_elim (λ pulse. pulsed_within-found signal tick n at before late pulse ∙ sym pulse)
    (λ none. false_from_ne_true (pulsed_within signal tick n) (λ h.
    let w = pulsed_within-tick signal tick n h in
    let e : w.0 ≡ at = same_tick n w.0 at (clocked w.0 w.3) (omega arith) (omega arith) in
    true≢false (sym w.3 ∙ ap signal e ∙ none)) ∙ sym none)
    (cases_Bool (signal at))
