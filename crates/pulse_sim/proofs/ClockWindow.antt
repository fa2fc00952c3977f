-- At its clock tick a cell has kept of each pin just what pulsed in the n ticks before, for n phases.
--
-- Of the ticks so far, those from the last clock tick on are at most n, since of n ticks in a row one is a clock tick. At a
-- clock tick they are n, or all where there was no clock tick before; and then there were fewer than n.
use Rattle.std.proofs.Common.{◌≡◌, ℕ, zero, suc, ◌<◌, ◌≤◌, ◌+◌, ◌%◌, ◌⊎◌, inl, inr, Bool, true, false, ◌||◌, refl, sym, ap, ◌∙◌, ⊎_elim, arith, mod-lt, mod-eq_of_lt}
use Rattle.std.specs.Prelude.{◌==◌, if◌then◌else◌}
use Rattle.std.proofs.lemmas.Bool.{eqb-true, eq-eqb, true≢false, cases_order}
use Rattle.std.proofs.Math.Nat.{add-mod_right}
use Rattle.pulse_net.specs.Pulses.{Signal, pulsed_within}
use Rattle.pulse_net.proofs.CallerLemmas.{same_tick}
use Rattle.pulse_sim.specs.Simulators.{since_clock}

-- So many ticks are kept of the first ones, for a clock: all, where no clock tick is among them; and else those from a clock
-- tick on, of which there are n at most.
pub record FromClock (n clock ticks kept : ℕ) : Type 0 where
  pub last : ℕ
  pub sum : last + kept ≡ ticks
  pub at_clock : last % n ≡ clock
  pub some : 1 ≤ kept
  pub few : kept ≤ n

abbrev IsKept : ℕ → ℕ → ℕ → ℕ → Type 0
IsKept n clock ticks kept = ((ticks ≤ clock) × (kept ≡ ticks)) ⊎ FromClock n clock ticks kept

module _ (n clock : ℕ) (below : clock < n) where
  next : (ticks kept : ℕ) (here : Bool) → (ticks % n == clock) ≡ here → IsKept n clock ticks kept → IsKept n clock (suc ticks) (if here then 1 else kept + 1)
  next ticks kept true e h = inr (record { last = ticks; sum = omega arith; at_clock = eqb-true (ticks % n) clock e; some = omega arith; few = omega arith })
  next ticks kept false e h =
      let away : ticks % n ≡ clock → ⊥ = λ same. true≢false (sym (eq-eqb (ticks % n) clock same) ∙ e) in
      ⊎_elim (λ all. ⊎_elim (λ same. absurd (away (mod-eq_of_lt (let low : ticks < n = omega (arith, same, below) in low) ∙ same))) (⊎_elim (λ lower. inl (let le : suc ticks ≤ clock = omega (arith, lower) in le, let k : kept + 1 ≡ suc ticks = omega (arith, all.1) in k)) (λ above. absurd (let bad : ⊥ = omega (arith, all.0, above) in bad))) (cases_order ticks clock))
      (λ from. ⊎_elim (λ full. absurd (away (ap (λ t. t % n) (sym (let s : from.last + n ≡ ticks = omega (arith, from.sum, full) in s)) ∙ add-mod_right from.last n ∙ from.at_clock))) (⊎_elim (λ lower. inr (record { last = from.last; sum = omega (arith, from.sum); at_clock = from.at_clock; some = omega arith; few = omega (arith, lower) })) (λ above. absurd (let bad : ⊥ = omega (arith, from.few, above) in bad))) (cases_order kept n))
      h

module _ (n : ℕ) (some : 1 ≤ n) (stage : ℕ) where
  low : stage % n < n
  low = mod-lt stage (omega arith)

  kept : (ticks : ℕ) → IsKept n (stage % n) ticks (since_clock n stage ticks)
  kept zero = inl (omega arith, refl)
  kept (suc ticks) = next n (stage % n) low ticks (since_clock n stage ticks) (ticks % n == stage % n) refl (kept ticks)

  -- windows that go back to the first tick are the same
  whole : (signal : Signal) (ticks a b : ℕ) → ticks ≤ a → ticks ≤ b → pulsed_within signal ticks a ≡ pulsed_within signal ticks b
  whole signal zero a b ha hb = refl
  whole signal (suc ticks) zero b ha hb = absurd (omega arith)
  whole signal (suc ticks) (suc a) zero ha hb = absurd (omega arith)
  whole signal (suc ticks) (suc a) (suc b) ha hb = ap (λ p. signal ticks || p) (whole signal ticks a b (omega arith) (omega arith))

  -- What is kept at a clock tick is what pulsed within n ticks.
  pub kept-at_clock : (signal : Signal) (ticks : ℕ) → ticks % n ≡ stage % n → pulsed_within signal ticks (since_clock n stage ticks) ≡ pulsed_within signal ticks n
  kept-at_clock signal ticks here =
      ⊎_elim (λ all.
      let short : ticks ≤ n = omega (arith, all.0, low) in
      let same : ticks ≤ since_clock n stage ticks = omega (arith, all.1) in
      whole signal ticks (since_clock n stage ticks) n same short)
      (λ from. ap (pulsed_within signal ticks) (⊎_elim (λ e. e) (⊎_elim (λ lower.
      let one : from.last ≡ ticks = same_tick n from.last ticks (from.at_clock ∙ sym here) (omega (arith, from.sum, from.some)) (omega (arith, from.sum, lower)) in
      absurd (let bad : ⊥ = omega (arith, from.sum, from.some, one) in bad)) (λ above. absurd (let bad : ⊥ = omega (arith, from.few, above) in bad))) (cases_order (since_clock n stage ticks) n)))
      (kept ticks)

-- an empty window
pub pulsed_within-none : (signal : Signal) (ticks : ℕ) → pulsed_within signal ticks 0 ≡ false
pulsed_within-none signal zero = refl
pulsed_within-none signal (suc ticks) = refl
