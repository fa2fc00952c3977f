-- Levels that fit those of the pins are the levels of the signals, where no table is on a cycle.
-- Without a cycle the level of a signal is above those of the pins of the table that drives it. So by induction on the true
-- level, what is given to the pins is right, and then what is given to the signal, which is made from it in the same way.
-- It doesn't matter how the levels were found.
use Rattle.std.proofs.Common.{◌≡◌, ◌≤◌, ◌+◌, ◌∙◌, ℕ, zero, suc, List, get_or, Option, Some, None, refl, sym, ap, arith, add-one}
use Rattle.std.specs.Prelude.{slice_index}
use Rattle.blif_model.specs.declared.design.Table.{Table}
use Rattle.blif_model.specs.Order.{driver_of, level_behind, level_within, level_of}
use Rattle.blif_model.proofs.CallerLemmas.{HasNoCycle, level_of-driven, largest-ge, largest-same}
use Rattle.blif_check.specs.Levels.{AreAbovePins, AreLevels}

-- Levels of pins that are the same give the same level.
level_behind-same : (these those : ℕ → ℕ) (driver : Option Table) → ((signal : ℕ) → these signal ≡ those signal) → level_behind these driver ≡ level_behind those driver
level_behind-same these those None same = refl
level_behind-same these those (Some table) same = ap (λ n. 1 + n) (largest-same these those table.pins (λ pin among. same pin))

-- A round more looks at one more table behind one another.
pub level_within-round : (tables : List Table) (levels : List ℕ) (round signal level : ℕ) → ((other : ℕ) → get_or levels other 0 ≡ level_within tables round other)
    → level ≡ level_behind (slice_index levels) (driver_of tables signal) → level ≡ level_within tables (round + 1) signal
level_within-round tables levels round signal level same is =
    is ∙ level_behind-same (slice_index levels) (level_within tables round) (driver_of tables signal) same ∙ ap (λ n. level_within tables n signal) (sym (add-one round))

-- The level of a signal is right where those of the pins with lower levels are.
above-pins : (tables : List Table) (levels : List ℕ) (signal most : ℕ) (driver : Option Table)
    → slice_index levels signal ≡ level_behind (slice_index levels) driver → level_of tables signal ≡ level_behind (level_of tables) driver → level_of tables signal ≤ suc most
    → ((pin : ℕ) → level_of tables pin ≤ most → slice_index levels pin ≡ level_of tables pin) → slice_index levels signal ≡ level_of tables signal
above-pins tables levels signal most None here there low rest = here ∙ sym there
above-pins tables levels signal most (Some table) here there low rest =
    here
    ∙ ap (λ n. 1 + n) (largest-same (slice_index levels) (level_of tables) table.pins
    (λ pin among. rest pin (omega (arith, there, largest-ge (level_of tables) table.pins pin among))))
    ∙ sym there

-- No level is above that of a signal that no table drives.
above-none : (tables : List Table) (levels : List ℕ) (signal : ℕ) (driver : Option Table)
    → slice_index levels signal ≡ level_behind (slice_index levels) driver → level_of tables signal ≡ level_behind (level_of tables) driver → level_of tables signal ≤ 0
    → slice_index levels signal ≡ level_of tables signal
above-none tables levels signal None here there low = here ∙ sym there
above-none tables levels signal (Some table) here there low = absurd (omega (arith, there))

-- By the level of the signal: its pins have lower levels.
lower : (tables : List Table) (levels : List ℕ) → HasNoCycle tables → AreAbovePins levels tables → (most signal : ℕ) → level_of tables signal ≤ most → slice_index levels signal ≡ level_of tables signal
lower tables levels none above zero signal low = above-none tables levels signal (driver_of tables signal) (above signal) (level_of-driven tables signal none) low
lower tables levels none above (suc most) signal low =
    above-pins tables levels signal most (driver_of tables signal) (above signal) (level_of-driven tables signal none) low (λ pin. lower tables levels none above most pin)

pub levels-found : (tables : List Table) (levels : List ℕ) → HasNoCycle tables → AreAbovePins levels tables → AreLevels levels tables
levels-found tables levels none above signal = lower tables levels none above (level_of tables signal) signal (omega arith)
