-- Tables by the places that stand for the signals.
use Rattle.std.proofs.Common.{◌≡◌, ◌<◌, ◌==◌, ◌++◌, ◌∙◌, ◌⊎◌, inl, inr, ℕ, Bool, true, false, cond, List, [], ◌∷◌, length, set, Option, Some, None, get_or, refl, sym, ap, subst, true≢false, get_or-set_same, get_or-set_other}
use Rattle.std.specs.Prelude.{slice_get}
use Rattle.std.specs.Option.{MatchOption, is_some, option_or}
use Rattle.std.proofs.lemmas.Bool.{eqb-true, eqb-false, eq-eqb}
use Rattle.std.proofs.lemmas.List.Folds.{find-append}
use Rattle.blif_model.specs.declared.design.Table.{Table}
use Rattle.blif_model.specs.Order.{driver_of}

-- what the place that stands for a signal tells of the table that drives it among some of the tables
abbrev pub IsDriverAmong : List Table → List Table → ℕ → Option ℕ → Type 0
IsDriverAmong tables those signal place =
    MatchOption place (driver_of those signal ≡ None) (λ p. (table : Table) × (slice_get tables p ≡ Some table) × (driver_of those signal ≡ Some table))

abbrev pub AreDriversAmong : List (Option ℕ) → List Table → List Table → Type 0
AreDriversAmong places tables those = (signal : ℕ) → IsDriverAmong tables those signal (get_or places signal None)

-- One table more drives its target, unless one before it does,
driver_of-push : (those : List Table) (table : Table) (signal : ℕ) → driver_of (those ++ table ∷ []) signal ≡ option_or (driver_of those signal) (cond (signal == table.target) (Some table) None)
driver_of-push those table signal = find-append (λ (t : Table). signal == t.target) those (table ∷ [])

-- so a place that is there stays,
kept : (tables those : List Table) (table : Table) (signal : ℕ) (place : Option ℕ) → (is_some place ≡ true) ⊎ ((signal == table.target) ≡ false)
    → IsDriverAmong tables those signal place → IsDriverAmong tables (those ++ table ∷ []) signal place
kept tables those table signal None (inl some) is = absurd (true≢false (sym some))
kept tables those table signal None (inr other) is = driver_of-push those table signal ∙ ap (λ o. option_or o (cond (signal == table.target) (Some table) None)) is ∙ ap (λ b. cond b (Some table) None) other
kept tables those table signal (Some p) other is = (is.0, is.1, driver_of-push those table signal ∙ ap (λ o. option_or o (cond (signal == table.target) (Some table) None)) is.2)

-- and where none is, the table's own place is right.
came : (tables those : List Table) (table : Table) (p : ℕ) → slice_get tables p ≡ Some table → driver_of those table.target ≡ None → IsDriverAmong tables (those ++ table ∷ []) table.target (Some p)
came tables those table p at none =
    (table, at, driver_of-push those table table.target ∙ ap (λ o. option_or o (cond (table.target == table.target) (Some table) None)) none ∙ ap (λ b. cond b (Some table) None) (eq-eqb table.target table.target refl))

pub drivers-kept : (places : List (Option ℕ)) (tables those : List Table) (table : Table) → is_some (get_or places table.target None) ≡ true
    → AreDriversAmong places tables those → AreDriversAmong places tables (those ++ table ∷ [])
drivers-kept places tables those table some are signal = by (signal == table.target) refl
  where
    by : (b : Bool) → (signal == table.target) ≡ b → IsDriverAmong tables (those ++ table ∷ []) signal (get_or places signal None)
    by true here = kept tables those table signal (get_or places signal None) (inl (ap (λ s. is_some (get_or places s None)) (eqb-true signal table.target here) ∙ some)) (are signal)
    by false other = kept tables those table signal (get_or places signal None) (inr other) (are signal)

pub drivers-came : (places : List (Option ℕ)) (tables those : List Table) (table : Table) (p : ℕ) → slice_get tables p ≡ Some table → table.target < length places
    → get_or places table.target None ≡ None
    → AreDriversAmong places tables those → AreDriversAmong (set places table.target (Some p)) tables (those ++ table ∷ [])
drivers-came places tables those table p at within none are signal = by (signal == table.target) refl
  where
    by : (b : Bool) → (signal == table.target) ≡ b → IsDriverAmong tables (those ++ table ∷ []) signal (get_or (set places table.target (Some p)) signal None)
    by true here =
        let absent : driver_of those table.target ≡ None = subst (IsDriverAmong tables those table.target) none (are table.target) in
        subst (λ s. IsDriverAmong tables (those ++ table ∷ []) s (get_or (set places table.target (Some p)) s None)) (sym (eqb-true signal table.target here))
        (subst (IsDriverAmong tables (those ++ table ∷ []) table.target) (sym (get_or-set_same places table.target (Some p) None within)) (came tables those table p at absent))
    by false other =
        subst (IsDriverAmong tables (those ++ table ∷ []) signal) (sym (get_or-set_other places table.target signal (Some p) None (eqb-false signal table.target other)))
        (kept tables those table signal (get_or places signal None) (inr other) (are signal))
