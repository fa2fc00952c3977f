-- The shortest walk from a signal to itself passes no signal twice: where it came back to one, the way round is left out.
-- All signals that it passes are targets, so it has no more steps than there are tables.
use Rattle.std.proofs.Common.{◌≡◌, ◌<◌, ◌++◌, ◌∙◌, ℕ, zero, suc, true, List, [], ◌∷◌, length, Option, Some, None, nat_eq, refl, sym, subst, arith, true≢false, ⊎_elim}
use Rattle.std.specs.Cmp.{nat_eq_equiv}
use Rattle.std.specs.List.{IsDistinct, range_with_len}
use Rattle.std.proofs.lemmas.Bool.{or_cases, eqb-true, eq-eqb, cases_Bool}
use Rattle.std.proofs.lemmas.List.{length-map}
use Rattle.std.proofs.lemmas.Map.Made.{length-le_from_is_member}
use Rattle.net_base.specs.Keys.{is_among}
use Rattle.blif_model.specs.declared.design.Table.{Table}
use Rattle.blif_model.specs.Order.{targets_of, driver_of, pins_of, leads}
use Rattle.blif_model.specs.Laws.{CyclesAreFound}
use Rattle.blif_model.proofs.Signals.{list_any-some, list_any-among, is_among-range, range-bounds, distinct-cons, distinct-second}
use Rattle.blif_model.proofs.Levels.{distinct-range, stands_between}
use Rattle.blif_model.proofs.Walks.{driver_of-Some}

-- the signals that a walk passes, the last one left out
abbrev pub IsPath : List Table → List ℕ → ℕ → ℕ → Type 0
IsPath tables [] from to = from ≡ to
IsPath tables (signal ∷ path) from to = (signal ≡ from) × ((pin : ℕ) × (is_among nat_eq pin (pins_of (driver_of tables from)) ≡ true) × IsPath tables path pin to)

-- A walk passes as many signals as it has steps,
path_of : (tables : List Table) (steps from to : ℕ) → leads tables steps from to ≡ true → (path : List ℕ) × (length path ≡ steps) × IsPath tables path from to
path_of tables zero from to walk = ([], refl, eqb-true from to walk)
path_of tables (suc steps) from to walk =
    let first = list_any-some (λ pin. leads tables steps pin to) (pins_of (driver_of tables from)) walk in
    let rest = path_of tables steps first.0 to first.2 in
    (from ∷ rest.0, omega (arith, rest.1), (refl, (first.0, first.1, rest.2)))

-- and these signals make a walk.
leads-along : (tables : List Table) (path : List ℕ) (from to : ℕ) → IsPath tables path from to → leads tables (length path) from to ≡ true
leads-along tables [] from to walk = eq-eqb from to walk
leads-along tables (signal ∷ path) from to walk =
    list_any-among (λ pin. leads tables (length path) pin to) (pins_of (driver_of tables from)) walk.1.0 walk.1.1 (leads-along tables path walk.1.0 to walk.1.2)

-- What has pins behind it is a target.
target-from_pin : (tables : List Table) (signal pin : ℕ) → is_among nat_eq pin (pins_of (driver_of tables signal)) ≡ true → is_among nat_eq signal (targets_of tables) ≡ true
target-from_pin tables signal pin among = by (driver_of tables signal) refl among
  where
    by : (driver : Option Table) → driver_of tables signal ≡ driver → is_among nat_eq pin (pins_of driver) ≡ true → is_among nat_eq signal (targets_of tables) ≡ true
    by None e among = absurd (true≢false (sym among))
    by (Some table) e among = (driver_of-Some tables signal table e).0

passes-targets : (tables : List Table) (path : List ℕ) (from to signal : ℕ) → IsPath tables path from to → is_among nat_eq signal path ≡ true → is_among nat_eq signal (targets_of tables) ≡ true
passes-targets tables [] from to signal walk among = absurd (true≢false (sym among))
passes-targets tables (first ∷ path) from to signal walk among =
    ⊎_elim {C = is_among nat_eq signal (targets_of tables) ≡ true}
    (λ here. subst (λ s. is_among nat_eq s (targets_of tables) ≡ true) (sym (eqb-true signal first here ∙ walk.0)) (target-from_pin tables from walk.1.0 walk.1.1))
    (passes-targets tables path walk.1.0 to signal walk.1.2)
    (or_cases (nat_eq signal first) (is_among nat_eq signal path) among)

-- A walk from one of the signals that it passes.
path-from : (tables : List Table) (before : List ℕ) (signal : ℕ) (after : List ℕ) (from to : ℕ) → IsPath tables (before ++ signal ∷ after) from to → IsPath tables (signal ∷ after) signal to
path-from tables [] signal after from to walk = (refl, subst (λ s. (pin : ℕ) × (is_among nat_eq pin (pins_of (driver_of tables s)) ≡ true) × IsPath tables after pin to) (sym walk.0) walk.1)
path-from tables (first ∷ before) signal after from to walk = path-from tables before signal after walk.1.0 to walk.1.2

-- A walk that passes no signal twice, and one at least where the other did.
shortened : (tables : List Table) (path : List ℕ) (from to : ℕ) → IsPath tables path from to
    → (short : List ℕ) × IsDistinct nat_eq short × IsPath tables short from to × (0 < length path → 0 < length short)
shortened tables [] from to walk = ([], distinct-range 0 0, walk, λ some. some)
shortened tables (signal ∷ path) from to walk = by (shortened tables path walk.1.0 to walk.1.2)
  where
    by : (short : List ℕ) × IsDistinct nat_eq short × IsPath tables short walk.1.0 to × (0 < length path → 0 < length short)
        → (short : List ℕ) × IsDistinct nat_eq short × IsPath tables short from to × (0 < length (signal ∷ path) → 0 < length short)
    by rest =
        ⊎_elim {C = (short : List ℕ) × IsDistinct nat_eq short × IsPath tables short from to × (0 < length (signal ∷ path) → 0 < length short)}
        (λ again.
        let around = stands_between rest.0 from again in (
          from ∷ around.1,
          distinct-second around.0 (from ∷ around.1) (subst (λ xs. IsDistinct nat_eq xs) around.2 rest.1),
          path-from tables around.0 from around.1 walk.1.0 to (subst (λ xs. IsPath tables xs walk.1.0 to) around.2 rest.2),
          λ some. omega arith,
        ))
        (λ new. (from ∷ rest.0, distinct-cons from rest.0 new rest.1, (refl, (walk.1.0, walk.1.1, rest.2)), λ some. omega arith))
        (cases_Bool (is_among nat_eq from rest.0))

pub cycles_are_found : CyclesAreFound
cycles_are_found tables table = (
  λ found.
      let walk = list_any-some (λ steps. leads tables steps table.target table.target) (range_with_len 1 (length tables)) found in
      (walk.0, omega (arith, (range-bounds 1 (length tables) walk.0 walk.1).0), walk.2),
  λ cycle.
      let path = path_of tables cycle.0 table.target table.target cycle.2 in
      let short = shortened tables path.0 table.target table.target path.2 in
      let some : 0 < length short.0 = short.3 (omega (arith, path.1, cycle.1)) in
      let few = length-le_from_is_member nat_eq_equiv short.0 (targets_of tables) short.1 (λ signal. passes-targets tables short.0 table.target table.target signal short.2) in
      list_any-among (λ steps. leads tables steps table.target table.target) (range_with_len 1 (length tables)) (length short.0)
      (is_among-range 1 (length tables) (length short.0) (omega (arith, some)) (omega (arith, few, length-map tables (λ (t : Table). t.target))))
      (leads-along tables short.0 table.target table.target short.2),
)
