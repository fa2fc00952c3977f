-- Walks through pins and levels: where no walk leads from a signal back to it, no level is above the number of tables, so
-- the level of a table is above those of its pins.
use Rattle.std.proofs.Common.{◌≡◌, ◌==◌, ◌≤◌, ◌+◌, ◌-◌, ◌∙◌, ◌||◌, ◌⊎◌, inl, inr, ℕ, zero, suc, Bool, true, false, cond, List, [], ◌∷◌, length, map, max, Option, Some, None, nat_eq, refl, sym, ap, subst, arith, true≢false, ⊎_elim}
use Rattle.std.specs.Prelude.{find}
use Rattle.std.specs.Cmp.{nat_eq_equiv}
use Rattle.std.specs.List.{IsDistinct, list_any, range_with_len}
use Rattle.std.proofs.lemmas.Bool.{or_cases, or_left, or_right, eqb-true, eq-eqb, both_ways}
use Rattle.std.proofs.lemmas.Option.{same_Some, none-some}
use Rattle.std.proofs.lemmas.List.{length-map}
use Rattle.std.proofs.lemmas.Map.Made.{length-le_from_is_member}
use Rattle.net_base.specs.Keys.{is_among}
use Rattle.blif_model.specs.declared.design.Table.{Table}
use Rattle.blif_model.specs.Order.{targets_of, driver_of, pins_of, leads, is_on_cycle, largest, level_behind, level_within, level_of}
use Rattle.blif_model.proofs.Signals.{list_any-weaker, list_any-among, list_any-none, is_among-range, distinct-cons}

-- A step more at the end of a walk.
pub leads-push : (tables : List Table) (steps from last to : ℕ) → leads tables steps from last ≡ true → is_among nat_eq to (pins_of (driver_of tables last)) ≡ true → leads tables (suc steps) from to ≡ true
leads-push tables zero from last to here pin =
    let start : from ≡ last = eqb-true from last here in
    list_any-among (λ p. p == to) (pins_of (driver_of tables from)) to
    (subst (λ s. is_among nat_eq to (pins_of (driver_of tables s)) ≡ true) (sym start) pin)
    (eq-eqb to to refl)
leads-push tables (suc steps) from last to walk pin =
    list_any-weaker (λ p. leads tables steps p last) (λ p. leads tables (suc steps) p to) (pins_of (driver_of tables from))
    (λ p rest. leads-push tables steps p last to rest pin) walk

-- What a table drives is a target, that of the table.
pub driver_of-Some : (tables : List Table) (signal : ℕ) (table : Table) → driver_of tables signal ≡ Some table → (is_among nat_eq signal (targets_of tables) ≡ true) × (table.target ≡ signal)
driver_of-Some [] signal table e = absurd (none-some table e)
driver_of-Some (first ∷ tables) signal table e = by (signal == first.target) refl (driver_of-Some tables signal table) e
  where
    by : (b : Bool) → (signal == first.target) ≡ b
        → (driver_of tables signal ≡ Some table → (is_among nat_eq signal (targets_of tables) ≡ true) × (table.target ≡ signal))
        → cond b (Some first) (driver_of tables signal) ≡ Some table
        → ((b || is_among nat_eq signal (targets_of tables)) ≡ true) × (table.target ≡ signal)
    by true here rest e = (refl, ap (λ (t : Table). t.target) (sym (same_Some first table e)) ∙ sym (eqb-true signal first.target here))
    by false here rest e = rest e

-- no walk leads from a target back to it
abbrev pub HasNoCycle : List Table → Type 0
HasNoCycle tables = (signal steps : ℕ) → is_among nat_eq signal (targets_of tables) ≡ true → 1 ≤ steps → steps ≤ length tables → leads tables steps signal signal ≡ false

-- targets, none twice, from each of which a walk leads to a signal, of no more steps than there are of them
pub record IsTrail (tables : List Table) (path : List ℕ) (signal : ℕ) : Type 0 where
  pub distinct : IsDistinct nat_eq path
  pub driven : (x : ℕ) → is_among nat_eq x path ≡ true → is_among nat_eq x (targets_of tables) ≡ true
  pub walks : (x : ℕ) → is_among nat_eq x path ≡ true → (steps : ℕ) × (1 ≤ steps) × (steps ≤ length path) × (leads tables steps x signal ≡ true)

-- A trail is no longer than there are tables.
trail-short : (tables : List Table) (path : List ℕ) (signal : ℕ) → IsTrail tables path signal → length path ≤ length tables
trail-short tables path signal trail =
    let few = length-le_from_is_member nat_eq_equiv path (targets_of tables) trail.distinct trail.driven in
    omega (arith, few, length-map tables (λ table. table.target))

-- Its end isn't on it where there is no cycle,
trail-new : (tables : List Table) (path : List ℕ) (signal : ℕ) → HasNoCycle tables → IsTrail tables path signal → is_among nat_eq signal path ≡ false
trail-new tables path signal none trail = by (is_among nat_eq signal path) refl
  where
    by : (b : Bool) → is_among nat_eq signal path ≡ b → b ≡ false
    by false e = refl
    by true e =
        let walk = trail.walks signal e in
        absurd (both_ways (leads tables walk.0 signal signal)
        (none signal walk.0 (trail.driven signal e) walk.1 (omega (arith, walk.2, trail-short tables path signal trail)))
        walk.3)

-- so it goes on through each pin of the table that drives the end.
trail-on : (tables : List Table) (path : List ℕ) (signal : ℕ) (table : Table) (pin : ℕ) → HasNoCycle tables → driver_of tables signal ≡ Some table → IsTrail tables path signal → is_among nat_eq pin table.pins ≡ true → IsTrail tables (signal ∷ path) pin
trail-on tables path signal table pin none drives trail among =
    let through : is_among nat_eq pin (pins_of (driver_of tables signal)) ≡ true = ap (λ (o : Option Table). is_among nat_eq pin (pins_of o)) drives ∙ among in
    record {
      distinct = distinct-cons signal path (trail-new tables path signal none trail) trail.distinct;
      driven = λ x e. ⊎_elim {C = is_among nat_eq x (targets_of tables) ≡ true}
          (λ here. subst (λ s. is_among nat_eq s (targets_of tables) ≡ true) (sym (eqb-true x signal here)) (driver_of-Some tables signal table drives).0)
          (trail.driven x) (or_cases (nat_eq x signal) (is_among nat_eq x path) e);
      walks = λ x e. ⊎_elim {C = (steps : ℕ) × (1 ≤ steps) × (steps ≤ length (signal ∷ path)) × (leads tables steps x pin ≡ true)}
          (λ here. (1, omega arith, omega arith, leads-push tables 0 x signal pin here through))
          (λ there. let walk = trail.walks x there in (suc walk.0, omega arith, omega (arith, walk.2), leads-push tables walk.0 x signal pin walk.3 through))
          (or_cases (nat_eq x signal) (is_among nat_eq x path) e);
    }

-- The largest of some levels is at most what all are at most,
largest-le : (levels : ℕ → ℕ) (most : ℕ) (pins : List ℕ) → ((pin : ℕ) → is_among nat_eq pin pins ≡ true → levels pin ≤ most) → largest (map levels pins) ≤ most
largest-le levels most [] all = omega arith
largest-le levels most (pin ∷ pins) all =
    omega (
      arith,
      all pin (or_left (nat_eq pin pin) (is_among nat_eq pin pins) (eq-eqb pin pin refl)),
      largest-le levels most pins (λ other e. all other (or_right (nat_eq other pin) (is_among nat_eq other pins) e)),
    )

-- and each of them is at most the largest.
pub largest-ge : (levels : ℕ → ℕ) (pins : List ℕ) (pin : ℕ) → is_among nat_eq pin pins ≡ true → levels pin ≤ largest (map levels pins)
largest-ge levels [] pin e = absurd (true≢false (sym e))
largest-ge levels (first ∷ pins) pin e =
    ⊎_elim {C = levels pin ≤ max (levels first) (largest (map levels pins))}
    (λ here. let same : levels pin ≡ levels first = ap levels (eqb-true pin first here) in omega arith)
    (λ rest. omega (arith, largest-ge levels pins pin rest))
    (or_cases (nat_eq pin first) (is_among nat_eq pin pins) e)

-- Levels that are the same at all pins have the same largest.
pub largest-same : (these those : ℕ → ℕ) (pins : List ℕ) → ((pin : ℕ) → is_among nat_eq pin pins ≡ true → these pin ≡ those pin) → largest (map these pins) ≡ largest (map those pins)
largest-same these those [] same = refl
largest-same these those (pin ∷ pins) same =
    λ i. max (same pin (or_left (nat_eq pin pin) (is_among nat_eq pin pins) (eq-eqb pin pin refl)) i)
    (largest-same these those pins (λ other e. same other (or_right (nat_eq other pin) (is_among nat_eq other pins) e)) i)

-- With the end of a trail there are no more signals than tables.
trail-longer : (tables : List Table) (path : List ℕ) (signal : ℕ) (table : Table) → HasNoCycle tables → driver_of tables signal ≡ Some table → IsTrail tables path signal → length (signal ∷ path) ≤ length tables
trail-longer tables path signal table none drives trail =
    let few = length-le_from_is_member nat_eq_equiv (signal ∷ path) (targets_of tables) (distinct-cons signal path (trail-new tables path signal none trail) trail.distinct)
    (λ x e. ⊎_elim {C = is_among nat_eq x (targets_of tables) ≡ true}
    (λ here. subst (λ s. is_among nat_eq s (targets_of tables) ≡ true) (sym (eqb-true x signal here)) (driver_of-Some tables signal table drives).0)
    (trail.driven x) (or_cases (nat_eq x signal) (is_among nat_eq x path) e)) in
    omega (arith, few, length-map tables (λ table. table.target))

-- Behind a trail, no level is above the number of the tables that are not on it,
level_within-trail : (tables : List Table) (most : ℕ) (path : List ℕ) (signal : ℕ) → HasNoCycle tables → IsTrail tables path signal → level_within tables most signal + length path ≤ length tables
level_within-trail tables zero path signal none trail = omega (arith, trail-short tables path signal trail)
level_within-trail tables (suc most) path signal none trail =
    by (driver_of tables signal) refl (λ table pin drives among. level_within-trail tables most (signal ∷ path) pin none (trail-on tables path signal table pin none drives trail among))
  where
    by : (driver : Option Table) → driver_of tables signal ≡ driver
        → ((table : Table) (pin : ℕ) → driver_of tables signal ≡ Some table → is_among nat_eq pin table.pins ≡ true → level_within tables most pin + length (signal ∷ path) ≤ length tables)
        → level_behind (level_within tables most) driver + length path ≤ length tables
    by None e rest = omega (arith, trail-short tables path signal trail)
    by (Some table) e rest =
        let longer : length (signal ∷ path) ≤ length tables = trail-longer tables path signal table none e trail in
        omega (arith, largest-le (level_within tables most) (length tables - (length path + 1)) table.pins (λ pin among. omega (arith, rest table pin e among)))

-- and so none at all is above the number of tables.
pub level_within-few : (tables : List Table) (most signal : ℕ) → HasNoCycle tables → level_within tables most signal ≤ length tables
unfolding IsDistinct
level_within-few tables most signal none =
    omega (
      arith,
      level_within-trail tables most [] signal none (record {
        distinct = tt;
        driven = λ x e. absurd (true≢false (sym e));
        walks = λ x e. absurd (true≢false (sym e));
      }),
    )

-- Where a level doesn't come up to the tables that were looked at, one table fewer is enough to find it.
level_within-enough : (tables : List Table) (most signal : ℕ) → level_within tables (suc most) signal ≤ most → level_within tables most signal ≡ level_within tables (suc most) signal
level_within-enough tables zero signal low = omega arith
level_within-enough tables (suc most) signal low = by (driver_of tables signal) (λ pin. level_within-enough tables most pin) low
  where
    by : (driver : Option Table)
        → ((pin : ℕ) → level_within tables (suc most) pin ≤ most → level_within tables most pin ≡ level_within tables (suc most) pin)
        → level_behind (level_within tables (suc most)) driver ≤ suc most
        → level_behind (level_within tables most) driver ≡ level_behind (level_within tables (suc most)) driver
    by None rest low = refl
    by (Some table) rest low =
        ap (λ n. 1 + n) (largest-same (level_within tables most) (level_within tables (suc most)) table.pins
        (λ pin among. rest pin (omega (arith, largest-ge (level_within tables (suc most)) table.pins pin among))))

-- The level of what a table drives is 1 more than the largest level of its pins.
pub level_of-driven : (tables : List Table) (signal : ℕ) → HasNoCycle tables → level_of tables signal ≡ level_behind (level_of tables) (driver_of tables signal)
level_of-driven tables signal none = level_within-enough tables (length tables) signal (level_within-few tables (suc (length tables)) signal none)

-- What no table drives has level 0.
pub level_of-undriven : (tables : List Table) (signal : ℕ) → HasNoCycle tables → is_among nat_eq signal (targets_of tables) ≡ false → level_of tables signal ≡ 0
level_of-undriven tables signal none absent = level_of-driven tables signal none ∙ by (driver_of tables signal) refl
  where
    by : (driver : Option Table) → driver_of tables signal ≡ driver → level_behind (level_of tables) driver ≡ 0
    by None e = refl
    by (Some table) e = absurd (both_ways (is_among nat_eq signal (targets_of tables)) absent (driver_of-Some tables signal table e).0)

-- No level is above the number of tables looked at.
pub level_within-le : (tables : List Table) (most signal : ℕ) → level_within tables most signal ≤ most
level_within-le tables zero signal = omega arith
level_within-le tables (suc most) signal = by (driver_of tables signal) (level_within-le tables most)
  where
    by : (driver : Option Table) → ((pin : ℕ) → level_within tables most pin ≤ most) → level_behind (level_within tables most) driver ≤ suc most
    by None rest = omega arith
    by (Some table) rest = omega (arith, largest-le (level_within tables most) most table.pins (λ pin among. rest pin))

-- Where no table is on a cycle, there is none.
pub no_cycle-from_find : (tables : List Table) → find (is_on_cycle tables) tables ≡ None → HasNoCycle tables
no_cycle-from_find tables none signal steps driven some few =
    list_any-none (λ n. leads tables n signal signal) (range_with_len 1 (length tables)) steps (off tables none driven) (is_among-range 1 (length tables) steps some (omega arith))
  where
    off : (those : List Table) → find (is_on_cycle tables) those ≡ None → is_among nat_eq signal (targets_of those) ≡ true → list_any (λ n. leads tables n signal signal) (range_with_len 1 (length tables)) ≡ false
    off [] none driven = absurd (true≢false (sym driven))
    off (table ∷ those) none driven = with_first (is_on_cycle tables table) refl none (or_cases (nat_eq signal table.target) (is_among nat_eq signal (targets_of those)) driven) (off those)
      where
        with_first : (b : Bool) → is_on_cycle tables table ≡ b → cond b (Some table) (find (is_on_cycle tables) those) ≡ None
            → (nat_eq signal table.target ≡ true) ⊎ (is_among nat_eq signal (targets_of those) ≡ true)
            → (find (is_on_cycle tables) those ≡ None → is_among nat_eq signal (targets_of those) ≡ true → list_any (λ n. leads tables n signal signal) (range_with_len 1 (length tables)) ≡ false)
            → list_any (λ n. leads tables n signal signal) (range_with_len 1 (length tables)) ≡ false
        with_first true e none place rest = absurd (none-some table (sym none))
        with_first false e none (inl here) rest =
            subst (λ s. list_any (λ n. leads tables n s s) (range_with_len 1 (length tables)) ≡ false) (sym (eqb-true signal table.target here)) e
        with_first false e none (inr there) rest = rest none there
