-- Where no pin has a lower rank than its table, ranks never fall along a walk. A walk that comes back to the target of a
-- table goes through one of the table's pins; if all of these had higher ranks, the rest of the walk would have to fall.
-- So such a table is on no cycle, whatever the ranks are.
use Rattle.std.proofs.Common.{◌≡◌, ◌<◌, ◌≤◌, ℕ, zero, suc, Bool, true, false, cond, List, [], ◌∷◌, All, Option, Some, None, nat_eq, refl, sym, ap, subst, arith, true≢false, ⊎_elim}
use Rattle.std.specs.Prelude.{find, slice_index}
use Rattle.std.proofs.lemmas.Bool.{or_cases, eqb-true}
use Rattle.std.proofs.lemmas.Option.{same_Some, none-some}
use Rattle.std.proofs.lemmas.List.Elements.{All-head, All-tail}
use Rattle.net_base.specs.Keys.{is_among}
use Rattle.blif_model.specs.declared.design.Table.{Table}
use Rattle.blif_model.specs.Order.{driver_of, pins_of, leads, is_on_cycle}
use Rattle.blif_model.proofs.CallerLemmas.{driver_of-Some, list_any-some, cycles_are_found}
use Rattle.blif_check.specs.Cycles.{ComesBack, IsAtMost, IsBelow, AreRanks}

-- What is found has what all items have,
find-All : (P : Table → Type 0) (p : Table → Bool) (tables : List Table) (table : Table) → All P tables → find p tables ≡ Some table → P table
find-All P p [] table all e = absurd (none-some table e)
find-All P p (first ∷ tables) table all e = by (p first) e (find-All P p tables table (All-tail P first tables all))
  where
    by : (b : Bool) → cond b (Some first) (find p tables) ≡ Some table → (find p tables ≡ Some table → P table) → P table
    by true e rest = subst P (same_Some first table e) (All-head P first tables all)
    by false e rest = rest e

-- and so has what is among them.
All-among : (P : ℕ → Type 0) (xs : List ℕ) (x : ℕ) → All P xs → is_among nat_eq x xs ≡ true → P x
All-among P [] x all among = absurd (true≢false (sym among))
All-among P (y ∷ xs) x all among =
    ⊎_elim {C = P x} (λ here. subst P (sym (eqb-true x y here)) (All-head P y xs all)) (All-among P xs x (All-tail P y xs all)) (or_cases (nat_eq x y) (is_among nat_eq x xs) among)

-- No pin of the table that drives a signal has a lower rank than the signal,
rises-once : (tables : List Table) (ranks : List ℕ) (signal pin : ℕ) → AreRanks ranks tables → is_among nat_eq pin (pins_of (driver_of tables signal)) ≡ true → slice_index ranks signal ≤ slice_index ranks pin
rises-once tables ranks signal pin are among = by (driver_of tables signal) refl among
  where
    by : (driver : Option Table) → driver_of tables signal ≡ driver → is_among nat_eq pin (pins_of driver) ≡ true → slice_index ranks signal ≤ slice_index ranks pin
    by None e among = absurd (true≢false (sym among))
    by (Some table) e among =
        subst (λ s. slice_index ranks s ≤ slice_index ranks pin) (driver_of-Some tables signal table e).1
        (All-among (λ p. slice_index ranks table.target ≤ slice_index ranks p) table.pins pin (find-All (IsAtMost ranks) (λ (t : Table). nat_eq signal t.target) tables table are e) among)

-- so ranks never fall along a walk.
rises : (tables : List Table) (ranks : List ℕ) (steps from to : ℕ) → AreRanks ranks tables → leads tables steps from to ≡ true → slice_index ranks from ≤ slice_index ranks to
rises tables ranks zero from to are walk = let same = eqb-true from to walk in omega (arith, ap (slice_index ranks) same)
rises tables ranks (suc steps) from to are walk =
    let step = list_any-some (λ pin. leads tables steps pin to) (pins_of (driver_of tables from)) walk in
    omega (arith, rises-once tables ranks from step.0 are step.1, rises tables ranks steps step.0 to are step.2)

-- A walk back would have to fall.
pub below-never_back : (tables : List Table) (ranks : List ℕ) (table : Table) → AreRanks ranks tables → driver_of tables table.target ≡ Some table → IsBelow ranks table → ComesBack tables table.target → ⊥
below-never_back tables ranks table are drives below cycle = by cycle.0 cycle.1 cycle.2
  where
    by : (steps : ℕ) → 0 < steps → leads tables steps table.target table.target ≡ true → ⊥
    by zero some walk = omega (arith, some)
    by (suc steps) some walk =
        let step = list_any-some (λ pin. leads tables steps pin table.target) (pins_of (driver_of tables table.target)) walk in
        let low = All-among (λ p. slice_index ranks table.target < slice_index ranks p) table.pins step.0 below (subst (λ d. is_among nat_eq step.0 (pins_of d) ≡ true) drives step.1) in
        omega (arith, low, rises tables ranks steps step.0 table.target are step.2)

-- What the search or the ranks tell of a table is whether it is on a cycle.
pub on_cycle-from_back : (tables : List Table) (table : Table) → ComesBack tables table.target → is_on_cycle tables table ≡ true
on_cycle-from_back tables table back = (cycles_are_found tables table).1 back

pub off_cycle-from_none : (tables : List Table) (table : Table) → (ComesBack tables table.target → ⊥) → is_on_cycle tables table ≡ false
off_cycle-from_none tables table none = by (is_on_cycle tables table) refl
  where
    by : (b : Bool) → is_on_cycle tables table ≡ b → b ≡ false
    by true e = absurd (none ((cycles_are_found tables table).0 e))
    by false e = refl
