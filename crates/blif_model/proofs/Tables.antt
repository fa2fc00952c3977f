-- Tables at their places: targets, the table that drives a signal, and tables in another order.
use Rattle.std.proofs.Common.{◌≡◌, ◌<◌, ◌++◌, ◌∙◌, ◌||◌, ◌⊎◌, inl, inr, ℕ, zero, suc, Bool, true, false, cond, List, [], ◌∷◌, length, get_or, Option, Some, None, nat_eq, refl, sym, ap, subst, arith, true≢false, ⊎_elim}
use Rattle.std.specs.Prelude.{find, slice_get}
use Rattle.std.specs.List.{IsDistinct, flat_map, cons_option}
use Rattle.std.proofs.lemmas.Bool.{or_cases, or_left, or_right, or_parts, eqb-true, eq-eqb, both_ways, false_from_ne_true, cases_order}
use Rattle.std.proofs.lemmas.Option.{same_Some, none-some, get_or_from_slice_get, slice_get_within}
use Rattle.std.proofs.lemmas.List.{get_or-map, length-map}
use Rattle.std.proofs.lemmas.List.Folds.{list_any-append}
use Rattle.std.proofs.lemmas.Map.Keys.{IsDistinct-tail, apart_from_distinct}
use Rattle.net_base.specs.Keys.{is_among}
use Rattle.blif_model.specs.declared.design.Table.{Table}
use Rattle.blif_model.specs.Values.{tables_at}
use Rattle.blif_model.specs.Order.{targets_of, driven_twice, driver_of}
use Rattle.blif_model.proofs.Signals.{distinct-cons, distinct-head}

-- Nothing found: no item passes.
pub find-none : (p : ℕ → Bool) (xs : List ℕ) (x : ℕ) → find p xs ≡ None → is_among nat_eq x xs ≡ true → p x ≡ false
find-none p [] x none among = absurd (true≢false (sym among))
find-none p (y ∷ xs) x none among = by (p y) refl none (or_cases (nat_eq x y) (is_among nat_eq x xs) among) (find-none p xs x)
  where
    by : (b : Bool) → p y ≡ b → cond b (Some y) (find p xs) ≡ None → (nat_eq x y ≡ true) ⊎ (is_among nat_eq x xs ≡ true)
        → (find p xs ≡ None → is_among nat_eq x xs ≡ true → p x ≡ false) → p x ≡ false
    by true e none place rest = absurd (none-some y (sym none))
    by false e none (inl here) rest = subst (λ z. p z ≡ false) (sym (eqb-true x y here)) e
    by false e none (inr there) rest = rest none there

-- Where no target is driven twice, no target stands twice, and none is among the drivers before.
pub driven_twice-None : (drivers targets : List ℕ) → driven_twice drivers targets ≡ None
    → IsDistinct nat_eq targets × ((x : ℕ) → is_among nat_eq x targets ≡ true → is_among nat_eq x drivers ≡ false)
unfolding IsDistinct
driven_twice-None drivers [] none = (tt, λ x e. absurd (true≢false (sym e)))
driven_twice-None drivers (target ∷ targets) none = by (is_among nat_eq target drivers) refl none (driven_twice-None (drivers ++ target ∷ []) targets)
  where
    by : (b : Bool) → is_among nat_eq target drivers ≡ b → cond b (Some target) (driven_twice (drivers ++ target ∷ []) targets) ≡ None
        → (driven_twice (drivers ++ target ∷ []) targets ≡ None
        → IsDistinct nat_eq targets × ((x : ℕ) → is_among nat_eq x targets ≡ true → is_among nat_eq x (drivers ++ target ∷ []) ≡ false))
        → IsDistinct nat_eq (target ∷ targets) × ((x : ℕ) → (nat_eq x target || is_among nat_eq x targets) ≡ true → is_among nat_eq x drivers ≡ false)
    by true e none rest = absurd (none-some target (sym none))
    by false e none rest =
        let behind = rest none in
        let apart : (x : ℕ) → is_among nat_eq x targets ≡ true → (is_among nat_eq x drivers ≡ false) × (is_among nat_eq x (target ∷ []) ≡ false) =
        λ x among. or_parts (is_among nat_eq x drivers) (is_among nat_eq x (target ∷ [])) (sym (list_any-append (nat_eq x) drivers (target ∷ [])) ∙ behind.1 x among) in (
          distinct-cons target targets
              (false_from_ne_true (is_among nat_eq target targets) (λ among. both_ways (nat_eq target target) (or_parts (nat_eq target target) false (apart target among).1).0 (eq-eqb target target refl)))
              behind.0,
          λ x among. ⊎_elim {C = is_among nat_eq x drivers ≡ false}
              (λ here. subst (λ s. is_among nat_eq s drivers ≡ false) (sym (eqb-true x target here)) e)
              (λ there. (apart x there).0)
              (or_cases (nat_eq x target) (is_among nat_eq x targets) among),
        )

-- The target of a table is among the targets, at its place,
pub target-among : (tables : List Table) (place : ℕ) (table : Table) → slice_get tables place ≡ Some table → is_among nat_eq table.target (targets_of tables) ≡ true
target-among [] place table e = absurd (none-some table e)
target-among (first ∷ tables) zero table e =
    or_left (nat_eq table.target first.target) (is_among nat_eq table.target (targets_of tables)) (eq-eqb table.target first.target (ap (λ (t : Table). t.target) (sym (same_Some first table e))))
target-among (first ∷ tables) (suc place) table e = or_right (nat_eq table.target first.target) (is_among nat_eq table.target (targets_of tables)) (target-among tables place table e)

pub target-at : (tables : List Table) (place : ℕ) (table : Table) → slice_get tables place ≡ Some table → get_or (targets_of tables) place 0 ≡ table.target
target-at tables place table e =
    get_or-map (λ (t : Table). t.target) tables place table 0 (slice_get_within tables place table e) ∙ ap (λ (t : Table). t.target) (get_or_from_slice_get tables place table table e)

-- and each target is that of a table at some place.
pub target-place : (tables : List Table) (signal : ℕ) → is_among nat_eq signal (targets_of tables) ≡ true
    → (place : ℕ) × (table : Table) × (slice_get tables place ≡ Some table) × (table.target ≡ signal)
target-place [] signal e = absurd (true≢false (sym e))
target-place (first ∷ tables) signal e =
    ⊎_elim {C = (place : ℕ) × (table : Table) × (slice_get (first ∷ tables) place ≡ Some table) × (table.target ≡ signal)}
    (λ here. (0, first, refl, sym (eqb-true signal first.target here)))
    (λ there. let found = target-place tables signal there in (suc found.0, found.1, found.2, found.3))
    (or_cases (nat_eq signal first.target) (is_among nat_eq signal (targets_of tables)) e)

-- Where no target stands twice, a table drives its target,
pub driver_of-target : (tables : List Table) (place : ℕ) (table : Table) → IsDistinct nat_eq (targets_of tables) → slice_get tables place ≡ Some table → driver_of tables table.target ≡ Some table
driver_of-target [] place table distinct e = absurd (none-some table e)
driver_of-target (first ∷ tables) zero table distinct e =
    let one : first ≡ table = same_Some first table e in
    ap (λ b. cond b (Some first) (driver_of tables table.target)) (eq-eqb table.target first.target (ap (λ (t : Table). t.target) (sym one))) ∙ e
driver_of-target (first ∷ tables) (suc place) table distinct e =
    let other : nat_eq table.target first.target ≡ false =
    false_from_ne_true (nat_eq table.target first.target) (λ same.
    both_ways (is_among nat_eq first.target (targets_of tables)) (distinct-head first.target (targets_of tables) distinct)
    (subst (λ s. is_among nat_eq s (targets_of tables) ≡ true) (eqb-true table.target first.target same) (target-among tables place table e))) in
    ap (λ b. cond b (Some first) (driver_of tables table.target)) other ∙ driver_of-target tables place table (IsDistinct-tail nat_eq first.target (targets_of tables) distinct) e

-- and tables at two places have two targets.
pub one_place : (tables : List Table) (p q : ℕ) (t u : Table) → IsDistinct nat_eq (targets_of tables) → slice_get tables p ≡ Some t → slice_get tables q ≡ Some u → t.target ≡ u.target → p ≡ q
one_place tables p q t u distinct at_p at_q same =
    ⊎_elim {C = p ≡ q} (λ equal. equal)
    (λ unequal. ⊎_elim {C = p ≡ q}
    (λ low. absurd (both_ways (nat_eq (get_or targets p 0) (get_or targets q 0)) (apart_from_distinct nat_eq targets p q 0 distinct low (omega (arith, within_q)))
    (eq-eqb (get_or targets p 0) (get_or targets q 0) equal_targets)))
    (λ high. absurd (both_ways (nat_eq (get_or targets q 0) (get_or targets p 0)) (apart_from_distinct nat_eq targets q p 0 distinct high (omega (arith, within_p)))
    (eq-eqb (get_or targets q 0) (get_or targets p 0) (sym equal_targets))))
    unequal)
    (cases_order p q)
  where
    targets : List ℕ
    targets = targets_of tables

    within_p : p < length targets
    within_p = omega (arith, slice_get_within tables p t at_p, length-map tables (λ table. table.target))

    within_q : q < length targets
    within_q = omega (arith, slice_get_within tables q u at_q, length-map tables (λ table. table.target))

    equal_targets : get_or targets p 0 ≡ get_or targets q 0
    equal_targets = target-at tables p t at_p ∙ same ∙ sym (target-at tables q u at_q)

-- The pins of a table are among the pins of all.
pub pin-among : (tables : List Table) (place : ℕ) (table : Table) (pin : ℕ) → slice_get tables place ≡ Some table → is_among nat_eq pin table.pins ≡ true → is_among nat_eq pin (flat_map (λ (t : Table). t.pins) tables) ≡ true
pin-among [] place table pin e among = absurd (none-some table e)
pin-among (first ∷ tables) zero table pin e among =
    list_any-append (nat_eq pin) first.pins (flat_map (λ (t : Table). t.pins) tables)
    ∙ or_left (is_among nat_eq pin first.pins) (is_among nat_eq pin (flat_map (λ (t : Table). t.pins) tables)) (ap (λ (t : Table). is_among nat_eq pin t.pins) (same_Some first table e) ∙ among)
pin-among (first ∷ tables) (suc place) table pin e among =
    list_any-append (nat_eq pin) first.pins (flat_map (λ (t : Table). t.pins) tables)
    ∙ or_right (is_among nat_eq pin first.pins) (is_among nat_eq pin (flat_map (λ (t : Table). t.pins) tables)) (pin-among tables place table pin e among)

-- A table at one of some places is among the tables at them,
pub target-listed : (tables : List Table) (places : List ℕ) (place : ℕ) (table : Table) → is_among nat_eq place places ≡ true → slice_get tables place ≡ Some table
    → is_among nat_eq table.target (targets_of (tables_at tables places)) ≡ true
target-listed tables [] place table among e = absurd (true≢false (sym among))
target-listed tables (first ∷ places) place table among e =
    ⊎_elim {C = is_among nat_eq table.target (targets_of (cons_option (slice_get tables first) (tables_at tables places))) ≡ true}
    (λ here. with_first (slice_get tables first) (sym (ap (slice_get tables) (eqb-true place first here)) ∙ e))
    (λ there. with_rest (slice_get tables first) (target-listed tables places place table there e))
    (or_cases (nat_eq place first) (is_among nat_eq place places) among)
  where
    with_first : (o : Option Table) → o ≡ Some table → is_among nat_eq table.target (targets_of (cons_option o (tables_at tables places))) ≡ true
    with_first None e = absurd (none-some table e)
    with_first (Some first) e = or_left (nat_eq table.target first.target) (is_among nat_eq table.target (targets_of (tables_at tables places))) (eq-eqb table.target first.target (ap (λ (t : Table). t.target) (sym (same_Some first table e))))

    with_rest : (o : Option Table) → is_among nat_eq table.target (targets_of (tables_at tables places)) ≡ true → is_among nat_eq table.target (targets_of (cons_option o (tables_at tables places))) ≡ true
    with_rest None rest = rest
    with_rest (Some first) rest = or_right (nat_eq table.target first.target) (is_among nat_eq table.target (targets_of (tables_at tables places))) rest

-- a table at one of some places drives a signal
abbrev pub IsListed : List Table → List ℕ → ℕ → Type 0
IsListed tables places signal = (place : ℕ) × (table : Table) × (is_among nat_eq place places ≡ true) × (slice_get tables place ≡ Some table) × (table.target ≡ signal)

-- and only such a table is.
pub listed-target : (tables : List Table) (places : List ℕ) (signal : ℕ) → is_among nat_eq signal (targets_of (tables_at tables places)) ≡ true → IsListed tables places signal
listed-target tables [] signal e = absurd (true≢false (sym e))
listed-target tables (first ∷ places) signal e = by (slice_get tables first) refl e (listed-target tables places signal)
  where
    further : IsListed tables places signal → IsListed tables (first ∷ places) signal
    further found = (found.0, found.1, or_right (nat_eq found.0 first) (is_among nat_eq found.0 places) found.2, found.3, found.4)

    by : (o : Option Table) → slice_get tables first ≡ o → is_among nat_eq signal (targets_of (cons_option o (tables_at tables places))) ≡ true
        → (is_among nat_eq signal (targets_of (tables_at tables places)) ≡ true → IsListed tables places signal) → IsListed tables (first ∷ places) signal
    by None at e rest = further (rest e)
    by (Some table) at e rest =
        ⊎_elim {C = IsListed tables (first ∷ places) signal}
        (λ here. (first, table, or_left (nat_eq first first) (is_among nat_eq first places) (eq-eqb first first refl), at, sym (eqb-true signal table.target here)))
        (λ there. further (rest there))
        (or_cases (nat_eq signal table.target) (is_among nat_eq signal (targets_of (tables_at tables places))) e)

-- No target stands twice in another order either.
pub distinct-listed : (tables : List Table) (places : List ℕ) → IsDistinct nat_eq (targets_of tables) → IsDistinct nat_eq places → IsDistinct nat_eq (targets_of (tables_at tables places))
distinct-listed tables [] distinct apart = apart
distinct-listed tables (first ∷ places) distinct apart =
    by (slice_get tables first) refl (distinct-listed tables places distinct (IsDistinct-tail nat_eq first places apart))
  where
    by : (o : Option Table) → slice_get tables first ≡ o → IsDistinct nat_eq (targets_of (tables_at tables places)) → IsDistinct nat_eq (targets_of (cons_option o (tables_at tables places)))
    by None at rest = rest
    by (Some table) at rest =
        distinct-cons table.target (targets_of (tables_at tables places))
        (false_from_ne_true (is_among nat_eq table.target (targets_of (tables_at tables places))) (λ among.
        let found = listed-target tables places table.target among in
        both_ways (is_among nat_eq first places) (distinct-head first places apart)
        (subst (λ p. is_among nat_eq p places ≡ true) (one_place tables found.0 first found.1 table distinct found.3 at found.4) found.2)))
        rest
