-- The values of signals in order: a table's target keeps the value that it gets, and so do the pins that it is made of.
use Rattle.std.proofs.Common.{◌≡◌, ◌==◌, ◌++◌, ◌∙◌, ◌||◌, ◌⊎◌, inl, inr, ℕ, zero, suc, Bool, true, false, List, [], ◌∷◌, get_or, map, Option, Some, Contains, if◌then◌else◌, nat_eq, refl, sym, ap, subst, true≢false, ⊎_elim}
use Rattle.std.specs.Prelude.{slice_get}
use Rattle.std.specs.Cmp.{nat_eq_equiv}
use Rattle.std.specs.List.{IsDistinct, cons_option}
use Rattle.std.proofs.lemmas.Bool.{or_cases, or_left, or_right, or_parts, eqb-true, eq-eqb, both_ways, false_from_ne_true}
use Rattle.std.proofs.lemmas.Option.{same_Some, none-some, slice_get-get_or, slice_get_within, get_or_from_slice_get}
use Rattle.std.proofs.lemmas.List.{map-append, append_assoc, append-nil}
use Rattle.std.proofs.lemmas.List.Elements.{filter_map-append}
use Rattle.std.proofs.lemmas.List.Folds.{list_any-append}
use Rattle.std.proofs.lemmas.Map.Keys.{IsDistinct-tail, any_passes_from_place}
use Rattle.std.proofs.lemmas.Map.Views.{Contains-from_any, list_any-from_Contains}
use Rattle.net_base.specs.Keys.{is_among}
use Rattle.blif_model.specs.declared.design.Table.{Table}
use Rattle.blif_model.specs.declared.design.Design.{Design}
use Rattle.blif_model.specs.Values.{Values, table_value, input_values, with_target, with_targets, tables_at, signal_value}
use Rattle.blif_model.specs.Order.{targets_of, driven_signals}
use Rattle.blif_model.specs.Laws.{ValuesFollowTables, InputsHaveBits, ValuesAreDetermined}
use Rattle.blif_model.proofs.Signals.{distinct-head, distinct-parts, distinct-second}
use Rattle.blif_model.proofs.Levels.{stands_between}
use Rattle.blif_model.proofs.Tables.{target-among, target-place, target-listed, IsListed, listed-target, distinct-listed}
use Rattle.blif_model.proofs.Orders.{IsOrdered, ordered-from_Ok, listed, listed-once, pins-before}

-- Values that are the same at all pins are the same list.
pub map-same : (these those : Values) (pins : List ℕ) → ((pin : ℕ) → is_among nat_eq pin pins ≡ true → these pin ≡ those pin) → map these pins ≡ map those pins
map-same these those [] same = refl
map-same these those (pin ∷ pins) same =
    λ i. same pin (or_left (nat_eq pin pin) (is_among nat_eq pin pins) (eq-eqb pin pin refl)) i
    ∷ map-same these those pins (λ other e. same other (or_right (nat_eq other pin) (is_among nat_eq other pins) e)) i

pub with_targets-append : (first more : List Table) (values : Values) → with_targets (first ++ more) values ≡ with_targets more (with_targets first values)
with_targets-append [] more values = refl
with_targets-append (table ∷ first) more values = with_targets-append first more (with_target table values)

-- What is no target keeps its value.
pub with_targets-other : (tables : List Table) (values : Values) (signal : ℕ) → is_among nat_eq signal (targets_of tables) ≡ false → with_targets tables values signal ≡ values signal
with_targets-other [] values signal absent = refl
with_targets-other (table ∷ tables) values signal absent =
    let parts = or_parts (nat_eq signal table.target) (is_among nat_eq signal (targets_of tables)) absent in
    with_targets-other tables (with_target table values) signal parts.1
    ∙ ap (λ b. if b then table_value table (map values table.pins) else values signal) parts.0

-- A table's target has the table's value over the final values of its pins, where no target stands twice and each pin is a
-- target before, or none.
target_value : (before after : List Table) (table : Table) (values : Values) → IsDistinct nat_eq (targets_of (before ++ table ∷ after))
    → ((pin : ℕ) → is_among nat_eq pin table.pins ≡ true → (is_among nat_eq pin (targets_of before) ≡ true) ⊎ (is_among nat_eq pin (targets_of (before ++ table ∷ after)) ≡ false))
    → with_targets (before ++ table ∷ after) values table.target ≡ table_value table (map (with_targets (before ++ table ∷ after) values) table.pins)
target_value before after table values distinct pins =
    ap (λ (final : Values). final table.target) whole
    ∙ with_targets-other after (with_target table now) table.target (distinct-head table.target (targets_of after) (distinct-second (targets_of before) (targets_of (table ∷ after)) parts))
    ∙ ap (λ b. if b then table_value table (map now table.pins) else now table.target) (eq-eqb table.target table.target refl)
    ∙ ap (table_value table) (map-same now (with_targets (before ++ table ∷ after) values) table.pins kept)
  where
    now : Values
    now = with_targets before values

    whole : with_targets (before ++ table ∷ after) values ≡ with_targets (table ∷ after) now
    whole = with_targets-append before (table ∷ after) values

    all : targets_of (before ++ table ∷ after) ≡ targets_of before ++ targets_of (table ∷ after)
    all = map-append (λ (t : Table). t.target) before (table ∷ after)

    parts : IsDistinct nat_eq (targets_of before ++ targets_of (table ∷ after))
    parts = subst (λ targets. IsDistinct nat_eq targets) all distinct

    kept : (pin : ℕ) → is_among nat_eq pin table.pins ≡ true → now pin ≡ with_targets (before ++ table ∷ after) values pin
    kept pin among =
        sym (ap (λ (final : Values). final pin) whole ∙ with_targets-other (table ∷ after) now pin (⊎_elim {C = is_among nat_eq pin (targets_of (table ∷ after)) ≡ false}
        (distinct-parts (targets_of before) (targets_of (table ∷ after)) pin parts)
        (λ absent. (or_parts (is_among nat_eq pin (targets_of before)) (is_among nat_eq pin (targets_of (table ∷ after)))
        (sym (ap (is_among nat_eq pin) all ∙ list_any-append (nat_eq pin) (targets_of before) (targets_of (table ∷ after))) ∙ absent)).1)
        (pins pin among)))

-- Tables in order around the one at a place.
pub tables_at-around : (tables : List Table) (before : List ℕ) (place : ℕ) (after : List ℕ) (table : Table) → slice_get tables place ≡ Some table
    → tables_at tables (before ++ place ∷ after) ≡ tables_at tables before ++ table ∷ tables_at tables after
tables_at-around tables before place after table at =
    filter_map-append (slice_get tables) before (place ∷ after) ∙ ap (λ (o : Option Table). tables_at tables before ++ cons_option o (tables_at tables after)) at

-- An input is no target, in whatever order.
pub input-no_target : (design : Design) (order places : List ℕ) (signal : ℕ) → IsOrdered design order → is_among nat_eq signal design.inputs ≡ true → is_among nat_eq signal (targets_of (tables_at design.tables places)) ≡ false
input-no_target design order places signal ordered input =
    false_from_ne_true (is_among nat_eq signal (targets_of (tables_at design.tables places))) (λ e.
    let found = listed-target design.tables places signal e in
    both_ways (is_among nat_eq signal design.inputs)
    (ordered.inputs signal (subst (λ s. is_among nat_eq s (targets_of design.tables) ≡ true) found.4 (target-among design.tables found.0 found.1 found.3)))
    input)

-- The value of a table at a place between others.
pub value-between : (design : Design) (order before after : List ℕ) (place : ℕ) (table : Table) (values : Values) → IsOrdered design order → order ≡ before ++ place ∷ after
    → slice_get design.tables place ≡ Some table
    → with_targets (tables_at design.tables order) values table.target ≡ table_value table (map (with_targets (tables_at design.tables order) values) table.pins)
value-between design order before after place table values ordered e at =
    subst (λ tables. with_targets tables values table.target ≡ table_value table (map (with_targets tables values) table.pins)) (sym around)
    (target_value (tables_at design.tables before) (tables_at design.tables after) table values
    (subst (λ tables. IsDistinct nat_eq (targets_of tables)) around (distinct-listed design.tables order ordered.targets (listed-once design order ordered)))
    pins)
  where
    around : tables_at design.tables order ≡ tables_at design.tables before ++ table ∷ tables_at design.tables after
    around = ap (tables_at design.tables) e ∙ tables_at-around design.tables before place after table at

    pins : (pin : ℕ) → is_among nat_eq pin table.pins ≡ true
        → (is_among nat_eq pin (targets_of (tables_at design.tables before)) ≡ true) ⊎ (is_among nat_eq pin (targets_of (tables_at design.tables before ++ table ∷ tables_at design.tables after)) ≡ false)
    pins pin among =
        ⊎_elim {C = (is_among nat_eq pin (targets_of (tables_at design.tables before)) ≡ true) ⊎ (is_among nat_eq pin (targets_of (tables_at design.tables before ++ table ∷ tables_at design.tables after)) ≡ false)}
        (λ input. inr (subst (λ tables. is_among nat_eq pin (targets_of tables) ≡ false) around (input-no_target design order order pin ordered input)))
        inl
        (or_cases (is_among nat_eq pin design.inputs) (is_among nat_eq pin (targets_of (tables_at design.tables before)))
        (sym (list_any-append (nat_eq pin) design.inputs (targets_of (tables_at design.tables before)))
        ∙ pins-before design before after place table pin (subst (IsOrdered design) e ordered) at among))

pub values_follow_tables : ValuesFollowTables
values_follow_tables ordered bits table e contains =
    let design = ordered.design in
    let facts = ordered-from_Ok design ordered.order e in
    let place = contains.0 in
    let at : slice_get design.tables place ≡ Some table = slice_get-get_or design.tables place table contains.1 ∙ ap Some contains.2 in
    let between = stands_between ordered.order place (listed design ordered.order place facts contains.1) in
    value-between design ordered.order between.0 between.1 place table (input_values design.inputs bits) facts between.2 at

-- Inputs, none of which stands twice, have their bits.
input_values-at : (inputs : List ℕ) (bits : List Bool) (place input : ℕ) → IsDistinct nat_eq inputs → slice_get inputs place ≡ Some input → input_values inputs bits input ≡ get_or bits place false
input_values-at [] bits place input distinct at = absurd (none-some input at)
input_values-at (first ∷ inputs) [] place input distinct at = refl
input_values-at (first ∷ inputs) (bit ∷ bits) zero input distinct at =
    ap (λ b. if b then bit else input_values inputs bits input) (eq-eqb input first (sym (same_Some first input at)))
input_values-at (first ∷ inputs) (bit ∷ bits) (suc place) input distinct at =
    let other : (input == first) ≡ false = false_from_ne_true (input == first) (λ same.
    both_ways (is_among nat_eq first inputs) (distinct-head first inputs distinct)
    (any_passes_from_place (nat_eq first) inputs place input at (eq-eqb first input (sym (eqb-true input first same))))) in
    ap (λ b. if b then bit else input_values inputs bits input) other ∙ input_values-at inputs bits place input (IsDistinct-tail nat_eq first inputs distinct) at

pub inputs_have_bits : InputsHaveBits
inputs_have_bits ordered bits place input regular e at =
    let design = ordered.design in
    let among : is_among nat_eq input design.inputs ≡ true = any_passes_from_place (nat_eq input) design.inputs place input at (eq-eqb input input refl) in
    with_targets-other (tables_at design.tables ordered.order) (input_values design.inputs bits) input (input-no_target design ordered.order ordered.order input (ordered-from_Ok design ordered.order e) among)
    ∙ input_values-at design.inputs bits place input regular.inputs.distinct at

-- Values that follow the tables, and agree with the values in order on the inputs, agree with them on the targets too: on
-- those of the tables before, and so from one table to the next.
agree-on : (design : Design) (order : List ℕ) (values theirs : Values) → IsOrdered design order
    → ((place : ℕ) (table : Table) → slice_get design.tables place ≡ Some table → values table.target ≡ table_value table (map values table.pins))
    → ((place : ℕ) (table : Table) → slice_get design.tables place ≡ Some table → theirs table.target ≡ table_value table (map theirs table.pins))
    → (before after : List ℕ) → order ≡ before ++ after
    → ((signal : ℕ) → is_among nat_eq signal (design.inputs ++ targets_of (tables_at design.tables before)) ≡ true → values signal ≡ theirs signal)
    → (signal : ℕ) → is_among nat_eq signal (design.inputs ++ targets_of (tables_at design.tables order)) ≡ true → values signal ≡ theirs signal
agree-on design order values theirs ordered follow follow_too before [] e agree signal among =
    agree signal (subst (λ places. is_among nat_eq signal (design.inputs ++ targets_of (tables_at design.tables places)) ≡ true) (e ∙ append-nil before) among)
agree-on design order values theirs ordered follow follow_too before (place ∷ after) e agree signal among =
    agree-on design order values theirs ordered follow follow_too (before ++ place ∷ []) after (e ∙ sym (append_assoc before (place ∷ []) after)) more signal among
  where
    here : (table : Table) → slice_get design.tables place ≡ Some table → values table.target ≡ theirs table.target
    here table at =
        follow place table at
        ∙ ap (table_value table) (map-same values theirs table.pins (λ pin e'. agree pin (pins-before design before after place table pin (subst (IsOrdered design) e ordered) at e')))
        ∙ sym (follow_too place table at)

    more : (signal : ℕ) → is_among nat_eq signal (design.inputs ++ targets_of (tables_at design.tables (before ++ place ∷ []))) ≡ true → values signal ≡ theirs signal
    more signal among =
        ⊎_elim {C = values signal ≡ theirs signal}
        (λ input. agree signal (list_any-append (nat_eq signal) design.inputs (targets_of (tables_at design.tables before)) ∙ or_left (is_among nat_eq signal design.inputs) (is_among nat_eq signal (targets_of (tables_at design.tables before))) input))
        (λ target. by_target (listed-target design.tables (before ++ place ∷ []) signal target))
        (or_cases (is_among nat_eq signal design.inputs) (is_among nat_eq signal (targets_of (tables_at design.tables (before ++ place ∷ []))))
        (sym (list_any-append (nat_eq signal) design.inputs (targets_of (tables_at design.tables (before ++ place ∷ [])))) ∙ among))
      where
        by_target : IsListed design.tables (before ++ place ∷ []) signal → values signal ≡ theirs signal
        by_target found =
            ⊎_elim {C = values signal ≡ theirs signal}
            (λ early. agree signal (list_any-append (nat_eq signal) design.inputs (targets_of (tables_at design.tables before))
            ∙ or_right (is_among nat_eq signal design.inputs) (is_among nat_eq signal (targets_of (tables_at design.tables before)))
            (subst (λ s. is_among nat_eq s (targets_of (tables_at design.tables before)) ≡ true) found.4 (target-listed design.tables before found.0 found.1 early found.3))))
            (λ last. let one : found.0 ≡ place = ⊎_elim {C = found.0 ≡ place} (eqb-true found.0 place) (λ nothing. absurd (true≢false (sym nothing))) (or_cases (nat_eq found.0 place) false last) in
            subst (λ s. values s ≡ theirs s) found.4 (here found.1 (ap (slice_get design.tables) (sym one) ∙ found.3)))
            (or_cases (is_among nat_eq found.0 before) (is_among nat_eq found.0 (place ∷ [])) (sym (list_any-append (nat_eq found.0) before (place ∷ [])) ∙ found.2))

pub values_are_determined : ValuesAreDetermined
values_are_determined ordered bits values e inputs follow signal contains =
    let design = ordered.design in
    let facts = ordered-from_Ok design ordered.order e in
    let within : (place : ℕ) (table : Table) → slice_get design.tables place ≡ Some table → Contains design.tables table =
    λ place table at. (place, slice_get_within design.tables place table at, get_or_from_slice_get design.tables place table table at) in
    agree-on design ordered.order values (signal_value ordered bits) facts
    (λ place table at. follow table (within place table at))
    (λ place table at. values_follow_tables ordered bits table e (within place table at))
    [] ordered.order refl
    (λ s among. inputs s (Contains-from_any eqb-true s design.inputs (ap (is_among nat_eq s) (sym (append-nil design.inputs)) ∙ among)))
    signal
    (list_any-append (nat_eq signal) design.inputs (targets_of (tables_at design.tables ordered.order))
    ∙ ⊎_elim {C = (is_among nat_eq signal design.inputs || is_among nat_eq signal (targets_of (tables_at design.tables ordered.order))) ≡ true}
    (or_left (is_among nat_eq signal design.inputs) (is_among nat_eq signal (targets_of (tables_at design.tables ordered.order))))
    (λ target. or_right (is_among nat_eq signal design.inputs) (is_among nat_eq signal (targets_of (tables_at design.tables ordered.order)))
    (let found = target-place design.tables signal target in
    subst (λ s. is_among nat_eq s (targets_of (tables_at design.tables ordered.order)) ≡ true) found.3
    (target-listed design.tables ordered.order found.0 found.1 (listed design ordered.order found.0 facts (slice_get_within design.tables found.0 found.1 found.2)) found.2)))
    (or_cases (is_among nat_eq signal design.inputs) (is_among nat_eq signal (targets_of design.tables))
    (sym (list_any-append (nat_eq signal) design.inputs (targets_of design.tables)) ∙ list_any-from_Contains nat_eq_equiv signal (driven_signals design) contains)))
