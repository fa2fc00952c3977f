-- What an order gives, where nothing refuses it: the places by level, each once, and each table behind those that drive it.
use Rattle.std.proofs.Common.{◌≡◌, ◌<◌, ◌≤◌, ◌++◌, ◌∙◌, ◌||◌, ◌⊎◌, inl, inr, ℕ, true, false, not, List, ◌∷◌, length, get_or, Option, Some, None, Ok, nat_eq, refl, sym, ap, subst, arith, ⊎_elim}
use Rattle.std.specs.Prelude.{find, slice_get, slice_index}
use Rattle.std.specs.Cmp.{nat_eq_equiv}
use Rattle.std.specs.List.{IsDistinct, flat_map, range_with_len}
use Rattle.std.specs.Option.{option_map, option_or}
use Rattle.std.proofs.lemmas.Bool.{or_cases, or_left, or_right, eqb-true, not-false, eq-eqb, both_ways, false_from_ne_true}
use Rattle.std.proofs.lemmas.Option.{slice_get_within, slice_get_cases, slice_get-get_or}
use Rattle.std.proofs.lemmas.List.{get_or-map, length-map}
use Rattle.std.proofs.lemmas.List.Folds.{list_any-append}
use Rattle.std.proofs.lemmas.Map.Keys.{any_passes_from_place}
use Rattle.std.proofs.lemmas.Map.Views.{Contains-from_any, list_any-from_Contains}
use Rattle.net_base.specs.Keys.{is_among}
use Rattle.blif_model.specs.declared.design.Table.{Table}
use Rattle.blif_model.specs.declared.design.Design.{Design}
use Rattle.blif_model.specs.Values.{tables_at}
use Rattle.blif_model.specs.Order.{Refusal, DuplicateDriver, Undriven, Cycle, targets_of, driven_signals, used_signals, driven_twice, undriven, is_on_cycle, level_behind, level_of, levels_of, places_by_level, unless, name_of, table_order}
use Rattle.blif_model.specs.Laws.{LevelsFollowDrivers, OrderIsByLevel, OrderListsTables, OrderFollowsDrivers}
use Rattle.blif_model.proofs.Signals.{is_among-range, range-bounds}
use Rattle.blif_model.proofs.Walks.{HasNoCycle, no_cycle-from_find, level_of-driven, level_of-undriven, level_within-le, largest-ge}
use Rattle.blif_model.proofs.Levels.{distinct-range, is_among-by_key, key-is_among, distinct-by_key, lower-before, order-range, order-by_key}
use Rattle.blif_model.proofs.Tables.{find-none, driven_twice-None, target-at, target-place, driver_of-target, pin-among, target-listed}

-- a design whose order nothing refuses
pub record IsOrdered (design : Design) (order : List ℕ) : Type 0 where
  pub targets : IsDistinct nat_eq (targets_of design.tables)
  pub inputs : (signal : ℕ) → is_among nat_eq signal (targets_of design.tables) ≡ true → is_among nat_eq signal design.inputs ≡ false
  pub driven : (signal : ℕ) → is_among nat_eq signal (used_signals design) ≡ true → is_among nat_eq signal (driven_signals design) ≡ true
  pub no_cycle : HasNoCycle design.tables
  pub by_level : order ≡ places_by_level design.tables

-- Each of the three refusals is absent.
no_refusal : (twice : Option ℕ) (absent : Option ℕ) (cycle : Option Table) (f g : ℕ → Refusal) (h : Table → Refusal) (places order : List ℕ)
    → unless (option_or (option_map f twice) (option_or (option_map g absent) (option_map h cycle))) places ≡ Ok order
    → (twice ≡ None) × (absent ≡ None) × (cycle ≡ None) × (order ≡ places)
no_refusal None None None f g h places order e = (refl, refl, refl, cc)
no_refusal None None (Some table) f g h places order e = cc
no_refusal None (Some signal) cycle f g h places order e = cc
no_refusal (Some signal) absent cycle f g h places order e = cc

pub ordered-from_Ok : (design : Design) (order : List ℕ) → table_order design ≡ Ok order → IsOrdered design order
ordered-from_Ok design order e =
    let none = no_refusal (driven_twice design.inputs (targets_of design.tables)) (undriven design) (find (is_on_cycle design.tables) design.tables)
    (λ signal. DuplicateDriver (name_of design signal)) (λ signal. Undriven (name_of design signal)) (λ table. Cycle table.line) (places_by_level design.tables) order e in
    let once = driven_twice-None design.inputs (targets_of design.tables) none.0 in
    record {
      targets = once.0;
      inputs = once.1;
      driven = λ signal used. not-false (is_among nat_eq signal (driven_signals design)) (find-none (λ s. not (is_among nat_eq s (driven_signals design))) (used_signals design) signal none.1 used);
      no_cycle = no_cycle-from_find design.tables none.2;
      by_level = none.3;
    }

-- the level of the table at a place
abbrev pub level_at : List Table → ℕ → ℕ
level_at tables place = slice_index (levels_of tables) place

pub level_at-is : (tables : List Table) (place : ℕ) (table : Table) → slice_get tables place ≡ Some table → level_at tables place ≡ level_of tables table.target
level_at-is tables place table at =
    let within : place < length (targets_of tables) = omega (arith, slice_get_within tables place table at, length-map tables (λ (t : Table). t.target)) in
    get_or-map (level_of tables) (targets_of tables) place 0 0 within ∙ ap (level_of tables) (target-at tables place table at)

-- The level of a table is 1 at least and the number of tables at most, and those of its pins are lower.
pub level-bounds : (design : Design) (order : List ℕ) (place : ℕ) (table : Table) → IsOrdered design order → slice_get design.tables place ≡ Some table
    → (1 ≤ level_of design.tables table.target) × (level_of design.tables table.target ≤ length design.tables)
    × ((pin : ℕ) → is_among nat_eq pin table.pins ≡ true → level_of design.tables pin < level_of design.tables table.target)
level-bounds design order place table ordered at =
    let tables = design.tables in
    let above : level_of tables table.target ≡ level_behind (level_of tables) (Some table) =
    level_of-driven tables table.target ordered.no_cycle ∙ ap (level_behind (level_of tables)) (driver_of-target tables place table ordered.targets at) in (
      omega (arith, above),
      level_within-le tables (length tables) table.target,
      λ pin among. omega (arith, above, largest-ge (level_of tables) table.pins pin among),
    )

pub levels_follow_drivers : LevelsFollowDrivers
levels_follow_drivers design order e =
    let ordered = ordered-from_Ok design order e in (
      λ place d within.
          let at = slice_get-get_or design.tables place d within in
          level_of-driven design.tables (get_or design.tables place d).target ordered.no_cycle
          ∙ ap (level_behind (level_of design.tables)) (driver_of-target design.tables place (get_or design.tables place d) ordered.targets at),
      λ place d within.
          let input = get_or design.inputs place d in
          level_of-undriven design.tables input ordered.no_cycle
          (false_from_ne_true (is_among nat_eq input (targets_of design.tables)) (λ target.
          both_ways (is_among nat_eq input design.inputs) (ordered.inputs input target) (any_passes_from_place (nat_eq input) design.inputs place input (slice_get-get_or design.inputs place d within) (eq-eqb input input refl)))),
    )

-- The order lists each place below the number of tables, and no other.
pub listed : (design : Design) (order : List ℕ) (place : ℕ) → IsOrdered design order → place < length design.tables → is_among nat_eq place order ≡ true
listed design order place ordered within = by (slice_get_cases design.tables place).1
  where
    by : ((table : Table) × (place < length design.tables) × (slice_get design.tables place ≡ Some table) × (get_or design.tables place table ≡ table)) ⊎ ((length design.tables ≤ place) × (slice_get design.tables place ≡ None)) → is_among nat_eq place order ≡ true
    by (inl found) =
        let bounds = level-bounds design order place found.0 ordered found.2 in
        let its = level_at-is design.tables place found.0 found.2 in
        ap (is_among nat_eq place) ordered.by_level
        ∙ is_among-by_key (level_at design.tables) (range_with_len 0 (length design.tables)) (range_with_len 1 (length design.tables)) place
        (is_among-range 0 (length design.tables) place (omega arith) (omega arith))
        (is_among-range 1 (length design.tables) (level_at design.tables place) (omega (arith, bounds.0, its)) (omega (arith, bounds.1, its)))
    by (inr past) = absurd (omega (arith, past.0))

pub listed-below : (design : Design) (order : List ℕ) (place : ℕ) → IsOrdered design order → is_among nat_eq place order ≡ true → place < length design.tables
listed-below design order place ordered among =
    let place_in = key-is_among (level_at design.tables) (range_with_len 0 (length design.tables)) (range_with_len 1 (length design.tables)) place (sym (ap (is_among nat_eq place) ordered.by_level) ∙ among) in
    omega (arith, (range-bounds 0 (length design.tables) place place_in.0).1)

pub listed-once : (design : Design) (order : List ℕ) → IsOrdered design order → IsDistinct nat_eq order
listed-once design order ordered =
    subst (λ places. IsDistinct nat_eq places) (sym ordered.by_level)
    (distinct-by_key (level_at design.tables) (range_with_len 0 (length design.tables)) (range_with_len 1 (length design.tables)) (distinct-range 0 (length design.tables)) (distinct-range 1 (length design.tables)))

pub order_lists_tables : OrderListsTables
order_lists_tables design order e =
    let ordered = ordered-from_Ok design order e in (
      listed-once design order ordered,
      λ place. (
        λ contains. listed-below design order place ordered (list_any-from_Contains nat_eq_equiv place order contains),
        λ within. Contains-from_any eqb-true place order (listed design order place ordered within),
      ),
    )

pub order_is_by_level : OrderIsByLevel
order_is_by_level design before after place other e contains =
    let ordered = ordered-from_Ok design (before ++ place ∷ after) e in
    order-by_key (level_at design.tables) (range_with_len 0 (length design.tables)) 1 (length design.tables) (order-range 0 (length design.tables)) before after place other (sym ordered.by_level)
    (list_any-from_Contains nat_eq_equiv other after contains)

-- Each pin of a table is an input, or the target of a table before.
pub pins-before : (design : Design) (before after : List ℕ) (place : ℕ) (table : Table) (pin : ℕ) → IsOrdered design (before ++ place ∷ after)
    → slice_get design.tables place ≡ Some table → is_among nat_eq pin table.pins ≡ true
    → is_among nat_eq pin (design.inputs ++ targets_of (tables_at design.tables before)) ≡ true
pins-before design before after place table pin ordered at among =
    list_any-append (nat_eq pin) design.inputs (targets_of (tables_at design.tables before))
    ∙ ⊎_elim {C = (is_among nat_eq pin design.inputs || is_among nat_eq pin (targets_of (tables_at design.tables before))) ≡ true}
    (or_left (is_among nat_eq pin design.inputs) (is_among nat_eq pin (targets_of (tables_at design.tables before))))
    (λ target. or_right (is_among nat_eq pin design.inputs) (is_among nat_eq pin (targets_of (tables_at design.tables before))) (behind target))
    (or_cases (is_among nat_eq pin design.inputs) (is_among nat_eq pin (targets_of design.tables)) driven)
  where
    driven : (is_among nat_eq pin design.inputs || is_among nat_eq pin (targets_of design.tables)) ≡ true
    driven =
        sym (list_any-append (nat_eq pin) design.inputs (targets_of design.tables))
        ∙ ordered.driven pin
        (list_any-append (nat_eq pin) (flat_map (λ (t : Table). t.pins) design.tables) design.outputs
        ∙ or_left (is_among nat_eq pin (flat_map (λ (t : Table). t.pins) design.tables)) (is_among nat_eq pin design.outputs) (pin-among design.tables place table pin at among))

    behind : is_among nat_eq pin (targets_of design.tables) ≡ true → is_among nat_eq pin (targets_of (tables_at design.tables before)) ≡ true
    behind target =
        let found = target-place design.tables pin target in
        let its = level_at-is design.tables found.0 found.1 found.2 in
        let levels = level-bounds design (before ++ place ∷ after) found.0 found.1 ordered found.2 in
        let lower = (level-bounds design (before ++ place ∷ after) place table ordered at).2 pin among in
        let same : level_of design.tables found.1.target ≡ level_of design.tables pin = ap (level_of design.tables) found.3 in
        let earlier : is_among nat_eq found.0 before ≡ true =
        lower-before (level_at design.tables) (range_with_len 0 (length design.tables)) 1 (length design.tables) found.0 before place after (sym ordered.by_level)
        (is_among-range 0 (length design.tables) found.0 (omega arith) (omega (arith, slice_get_within design.tables found.0 found.1 found.2)))
        (omega (arith, levels.0, its)) (omega (arith, lower, its, same, level_at-is design.tables place table at)) in
        subst (λ s. is_among nat_eq s (targets_of (tables_at design.tables before)) ≡ true) found.3 (target-listed design.tables before found.0 found.1 earlier found.2)

pub order_follows_drivers : OrderFollowsDrivers
order_follows_drivers design before after place table pin e at contains =
    Contains-from_any eqb-true pin (design.inputs ++ targets_of (tables_at design.tables before))
    (pins-before design before after place table pin (ordered-from_Ok design (before ++ place ∷ after) e) at (list_any-from_Contains nat_eq_equiv pin table.pins contains))
