-- Each gate has a use. Gates are used where each drives a pin, or is owed: what is owed is what the walk of a formula gives. It
-- takes the leaves that stand in the formula, which were owed before, and owes what drives the formula in their place.
use Rattle.std.proofs.Common.{◌≡◌, ◌<◌, ◌+◌, ◌++◌, ◌⊎◌, inl, inr, ◌∙◌, ℕ, zero, suc, true, List, [], ◌∷◌, Option, Some, None, get_or, length, map, Contains, refl, sym, ap, subst, arith, ⊎_elim}
use Rattle.std.specs.Prelude.{unwrap_or, slice_get}
use Rattle.std.specs.List.{flat_map}
use Rattle.std.proofs.lemmas.List.{length-map, map-append, get_or-map, length_push}
use Rattle.std.proofs.lemmas.List.Concat.{flat_map-append}
use Rattle.std.proofs.lemmas.List.Elements.{Contains-append_left, Contains-append_right, Contains-append_cases, Contains-push, Contains-get_or}
use Rattle.std.proofs.lemmas.List.Sorted.{Contains-permutation}
use Rattle.std.proofs.lemmas.Option.{get_or_from_slice_get, slice_get_within}
use Rattle.net_base.proofs.CallerLemmas.{Contains-one}
use Rattle.cell_lib.specs.declared.cell.Cell.{Cell}
use Rattle.cell_lib.specs.declared.cell.Cell.TheVariants.{Dro, Not, And, Or, Xor, Maj}
use Rattle.cell_lib.specs.Cell.{is_dro}
use Rattle.pattern_table.specs.declared.formula.Formula.{Formula}
use Rattle.pattern_table.specs.Least.{least_formula, leaf_at, parts_for, parts_of}
use Rattle.gate_net.specs.declared.row.Driver.{Driver}
use Rattle.gate_net.specs.declared.row.Driver.TheVariants.{Input, Gate}
use Rattle.gate_net.specs.declared.row.GateRow.{GateRow}
use Rattle.gate_net.specs.Rows.{gate_place, with_row}
use Rattle.gate_net.specs.Order.{ascending}
use Rattle.gate_net.proofs.CallerLemmas.{added, with_row-added, gate_place-here, with_row-place, IsPermutation-ascending}
use Rattle.balance_map.specs.Needed.{parts_in, places_in}
use Rattle.balance_map.specs.Cover.{Driven, with_cell, and_driver, with_parts, with_formula, walked}

-- ---- What a list has
pub Contains-unmap : {X Y : Type 0} (f : X → Y) (xs : List X) (y : Y) → Contains (map f xs) y → (x : X) × Contains xs x × (f x ≡ y)
Contains-unmap f [] y has = absurd (let h : has.0 < 0 = has.1 in omega arith)
Contains-unmap f (x ∷ xs) y has =
    let within : has.0 < length (x ∷ xs) = omega (arith, has.1, length-map xs f) in
    (get_or (x ∷ xs) has.0 x, Contains-get_or (x ∷ xs) has.0 x within, sym (get_or-map f (x ∷ xs) has.0 x y within) ∙ has.2)

-- the pins of all gates
abbrev pub pins_of : List GateRow → List Driver
pins_of rows = flat_map (λ (row : GateRow). row.pins) rows

-- a gate's pins are among the pins of all
pins-at : (rows : List GateRow) (place : ℕ) (d : GateRow) (driver : Driver) → place < length rows → Contains (get_or rows place d).pins driver → Contains (pins_of rows) driver
pins-at [] place d driver within has = absurd (omega arith)
pins-at (row ∷ rows) zero d driver within has = Contains-append_left row.pins (pins_of rows) driver has
pins-at (row ∷ rows) (suc place) d driver within has = Contains-append_right row.pins (pins_of rows) driver (pins-at rows place d driver (omega arith) has)

-- ---- Used gates
-- each gate drives a pin, or is owed
abbrev pub AreUsed : List GateRow → (ℕ → Type 0) → Type 0
AreUsed gates IsOwed = (k : ℕ) → k < length gates → Contains (pins_of gates) (Gate k) ⊎ IsOwed k

pub AreUsed-weaker : (gates : List GateRow) (P Q : ℕ → Type 0) → ((k : ℕ) → P k → Q k) → AreUsed gates P → AreUsed gates Q
AreUsed-weaker gates P Q weaker used k within = ⊎_elim {C = Contains (pins_of gates) (Gate k) ⊎ Q k} inl (λ owed. inr (weaker k owed)) (used k within)

module _ (cell : Cell) (gates : List GateRow) (pins : List Driver) where
  -- the gate of a cell over pins, and the gates with it
  abbrev row : GateRow
  row = record { cell = cell; pins = ascending pins }

  abbrev all : List GateRow
  all = with_row row gates

  pin-kept : (driver : Driver) → Contains (pins_of gates) driver → Contains (pins_of all) driver
  pin-kept driver pin =
      subst (λ rows. Contains (pins_of rows) driver) (sym (with_row-added row gates))
      (subst (λ ps. Contains ps driver) (sym (flat_map-append (λ (row : GateRow). row.pins) gates (added row gates)))
      (Contains-append_left (pins_of gates) (pins_of (added row gates)) driver pin))

  pin-taken : (driver : Driver) → Contains pins driver → Contains (pins_of all) driver
  pin-taken driver pin =
      let at : slice_get all (gate_place row gates) ≡ Some row = gate_place-here row gates in
      pins-at all (gate_place row gates) row driver (slice_get_within all (gate_place row gates) row at)
      (subst (λ (r : GateRow). Contains r.pins driver) (sym (get_or_from_slice_get all (gate_place row gates) row row at))
      (Contains-permutation pins (ascending pins) driver (IsPermutation-ascending pins) pin))

  -- a cell takes its pins and owes what drives it
  gate-used : (E : ℕ → Type 0) → AreUsed gates (λ k. E k ⊎ Contains pins (Gate k)) → AreUsed all (λ k. E k ⊎ (Gate (gate_place row gates) ≡ Gate k))
  gate-used E used k within =
      let Wanted : Type 0 = Contains (pins_of all) (Gate k) ⊎ (E k ⊎ (Gate (gate_place row gates) ≡ Gate k)) in
      ⊎_elim {C = Wanted}
      (λ before.
      ⊎_elim {C = Wanted} (λ pin. inl (pin-kept (Gate k) pin))
      (λ owed. ⊎_elim {C = Wanted} (λ e. inr (inl e)) (λ pin. inl (pin-taken (Gate k) pin)) owed) (used k before))
      (λ here. inr (inr (ap Gate (sym here))))
      (with_row-place row gates k within)

module _ (E : ℕ → Type 0) where
  dro-used : (gates : List GateRow) (pins : List Driver) → length pins ≡ 1 → AreUsed gates (λ k. E k ⊎ Contains pins (Gate k)) → AreUsed gates (λ k. E k ⊎ (get_or pins 0 (Input 0) ≡ Gate k))
  dro-used gates [] count used = absurd (omega arith)
  dro-used gates (pin ∷ (next ∷ pins)) count used = absurd (omega arith)
  dro-used gates (pin ∷ []) count used =
      AreUsed-weaker gates (λ k. E k ⊎ Contains (pin ∷ []) (Gate k)) (λ k. E k ⊎ (pin ≡ Gate k))
      (λ k owed. ⊎_elim {C = E k ⊎ (pin ≡ Gate k)} inl (λ has. inr (Contains-one pin (Gate k) has)) owed) used

  cell-used : (cell : Cell) (pins : Driven (List Driver)) → (is_dro cell ≡ true → length pins.by ≡ 1) → AreUsed pins.gates (λ k. E k ⊎ Contains pins.by (Gate k)) → AreUsed (with_cell cell pins).gates (λ k. E k ⊎ ((with_cell cell pins).by ≡ Gate k))
  cell-used Dro pins count used = dro-used pins.gates pins.by (count refl) used
  cell-used Not pins count used = gate-used Not pins.gates pins.by E used
  cell-used And pins count used = gate-used And pins.gates pins.by E used
  cell-used Or pins count used = gate-used Or pins.gates pins.by E used
  cell-used Xor pins count used = gate-used Xor pins.gates pins.by E used
  cell-used Maj pins count used = gate-used Maj pins.gates pins.by E used

-- there is a driver for each part
with_parts-count : (walk : List GateRow → ℕ → Driven Driver) (so : Driven (List Driver)) (tables : List ℕ) → length (with_parts walk so tables).by ≡ length so.by + length tables
with_parts-count walk so [] = omega arith
with_parts-count walk so (table ∷ tables) =
    omega (arith, with_parts-count walk (and_driver so.by (walk so.gates table)) tables, length_push so.by (walk so.gates table).by)

-- a DRO has one part
dro-part : (cell : Cell) (left middle right : ℕ) → is_dro cell ≡ true → length (parts_for cell left middle right) ≡ 1
dro-part Dro left middle right e = refl
dro-part Not left middle right e = absurd (cc)
dro-part And left middle right e = absurd (cc)
dro-part Or left middle right e = absurd (cc)
dro-part Xor left middle right e = absurd (cc)
dro-part Maj left middle right e = absurd (cc)

module _ (leaves : List Driver) where
  -- the drivers of the leaves at these places
  abbrev pub leaf_drivers : List ℕ → List Driver
  leaf_drivers places = map (λ place. get_or leaves place (Input 0)) places

  abbrev places_at : ℕ → ℕ → List ℕ
  places_at depth table = places_in (length leaves) depth table

  -- the walk at a depth takes the leaves that stand in the formula, and owes what drives it
  abbrev pub UsesLeaves : ℕ → Type 1
  UsesLeaves depth = (E : ℕ → Type 0) (gates : List GateRow) (table : ℕ)
      → AreUsed gates (λ k. E k ⊎ Contains (leaf_drivers (places_at depth table)) (Gate k))
      → AreUsed (walked leaves depth gates table).gates (λ k. E k ⊎ ((walked leaves depth gates table).by ≡ Gate k))

  parts-used : (depth : ℕ) → UsesLeaves depth → (E : ℕ → Type 0) (so : Driven (List Driver)) (tables : List ℕ) → AreUsed so.gates (λ k. E k ⊎ (Contains so.by (Gate k) ⊎ Contains (leaf_drivers (flat_map (places_at depth) tables)) (Gate k))) → AreUsed (with_parts (walked leaves depth) so tables).gates (λ k. E k ⊎ Contains (with_parts (walked leaves depth) so tables).by (Gate k))
  parts-used depth uses E so [] used =
      AreUsed-weaker so.gates (λ k. E k ⊎ (Contains so.by (Gate k) ⊎ Contains (leaf_drivers []) (Gate k))) (λ k. E k ⊎ Contains so.by (Gate k))
      (λ k owed. ⊎_elim {C = E k ⊎ Contains so.by (Gate k)} inl
      (λ more. ⊎_elim {C = E k ⊎ Contains so.by (Gate k)} inr (λ none. absurd (let h : none.0 < 0 = none.1 in omega arith)) more) owed) used
  parts-used depth uses E so (table ∷ tables) used =
      let after : Driven Driver = walked leaves depth so.gates table in
      let mine : List ℕ = places_at depth table in
      let others : List ℕ = flat_map (places_at depth) tables in
      let F : ℕ → Type 0 = λ k. E k ⊎ (Contains so.by (Gate k) ⊎ Contains (leaf_drivers others) (Gate k)) in
      let before : AreUsed so.gates (λ k. F k ⊎ Contains (leaf_drivers mine) (Gate k)) =
      AreUsed-weaker so.gates (λ k. E k ⊎ (Contains so.by (Gate k) ⊎ Contains (leaf_drivers (mine ++ others)) (Gate k))) (λ k. F k ⊎ Contains (leaf_drivers mine) (Gate k))
      (λ k owed. ⊎_elim {C = F k ⊎ Contains (leaf_drivers mine) (Gate k)} (λ e. inl (inl e))
      (λ more. ⊎_elim {C = F k ⊎ Contains (leaf_drivers mine) (Gate k)} (λ done. inl (inr (inl done)))
      (λ leaf. ⊎_elim {C = F k ⊎ Contains (leaf_drivers mine) (Gate k)} inr (λ other. inl (inr (inr other)))
      (Contains-append_cases (leaf_drivers mine) (leaf_drivers others) (Gate k)
      (subst (λ ds. Contains ds (Gate k)) (map-append (λ place. get_or leaves place (Input 0)) mine others) leaf))) more) owed) used in
      parts-used depth uses E (and_driver so.by after) tables
      (AreUsed-weaker after.gates (λ k. F k ⊎ (after.by ≡ Gate k)) (λ k. E k ⊎ (Contains (so.by ++ after.by ∷ []) (Gate k) ⊎ Contains (leaf_drivers others) (Gate k)))
      (λ k owed. ⊎_elim {C = E k ⊎ (Contains (so.by ++ after.by ∷ []) (Gate k) ⊎ Contains (leaf_drivers others) (Gate k))}
      (λ f. ⊎_elim {C = E k ⊎ (Contains (so.by ++ after.by ∷ []) (Gate k) ⊎ Contains (leaf_drivers others) (Gate k))} inl
      (λ more. ⊎_elim {C = E k ⊎ (Contains (so.by ++ after.by ∷ []) (Gate k) ⊎ Contains (leaf_drivers others) (Gate k))}
      (λ done. inr (inl (Contains-append_left so.by (after.by ∷ []) (Gate k) done))) (λ other. inr (inr other)) more) f)
      (λ here. inr (inl (subst (Contains (so.by ++ after.by ∷ [])) here (Contains-push so.by after.by)))) owed)
      (uses F so.gates table before))

  leaf-used : UsesLeaves zero
  leaf-used E gates table used =
      let place : ℕ = unwrap_or (leaf_at (length leaves) table) 0 in
      AreUsed-weaker gates (λ k. E k ⊎ Contains (get_or leaves place (Input 0) ∷ []) (Gate k)) (λ k. E k ⊎ (get_or leaves place (Input 0) ≡ Gate k))
      (λ k owed. ⊎_elim {C = E k ⊎ (get_or leaves place (Input 0) ≡ Gate k)} inl (λ has. inr (Contains-one (get_or leaves place (Input 0)) (Gate k) has)) owed) used

  next-used : (depth : ℕ) → UsesLeaves depth → UsesLeaves (suc depth)
  next-used depth uses E gates table used = by (least_formula (length leaves) table (suc depth)) used
    where
      by : (o : Option Formula) → AreUsed gates (λ k. E k ⊎ Contains (leaf_drivers (flat_map (places_at depth) (parts_in o))) (Gate k)) → AreUsed (with_formula (walked leaves depth) gates o).gates (λ k. E k ⊎ ((with_formula (walked leaves depth) gates o).by ≡ Gate k))
      by None used =
          AreUsed-weaker gates (λ k. E k ⊎ Contains (leaf_drivers []) (Gate k)) (λ k. E k ⊎ (Input 0 ≡ Gate k))
          (λ k owed. ⊎_elim {C = E k ⊎ (Input 0 ≡ Gate k)} inl (λ none. absurd (let h : none.0 < 0 = none.1 in omega arith)) owed) used
      by (Some head) used =
          let so : Driven (List Driver) = record { gates = gates; by = [] } in
          let tables : List ℕ = parts_of head in
          cell-used E head.cell (with_parts (walked leaves depth) so tables)
          (λ dro. omega (arith, with_parts-count (walked leaves depth) so tables, dro-part head.cell head.left head.middle head.right dro))
          (parts-used depth uses E so tables
          (AreUsed-weaker gates (λ k. E k ⊎ Contains (leaf_drivers (flat_map (places_at depth) tables)) (Gate k)) (λ k. E k ⊎ (Contains [] (Gate k) ⊎ Contains (leaf_drivers (flat_map (places_at depth) tables)) (Gate k)))
          (λ k owed. ⊎_elim {C = E k ⊎ (Contains [] (Gate k) ⊎ Contains (leaf_drivers (flat_map (places_at depth) tables)) (Gate k))} inl (λ leaf. inr (inr leaf)) owed) used))

  pub formula-used : (depth : ℕ) → UsesLeaves depth
  formula-used zero = leaf-used
  formula-used (suc depth) = next-used depth (formula-used depth)
