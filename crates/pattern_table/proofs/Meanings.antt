-- What tables mean: a least formula's is the value of its cell over the values of its parts, a leaf's is the leaf.
use Rattle.std.proofs.Common.{Option, ◌≡◌, ◌<◌, ◌≤◌, ◌+◌, ◌==◌, ◌∙◌, inl, inr, ℕ, zero, suc, Bool, true, false, List, [], ◌∷◌, length, map, take, slice_index, slice_index_or, Some, refl, sym, ap, subst, arith, eqb-true}
use Rattle.std.specs.List.{All}
use Rattle.std.specs.Option.{is_some, option_map, unwrap_or}
use Rattle.std.proofs.lemmas.Bool.{agree_below_at, cases_Bool, cond-true, cond-false, eq-eqb}
use Rattle.cell_lib.specs.declared.cell.Cell.{Cell}
use Rattle.cell_lib.specs.Cell.{arity_of, junctions_of, cell_value}
use Rattle.cut_word.specs.Table.{is_set, row_number, value_at}
use Rattle.cut_word.proofs.CallerLemmas.{is_set-row_number, row_number-fits}
use Rattle.pattern_table.specs.declared.formula.Formula.{Formula}
use Rattle.pattern_table.specs.declared.heads.Part.{Part}
use Rattle.pattern_table.specs.Formula.{leaf_tables, total}
use Rattle.pattern_table.specs.Least.{least_cost, head_over, table_of_head, parts_of, all_heads, parts_at, place_from, has_formula}
use Rattle.pattern_table.specs.Laws.{IsHeadOf, FormulasMeanTheirTables, LeavesMeanTheirTables}
use Rattle.pattern_table.proofs.Members.{Has, in-map, All-from-has}
use Rattle.pattern_table.proofs.CellTables.{value_at-table_over}
use Rattle.pattern_table.proofs.AllHeads.{tables_of, costs_of, length-tables, cell-head_with, cost-head_with, parts_of-head_with, table-head_over, AreAmong, IsOver, in-all_heads}
use Rattle.pattern_table.proofs.Depths.{least_head-is, IsAbove, in-parts_above}

-- ---- Leaves
place_from-there : (place table : ℕ) (tables : List ℕ) → Has tables table → is_some (place_from place table tables) ≡ true
place_from-there place table [] has = elim has [ ]
place_from-there place table (next ∷ tables) has = elim (cases_Bool (next == table)) [
  | inl same ↦ ap is_some (cond-true (next == table) (Some place) (place_from (suc place) table tables) same)
  | inr differs ↦
      ap is_some (cond-false (next == table) (Some place) (place_from (suc place) table tables) differs)
      ∙ place_from-there (suc place) table tables (elim has [ inl here ↦ absurd (let same : (next == table) ≡ true = eq-eqb next table here in cc) | inr there ↦ there ])
]

-- A place that is found is that of the table.
place_from-is : (place table : ℕ) (tables : List ℕ) (found : ℕ) → place_from place table tables ≡ Some found → (k : ℕ) × (found ≡ place + k) × (k < length tables) × (slice_index tables k ≡ table)
place_from-is place table [] found is = absurd (cc)
place_from-is place table (next ∷ tables) found is = elim (cases_Bool (next == table)) [
  | inl same ↦
      let here : Some place ≡ Some found = sym (cond-true (next == table) (Some place) (place_from (suc place) table tables) same) ∙ is in
      let at : place ≡ found = cc in
      (0, omega (arith, at), omega arith, eqb-true next table same)
  | inr differs ↦
      let from : (k : ℕ) × (found ≡ suc place + k) × (k < length tables) × (slice_index tables k ≡ table) =
      place_from-is (suc place) table tables found (sym (cond-false (next == table) (Some place) (place_from (suc place) table tables) differs) ∙ is) in
      (suc from.0, omega (arith, from.1), omega (arith, from.2), from.3)
]

-- the leaf at a place has the leaf's table
leaf-is : (size k : ℕ) → k < length (take size leaf_tables) → (k < size) × (k < 3) × (slice_index (take size leaf_tables) k ≡ slice_index leaf_tables k)
leaf-is zero k within = absurd (omega arith)
leaf-is (suc size) zero within = (omega arith, omega arith, refl)
leaf-is (suc zero) (suc k) within = absurd (omega arith)
leaf-is (suc (suc size)) (suc zero) within = (omega arith, omega arith, refl)
leaf-is (suc (suc zero)) (suc (suc k)) within = absurd (omega arith)
leaf-is (suc (suc (suc size))) (suc (suc zero)) within = (omega arith, omega arith, refl)
leaf-is (suc (suc (suc zero))) (suc (suc (suc k))) within = absurd (omega arith)
leaf-is (suc (suc (suc (suc size)))) (suc (suc (suc k))) within = absurd (omega arith)

-- a leaf's table has at each place the leaf's bit of the place
leaf-one : (place : ℕ) → place < 8 → is_set 0xAA place ≡ is_set place 0
leaf-one place h = agree_below_at (is_set 0xAA) (λ p. is_set p 0) 8 place refl h

leaf-two : (place : ℕ) → place < 8 → is_set 0xCC place ≡ is_set place 1
leaf-two place h = agree_below_at (is_set 0xCC) (λ p. is_set p 1) 8 place refl h

leaf-three : (place : ℕ) → place < 8 → is_set 0xF0 place ≡ is_set place 2
leaf-three place h = agree_below_at (is_set 0xF0) (λ p. is_set p 2) 8 place refl h

leaf-value : (k : ℕ) (values : List Bool) → k < 3 → length values ≤ 3 → value_at (slice_index leaf_tables k) values ≡ slice_index_or values k false
leaf-value zero values low few = leaf-one (row_number values) (row_number-fits values few) ∙ is_set-row_number values 0
leaf-value (suc zero) values low few = leaf-two (row_number values) (row_number-fits values few) ∙ is_set-row_number values 1
leaf-value (suc (suc zero)) values low few = leaf-three (row_number values) (row_number-fits values few) ∙ is_set-row_number values 2
leaf-value (suc (suc (suc k))) values low few = absurd (omega arith)

pub leaf-means : LeavesMeanTheirTables
leaf-means size table leaf is =
    let from : (k : ℕ) × (leaf ≡ 0 + k) × (k < length (take size leaf_tables)) × (slice_index (take size leaf_tables) k ≡ table) = place_from-is 0 table (take size leaf_tables) leaf is in
    let at : (from.0 < size) × (from.0 < 3) × (slice_index (take size leaf_tables) from.0 ≡ slice_index leaf_tables from.0) = leaf-is size from.0 from.2 in
    let same : from.0 ≡ leaf = omega (arith, from.1) in
    let table-is : slice_index leaf_tables leaf ≡ table = sym (ap (slice_index leaf_tables) same) ∙ sym at.2 ∙ from.3 in (
      omega (arith, at.0, same),
      λ values few. sym (ap (λ t. value_at t values) table-is) ∙ leaf-value leaf values (omega (arith, at.1, same)) few,
    )

-- ---- Parts have formulas
-- what is said of a part's table: a formula of the depth has it, and it has eight bits
abbrev IsPartTable : ℕ → ℕ → ℕ → Type 0
IsPartTable size depth table = (has_formula size table depth ≡ true) × (table < 256)

low-leaf : (size table : ℕ) → Has (take size leaf_tables) table → table < 256
low-leaf zero table has = elim has [ ]
low-leaf (suc zero) table has = elim has [ inl is ↦ omega (arith, is) | inr none ↦ elim none [ ] ]
low-leaf (suc (suc zero)) table has = elim has [ inl is ↦ omega (arith, is) | inr more ↦ elim more [ inl is ↦ omega (arith, is) | inr none ↦ elim none [ ] ] ]
low-leaf (suc (suc (suc size))) table has = elim has [
  | inl is ↦ omega (arith, is)
  | inr more ↦ elim more [
    | inl is ↦ omega (arith, is)
    | inr last ↦ elim last [ inl is ↦ omega (arith, is) | inr none ↦ past size table none ]
  ]
]
  where
    past : (n table : ℕ) → Has (take n []) table → table < 256
    past zero table has = elim has [ ]
    past (suc n) table has = elim has [ ]

pub part-table : (size depth : ℕ) (part : Part) → Has (parts_at size depth) part → IsPartTable size depth part.table
part-table size zero part has =
    let from : (table : ℕ) × Has (take size leaf_tables) table × (record { table = table; cost = 0 } ≡ part) =
    in-map (λ (table : ℕ). record { table = table; cost = 0 }) (take size leaf_tables) part has in
    subst (IsPartTable size zero) (ap (λ (p : Part). p.table) from.2) (place_from-there 0 from.0 (take size leaf_tables) from.1, low-leaf size from.0 from.1)
part-table size (suc depth) part has =
    let above : IsAbove (parts_at size depth) part = in-parts_above (parts_at size depth) part has in
    (ap is_some above.least, above.byte)

tables-among : (size depth : ℕ) (some : List Part) → AreAmong (parts_at size depth) some → (table : ℕ) → Has (tables_of some) table → IsPartTable size depth table
tables-among size depth [] among table has = elim has [ ]
tables-among size depth (part ∷ some) among table has = elim has [
  | inl here ↦ subst (IsPartTable size depth) here (part-table size depth part among.0)
  | inr there ↦ tables-among size depth some among.1 table there
]

-- A part costs what the least formula of its table does.
part-cost : (size depth : ℕ) (part : Part) → Has (parts_at size depth) part → least_cost size part.table depth ≡ part.cost
part-cost size zero part has =
    let from : (table : ℕ) × Has (take size leaf_tables) table × (record { table = table; cost = 0 } ≡ part) =
    in-map (λ (table : ℕ). record { table = table; cost = 0 }) (take size leaf_tables) part has in
    ap (λ (p : Part). p.cost) from.2
part-cost size (suc depth) part has =
    let above : IsAbove (parts_at size depth) part = in-parts_above (parts_at size depth) part has in
    ap (λ (o : Option Formula). unwrap_or (option_map (λ (head : Formula). head.cost) o) 0) above.least ∙ above.cost

costs-among : (size depth : ℕ) (some : List Part) → AreAmong (parts_at size depth) some → map (λ table. least_cost size table depth) (tables_of some) ≡ costs_of some
costs-among size depth [] among = refl
costs-among size depth (part ∷ some) among =
    ap (λ c. c ∷ map (λ table. least_cost size table depth) (tables_of some)) (part-cost size depth part among.0)
    ∙ ap (λ cs. part.cost ∷ cs) (costs-among size depth some among.1)

-- ---- Heads
head-means : (size depth table : ℕ) (cell : Cell) (some : List Part) → AreAmong (parts_at size depth) some → length some ≡ arity_of cell → table_of_head (head_over cell some) ≡ table → IsHeadOf size depth table (head_over cell some)
head-means size depth table cell some among pins is =
    let cost : ℕ = junctions_of cell + total (costs_of some) in
    let parts-is : parts_of (head_over cell some) ≡ tables_of some = parts_of-head_with cell (tables_of some) cost (length-tables some ∙ pins) in
    let cell-is : (head_over cell some).cell ≡ cell = cell-head_with cell (tables_of some) cost in
    record {
      parts = ap length parts-is ∙ length-tables some ∙ pins ∙ sym (ap arity_of cell-is);
      each =
          subst (All (λ part. has_formula size part depth ≡ true)) (sym parts-is)
          (All-from-has (λ part. has_formula size part depth ≡ true) (tables_of some) (λ t has. (tables-among size depth some among t has).0));
      bytes = subst (All (λ part. part < 256)) (sym parts-is) (All-from-has (λ part. part < 256) (tables_of some) (λ t has. (tables-among size depth some among t has).1));
      value = λ values few.
          sym (ap (λ t. value_at t values) (sym (table-head_over cell some pins) ∙ is))
          ∙ value_at-table_over cell (tables_of some) values few
          ∙ sym (ap (λ c. cell_value c (map (λ part. value_at part values) (parts_of (head_over cell some)))) cell-is
          ∙ ap (λ ts. cell_value cell (map (λ part. value_at part values) ts)) parts-is);
      cost =
          cost-head_with cell (tables_of some) cost
          ∙ sym (ap (λ c. junctions_of c + total (map (λ part. least_cost size part depth) (parts_of (head_over cell some)))) cell-is
          ∙ ap (λ ts. junctions_of cell + total (map (λ part. least_cost size part depth) ts)) parts-is
          ∙ ap (λ cs. junctions_of cell + total cs) (costs-among size depth some among));
    }

pub formula-means : FormulasMeanTheirTables
formula-means size table depth head is =
    let of : Has (all_heads (parts_at size depth)) head × (table_of_head head ≡ table) = least_head-is (parts_at size depth) table head is in
    let over : IsOver (parts_at size depth) head = in-all_heads (parts_at size depth) head of.0 in
    subst (IsHeadOf size depth table) over.is (head-means size depth table over.cell over.some over.among over.pins (ap table_of_head over.is ∙ of.1))
