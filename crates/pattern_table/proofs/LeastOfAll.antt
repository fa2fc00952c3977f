-- The least formulas are the least of all uniform formulas. By induction on the depth: each part of a depth is the table and the
-- cost of a uniform formula, and each uniform formula has a part with its table that costs no more. So over the depth above, each
-- head is that of a uniform formula; and each uniform formula has a head of its table, over the parts of its own parts, that
-- doesn't come behind its own.
use Rattle.std.proofs.Common.{◌≡◌, ◌≢◌, ◌<◌, ◌≤◌, ◌+◌, ◌==◌, ◌∙◌, inl, inr, ℕ, zero, suc, false, List, [], ◌∷◌, length, map, take, slice_index, Option, Some, None, refl, sym, ap, subst, arith}
use Rattle.std.specs.Option.{MatchOption}
use Rattle.std.proofs.lemmas.Bool.{cases_lt, eq-eqb}
use Rattle.cell_lib.specs.declared.cell.Cell.{Cell}
use Rattle.cell_lib.specs.Cell.{arity_of, junctions_of, rank_of}
use Rattle.pattern_table.specs.declared.formula.Formula.{Formula}
use Rattle.pattern_table.specs.declared.heads.Part.{Part}
use Rattle.pattern_table.specs.Formula.{Uniform, leaf_tables, table_over, total, table_of_formula, cost_of_formula}
use Rattle.pattern_table.specs.Least.{head_with, table_of_head, is_before, is_lower, with_table, all_heads, head_over, least_head, parts_at, least_formula}
use Rattle.pattern_table.specs.Laws.{head_of, IsLeast, LeastFormulasAreLeast}
use Rattle.pattern_table.proofs.Members.{Has, Has-map, in-map, Has-filter}
use Rattle.pattern_table.proofs.CellTables.{table_over-below}
use Rattle.pattern_table.proofs.Order.{not_lower-greater, not_lower-same, not_lower-itself, not_lower-parts, not_before-trans, IsFirst, least-first, least-none}
use Rattle.pattern_table.proofs.AllHeads.{tables_of, costs_of, cost-head_with, table-head_over, AreAmong, IsOver, Has-all_heads, in-all_heads}
use Rattle.pattern_table.proofs.Depths.{least_head-is, IsAbove, in-parts_above, Has-parts_above}

-- ---- Costs and the order
not_lower-dearer : (dear cheap : ℕ) (rest : List ℕ) → cheap ≤ dear → is_lower (dear ∷ rest) (cheap ∷ rest) ≡ false
not_lower-dearer dear cheap rest h = elim (cases_lt cheap dear) [
  | inl less ↦ not_lower-greater dear cheap rest rest less
  | inr most ↦ not_lower-same dear cheap rest rest (omega arith) (not_lower-itself rest)
]

-- Of two heads of one cell over the same tables the dearer one doesn't come before the other,
not_before-dearer : (cell : Cell) (tables : List ℕ) (dear cheap : ℕ) → cheap ≤ dear → is_before (head_with cell tables dear) (head_with cell tables cheap) ≡ false
not_before-dearer cell [] dear cheap h = not_lower-dearer dear cheap (rank_of cell ∷ 0 ∷ 0 ∷ 0 ∷ []) h
not_before-dearer cell (one ∷ []) dear cheap h = not_lower-dearer dear cheap (rank_of cell ∷ one ∷ 0 ∷ 0 ∷ []) h
not_before-dearer cell (one ∷ (two ∷ [])) dear cheap h = not_lower-dearer dear cheap (rank_of cell ∷ one ∷ 0 ∷ two ∷ []) h
not_before-dearer cell (one ∷ (two ∷ (three ∷ rest))) dear cheap h = not_lower-dearer dear cheap (rank_of cell ∷ one ∷ two ∷ three ∷ []) h

-- and what doesn't come before another costs at least as much.
cost-not_before : (f g : Formula) → is_before f g ≡ false → g.cost ≤ f.cost
cost-not_before f g not-before = elim (not_lower-parts f.cost g.cost (rank_of f.cell ∷ f.left ∷ f.middle ∷ f.right ∷ []) (rank_of g.cell ∷ g.left ∷ g.middle ∷ g.right ∷ []) not-before) [
  | inl less ↦ omega arith
  | inr same ↦ omega (arith, same.0)
]

-- ---- The induction
-- The parts of a depth stand for its uniform formulas: each part for one that has its table and cost, and each formula has a part
-- that costs no more.
record StandFor (size depth : ℕ) : Type 0 where
  formula : (part : Part) → Has (parts_at size depth) part → (tree : Uniform size depth) × (table_of_formula size depth tree ≡ part.table) × (cost_of_formula size depth tree ≡ part.cost)
  part : (tree : Uniform size depth) → (part : Part) × Has (parts_at size depth) part × (part.table ≡ table_of_formula size depth tree) × (part.cost ≤ cost_of_formula size depth tree)

Has-leaf : (size leaf : ℕ) → size ≤ 3 → leaf < size → Has (take size leaf_tables) (slice_index leaf_tables leaf)
Has-leaf zero leaf few within = absurd (omega arith)
Has-leaf (suc size) zero few within = inl refl
Has-leaf (suc zero) (suc leaf) few within = absurd (omega arith)
Has-leaf (suc (suc size)) (suc zero) few within = inr (inl refl)
Has-leaf (suc (suc zero)) (suc (suc leaf)) few within = absurd (omega arith)
Has-leaf (suc (suc (suc size))) (suc (suc zero)) few within = inr (inr (inl refl))
Has-leaf (suc (suc (suc size))) (suc (suc (suc leaf))) few within = absurd (omega arith)

in-leaves : (size table : ℕ) → size ≤ 3 → Has (take size leaf_tables) table → (leaf : ℕ) × (leaf < size) × (slice_index leaf_tables leaf ≡ table)
in-leaves zero table few has = elim has [ ]
in-leaves (suc zero) table few has = elim has [ inl one ↦ (0, omega arith, one) | inr none ↦ elim none [ ] ]
in-leaves (suc (suc zero)) table few has = elim has [
  | inl one ↦ (0, omega arith, one)
  | inr more ↦ elim more [ inl two ↦ (1, omega arith, two) | inr none ↦ elim none [ ] ]
]
in-leaves (suc (suc (suc zero))) table few has = elim has [
  | inl one ↦ (0, omega arith, one)
  | inr more ↦ elim more [ inl two ↦ (1, omega arith, two) | inr last ↦ elim last [ inl three ↦ (2, omega arith, three) | inr none ↦ elim none [ ] ] ]
]
in-leaves (suc (suc (suc (suc size)))) table few has = absurd (omega arith)

leaves-stand : (size : ℕ) → size ≤ 3 → StandFor size zero
leaves-stand size few = record {
  formula = λ part has.
      let from : (table : ℕ) × Has (take size leaf_tables) table × (record { table = table; cost = 0 } ≡ part) =
      in-map (λ (table : ℕ). record { table = table; cost = 0 }) (take size leaf_tables) part has in
      let leaf : (leaf : ℕ) × (leaf < size) × (slice_index leaf_tables leaf ≡ from.0) = in-leaves size from.0 few from.1 in
      ((leaf.0, leaf.1), leaf.2 ∙ ap (λ (p : Part). p.table) from.2, ap (λ (p : Part). p.cost) from.2);
  part = λ tree. (
    record { table = slice_index leaf_tables tree.0; cost = 0 },
    Has-map (λ (table : ℕ). record { table = table; cost = 0 }) (take size leaf_tables) (slice_index leaf_tables tree.0) (Has-leaf size tree.0 few tree.1),
    refl,
    omega arith,
  );
}

-- Over parts that stand for the formulas of a depth:
module _ (size depth : ℕ) (stand : StandFor size depth) where
  -- uniform formulas for some of the parts,
  trees-for : (some : List Part) → AreAmong (parts_at size depth) some → (trees : List (Uniform size depth)) × (map (table_of_formula size depth) trees ≡ tables_of some) × (map (cost_of_formula size depth) trees ≡ costs_of some) × (length trees ≡ length some)
  trees-for [] among = ([], refl, refl, refl)
  trees-for (part ∷ some) among =
      let first : (tree : Uniform size depth) × (table_of_formula size depth tree ≡ part.table) × (cost_of_formula size depth tree ≡ part.cost) = stand.formula part among.0 in
      let rest : (trees : List (Uniform size depth)) × (map (table_of_formula size depth) trees ≡ tables_of some) × (map (cost_of_formula size depth) trees ≡ costs_of some) × (length trees ≡ length some) =
      trees-for some among.1 in (
        first.0 ∷ rest.0,
        ap (λ t. t ∷ map (table_of_formula size depth) rest.0) first.1 ∙ ap (λ ts. part.table ∷ ts) rest.1,
        ap (λ t. t ∷ map (cost_of_formula size depth) rest.0) first.2 ∙ ap (λ ts. part.cost ∷ ts) rest.2,
        ap suc rest.3,
      )

  -- and parts for some uniform formulas.
  parts-for : (trees : List (Uniform size depth)) → (some : List Part) × AreAmong (parts_at size depth) some × (tables_of some ≡ map (table_of_formula size depth) trees) × (total (costs_of some) ≤ total (map (cost_of_formula size depth) trees)) × (length some ≡ length trees)
  parts-for [] = ([], tt, refl, omega arith, refl)
  parts-for (tree ∷ trees) =
      let first : (part : Part) × Has (parts_at size depth) part × (part.table ≡ table_of_formula size depth tree) × (part.cost ≤ cost_of_formula size depth tree) = stand.part tree in
      let rest : (some : List Part) × AreAmong (parts_at size depth) some × (tables_of some ≡ map (table_of_formula size depth) trees) × (total (costs_of some) ≤ total (map (cost_of_formula size depth) trees)) × (length some ≡ length trees) =
      parts-for trees in (
        first.0 ∷ rest.0,
        (first.1, rest.1),
        ap (λ t. t ∷ tables_of rest.0) first.2 ∙ ap (λ ts. table_of_formula size depth tree ∷ ts) rest.2,
        omega (arith, first.3, rest.3),
        ap suc rest.4,
      )

  -- Each head over the parts is the head of a uniform formula with its table.
  head-formula : (head : Formula) → Has (all_heads (parts_at size depth)) head → (tree : Uniform size (suc depth)) × (table_of_formula size (suc depth) tree ≡ table_of_head head) × (head_of size depth tree ≡ head)
  head-formula head has =
      let over : IsOver (parts_at size depth) head = in-all_heads (parts_at size depth) head has in
      let from : (trees : List (Uniform size depth)) × (map (table_of_formula size depth) trees ≡ tables_of over.some) × (map (cost_of_formula size depth) trees ≡ costs_of over.some) × (length trees ≡ length over.some) =
      trees-for over.some over.among in (
        (over.cell, from.0, from.3 ∙ over.pins),
        ap (table_over over.cell) from.1 ∙ sym (table-head_over over.cell over.some over.pins) ∙ ap table_of_head over.is,
        ap (λ ts. head_with over.cell ts (junctions_of over.cell + total (map (cost_of_formula size depth) from.0))) from.1
            ∙ ap (λ cs. head_with over.cell (tables_of over.some) (junctions_of over.cell + total cs)) from.2
            ∙ over.is,
      )

  -- Each uniform formula has a head over the parts with its table, before which its own doesn't come.
  formula-head : (tree : Uniform size (suc depth)) → (head : Formula) × Has (all_heads (parts_at size depth)) head × (table_of_head head ≡ table_of_formula size (suc depth) tree) × (is_before (head_of size depth tree) head ≡ false)
  formula-head tree =
      let from : (some : List Part) × AreAmong (parts_at size depth) some × (tables_of some ≡ map (table_of_formula size depth) tree.1) × (total (costs_of some) ≤ total (map (cost_of_formula size depth) tree.1)) × (length some ≡ length tree.1) =
      parts-for tree.1 in
      let pins : length from.0 ≡ arity_of tree.0 = from.4 ∙ tree.2 in (
        head_over tree.0 from.0,
        Has-all_heads (parts_at size depth) tree.0 from.0 from.1 pins,
        table-head_over tree.0 from.0 pins ∙ ap (table_over tree.0) from.2,
        subst (λ ts. is_before (head_with tree.0 ts (cost_of_formula size (suc depth) tree)) (head_over tree.0 from.0) ≡ false) from.2
            (not_before-dearer tree.0 (tables_of from.0) (cost_of_formula size (suc depth) tree) (junctions_of tree.0 + total (costs_of from.0)) (omega (arith, from.3))),
      )

  -- So where there is no least head of a table, no uniform formula has it;
  no-formula : (table : ℕ) → least_head (parts_at size depth) table ≡ None → (tree : Uniform size (suc depth)) → table_of_formula size (suc depth) tree ≢ table
  unfolding least_head
  no-formula table none tree is =
      let from : (head : Formula) × Has (all_heads (parts_at size depth)) head × (table_of_head head ≡ table_of_formula size (suc depth) tree) × (is_before (head_of size depth tree) head ≡ false) = formula-head tree in
      least-none (with_table table (all_heads (parts_at size depth))) from.0 none
      (Has-filter (λ h. table_of_head h == table) (all_heads (parts_at size depth)) from.0 from.1 (eq-eqb (table_of_head from.0) table (from.2 ∙ is)))

  -- where there is one, no uniform formula with the table comes before it,
  none-before : (table : ℕ) (head : Formula) → least_head (parts_at size depth) table ≡ Some head → (tree : Uniform size (suc depth)) → table_of_formula size (suc depth) tree ≡ table → is_before (head_of size depth tree) head ≡ false
  unfolding least_head
  none-before table head least tree is =
      let from : (other : Formula) × Has (all_heads (parts_at size depth)) other × (table_of_head other ≡ table_of_formula size (suc depth) tree) × (is_before (head_of size depth tree) other ≡ false) = formula-head tree in
      let first : IsFirst (with_table table (all_heads (parts_at size depth))) head = least-first (with_table table (all_heads (parts_at size depth))) head least in
      not_before-trans head from.0 (head_of size depth tree)
      (first.before from.0 (Has-filter (λ h. table_of_head h == table) (all_heads (parts_at size depth)) from.0 from.1 (eq-eqb (table_of_head from.0) table (from.2 ∙ is))))
      from.3

  none-cheaper : (table : ℕ) (head : Formula) → least_head (parts_at size depth) table ≡ Some head → (tree : Uniform size (suc depth)) → table_of_formula size (suc depth) tree ≡ table → head.cost ≤ cost_of_formula size (suc depth) tree
  none-cheaper table head least tree is =
      let cost : (head_of size depth tree).cost ≡ cost_of_formula size (suc depth) tree = cost-head_with tree.0 (map (table_of_formula size depth) tree.1) (cost_of_formula size (suc depth) tree) in
      omega (arith, cost, cost-not_before (head_of size depth tree) head (none-before table head least tree is))

  -- and it is the least.
  is-least : (table : ℕ) (head : Formula) → least_head (parts_at size depth) table ≡ Some head → IsLeast size depth table head
  is-least table head least =
      let of : Has (all_heads (parts_at size depth)) head × (table_of_head head ≡ table) = least_head-is (parts_at size depth) table head least in
      let from : (tree : Uniform size (suc depth)) × (table_of_formula size (suc depth) tree ≡ table_of_head head) × (head_of size depth tree ≡ head) = head-formula head of.0 in
      record {
        found = (from.0, from.1 ∙ of.1, from.2);
        cheapest = none-cheaper table head least;
        first = none-before table head least;
      }

  -- The parts above stand for the formulas above.
  above-stand : StandFor size (suc depth)
  above-stand = record {
    formula = λ part has.
        let above : IsAbove (parts_at size depth) part = in-parts_above (parts_at size depth) part has in
        let least : IsLeast size depth part.table above.head = is-least part.table above.head above.least in (
          least.found.0,
          least.found.1,
          sym (cost-head_with least.found.0.0 (map (table_of_formula size depth) least.found.0.1) (cost_of_formula size (suc depth) least.found.0))
              ∙ ap (λ (f : Formula). f.cost) least.found.2
              ∙ above.cost,
        );
    part = λ tree. part-of tree (least_head (parts_at size depth) (table_of_formula size (suc depth) tree)) refl;
  }
    where
      part-of : (tree : Uniform size (suc depth)) (o : Option Formula) → least_head (parts_at size depth) (table_of_formula size (suc depth) tree) ≡ o → (part : Part) × Has (parts_at size (suc depth)) part × (part.table ≡ table_of_formula size (suc depth) tree) × (part.cost ≤ cost_of_formula size (suc depth) tree)
      part-of tree None none = absurd (no-formula (table_of_formula size (suc depth) tree) none tree refl)
      part-of tree (Some head) least =
          let byte : table_of_formula size (suc depth) tree < 256 = table_over-below tree.0 (map (table_of_formula size depth) tree.1) in (
            record { table = table_of_formula size (suc depth) tree; cost = head.cost },
            Has-parts_above (parts_at size depth) (table_of_formula size (suc depth) tree) head byte least,
            refl,
            none-cheaper (table_of_formula size (suc depth) tree) head least tree refl,
          )

stand-for : (size depth : ℕ) → size ≤ 3 → StandFor size depth
stand-for size zero few = leaves-stand size few
stand-for size (suc depth) few = above-stand size depth (stand-for size depth few)

match-by : {X : Type 0} (o : Option X) (P : Type 0) (Q : X → Type 0) → (o ≡ None → P) → ((x : X) → o ≡ Some x → Q x) → MatchOption o P Q
match-by None P Q none some = none refl
match-by (Some x) P Q none some = some x refl

pub least_formula-least : LeastFormulasAreLeast
least_formula-least size table depth few =
    match-by (least_formula size table (suc depth)) ((formula : Uniform size (suc depth)) → table_of_formula size (suc depth) formula ≢ table) (IsLeast size depth table)
    (no-formula size depth (stand-for size depth few) table) (is-least size depth (stand-for size depth few) table)
