-- The laws on least formulas.
use Rattle.std.specs.Prelude.{ℕ, suc, ◌+◌, ◌≡◌, ◌≢◌, ◌<◌, ◌≤◌, Bool, true, false, List, length, map, slice_index_or, All, MatchOption, Some}
use Rattle.cell_lib.specs.Cell.{arity_of, junctions_of, cell_value}
use Rattle.cut_word.specs.Table.{value_at}
use Rattle.pattern_table.specs.declared.formula.Formula.{Formula}
use Rattle.pattern_table.specs.Formula.{Uniform, total, table_of_formula, cost_of_formula}
use Rattle.pattern_table.specs.Least.{head_with, parts_of, is_before, least_formula, least_cost, leaf_at, has_formula}

-- the head of a uniform formula, with the cost of the whole
abbrev pub head_of : (size depth : ℕ) → Uniform size (suc depth) → Formula
head_of size depth formula = head_with formula.0 (map (table_of_formula size depth) formula.1) (cost_of_formula size (suc depth) formula)

-- A head is the least of a table: it is the head of a uniform formula with the table, no such formula costs less, and no such
-- formula's head comes before it, by cost, rank of the cell, and tables of the parts from the left.
pub record IsLeast (size depth table : ℕ) (head : Formula) : Type 0 where
  pub found : (formula : Uniform size (suc depth)) × (table_of_formula size (suc depth) formula ≡ table) × (head_of size depth formula ≡ head)
  pub cheapest : (formula : Uniform size (suc depth)) → table_of_formula size (suc depth) formula ≡ table → head.cost ≤ cost_of_formula size (suc depth) formula
  pub first : (formula : Uniform size (suc depth)) → table_of_formula size (suc depth) formula ≡ table → is_before (head_of size depth formula) head ≡ false

-- A least formula is the least of all uniform formulas with its table; where there is none, no uniform formula has the table.
abbrev pub LeastFormulasAreLeast : Type 0
LeastFormulasAreLeast =
    (size table depth : ℕ) → size ≤ 3
    → MatchOption (least_formula size table (suc depth))
    ((formula : Uniform size (suc depth)) → table_of_formula size (suc depth) formula ≢ table)
    (IsLeast size depth table)

-- What a head says of its table: it has as many parts as its cell has pins, each part's table is that of a formula of the depth
-- below, and whatever the values of up to three leaves, the table's value is the cell's over the values of the parts' tables. It
-- costs what its cell and the least formulas of its parts do.
pub record IsHeadOf (size depth table : ℕ) (head : Formula) : Type 0 where
  pub parts : length (parts_of head) ≡ arity_of head.cell
  pub each : All (λ part. has_formula size part depth ≡ true) (parts_of head)
  pub bytes : All (λ part. part < 256) (parts_of head)
  pub value : (values : List Bool) → length values ≤ 3 → value_at table values ≡ cell_value head.cell (map (λ part. value_at part values) (parts_of head))
  pub cost : head.cost ≡ junctions_of head.cell + total (map (λ part. least_cost size part depth) (parts_of head))

-- A least formula means its table.
abbrev pub FormulasMeanTheirTables : Type 0
FormulasMeanTheirTables =
    (size table depth : ℕ) (head : Formula) → least_formula size table (suc depth) ≡ Some head → IsHeadOf size depth table head

-- A leaf's table means the leaf: whatever the values of up to three leaves, the table's value is the leaf's.
abbrev pub LeavesMeanTheirTables : Type 0
LeavesMeanTheirTables =
    (size table leaf : ℕ) → leaf_at size table ≡ Some leaf
    → (leaf < size) × ((values : List Bool) → length values ≤ 3 → value_at table values ≡ slice_index_or values leaf false)
