-- What the crates above cite: what least formulas are and mean, which tables have one, and what they cost at most.
use Rattle.std.proofs.Common.{◌≡◌, ◌<◌, ◌≤◌, ℕ, zero, suc, true, length, Option, Some, None, refl, subst, arith}
use Rattle.std.specs.Option.{is_some}
use Rattle.cell_lib.proofs.CallerLemmas.{arity_of-few}
use Rattle.pattern_table.specs.declared.formula.Formula.{Formula}
use Rattle.pattern_table.specs.Least.{parts_of, table_of_head, parts_at, least_formula, leaf_at, has_formula}
use Rattle.pattern_table.specs.Laws.{IsHeadOf}
use Rattle.pattern_table.proofs.CellTables.{table_over-below}
use Rattle.pattern_table.proofs.Depths.{least_head-is, cost-least_head}
pub use Rattle.pattern_table.proofs.LeastOfAll.{least_formula-least}
pub use Rattle.pattern_table.proofs.Meanings.{formula-means, leaf-means}

is_some-some : {X : Type 0} (o : Option X) → is_some o ≡ true → (x : X) × (o ≡ Some x)
is_some-some None is = absurd (cc)
is_some-some (Some x) is = (x, refl)

-- A table that a formula of depth 0 has is a leaf's,
pub has_formula-leaf : (size table : ℕ) → has_formula size table 0 ≡ true → (leaf : ℕ) × (leaf_at size table ≡ Some leaf)
has_formula-leaf size table has = is_some-some (leaf_at size table) has

-- and one that a formula of a greater depth has has a least formula.
pub has_formula-head : (size table depth : ℕ) → has_formula size table (suc depth) ≡ true → (head : Formula) × (least_formula size table (suc depth) ≡ Some head)
has_formula-head size table depth has = is_some-some (least_formula size table (suc depth)) has

-- The table of a least formula is that of its head, and has eight bits.
pub table-least_formula : (size table depth : ℕ) (head : Formula) → least_formula size table (suc depth) ≡ Some head → table_of_head head ≡ table
table-least_formula size table depth head is = (least_head-is (parts_at size depth) table head is).1

pub byte-least_formula : (size table depth : ℕ) (head : Formula) → least_formula size table (suc depth) ≡ Some head → table < 256
byte-least_formula size table depth head is = subst (λ t. t < 256) (table-least_formula size table depth head is) (table_over-below head.cell (parts_of head))

-- A least formula has at most three parts,
pub parts_of-few : (size table depth : ℕ) (head : Formula) → least_formula size table (suc depth) ≡ Some head → length (parts_of head) ≤ 3
parts_of-few size table depth head is =
    let means : IsHeadOf size depth table head = formula-means size table depth head is in
    omega (arith, means.parts, arity_of-few head.cell)

-- and of a depth up to 4 it costs at most 520 junctions.
pub cost-least_formula : (size table depth : ℕ) (head : Formula) → least_formula size table depth ≡ Some head → depth ≤ 4 → head.cost ≤ 520
cost-least_formula size table zero head is few = absurd (cc)
cost-least_formula size table (suc depth) head is few = cost-least_head size depth table head is (omega arith)
