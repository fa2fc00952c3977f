-- Worked cases, computed from the definitions.
use Rattle.std.proofs.Common.{ℕ, ◌≡◌, [], ◌∷◌, Some, None, refl, arith}
use Rattle.cell_lib.specs.declared.cell.Cell.{Cell}
use Rattle.cell_lib.specs.declared.cell.Cell.TheVariants.{Dro, Not, And, Maj}
use Rattle.pattern_table.specs.declared.formula.Formula.{Formula}
use Rattle.cut_word.specs.Table.{table_of}
use Rattle.pattern_table.specs.Formula.{Uniform, table_over, table_of_formula, cost_of_formula}
use Rattle.pattern_table.specs.Least.{least_formula, least_head, parts_above, leaf_at}

head : Cell → ℕ → ℕ → ℕ → ℕ → Formula
head cell left middle right cost = record { cell = cell; left = left; middle = middle; right = right; cost = cost }

not-one : least_formula 1 0x55 1 ≡ Some (head Not 0xAA 0 0 9)
unfolding least_head table_over table_of head
not-one = refl

none : least_formula 2 0x22 1 ≡ None
unfolding least_head table_over table_of
none = refl

not-one-two : least_formula 2 0x55 1 ≡ Some (head Not 0xAA 0 0 9)
unfolding least_head table_over table_of head
not-one-two = refl

none-two : least_formula 2 0x99 1 ≡ None
unfolding least_head table_over table_of
none-two = refl

majority : least_formula 3 0xE8 1 ≡ Some (head Maj 0xAA 0xCC 0xF0 13)
unfolding least_head table_over table_of head
majority = refl

and-two : least_formula 2 0x22 2 ≡ Some (head And 0x33 0 0xAA 26)
unfolding least_head parts_above table_over table_of head
and-two = refl

not-two : least_formula 2 0x99 2 ≡ Some (head Not 0x66 0 0 20)
unfolding least_head parts_above table_over table_of head
not-two = refl

not-one-deep : least_formula 1 0x55 4 ≡ Some (head Dro 0x55 0 0 27)
unfolding least_head parts_above table_over table_of head
not-one-deep = refl

-- ---- A formula that isn't the least one: a NOT over a NOT over the first leaf, at depth 2
twice-turned : Uniform 1 2
twice-turned = (Not, (Not, (0, omega arith) ∷ [], refl) ∷ [], refl)

twice-turned-table : table_of_formula 1 2 twice-turned ≡ 0xAA
unfolding twice-turned table_over table_of
twice-turned-table = refl

twice-turned-cost : cost_of_formula 1 2 twice-turned ≡ 18
unfolding twice-turned
twice-turned-cost = refl

-- a DRO over a DRO costs less
held-twice : least_formula 1 0xAA 2 ≡ Some (head Dro 0xAA 0 0 12)
unfolding least_head parts_above table_over table_of head
held-twice = refl

-- ---- Leaves
third-leaf : leaf_at 3 0xF0 ≡ Some 2
third-leaf = refl

no-third-leaf : leaf_at 2 0xF0 ≡ None
no-third-leaf = refl

conjunction-two : least_formula 3 0x80 2 ≡ Some (head And 0x88 0 0xF0 28)
unfolding least_head parts_above table_over table_of head
conjunction-two = refl
