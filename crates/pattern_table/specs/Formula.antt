-- Uniform formulas: trees of cells in which every leaf is at one depth; their tables and costs.
use Rattle.std.specs.Prelude.{ℕ, zero, suc, ◌≡◌, ◌+◌, ◌<◌, List, [], ◌∷◌, length, map, slice_index}
use Rattle.cell_lib.specs.declared.cell.Cell.{Cell}
use Rattle.cell_lib.specs.Cell.{arity_of, junctions_of, cell_value}
use Rattle.cut_word.specs.Table.{is_set, table_of}

-- A uniform formula of depth 0 over `size` leaves is one of them. One of a depth above is a cell over as many uniform formulas
-- of the depth below as it has pins.
abbrev pub Uniform : ℕ → ℕ → Type 0
Uniform size zero = (leaf : ℕ) × (leaf < size)
Uniform size (suc depth) = (cell : Cell) × (parts : List (Uniform size depth)) × (length parts ≡ arity_of cell)

-- the tables of the leaves: at each place the first leaf has its lowest bit, the second one the next, the third one the highest
abbrev pub leaf_tables : List ℕ
leaf_tables = 0xAA ∷ 0xCC ∷ 0xF0 ∷ []

-- the table of a cell over parts of these tables: the cell's value, bit by bit
unfoldable pub table_over : Cell → List ℕ → ℕ
table_over cell tables = table_of (λ place. cell_value cell (map (λ table. is_set table place) tables))

-- the sum of these costs
abbrev pub total : List ℕ → ℕ
total [] = 0
total (cost ∷ costs) = cost + total costs

-- the table of a uniform formula
abbrev pub table_of_formula : (size depth : ℕ) → Uniform size depth → ℕ
table_of_formula size zero formula = slice_index leaf_tables formula.0
table_of_formula size (suc depth) formula = table_over formula.0 (map (table_of_formula size depth) formula.1)

-- what a uniform formula costs: a leaf nothing, all else its cell and its parts
abbrev pub cost_of_formula : (size depth : ℕ) → Uniform size depth → ℕ
cost_of_formula size zero formula = 0
cost_of_formula size (suc depth) formula = junctions_of formula.0 + total (map (cost_of_formula size depth) formula.1)
