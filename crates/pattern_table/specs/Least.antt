-- The least formula of a table, from the tables that formulas of the depth below have, and their least costs.
use Rattle.std.specs.Prelude.{ℕ, zero, suc, ◌+◌, ◌==◌, ◌&&◌, ◌||◌, nat_lt, Bool, true, false, cond, List, [], ◌∷◌, map, take, filter, flat_map, filter_map, Option, Some, None, is_some, option_map, unwrap_or}
use Rattle.std.specs.List.{range_with_len}
use Rattle.cell_lib.specs.declared.cell.Cell.{Cell}
use Rattle.cell_lib.specs.declared.cell.Cell.TheVariants.{Dro, Not, And, Or, Xor, Maj}
use Rattle.cell_lib.specs.Cell.{arity_of, rank_of, junctions_of}
use Rattle.pattern_table.specs.declared.formula.Formula.{Formula}
use Rattle.pattern_table.specs.declared.heads.Part.{Part}
use Rattle.pattern_table.specs.Formula.{leaf_tables, table_over, total}

-- ---- Heads: a cell over parts of these tables
-- the head of a cell over parts of these tables, of this cost; an absent part is 0
abbrev pub head_with : Cell → List ℕ → ℕ → Formula
head_with cell [] cost = record { cell = cell; left = 0; middle = 0; right = 0; cost = cost }
head_with cell (left ∷ []) cost = record { cell = cell; left = left; middle = 0; right = 0; cost = cost }
head_with cell (left ∷ (right ∷ [])) cost = record { cell = cell; left = left; middle = 0; right = right; cost = cost }
head_with cell (left ∷ (middle ∷ (right ∷ rest))) cost = record { cell = cell; left = left; middle = middle; right = right; cost = cost }

-- the tables of a head's parts, as many as its cell has pins
abbrev pub parts_for : Cell → ℕ → ℕ → ℕ → List ℕ
parts_for Dro left middle right = left ∷ []
parts_for Not left middle right = left ∷ []
parts_for And left middle right = left ∷ right ∷ []
parts_for Or left middle right = left ∷ right ∷ []
parts_for Xor left middle right = left ∷ right ∷ []
parts_for Maj left middle right = left ∷ middle ∷ right ∷ []

abbrev pub parts_of : Formula → List ℕ
parts_of formula = parts_for formula.cell formula.left formula.middle formula.right

-- the table of a head
abbrev pub table_of_head : Formula → ℕ
table_of_head formula = table_over formula.cell (parts_of formula)

-- ---- The order: by cost, then by the cell's rank, then by the tables of the parts from the left
-- numbers are lower than others, compared from the left, as words in a dictionary
abbrev pub is_lower : List ℕ → List ℕ → Bool
is_lower [] [] = false
is_lower [] (m ∷ others) = true
is_lower (n ∷ numbers) [] = false
is_lower (n ∷ numbers) (m ∷ others) = nat_lt n m || ((n == m) && is_lower numbers others)

abbrev pub key_of : Formula → List ℕ
key_of formula = formula.cost ∷ rank_of formula.cell ∷ formula.left ∷ formula.middle ∷ formula.right ∷ []

abbrev pub is_before : Formula → Formula → Bool
is_before formula other = is_lower (key_of formula) (key_of other)

-- the first in order of one that may be there and another
abbrev pub better : Option Formula → Formula → Option Formula
better None formula = Some formula
better (Some best) formula = Some (cond (is_before formula best) formula best)

-- the first in order of one that may be there and all of these
abbrev pub least_from : Option Formula → List Formula → Option Formula
least_from best [] = best
least_from best (formula ∷ formulas) = least_from (better best formula) formulas

-- ---- All heads over parts
-- all lists of so many of these
abbrev pub lists_of : ℕ → List Part → List (List Part)
lists_of zero parts = [] ∷ []
lists_of (suc n) parts = flat_map (λ part. map (λ rest. part ∷ rest) (lists_of n parts)) parts

abbrev pub all_cells : List Cell
all_cells = Dro ∷ Not ∷ And ∷ Or ∷ Xor ∷ Maj ∷ []

-- the head of a cell over parts, which costs what the cell and the parts do
abbrev pub head_over : Cell → List Part → Formula
head_over cell parts = head_with cell (map (λ (part : Part). part.table) parts) (junctions_of cell + total (map (λ (part : Part). part.cost) parts))

-- all heads of a cell over as many of these parts as it has pins
abbrev pub heads_of : List Part → Cell → List Formula
heads_of parts cell = map (head_over cell) (lists_of (arity_of cell) parts)

-- all heads over these parts
abbrev pub all_heads : List Part → List Formula
all_heads parts = flat_map (heads_of parts) all_cells

-- those of a table
abbrev pub with_table : ℕ → List Formula → List Formula
with_table table heads = filter (λ head. table_of_head head == table) heads

-- the least head over these parts that has the table
unfoldable pub least_head : List Part → ℕ → Option Formula
least_head parts table = least_from None (with_table table (all_heads parts))

-- ---- The depths, each from the one below
-- a table that has a head over these parts, with the least cost
abbrev pub part_with : List Part → ℕ → Option Part
part_with parts table = option_map (λ (head : Formula). record { table = table; cost = head.cost }) (least_head parts table)

-- the tables of eight bits that have heads over these parts, with their least costs
unfoldable pub parts_above : List Part → List Part
parts_above parts = filter_map (part_with parts) (range_with_len 0 256)

-- the first leaves, which cost nothing
abbrev pub leaf_parts : ℕ → List Part
leaf_parts size = map (λ table. record { table = table; cost = 0 }) (take size leaf_tables)

-- the tables that uniform formulas of a depth have, over this many leaves, with their least costs
abbrev pub parts_at : ℕ → ℕ → List Part
parts_at size zero = leaf_parts size
parts_at size (suc depth) = parts_above (parts_at size depth)

-- the least formula of a size, a table and a depth, which is 1 at least: what comes first among all heads over the depth below
abbrev pub least_formula : ℕ → ℕ → ℕ → Option Formula
least_formula size table zero = None
least_formula size table (suc depth) = least_head (parts_at size depth) table

-- what the least formula of a table costs, which is nothing at depth 0
abbrev pub least_cost : ℕ → ℕ → ℕ → ℕ
least_cost size table depth = unwrap_or (option_map (λ (head : Formula). head.cost) (least_formula size table depth)) 0

-- ---- Depth 0
-- the place, from a number on, of a table among others, if it is there
abbrev pub place_from : ℕ → ℕ → List ℕ → Option ℕ
place_from place table [] = None
place_from place table (next ∷ tables) = cond (next == table) (Some place) (place_from (suc place) table tables)

-- the leaf of this table, of so many: its place from 0, if there is one
abbrev pub leaf_at : ℕ → ℕ → Option ℕ
leaf_at size table = place_from 0 table (take size leaf_tables)

-- a uniform formula of this depth over this many leaves has the table
abbrev pub has_formula : ℕ → ℕ → ℕ → Bool
has_formula size table zero = is_some (leaf_at size table)
has_formula size table (suc depth) = is_some (least_formula size table (suc depth))
