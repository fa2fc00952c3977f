-- The walk of the code over heads: parts in the order of their tables, so that each choice of parts is met in one order alone.
use Rattle.std.specs.Prelude.{ℕ, ◌≡◌, ◌<◌, ◌^◌, ◌++◌, List, [], ◌∷◌, map, filter_map, slice_index_or, All, Option, None, option_map}
use Rattle.std.specs.List.{range_with_len}
use Rattle.cell_lib.specs.declared.cell.Cell.{Cell}
use Rattle.cell_lib.specs.declared.cell.Cell.TheVariants.{Dro, Not, And, Or, Xor, Maj}
use Rattle.pattern_table.specs.declared.formula.Formula.{Formula}
use Rattle.pattern_table.specs.declared.heads.Part.{Part}
use Rattle.pattern_table.specs.Least.{head_over, with_table, least_from, least_head}

-- ---- The heads that are met
-- a cell of one pin
abbrev pub single_heads : Cell → List Part → List Formula
single_heads cell parts = map (λ part. head_over cell (part ∷ [])) parts

-- a cell of two pins, the second part at the place of the first or behind it
abbrev pub pair_heads_of : Cell → Part → List Part → List Formula
pair_heads_of cell left rights = map (λ right. head_over cell (left ∷ right ∷ [])) rights

abbrev pub pair_heads : Cell → List Part → List Formula
pair_heads cell [] = []
pair_heads cell (left ∷ parts) = pair_heads_of cell left (left ∷ parts) ++ pair_heads cell parts

-- a majority, no part before the one on its left
abbrev pub majorities : Part → Part → List Part → List Formula
majorities left middle rights = map (λ right. head_over Maj (left ∷ middle ∷ right ∷ [])) rights

abbrev pub triple_heads_of : Part → List Part → List Formula
triple_heads_of left [] = []
triple_heads_of left (middle ∷ parts) = majorities left middle (middle ∷ parts) ++ triple_heads_of left parts

abbrev pub triple_heads : List Part → List Formula
triple_heads [] = []
triple_heads (left ∷ parts) = triple_heads_of left (left ∷ parts) ++ triple_heads parts

-- all that are met, in order
unfoldable pub walked_heads : List Part → List Formula
walked_heads parts =
    single_heads Dro parts ++ (single_heads Not parts ++ (pair_heads And parts ++ (pair_heads Or parts ++ (pair_heads Xor parts ++ triple_heads parts))))

-- ---- Levels: the least formula of each table, if there is one
-- the entry of a table
abbrev pub entry : List (Option Formula) → ℕ → Option Formula
entry level table = slice_index_or level table None

-- Heads are noted in a level: each entry comes to be the first in order of itself and of the heads of its table.
unfoldable pub AreNoted : List Formula → List (Option Formula) → List (Option Formula) → Type 0
AreNoted heads old new = (table : ℕ) → table < 256 → entry new table ≡ least_from (entry old table) (with_table table heads)

-- a level has the least head over these parts of each table
unfoldable pub IsLevelOver : List Part → List (Option Formula) → Type 0
IsLevelOver parts level = (table : ℕ) → table < 256 → entry level table ≡ least_head parts table

-- a table that a level has, with its least cost
abbrev pub part_in : List (Option Formula) → ℕ → Option Part
part_in level table = option_map (λ (head : Formula). record { table = table; cost = head.cost }) (entry level table)

-- the tables that a level has, with their least costs
unfoldable pub parts_in : List (Option Formula) → List Part
parts_in level = filter_map (part_in level) (range_with_len 0 256)

-- ---- Parts
-- each table is below those behind it
abbrev pub AreAscending : List Part → Type 0
AreAscending [] = Unit {0}
AreAscending (part ∷ parts) = All (λ (other : Part). part.table < other.table) parts × AreAscending parts

-- no cost is so large that a sum of a few wouldn't fit
abbrev pub AreCheap : List Part → Type 0
AreCheap parts = All (λ (part : Part). part.cost < 2 ^ 32) parts
