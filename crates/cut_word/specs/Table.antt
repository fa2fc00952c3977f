-- Truth tables over three leaves: eight bits, of which a row of the leaves' values selects one.
use Rattle.std.specs.Prelude.{ℕ, ◌+◌, ◌*◌, ◌==◌, Bool, true, false, List, [], ◌∷◌, map}
use Rattle.std.specs.Int.{bit_at}

-- the bit of a number at a place, the lowest at place 0
abbrev pub is_set : ℕ → ℕ → Bool
is_set number place = bit_at number place == 1

-- the number of a row of values, whose first value is the lowest bit
abbrev pub row_number : List Bool → ℕ
row_number [] = 0
row_number (true ∷ values) = 1 + 2 * row_number values
row_number (false ∷ values) = 2 * row_number values

-- the value of a table at a row of values: its bit at the row's number
abbrev pub value_at : ℕ → List Bool → Bool
value_at table values = is_set table (row_number values)

-- the table with these eight bits, the bit at place 0 first
unfoldable pub table_of : (ℕ → Bool) → ℕ
table_of bit = row_number (map bit (0 ∷ 1 ∷ 2 ∷ 3 ∷ 4 ∷ 5 ∷ 6 ∷ 7 ∷ []))
