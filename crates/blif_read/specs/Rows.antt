-- Rows of a table: a token of a character for each pin, where the table has pins, and a token of one character, the output.
use Rattle.std.specs.Prelude.{ℕ, Bool, ◌&&◌, ◌||◌, ◌==◌, List, [], ◌∷◌, length, map, ◌++◌, slice_index, if◌then◌else◌}
use Rattle.std.specs.List.{list_all}
use Rattle.std.specs.Str.{bytes_eq}
use Rattle.blif_model.specs.declared.design.Bit.{Bit}
use Rattle.blif_model.specs.declared.design.Bit.TheVariants.{Zero, One, Any}
use Rattle.blif_model.specs.declared.design.Cube.{Cube}
use Rattle.blif_model.specs.declared.design.Table.{Table}

-- how long the tokens of a row are, by the number of pins
abbrev pub row_lengths : ℕ → List ℕ
row_lengths pins = if pins == 0 then 1 ∷ [] else pins ∷ 1 ∷ []

-- these tokens are as many and as long as a row's
abbrev pub is_row_shape : ℕ → List (List ℕ) → Bool
is_row_shape pins tokens = bytes_eq (map length tokens) (row_lengths pins)

-- the characters of the pins: the token before that of the output, if there is one
abbrev pub row_bits : List (List ℕ) → List ℕ
row_bits [] = []
row_bits (output ∷ []) = []
row_bits (bits ∷ output ∷ more) = bits

-- the character of the output
abbrev pub row_output : List (List ℕ) → ℕ
row_output [] = 0
row_output (output ∷ []) = slice_index output 0
row_output (bits ∷ output ∷ more) = slice_index output 0

-- `0`, `1` or `-`
abbrev pub is_bit : ℕ → Bool
is_bit byte = byte == 48 || byte == 49 || byte == 45

-- `0` or `1`
abbrev pub is_output : ℕ → Bool
is_output byte = byte == 48 || byte == 49

-- each character of a row may stand at its place
abbrev pub are_row_chars : List (List ℕ) → Bool
are_row_chars tokens = list_all is_bit (row_bits tokens) && is_output (row_output tokens)

-- what a character asks of its pin
abbrev pub bit_of : ℕ → Bit
bit_of byte = if byte == 48 then Zero else if byte == 49 then One else Any

-- whether the output of a row is 1
abbrev pub is_on : List (List ℕ) → Bool
is_on tokens = row_output tokens == 49

-- the row of these tokens
abbrev pub row_of : List (List ℕ) → Cube
row_of tokens = record { bits = map bit_of (row_bits tokens) }

-- A table with one more row, which is on where its rows have output 1.
abbrev pub with_row : List (List ℕ) → Table → Table
with_row tokens table = record table { rows = table.rows ++ row_of tokens ∷ []; on = is_on tokens }
