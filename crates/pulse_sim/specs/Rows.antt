-- Rows of input bits as text, a line each, and the first line that is no row.
use Rattle.std.specs.Prelude.{ℕ, ◌+◌, Bool, true, false, not, ◌&&◌, ◌||◌, ◌==◌, nat_le, List, [], ◌∷◌, ◌++◌, length, map, Option, Some, None, Result, Ok, Err, if◌then◌else◌}
use Rattle.std.specs.List.{list_all}
use Rattle.net_base.specs.Answers.{◌>>=◌}
use Rattle.pulse_sim.specs.declared.fault.RowKind.{RowKind}
use Rattle.pulse_sim.specs.declared.fault.RowKind.TheVariants.{RowShape, RowChar, TooManyRows}
use Rattle.pulse_sim.specs.declared.fault.RowFault.{RowFault}
use Rattle.pulse_sim.specs.declared.fault.RowsFault.{RowsFault}
use Rattle.pulse_sim.specs.declared.fault.RowsFault.TheVariants.{Row, NoMemory}
use Rattle.pulse_sim.specs.declared.rows.TheConstants.{MAX_ROWS}

-- the bytes of a line, and whether a line feed ends them
pub record TextLine : Type 0 where
  pub bytes : List ℕ
  pub is_ended : Bool

abbrev pub is_line_feed : ℕ → Bool
is_line_feed byte = byte == 10

-- one more byte at the front of the first line
abbrev pub with_byte : ℕ → List TextLine → List TextLine
with_byte byte [] = record { bytes = byte ∷ []; is_ended = false } ∷ []
with_byte byte (next ∷ lines) = record { bytes = byte ∷ next.bytes; is_ended = next.is_ended } ∷ lines

-- The lines of a text. Each line feed ends one; behind the last line feed there is a line only where it isn't empty.
abbrev pub text_lines : List ℕ → List TextLine
text_lines [] = []
text_lines (byte ∷ text) =
    if is_line_feed byte then record { bytes = []; is_ended = true } ∷ text_lines text else with_byte byte (text_lines text)

-- the characters of a row
abbrev pub is_one : ℕ → Bool
is_one byte = byte == 49

abbrev pub is_bit : ℕ → Bool
is_bit byte = byte == 48 || byte == 49

-- What is wrong with a line behind so many rows, the first cause that holds: there may be no more rows; its shape; a
-- character.
abbrev pub wrong_in : ℕ → ℕ → TextLine → Option RowKind
wrong_in before inputs it =
    if nat_le MAX_ROWS before then Some TooManyRows
    else if not (it.is_ended && length it.bytes == inputs) then Some RowShape
    else if not (list_all is_bit it.bytes) then Some RowChar
    else None

-- the row of a line with a number, unless something is wrong with it
abbrev pub row_of_line : ℕ → TextLine → Option RowKind → Result (List Bool) RowFault
row_of_line number it None = Ok (map is_one it.bytes)
row_of_line number it (Some wrong) = Err (record { line = number; kind = wrong })

-- The rows of lines in order, behind those that are there, where the first line of all has a number; or the first fault.
abbrev pub rows_of_lines : ℕ → ℕ → List (List Bool) → List TextLine → Result (List (List Bool)) RowFault
rows_of_lines inputs first rows [] = Ok rows
rows_of_lines inputs first rows (it ∷ lines) =
    row_of_line (first + length rows) it (wrong_in (length rows) inputs it) >>= λ row. rows_of_lines inputs first (rows ++ row ∷ []) lines

-- The rows of a text, or the first line that is no row.
abbrev pub rows_of : List ℕ → ℕ → ℕ → Result (List (List Bool)) RowFault
rows_of text inputs first = rows_of_lines inputs first [] (text_lines text)

-- what a fault tells of the rows: the line that is none
abbrev pub told_by : RowsFault → Option (Result (List (List Bool)) RowFault)
told_by NoMemory = None
told_by (Row fault) = Some (Err fault)
