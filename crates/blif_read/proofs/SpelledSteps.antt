-- The lines of a spelling, each by itself: what it adds, where nothing is wrong with it.
use Rattle.std.proofs.Common.{◌≡◌, ◌+◌, ◌++◌, ◌∷◌, ◌==◌, ◌&&◌, ℕ, Bool, true, false, nat_lt, List, [], length, map, All, Option, Some, None, Ok, codes, refl, sym, ap, ◌∙◌, append_assoc, append-nil, arith, if◌then◌else◌}
use Rattle.std.specs.List.{list_all, list_any}
use Rattle.std.proofs.lemmas.Bool.Decides.{nat_tests}
use Rattle.std.proofs.lemmas.List.{length-map}
use Rattle.std.proofs.lemmas.List.Elements.{All-head, All-tail}
use Rattle.std.proofs.lemmas.Slice.Eq.{bytes_eq-Decides}
use Rattle.blif_model.specs.declared.design.Bit.{Bit}
use Rattle.blif_model.specs.declared.design.Bit.TheVariants.{Zero, One, Any}
use Rattle.blif_model.specs.declared.design.Cube.{Cube}
use Rattle.blif_model.specs.declared.design.Table.{Table}
use Rattle.blif_model.specs.declared.design.Design.{Design}
use Rattle.blif_model.specs.declared.design.TheConstants.{MAX_TABLES, MAX_PINS}
use Rattle.blif_read.specs.declared.port.Port.TheVariants.{Input, Output}
use Rattle.blif_read.specs.declared.word.Word.TheVariants.{Row}
use Rattle.blif_read.specs.Words.{first_token, word_of, is_unsupported_word}
use Rattle.blif_read.specs.Rows.{row_lengths, is_row_shape, are_row_chars, is_bit, row_bits, is_on, bit_of}
use Rattle.blif_read.specs.Signals.{is_long}
use Rattle.blif_read.specs.State.{State, start, closed, tables_so_far, with_inputs, with_outputs, with_table, with_line}
use Rattle.blif_read.specs.Faults.{listing_fault, differ, row_fault, fault_of}
use Rattle.blif_read.specs.Reading.{unless, at_line, reads_word, reads, reads_lines}
use Rattle.blif_read.specs.Spelling.{char_of, row_tokens, row_lines}
use Rattle.blif_read.proofs.FaultRows.{fault_of-row}
use Rattle.blif_read.proofs.LinesRead.{reads_lines-step}
use Rattle.blif_read.proofs.SpelledLines.{good_line, numbered}

-- a state behind the model line, and before the end
abbrev pub behind_model : Design → Option Table → State
behind_model design table = record { design = design; table = table; has_model = true; has_end = false }

pub reads-model : (number : ℕ) (name : List ℕ) → is_long name ≡ false
    → reads (good_line number (codes ".model" ∷ name ∷ [])) start ≡ Ok (behind_model (record { name = name; names = []; inputs = []; outputs = []; tables = [] }) None)
unfolding reads word_of fault_of with_line
reads-model number name short = rw short refl

module _ (number : ℕ) (tokens : List (List ℕ)) (design : Design) (table : Option Table) where
  pub reads-inputs : listing_fault Input design.names design.inputs tokens ≡ None
      → reads (good_line number (codes ".inputs" ∷ tokens)) (behind_model design table) ≡ Ok (with_inputs (good_line number (codes ".inputs" ∷ tokens)) (closed (behind_model design table)))
  unfolding reads word_of fault_of with_line
  reads-inputs none = rw none refl

  pub reads-outputs : listing_fault Output design.names design.outputs tokens ≡ None
      → reads (good_line number (codes ".outputs" ∷ tokens)) (behind_model design table) ≡ Ok (with_outputs (good_line number (codes ".outputs" ∷ tokens)) (closed (behind_model design table)))
  unfolding reads word_of fault_of with_line
  reads-outputs none = rw none refl

  pub reads-names : (length (tables_so_far (behind_model design table)) == MAX_TABLES) ≡ false → (length tokens == 0) ≡ false → nat_lt (MAX_PINS + 1) (length tokens) ≡ false → list_any is_long tokens ≡ false
      → reads (good_line number (codes ".names" ∷ tokens)) (behind_model design table) ≡ Ok (with_table (good_line number (codes ".names" ∷ tokens)) (closed (behind_model design table)))
  unfolding reads word_of fault_of with_line
  reads-names room some few short = rw (room, some, few, short) refl

pub reads-end : (number : ℕ) (design : Design) (table : Option Table)
    → reads (good_line number (codes ".end" ∷ [])) (behind_model design table) ≡ Ok (record (closed (behind_model design table)) { has_end = true })
unfolding reads word_of fault_of with_line
reads-end number design table = refl

-- what the tokens of a row are
pub bits_char : (bits : List Bit) → list_all is_bit (map char_of bits) ≡ true
bits_char [] = refl
bits_char (Zero ∷ bits) = bits_char bits
bits_char (One ∷ bits) = bits_char bits
bits_char (Any ∷ bits) = bits_char bits

bit_of-char : (bit : Bit) → bit_of (char_of bit) ≡ bit
bit_of-char Zero = refl
bit_of-char One = refl
bit_of-char Any = refl

bits_of-chars : (bits : List Bit) → map bit_of (map char_of bits) ≡ bits
bits_of-chars [] = refl
bits_of-chars (bit ∷ bits) = rw (bit_of-char bit, bits_of-chars bits) refl

row-shape : (on : Bool) (bits : List Bit) → is_row_shape (length bits) (row_tokens on bits) ≡ true
row-shape on [] = refl
row-shape on (bit ∷ bits) =
    let long : length (map char_of (bit ∷ bits)) ≡ length (bit ∷ bits) = length-map (bit ∷ bits) char_of in
    let some : (length (bit ∷ bits) == 0) ≡ false = grind (arith, nat_tests) in
    let lengths : row_lengths (length (bit ∷ bits)) ≡ length (bit ∷ bits) ∷ 1 ∷ [] = ap (λ b. if b then 1 ∷ [] else (length (bit ∷ bits) ∷ 1 ∷ [])) some in
    (bytes_eq-Decides (map length (row_tokens on (bit ∷ bits))) (row_lengths (length (bit ∷ bits)))).1 (ap (λ n. n ∷ 1 ∷ []) long ∙ sym lengths)

row-chars : (on : Bool) (bits : List Bit) → are_row_chars (row_tokens on bits) ≡ true
row-chars true [] = refl
row-chars false [] = refl
row-chars true (bit ∷ bits) = rw (bits_char (bit ∷ bits)) refl
row-chars false (bit ∷ bits) = rw (bits_char (bit ∷ bits)) refl

row-on : (on : Bool) (bits : List Bit) → is_on (row_tokens on bits) ≡ on
row-on true [] = refl
row-on false [] = refl
row-on true (bit ∷ bits) = refl
row-on false (bit ∷ bits) = refl

row-bits : (on : Bool) (bits : List Bit) → map bit_of (row_bits (row_tokens on bits)) ≡ bits
row-bits on [] = refl
row-bits on (bit ∷ bits) = bits_of-chars (bit ∷ bits)

row-word : (on : Bool) (bits : List Bit) → word_of (first_token (row_tokens on bits)) ≡ Row
unfolding word_of is_unsupported_word
row-word true [] = refl
row-word false [] = refl
row-word on (Zero ∷ bits) = refl
row-word on (One ∷ bits) = refl
row-word on (Any ∷ bits) = refl

-- a table with a row more, which is on where its rows are
abbrev with_bits : Bool → List Bit → Table → Table
with_bits on bits table = record table { rows = table.rows ++ (record { bits = bits }) ∷ []; on = on }

reads-row : (number : ℕ) (design : Design) (table : Table) (on : Bool) (bits : List Bit) → length bits ≡ length table.pins → (nat_lt 0 (length table.rows) && differ table.on on) ≡ false
    → reads (good_line number (row_tokens on bits)) (behind_model design (Some table)) ≡ Ok (behind_model design (Some (with_bits on bits table)))
unfolding reads with_line
reads-row number design table on bits fits unmixed =
    let line = good_line number (row_tokens on bits) in
    let state = behind_model design (Some table) in
    let shape : is_row_shape (length table.pins) (row_tokens on bits) ≡ true = ap (λ pins. is_row_shape pins (row_tokens on bits)) (sym fits) ∙ row-shape on bits in
    let none : row_fault (row_tokens on bits) table ≡ None = rw (shape, row-chars on bits, row-on on bits, unmixed) refl in
    ap (λ word. at_line number (reads_word word line state)) (row-word on bits)
    ∙ ap (λ fault. at_line number (unless fault (with_line Row line state))) (fault_of-row line state refl refl table refl ∙ none)
    ∙ rw (row-bits on bits, row-on on bits) refl

-- Rows that fit a table of their output are all read.
pub rows_read : (design : Design) (table : Table) (on : Bool) (number : ℕ) (rows : List Cube) (lines : List (List (List ℕ))) → All (λ row. length row.bits ≡ length table.pins) rows → table.on ≡ on
    → reads_lines (numbered number (row_lines on rows ++ lines)) (behind_model design (Some table)) ≡ reads_lines (numbered (number + length rows) lines) (behind_model design (Some (record table { rows = table.rows ++ rows; on = on })))
rows_read design table on number [] lines fit same =
    let place : number + length {A = Cube} [] ≡ number = omega arith in
    rw (place, append-nil table.rows, same) refl
rows_read design table on number (row ∷ rows) lines fit same =
    let Fits = λ (row : Cube). length row.bits ≡ length table.pins in
    let place : number + 1 + length rows ≡ number + length (row ∷ rows) = omega arith in
    let next = with_bits on row.bits table in
    let unmixed : (nat_lt 0 (length table.rows) && differ table.on on) ≡ false = ap (λ b. nat_lt 0 (length table.rows) && differ b on) same ∙ never (nat_lt 0 (length table.rows)) on in
    reads_lines-step (good_line number (row_tokens on row.bits)) (numbered (number + 1) (row_lines on rows ++ lines)) (behind_model design (Some table)) (behind_model design (Some next))
    (reads-row number design table on row.bits (All-head Fits row rows fit) unmixed)
    ∙ rows_read design next on (number + 1) rows lines (All-tail Fits row rows fit) refl
    ∙ rw (place, append_assoc table.rows (row ∷ []) rows) refl
  where
    never : (some on : Bool) → (some && differ on on) ≡ false
    never true true = refl
    never true false = refl
    never false true = refl
    never false false = refl

-- a table before its rows
abbrev pub bare : Table → Table
bare table = record table { rows = []; on = true }

-- The rows of a table are read behind its line.
pub table_rows_read : (design : Design) (table : Table) (number : ℕ) (rows : List Cube) (lines : List (List (List ℕ))) → All (λ row. length row.bits ≡ length table.pins) rows → (length rows ≡ 0 → table.on ≡ true)
    → reads_lines (numbered number (row_lines table.on rows ++ lines)) (behind_model design (Some (bare table))) ≡ reads_lines (numbered (number + length rows) lines) (behind_model design (Some (record table { rows = rows })))
table_rows_read design table number [] lines fit on =
    let place : number + length {A = Cube} [] ≡ number = omega arith in
    rw (place, on refl) refl
table_rows_read design table number (row ∷ rows) lines fit on =
    let Fits = λ (row : Cube). length row.bits ≡ length table.pins in
    let place : number + 1 + length rows ≡ number + length (row ∷ rows) = omega arith in
    let next = with_bits table.on row.bits (bare table) in
    reads_lines-step (good_line number (row_tokens table.on row.bits)) (numbered (number + 1) (row_lines table.on rows ++ lines)) (behind_model design (Some (bare table))) (behind_model design (Some next))
    (reads-row number design (bare table) table.on row.bits (All-head Fits row rows fit) refl)
    ∙ rows_read design next table.on (number + 1) rows lines (All-tail Fits row rows fit) refl
    ∙ rw place refl
