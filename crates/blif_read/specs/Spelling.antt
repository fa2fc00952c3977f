-- The text that spells a design, line by line, and the designs that have one: reading from the other side.
use Rattle.std.specs.Prelude.{◌≡◌, ◌≤◌, ◌+◌, ◌==◌, ◌&&◌, ◌||◌, ℕ, Bool, true, false, nat_le, List, [], ◌∷◌, ◌++◌, length, map, All, Ok, codes}
use Rattle.std.specs.List.{flat_map, AllPass}
use Rattle.net_base.specs.declared.name.TheConstants.{MAX_NAME_BYTES}
use Rattle.blif_model.specs.declared.design.Bit.{Bit}
use Rattle.blif_model.specs.declared.design.Bit.TheVariants.{Zero, One, Any}
use Rattle.blif_model.specs.declared.design.Cube.{Cube}
use Rattle.blif_model.specs.declared.design.Table.{Table}
use Rattle.blif_model.specs.declared.design.Design.{Design}
use Rattle.blif_model.specs.Order.{name_of}
use Rattle.blif_model.specs.Regular.{IsRegular}
use Rattle.blif_read.specs.Signals.{with_names}
use Rattle.blif_read.specs.Reading.{design_of}

-- tokens, each behind a space
abbrev pub words_of : List (List ℕ) → List ℕ
words_of tokens = flat_map (λ token. codes " " ++ token) tokens

-- a line of tokens: a space between two of them, and a line feed at the end
abbrev pub line_text : List (List ℕ) → List ℕ
line_text [] = codes "\n"
line_text (token ∷ tokens) = token ++ words_of tokens ++ codes "\n"

-- lines, one after another
abbrev pub lines_text : List (List (List ℕ)) → List ℕ
lines_text lines = flat_map line_text lines

-- the names of signals
abbrev pub names_of : Design → List ℕ → List (List ℕ)
names_of design signals = map (name_of design) signals

-- the signals of a table's line: its pins, then its target
abbrev pub line_signals : Table → List ℕ
line_signals table = table.pins ++ table.target ∷ []

-- the character of a bit
abbrev pub char_of : Bit → ℕ
char_of Zero = 48
char_of One = 49
char_of Any = 45

-- the character of the output of a table's rows, which is on or isn't
abbrev pub output_char : Bool → ℕ
output_char true = 49
output_char false = 48

-- the tokens of a row: its bits, where there are some, and the output
abbrev pub row_tokens : Bool → List Bit → List (List ℕ)
row_tokens on [] = (output_char on ∷ []) ∷ []
row_tokens on (bit ∷ bits) = map char_of (bit ∷ bits) ∷ (output_char on ∷ []) ∷ []

-- the lines of rows
abbrev pub row_lines : Bool → List Cube → List (List (List ℕ))
row_lines on rows = map (λ row. row_tokens on row.bits) rows

-- the lines of a table: its signals, and its rows
abbrev pub table_lines : Design → Table → List (List (List ℕ))
table_lines design table = (codes ".names" ∷ names_of design (line_signals table)) ∷ row_lines table.on table.rows

-- the lines of a design: the model, the inputs, the outputs, the tables in order, and the end
abbrev pub design_lines : Design → List (List (List ℕ))
design_lines design =
    (codes ".model" ∷ design.name ∷ [])
    ∷ (codes ".inputs" ∷ names_of design design.inputs)
    ∷ (codes ".outputs" ∷ names_of design design.outputs)
    ∷ (flat_map (table_lines design) design.tables ++ (codes ".end" ∷ []) ∷ [])

-- the text of a design
abbrev pub text_of : Design → List ℕ
text_of design = lines_text (design_lines design)

-- the signals of all these lines, in order
abbrev pub signals_in_order : Design → List ℕ
signals_in_order design = design.inputs ++ (design.outputs ++ flat_map line_signals design.tables)

-- a letter, a digit or an underscore
abbrev pub is_plain_byte : ℕ → Bool
is_plain_byte byte = (nat_le 97 byte && nat_le byte 122) || (nat_le 65 byte && nat_le byte 90) || (nat_le 48 byte && nat_le byte 57) || byte == 95

-- a name: letters, digits and underscores, 1 to 255 of them
pub record IsPlainName (name : List ℕ) : Type 0 where
  pub some : 1 ≤ length name
  pub short : length name ≤ MAX_NAME_BYTES
  pub plain : AllPass is_plain_byte name

-- Tables of which the first has its signals in the line of this number: each row has a line, and then comes the next table.
abbrev pub StandFrom : ℕ → List Table → Type 0
StandFrom number [] = Unit {0}
StandFrom number (table ∷ tables) = (table.line ≡ number) × StandFrom (number + 1 + length table.rows) tables

-- A design that a text of this form spells.
pub record IsSpellable (design : Design) : Type 0 where
  -- its numbers are those of names, nothing is listed twice, rows fit their pins, and the limits are kept
  pub regular : IsRegular design
  -- its own name is plain,
  pub model : IsPlainName design.name
  -- and so are those of its signals,
  pub names : All IsPlainName design.names
  -- which are those of the lines, in order of first appearance
  pub numbered : design.names ≡ with_names (names_of design (signals_in_order design)) []
  -- the tables stand behind the lines of the model, the inputs and the outputs
  pub lines : StandFrom 4 design.tables
  -- a table without rows is on, since no row says anything else
  pub on : All (λ table. length table.rows ≡ 0 → table.on ≡ true) design.tables

-- The text of a design that has one is read as that design.
abbrev pub SpelledDesignsAreRead : Type 0
SpelledDesignsAreRead = (design : Design) → IsSpellable design → design_of (text_of design) ≡ Ok design
