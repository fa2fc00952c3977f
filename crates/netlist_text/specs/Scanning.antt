-- How bytes are scanned for the line that fits: the one reading of their front, and what stands behind it. The private steps are
-- stated by this, and `parsed` is; the other clauses speak of lines that fit, and `line_at` finds just these
-- (`proofs/ScannedLines.antt`).
use Rattle.std.specs.Prelude.{◌^◌, ◌==◌, ◌&&◌, ℕ, suc, zero, Bool, true, false, not, nat_le, nat_lt, List, [], ◌∷◌, ◌++◌, length, take, drop, Option, Some, None, if◌then◌else◌, codes, decimal}
use Rattle.std.specs.Char.{is_ascii_digit}
use Rattle.std.specs.List.{prefix_len}
use Rattle.std.specs.Str.{bytes_eq}
use Rattle.std.specs.Str.Parse.{digits_value}
use Rattle.cell_lib.specs.declared.cell.Cell.{Cell}
use Rattle.cell_lib.specs.declared.cell.Cell.TheVariants.{Dro, Not, And, Or, Xor, Maj}
use Rattle.cell_lib.specs.Cell.{arity_of}
use Rattle.net_base.specs.declared.name.TheConstants.{MAX_NAME_BYTES}
use Rattle.flow_net.specs.TheConstants.{MAX_PHASES}
use Rattle.flow_net.specs.declared.net.Units.{Units}
use Rattle.flow_net.specs.declared.net.Flow.{Flow}
use Rattle.pulse_net.specs.declared.net.Element.{Element}
use Rattle.pulse_net.specs.declared.net.Element.TheVariants.{Clocked, Split}
use Rattle.pulse_net.specs.declared.net.Outlet.{Outlet}
use Rattle.pulse_net.specs.declared.net.Outlet.TheVariants.{Zero, One, Wire}
use Rattle.pulse_net.specs.declared.net.PulseNet.{PulseNet}
use Rattle.netlist_text.specs.declared.fault.TextKind.TheVariants.{BadLine, NoEnd}
use Rattle.netlist_text.specs.declared.fault.TextReadFault.{TextReadFault}
use Rattle.netlist_text.specs.declared.fault.TextReadFault.TheVariants.{Text}
use Rattle.netlist_text.specs.declared.word.Word.{Word}
use Rattle.netlist_text.specs.declared.word.Word.TheVariants as word
use Rattle.netlist_text.specs.Spelling.{cell_word}
use Rattle.netlist_text.specs.Lines.{Line, FormatLine, ModelLine, PhasesLine, LatencyLine, InputLine, ElementLine, OutputLine, FlowLine, EndLine, SoFar, Nothing, Format, Model, Phases, Body, Ended, with_line}

-- scanning goes on unless it has failed
infixl 10 ◌>>◌
abbrev pub ◌>>◌ : {A B : Type 0} → Option A → (A → Option B) → Option B
None >> go = None
Some a >> go = go a

-- what stands behind a word
unfoldable pub behind : List ℕ → List ℕ → Option (List ℕ)
behind word bytes = if bytes_eq (take (length word) bytes) word then Some (drop (length word) bytes) else None

-- the number of 32 bits that bytes are in decimal
unfoldable pub number_of : List ℕ → Option ℕ
number_of digits = let n = digits_value 10 digits in if bytes_eq digits (decimal n) && nat_lt n (2 ^ 32) then Some n else None

-- a number, up to the first byte that is no digit
unfoldable pub number_at : List ℕ → Option (ℕ × List ℕ)
number_at bytes = let len = prefix_len is_ascii_digit bytes in number_of (take len bytes) >> λ n. Some (n, drop len bytes)

-- a space and a number
unfoldable pub field_at : List ℕ → Option (ℕ × List ℕ)
field_at bytes = behind (codes " ") bytes >> number_at

-- a line feed
abbrev pub end_at : List ℕ → Option (List ℕ)
end_at bytes = behind (codes "\n") bytes

-- visible ASCII but `#`
abbrev pub is_name_byte : ℕ → Bool
is_name_byte byte = nat_le 33 byte && (nat_le byte 126 && not (byte == 35))

-- a name, up to the first byte that may not stand in one
unfoldable pub name_word_at : List ℕ → Option (List ℕ × List ℕ)
name_word_at bytes = let len = prefix_len is_name_byte bytes in if nat_le 1 len && nat_le len MAX_NAME_BYTES then Some (take len bytes, drop len bytes) else None

-- a space and a name
unfoldable pub name_at : List ℕ → Option (List ℕ × List ℕ)
name_at bytes = behind (codes " ") bytes >> name_word_at

-- a line of a word and a number from the least to the most
unfoldable pub number_line_at : List ℕ → ℕ → ℕ → List ℕ → Option (ℕ × List ℕ)
number_line_at word least most bytes =
    behind word bytes >> λ rest. field_at rest >> λ read. end_at read.1 >> λ next. if nat_le least read.0 && nat_le read.0 most then Some (read.0, next) else None

unfoldable pub model_at : List ℕ → Option (List ℕ × List ℕ)
model_at bytes = behind (codes "model") bytes >> λ rest. name_at rest >> λ read. end_at read.1 >> λ next. Some (read.0, next)

-- a dash, or a wire
abbrev pub wire_by : Option (List ℕ) → List ℕ → Option (Option ℕ × List ℕ)
wire_by (Some rest) bytes = Some (None, rest)
wire_by None bytes = field_at bytes >> λ read. Some (Some read.0, read.1)

unfoldable pub wire_at : List ℕ → Option (Option ℕ × List ℕ)
wire_at bytes = wire_by (behind (codes " -") bytes) bytes

-- a constant, or a wire
abbrev pub outlet_by : Option (List ℕ) → Option (List ℕ) → List ℕ → Option (Outlet × List ℕ)
outlet_by (Some rest) one bytes = Some (Zero, rest)
outlet_by None (Some rest) bytes = Some (One, rest)
outlet_by None None bytes = field_at bytes >> λ read. Some (Wire read.0, read.1)

unfoldable pub outlet_at : List ℕ → Option (Outlet × List ℕ)
outlet_at bytes = outlet_by (behind (codes " zero") bytes) (behind (codes " one") bytes) bytes

-- what stands behind the word of each line
unfoldable pub input_at : List ℕ → Option ((List ℕ × Option ℕ) × List ℕ)
input_at bytes = name_at bytes >> λ name. wire_at name.1 >> λ wire. end_at wire.1 >> λ next. Some ((name.0, wire.0), next)

unfoldable pub output_at : List ℕ → Option ((List ℕ × Outlet) × List ℕ)
output_at bytes = name_at bytes >> λ name. outlet_at name.1 >> λ outlet. end_at outlet.1 >> λ next. Some ((name.0, outlet.0), next)

unfoldable pub units_at : List ℕ → Option (Units × List ℕ)
units_at bytes = field_at bytes >> λ forward. field_at forward.1 >> λ back. end_at back.1 >> λ next. Some (record { forward = forward.0; back = back.0 }, next)

unfoldable pub split_at : List ℕ → Option (Element × List ℕ)
split_at bytes =
    field_at bytes >> λ from. field_at from.1 >> λ left. field_at left.1 >> λ right. end_at right.1 >> λ next. Some (Split from.0 left.0 right.0, next)

-- so many pins, behind those that were seen
unfoldable pub pins_from : ℕ → List ℕ → List ℕ → Option (List ℕ × List ℕ)
pins_from zero seen bytes = Some (seen, bytes)
pins_from (suc count) seen bytes = field_at bytes >> λ pin. pins_from count (seen ++ pin.0 ∷ []) pin.1

unfoldable pub clocked_at : Cell → List ℕ → Option (Element × List ℕ)
clocked_at cell bytes =
    field_at bytes >> λ stage. pins_from (arity_of cell) [] stage.1 >> λ pins. field_at pins.1 >> λ out. end_at out.1 >> λ next. Some (Clocked cell stage.0 pins.0 out.0, next)

-- how a line begins
abbrev pub word_text : Word → List ℕ
word_text word.Input = codes "input"
word_text (word.Clocked cell) = cell_word cell
word_text word.Split = codes "split"
word_text word.Output = codes "output"
word_text word.Flow = codes "flow"
word_text word.End = codes "end"

abbrev pub words : List Word
words =
    word.Clocked Dro ∷ word.Clocked Not ∷ word.Clocked And ∷ word.Clocked Or ∷ word.Clocked Xor ∷ word.Clocked Maj
    ∷ word.Split ∷ word.Flow ∷ word.Input ∷ word.Output ∷ word.End ∷ []

-- the first of some words that bytes begin with
abbrev pub word_by : Word → Option (List ℕ) → Option (Word × List ℕ) → Option (Word × List ℕ)
word_by word (Some rest) others = Some (word, rest)
word_by word None others = others

unfoldable pub word_from : List Word → List ℕ → Option (Word × List ℕ)
word_from [] bytes = None
word_from (word ∷ more) bytes = word_by word (behind (word_text word) bytes) (word_from more bytes)

abbrev pub is_none : {A : Type 0} → List A → Bool
is_none [] = true
is_none (x ∷ xs) = false

-- what may still come: inputs before elements, these before outputs, and these before flow lines
abbrev pub takes_outputs : Flow → Bool
takes_outputs flow = is_none flow.pins

abbrev pub takes_elements : PulseNet → Flow → Bool
takes_elements net flow = is_none net.outputs && takes_outputs flow

abbrev pub takes_inputs : PulseNet → Flow → Bool
takes_inputs net flow = is_none net.elements && takes_elements net flow

-- the least format that has a line for a cell
abbrev pub format_for : Cell → ℕ
format_for Maj = 2
format_for cell = 1

-- the line behind a word of the body
unfoldable pub body_line_at : Word → ℕ → PulseNet → Flow → List ℕ → Option (Line × List ℕ)
body_line_at word.Input format net flow bytes = if takes_inputs net flow then (input_at bytes >> λ read. Some (InputLine read.0.0 read.0.1, read.1)) else None
body_line_at (word.Clocked cell) format net flow bytes =
    if takes_elements net flow && nat_le (format_for cell) format then (clocked_at cell bytes >> λ read. Some (ElementLine read.0, read.1)) else None
body_line_at word.Split format net flow bytes = if takes_elements net flow && nat_le 1 format then (split_at bytes >> λ read. Some (ElementLine read.0, read.1)) else None
body_line_at word.Output format net flow bytes = if takes_outputs flow then (output_at bytes >> λ read. Some (OutputLine read.0.0 read.0.1, read.1)) else None
body_line_at word.Flow format net flow bytes = units_at bytes >> λ read. Some (FlowLine read.0, read.1)
body_line_at word.End format net flow bytes = end_at bytes >> λ next. Some (EndLine, next)

-- the line that fits behind what was read so far
unfoldable pub line_at : SoFar → List ℕ → Option (Line × List ℕ)
line_at Nothing bytes = number_line_at (codes "rsfq") 1 2 bytes >> λ read. Some (FormatLine read.0, read.1)
line_at (Format format) bytes = model_at bytes >> λ read. Some (ModelLine read.0, read.1)
line_at (Model format model) bytes = number_line_at (codes "phases") 1 MAX_PHASES bytes >> λ read. Some (PhasesLine read.0, read.1)
line_at (Phases format model phases) bytes = number_line_at (codes "latency") 1 4294967295 bytes >> λ read. Some (LatencyLine read.0, read.1)
line_at (Body format net flow) bytes = word_from words bytes >> λ read. body_line_at read.0 format net flow read.1
line_at (Ended format net flow) bytes = None

-- the fault where no line fits: nothing is left, or a line that is bad
abbrev pub unread : List ℕ → ℕ → TextReadFault
unread [] line = Text (record { line = line; kind = NoEnd })
unread (byte ∷ bytes) line = Text (record { line = line; kind = BadLine })

-- what was read with the line at hand, and what stands behind it
abbrev pub stepped : SoFar → Option (Line × List ℕ) → Option (SoFar × List ℕ)
stepped so None = None
stepped so (Some read) = Some (with_line so read.0, read.1)

-- what was read by a call, where it has read a line
abbrev pub seen : SoFar → Option (List ℕ) → Option (SoFar × List ℕ)
seen so None = None
seen so (Some rest) = Some (so, rest)
