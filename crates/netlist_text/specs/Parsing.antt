-- What is read of bytes, as one answer: the netlist and the flow of a text, or its first fault. It is read line by line, and says
-- the same as the relations of `specs/Faults.antt`: these are laws (`specs/Laws.antt`).
use Rattle.std.specs.Prelude.{ℕ, zero, suc, ◌+◌, ◌-◌, ◌==◌, List, [], ◌∷◌, length, Option, Some, None, Result, Ok, Err, if◌then◌else◌}
use Rattle.net_base.specs.Answers.{◌>>=◌}
use Rattle.flow_net.specs.declared.net.Flow.{Flow}
use Rattle.pulse_net.specs.declared.net.PulseNet.{PulseNet}
use Rattle.netlist_text.specs.declared.fault.TextFault.{TextFault}
use Rattle.netlist_text.specs.declared.fault.TextKind.TheVariants.{BadLine, NoEnd, AfterEnd}
use Rattle.netlist_text.specs.declared.fault.TextReadFault.{TextReadFault}
use Rattle.netlist_text.specs.declared.fault.TextReadFault.TheVariants.{Text, NoMemory}
use Rattle.netlist_text.specs.declared.reading.Prefix.{Prefix}
use Rattle.netlist_text.specs.Spelling.{format_of}
use Rattle.netlist_text.specs.Lines.{Line, SoFar, Nothing, Ended, with_line}
use Rattle.netlist_text.specs.Scanning.{line_at}

-- all that lines say up to the end, how many they are, and what follows them
pub record Whole : Type 0 where
  pub format : ℕ
  pub net : PulseNet
  pub flow : Flow
  pub lines : ℕ
  pub rest : List ℕ

-- a fault at the line behind so many
abbrev pub bad_line : ℕ → TextFault
bad_line count = record { line = count + 1; kind = BadLine }

-- the fault where no line fits behind so many: nothing is left, or a line that is bad
abbrev pub no_line : ℕ → List ℕ → TextFault
no_line count [] = record { line = count + 1; kind = NoEnd }
no_line count (byte ∷ bytes) = bad_line count

-- the line that fits behind so many, with what stands behind it
abbrev pub next_line : ℕ → List ℕ → Option (Line × List ℕ) → Result (Line × List ℕ) TextFault
next_line count rest None = Err (no_line count rest)
next_line count rest (Some read) = Ok read

-- with the end line all is said, and else the text goes on
abbrev pub up_to_end : SoFar → ℕ → List ℕ → Result Whole TextFault → Result Whole TextFault
up_to_end (Ended format net flow) count rest more = Ok (record { format = format; net = net; flow = flow; lines = count; rest = rest })
up_to_end so count rest more = more

-- What so many lines and those behind them say up to the end, of which there are at most as many as the first number tells.
unfoldable pub whole_from : ℕ → SoFar → ℕ → List ℕ → Result Whole TextFault
whole_from zero so count rest = up_to_end so count rest (Err (no_line count rest))
whole_from (suc more) so count rest =
    up_to_end so count rest (next_line count rest (line_at so rest) >>= λ read. whole_from more (with_line so read.0) (count + 1) read.1)

-- the format is the one that the elements need
abbrev pub in_format : Whole → Result Whole TextFault
in_format whole = if whole.format == format_of whole.net.elements then Ok whole else Err (bad_line 0)

-- What bytes say up to and with the end line, or their first fault. A line has a byte or more.
unfoldable pub whole_of : List ℕ → Result Whole TextFault
whole_of bytes = whole_from (length bytes) Nothing 0 bytes >>= in_format

-- what is answered of the front of a text
abbrev pub prefix_of : List ℕ → Whole → Prefix
prefix_of bytes whole = record { net = whole.net; flow = whole.flow; bytes = length bytes - length whole.rest; lines = whole.lines }

abbrev pub parsed_prefix : List ℕ → Result Prefix TextFault
parsed_prefix bytes = whole_of bytes >>= λ whole. Ok (prefix_of bytes whole)

-- nothing follows the end line
abbrev pub all_of : PulseNet × Flow → ℕ → List ℕ → Result (PulseNet × Flow) TextFault
all_of pair count [] = Ok pair
all_of pair count (byte ∷ bytes) = Err (record { line = count + 1; kind = AfterEnd })

-- the netlist and the flow of a text, or its first fault
abbrev pub parsed : List ℕ → Result (PulseNet × Flow) TextFault
parsed bytes = whole_of bytes >>= λ whole. all_of (whole.net, whole.flow) whole.lines whole.rest

-- the answer that a fault tells; want of memory tells none
abbrev pub told : {A : Type 0} → TextReadFault → Option (Result A TextFault)
told NoMemory = None
told (Text fault) = Some (Err fault)
