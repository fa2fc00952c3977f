-- The faults of a netlist text: where a line doesn't fit, where no line is the end, and what goes on behind the end.
use Rattle.std.specs.Prelude.{◌≡◌, ◌≢◌, ◌+◌, ◌++◌, ◌⊎◌, ℕ, List, [], length, ⊤}
use Rattle.flow_net.specs.declared.net.Flow.{Flow}
use Rattle.pulse_net.specs.declared.net.PulseNet.{PulseNet}
use Rattle.netlist_text.specs.declared.fault.TextKind.{TextKind}
use Rattle.netlist_text.specs.declared.fault.TextKind.TheVariants.{BadLine, NoEnd, AfterEnd}
use Rattle.netlist_text.specs.declared.fault.TextReadFault.{TextReadFault}
use Rattle.netlist_text.specs.declared.fault.TextReadFault.TheVariants.{Text, NoMemory}
use Rattle.netlist_text.specs.Spelling.{format_of}
use Rattle.netlist_text.specs.Lines.{Line, SoFar, Nothing, Ended, line_text, texts, after_lines, Fits, FitInOrder, IsOpen}

-- bytes begin with so many lines, each of which fits behind those before it; this is what they say, and a rest follows them
pub record IsRead (bytes : List ℕ) (count : ℕ) (so : SoFar) (rest : List ℕ) : Type 0 where
  pub lines : List Line
  pub whole : bytes ≡ texts lines ++ rest
  pub fit : FitInOrder Nothing lines
  pub said : after_lines Nothing lines ≡ so
  pub counted : count ≡ length lines

-- the next line doesn't fit: what stands behind lines that fit is no text of a line that may stand there, whatever follows
pub record IsBadLine (bytes : List ℕ) (number : ℕ) : Type 0 where
  pub count : ℕ
  pub so : SoFar
  pub rest : List ℕ
  pub read : IsRead bytes count so rest
  pub no_end : IsOpen so
  pub some : rest ≢ []
  pub unfit : (line : Line) (behind : List ℕ) → Fits so line → rest ≢ line_text line ++ behind
  pub is : number ≡ count + 1

-- all bytes are lines that fit, and none of them is the end
pub record HasNoEnd (bytes : List ℕ) (number : ℕ) : Type 0 where
  pub count : ℕ
  pub so : SoFar
  pub read : IsRead bytes count so []
  pub no_end : IsOpen so
  pub is : number ≡ count + 1

-- the lines up to the end fit, but the format isn't the one that the elements need: it is 2, and none is a majority cell
pub record HasWrongFormat (bytes : List ℕ) (number : ℕ) : Type 0 where
  pub count : ℕ
  pub format : ℕ
  pub net : PulseNet
  pub flow : Flow
  pub rest : List ℕ
  pub read : IsRead bytes count (Ended format net flow) rest
  pub other : format ≢ format_of net.elements
  pub is : number ≡ 1

-- the lines up to the end fit, in the format that the elements need, and something follows
pub record GoesOn (bytes : List ℕ) (number : ℕ) : Type 0 where
  pub count : ℕ
  pub format : ℕ
  pub net : PulseNet
  pub flow : Flow
  pub rest : List ℕ
  pub read : IsRead bytes count (Ended format net flow) rest
  pub same : format ≡ format_of net.elements
  pub some : rest ≢ []
  pub is : number ≡ count + 1

-- a kind of fault is the first of these bytes, at the line of this number
abbrev pub IsFirst : TextKind → List ℕ → ℕ → Type 0
IsFirst BadLine bytes number = IsBadLine bytes number ⊎ HasWrongFormat bytes number
IsFirst NoEnd bytes number = HasNoEnd bytes number
IsFirst AfterEnd bytes number = GoesOn bytes number

-- what a fault says of the bytes: want of memory says nothing
abbrev pub IsFaultOf : List ℕ → TextReadFault → Type 0
IsFaultOf bytes (Text fault) = IsFirst fault.kind bytes fault.line
IsFaultOf bytes NoMemory = ⊤

-- the same where something may follow the end line
abbrev pub IsFaultOfPrefix : List ℕ → TextReadFault → Type 0
IsFaultOfPrefix bytes (Text fault) = IsFirst fault.kind bytes fault.line × (fault.kind ≢ AfterEnd)
IsFaultOfPrefix bytes NoMemory = ⊤
