-- Reading: the design of a text, or the first line that has a fault (BLIF 1992, as `specs/Faults.antt` and
-- `specs/State.antt` say line by line).
use Rattle.std.specs.Prelude.{ℕ, List, [], ◌∷◌, Option, Some, None, Result, Ok, Err}
use Rattle.net_base.specs.Answers.{◌>>=◌}
use Rattle.blif_model.specs.declared.design.Design.{Design}
use Rattle.blif_read.specs.declared.fault.BlifFault.{BlifFault}
use Rattle.blif_read.specs.declared.fault.BlifKind.{BlifKind}
use Rattle.blif_read.specs.declared.word.Word.{Word}
use Rattle.blif_read.specs.Words.{Line, lines_in, first_token, word_of}
use Rattle.blif_read.specs.State.{State, start, design_so_far, with_line}
use Rattle.blif_read.specs.Faults.{fault_of}

-- a state, unless there is a fault
abbrev pub unless : Option BlifKind → State → Result State BlifKind
unless None state = Ok state
unless (Some kind) state = Err kind

-- a line of a word is read: what it adds, unless it has a fault
abbrev pub reads_word : Word → Line → State → Result State BlifKind
reads_word word line state = unless (fault_of word line state) (with_line word line state)

-- a fault, with the number of its line
abbrev pub at_line : ℕ → Result State BlifKind → Result State BlifFault
at_line number (Ok state) = Ok state
at_line number (Err kind) = Err (record { line = number; kind = kind })

-- a line is read by its first token
unfoldable pub reads : Line → State → Result State BlifFault
reads line state = at_line line.number (reads_word (word_of (first_token line.tokens)) line state)

-- lines are read in order, up to the first that has a fault
unfoldable pub reads_lines : List Line → State → Result State BlifFault
reads_lines [] state = Ok state
reads_lines (line ∷ lines) state = reads line state >>= reads_lines lines

-- the design of a text, or its first fault
unfoldable pub design_of : List ℕ → Result Design BlifFault
design_of text = reads_lines (lines_in text) start >>= λ state. Ok (design_so_far state)
