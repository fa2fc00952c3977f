-- The notes of texts that have no netlist: a line each.
use Rattle.std.specs.Prelude.{ℕ, List, [], ◌++◌, Option, Some, None, codes, decimal}
use Rattle.blif_read.specs.declared.fault.BlifFault.{BlifFault}
use Rattle.blif_read.specs.declared.fault.BlifKind.{BlifKind}
use Rattle.blif_read.specs.declared.fault.BlifKind.TheVariants as kinds
use Rattle.synth.specs.declared.fault.SynthFault.{SynthFault}
use Rattle.synth.specs.declared.fault.SynthFault.TheVariants.{Blif, DuplicateDriver, Undriven, Cycle, TooManyNodes, TooManyGates, TooManyDros, NoMemory}

-- what is wrong with a line
abbrev pub kind_words : BlifKind → List ℕ
kind_words kinds.BadByte = codes "bad byte"
kind_words kinds.UnknownWord = codes "unknown word"
kind_words (kinds.Unsupported word) = codes "unsupported"
kind_words kinds.RowOutsideTable = codes "row outside a table"
kind_words kinds.RowShape = codes "row shape"
kind_words kinds.RowChar = codes "row character"
kind_words kinds.MixedOutput = codes "mixed output"
kind_words kinds.NoTarget = codes "table without target"
kind_words kinds.SecondModel = codes "second model"
kind_words kinds.AfterEnd = codes "text after end"
kind_words kinds.DuplicateInput = codes "duplicate input"
kind_words kinds.DuplicateOutput = codes "duplicate output"
kind_words kinds.NameTooLong = codes "name too long"
kind_words kinds.TooManyInputs = codes "too many inputs"
kind_words kinds.TooManyOutputs = codes "too many outputs"
kind_words kinds.TooManyTables = codes "too many tables"
kind_words kinds.TooManyPins = codes "too many pins"

-- behind the words: of a word of BLIF that isn't taken, which word
abbrev pub kind_detail : BlifKind → List ℕ
kind_detail (kinds.Unsupported word) = codes " " ++ word
kind_detail kind = []

-- the note of a line: its number, and what is wrong with it
abbrev pub line_note : BlifFault → List ℕ
line_note fault = codes "line " ++ decimal fault.line ++ codes ": " ++ kind_words fault.kind ++ kind_detail fault.kind ++ codes "\n"

-- the note of a text that has no netlist; want of memory refuses no text
abbrev pub note_of : SynthFault → Option (List ℕ)
note_of (Blif fault) = Some (line_note fault)
note_of (DuplicateDriver name) = Some (codes "duplicate driver " ++ name ++ codes "\n")
note_of (Undriven name) = Some (codes "undriven " ++ name ++ codes "\n")
note_of (Cycle line) = Some (codes "cycle at line " ++ decimal line ++ codes "\n")
note_of TooManyNodes = Some (codes "too many nodes\n")
note_of TooManyGates = Some (codes "too many gates\n")
note_of (TooManyDros count) = Some (codes "too many dros " ++ decimal count ++ codes "\n")
note_of NoMemory = None
