-- What a run answers, and what it leaves in its source, its sink and its notes. A text is None where the source doesn't tell it.
use Rattle.std.specs.Prelude.{ℕ, ◌≡◌, ◌+◌, ◌≤◌, ◌<◌, ◌↔◌, List, [], length, take, drop, Option, Some, None, Result, Ok, Err, IfSome, if◌then◌else◌, nat_lt, ◌⊎◌}
use Rattle.io_edge.specs.Counts.{Rose}
use Rattle.io_edge.specs.Sink.{Gains}
use Rattle.rsfq_main.specs.declared.words.Command.{Command}
use Rattle.rsfq_main.specs.declared.status.Status.{Status}
use Rattle.rsfq_main.specs.declared.status.Status.TheVariants.{Done, Refused, Usage, ReadFault, WriteFault, NoMemory}
use Rattle.rsfq_main.specs.declared.fault.Fault.TheVariants as faults
use Rattle.rsfq_main.specs.Commands.{limit_of, output_of, IsQuestion}
use Rattle.rsfq_main.specs.Faults.{Refusal, fault_status, fault_line, fault_of}
use Rattle.rsfq_main.specs.Outcomes.{OverText}

-- Statuses.

-- Done, or want of memory
abbrev pub IsDoneOrNoMemory : Status → Type 0
IsDoneOrNoMemory Done = Unit {0}
IsDoneOrNoMemory NoMemory = Unit {0}
IsDoneOrNoMemory status = ⊥

-- the text decided: neither the words nor a read did, nor want of memory
abbrev pub IsDecidedByText : Status → Type 0
IsDecidedByText Usage = ⊥
IsDecidedByText ReadFault = ⊥
IsDecidedByText NoMemory = ⊥
IsDecidedByText status = Unit {0}

-- there is no output, and this is the status instead
abbrev pub IsRefusedBy : Status → Result (List ℕ) Refusal → Type 0
IsRefusedBy status (Ok bytes) = ⊥
IsRefusedBy status (Err refusal) = fault_status (fault_of refusal) ≡ status

-- where the text decided, the run ended with the status exactly where that is the text's
abbrev pub ComesExactly : Status → Status → Result (List ℕ) Refusal → Type 0
ComesExactly status ended output = IsDecidedByText ended → (ended ≡ status ↔ IsRefusedBy status output)

-- the words are a command that asks a question
abbrev pub Asks : Option Command → Type 0
Asks None = ⊥
Asks (Some command) = IsQuestion command

-- The source.

-- the bytes that the words let a run read at most; None where it reads nothing
abbrev pub read_limit : Option Command → Option ℕ
read_limit None = None
read_limit (Some command) = limit_of command

-- some bytes were taken from the front of the text, and the limit at most
abbrev pub LeavesRest : ℕ → List ℕ → Option (List ℕ) → Type 0
LeavesRest limit text left = (k : ℕ) × (k ≤ limit) × (left ≡ Some (drop k text))

-- what is left of a text: all of one that isn't read, nothing of one that was read, and of one that is too long all
-- behind the limit's next byte
abbrev pub LeavesAfter : Option ℕ → Status → List ℕ → Option (List ℕ) → Type 0
LeavesAfter None status text left = left ≡ Some text
LeavesAfter (Some limit) ReadFault text left = LeavesRest limit text left
LeavesAfter (Some limit) NoMemory text left = LeavesRest limit text left
LeavesAfter (Some limit) Refused text left = left ≡ (if nat_lt limit (length text) then Some (drop (limit + 1) text) else Some [])
LeavesAfter (Some limit) status text left = left ≡ Some []

-- What a run that ended so left in its source, of which it read up to a limit: the count didn't fall, and is to blame for a
-- failed read, which comes of no command that reads nothing; and what is left of the text, where the source tells it.
pub record LeavesSource (limit : Option ℕ) (ended : Status) (left_before left_after : Option (List ℕ)) (faults_before faults_after : ℕ) : Type 0 where
  pub faults : faults_before ≤ faults_after
  pub failed : ended ≡ ReadFault → (limit ≡ None → ⊥) × Rose faults_before faults_after
  pub left : IfSome left_before (λ text. LeavesAfter limit ended text left_after)

-- The sink.

-- nothing was handed to the sink
abbrev pub IsUnwritten : Status → Type 0
IsUnwritten Done = ⊥
IsUnwritten WriteFault = ⊥
IsUnwritten status = Unit {0}

-- what a sink has taken of these bytes: all of them on Done, and a proper front of them where a write failed
abbrev pub TakesOutput : Status → List ℕ → Option (List ℕ) → Option (List ℕ) → Type 0
TakesOutput Done bytes before after = Gains before after bytes
TakesOutput WriteFault bytes before after = (k : ℕ) × (k < length bytes) × Gains before after (take k bytes)
TakesOutput status bytes before after = ⊥

-- what a sink has taken of an output: all of it on Done, and a proper front of it where a write failed
abbrev pub Writes : Status → Option (List ℕ) → Option (List ℕ) → Result (List ℕ) Refusal → Type 0
Writes Done before after output = (bytes : List ℕ) × (output ≡ Ok bytes) × Gains before after bytes
Writes WriteFault before after output = (bytes : List ℕ) × (output ≡ Ok bytes) × (k : ℕ) × (k < length bytes) × Gains before after (take k bytes)
Writes status before after output = Unit {0}

-- on Done the bytes that a sink has taken mean what they should
abbrev pub WritesMeaning : Status → Option (List ℕ) → Option (List ℕ) → (List ℕ → Type 0) → Type 0
WritesMeaning Done before after means = (bytes : List ℕ) × Gains before after bytes × means bytes
WritesMeaning status before after means = Unit {0}

-- some bytes were appended
abbrev pub Appends : Option (List ℕ) → Option (List ℕ) → Type 0
Appends before after = (bytes : List ℕ) × Gains before after bytes

-- The notes.

-- a line that tells the status, and of a text that is refused why
abbrev pub IsNoteOf : Status → Option Command → Option (List ℕ) → List ℕ → Type 0
IsNoteOf Done command left line = ⊥
IsNoteOf Usage command left line = line ≡ fault_line faults.Usage
IsNoteOf ReadFault command left line = line ≡ fault_line faults.Read
IsNoteOf WriteFault command left line = line ≡ fault_line faults.Write
IsNoteOf NoMemory command left line = line ≡ fault_line faults.NoMemory
IsNoteOf status command left line = (refusal : Refusal) × (line ≡ fault_line (fault_of refusal)) × (fault_status (fault_of refusal) ≡ status) × OverText command left (λ command text. output_of command text ≡ Err refusal)

-- a front of the line was taken, and all of it unless the notes failed or stalled
abbrev pub TakesLine : Option (List ℕ) → Option (List ℕ) → List ℕ → Type 0 → Type 0
TakesLine before after line fails = (k : ℕ) × (k ≤ length line) × Gains before after (take k line) × ((k ≡ length line) ⊎ fails)
