-- What comes of the words and the text before anything is written.
use Rattle.std.specs.Prelude.{ℕ, ◌≡◌, List, [], Option, Some, None, Result, Ok, Err, IfSome, true, false}
use Rattle.rsfq_main.specs.declared.words.Command.{Command}
use Rattle.rsfq_main.specs.declared.fault.Fault.{Fault}
use Rattle.rsfq_main.specs.declared.fault.Fault.TheVariants.{Usage, Read, TooLong, Write, NoMemory}
use Rattle.rsfq_main.specs.Commands.{limit_of, is_too_long, made_of, output_of, IsMeant}
use Rattle.rsfq_main.specs.Faults.{Refusal, fault_of}

-- the text that a command goes by, where it is known: what the source tells, or nothing where none is read
abbrev pub text_for : Option ℕ → Option (List ℕ) → Option (List ℕ)
text_for None left = Some []
text_for (Some limit) left = left

-- The input of a command, given its limit and what its source tells at the start: the text within the limit, or the fault of
-- one that is too long, unless a read failed or memory ran out.
abbrev pub IsInput : Option ℕ → Option (List ℕ) → Result (List ℕ) Fault → Type 0
IsInput limit left (Ok bytes) = IfSome (text_for limit left) (λ text. (bytes ≡ text) × (is_too_long limit text ≡ false))
IsInput limit left (Err Read) = Unit {0}
IsInput limit left (Err NoMemory) = Unit {0}
IsInput limit left (Err TooLong) = IfSome (text_for limit left) (λ text. is_too_long limit text ≡ true)
IsInput limit left (Err fault) = ⊥

-- said of the command and its text, where there are both
abbrev pub OverText : Option Command → Option (List ℕ) → (Command → List ℕ → Type 0) → Type 0
OverText None left holds = Unit {0}
OverText (Some command) left holds = IfSome (text_for (limit_of command) left) (holds command)

-- A call answers for a definition that may refuse, unless memory ran out: with what it defines, which means what it should, or
-- with the fault of the refusal.
abbrev pub Answers : {A : Type 0} → Result A Refusal → (A → Type 0) → Result A Fault → Type 0
Answers defined means (Ok answer) = (defined ≡ Ok answer) × means answer
Answers defined means (Err NoMemory) = Unit {0}
Answers defined means (Err fault) = (refusal : Refusal) × (fault ≡ fault_of refusal) × (defined ≡ Err refusal)

-- what a command makes of a text: the bytes, or the fault of the refusal
abbrev pub IsMade : Command → List ℕ → Result (List ℕ) Fault → Type 0
IsMade command text result = Answers (made_of command text) (IsMeant command text) result

-- The outcome of the words, given what the source tells at the start: no command is a fault of use; of a command there are
-- the output, which means what it should, or the fault of the text's refusal, unless a read failed or memory ran out.
abbrev pub IsOutcome : Option Command → Option (List ℕ) → Result (List ℕ) Fault → Type 0
IsOutcome None left outcome = outcome ≡ Err Usage
IsOutcome (Some command) left (Ok bytes) = OverText (Some command) left (λ command text. (output_of command text ≡ Ok bytes) × IsMeant command text bytes)
IsOutcome (Some command) left (Err Usage) = ⊥
IsOutcome (Some command) left (Err Read) = Unit {0}
IsOutcome (Some command) left (Err Write) = ⊥
IsOutcome (Some command) left (Err NoMemory) = Unit {0}
IsOutcome (Some command) left (Err fault) = (refusal : Refusal) × (fault ≡ fault_of refusal) × OverText (Some command) left (λ command text. output_of command text ≡ Err refusal)
