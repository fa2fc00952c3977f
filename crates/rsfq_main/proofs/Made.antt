-- From what a command makes of its text to the outcome of the words, and to what is left in the source.
use Rattle.std.proofs.Common.{◌≡◌, ◌≤◌, ℕ, Bool, false, nat_lt, List, [], length, Option, Some, None, Result, Ok, Err, IfSome, if◌then◌else◌, refl, sym, ap, subst, ◌∙◌, arith}
use Rattle.std.proofs.lemmas.Bool.Decides.{nat_tests}
use Rattle.std.proofs.lemmas.List.{drop_all}
use Rattle.rsfq_main.specs.declared.words.Command.{Command}
use Rattle.rsfq_main.specs.declared.status.Status.{Status}
use Rattle.rsfq_main.specs.declared.status.Status.TheVariants as statuses
use Rattle.rsfq_main.specs.declared.fault.Fault.{Fault}
use Rattle.rsfq_main.specs.declared.fault.Fault.TheVariants as faults
use Rattle.rsfq_main.specs.Notes.{note_of}
use Rattle.rsfq_main.specs.Faults.{Refusal, TooLong, Synthesis, Text, Rows, Broken, Denied, noted, fault_of, outcome_status}
use Rattle.rsfq_main.specs.Commands.{limit_of, is_too_long, made_of, output_of, IsMeant}
use Rattle.rsfq_main.specs.Outcomes.{text_for, IsInput, OverText, IsMade, IsOutcome}
use Rattle.rsfq_main.specs.Run.{LeavesAfter, LeavesSource}

-- ---- What no text is refused by

-- a fault that some refusal has
abbrev IsOfText : Fault → Type 0
IsOfText faults.Usage = ⊥
IsOfText faults.Read = ⊥
IsOfText faults.Write = ⊥
IsOfText fault = Unit {0}

noted-of_text : (note : Option (List ℕ)) → IsOfText (noted note)
noted-of_text None = tt
noted-of_text (Some note) = tt

fault_of-of_text : (refusal : Refusal) → IsOfText (fault_of refusal)
fault_of-of_text TooLong = tt
fault_of-of_text (Synthesis fault) = noted-of_text (note_of fault)
fault_of-of_text (Text fault) = tt
fault_of-of_text (Rows fault) = tt
fault_of-of_text (Broken invalid) = tt
fault_of-of_text (Denied objection) = tt

of_text : (fault : Fault) (refusal : Refusal) → fault ≡ fault_of refusal → IsOfText fault
of_text fault refusal is = subst IsOfText (sym is) (fault_of-of_text refusal)

-- ---- The outcome

-- What holds of the text that was read holds over it.
over-text : (text_told : Option (List ℕ)) (text : List ℕ) (long : List ℕ → Bool) (holds : List ℕ → Type 0) → IfSome text_told (λ told. (text ≡ told) × (long told ≡ false)) → holds text → IfSome text_told holds
over-text None text long holds is h = tt
over-text (Some told) text long holds is h = subst holds is.0 h

module _ (command : Command) (left : Option (List ℕ)) (text : List ℕ) (input : IsInput (limit_of command) left (Ok text)) (within : is_too_long (limit_of command) text ≡ false) where
  output : output_of command text ≡ made_of command text
  output = ap (λ long. if long then Err TooLong else made_of command text) within

  over : (holds : Command → List ℕ → Type 0) → holds command text → OverText (Some command) left holds
  over holds = over-text (text_for (limit_of command) left) text (is_too_long (limit_of command)) (holds command) input

  -- What a command makes of the text that was read is the outcome.
  pub made-outcome : (result : Result (List ℕ) Fault) → IsMade command text result → IsOutcome (Some command) left result
  made-outcome (Ok bytes) is = over (λ command text. (output_of command text ≡ Ok bytes) × IsMeant command text bytes) (output ∙ is.0, is.1)
  made-outcome (Err faults.Usage) is = of_text faults.Usage is.0 is.1
  made-outcome (Err faults.Read) is = tt
  made-outcome (Err faults.TooLong) is = (is.0, is.1, over (λ command text. output_of command text ≡ Err is.0) (output ∙ is.2))
  made-outcome (Err (faults.Refused note)) is = (is.0, is.1, over (λ command text. output_of command text ≡ Err is.0) (output ∙ is.2))
  made-outcome (Err (faults.Denied note)) is = (is.0, is.1, over (λ command text. output_of command text ≡ Err is.0) (output ∙ is.2))
  made-outcome (Err faults.Write) is = of_text faults.Write is.0 is.1
  made-outcome (Err faults.NoMemory) is = tt

-- ---- The source

-- No command fails to read once its text is read.
made-read : (command : Command) (text : List ℕ) (result : Result (List ℕ) Fault) → IsMade command text result → outcome_status result ≡ statuses.ReadFault → ⊥
made-read command text (Ok bytes) is status = absurd (cc)
made-read command text (Err faults.Usage) is status = absurd (cc)
made-read command text (Err faults.Read) is status = of_text faults.Read is.0 is.1
made-read command text (Err faults.TooLong) is status = absurd (cc)
made-read command text (Err (faults.Refused note)) is status = absurd (cc)
made-read command text (Err (faults.Denied note)) is status = absurd (cc)
made-read command text (Err faults.Write) is status = absurd (cc)
made-read command text (Err faults.NoMemory) is status = absurd (cc)

-- Of a text within the limit that was read whole nothing is left, however the run ends.
whole-left : (limit : ℕ) (status : Status) (text : List ℕ) (left : Option (List ℕ)) → (status ≡ statuses.ReadFault → ⊥) → nat_lt limit (length text) ≡ false → left ≡ Some [] → LeavesAfter (Some limit) status text left
whole-left limit statuses.Done text left read within is = is
whole-left limit statuses.Refused text left read within is = rw within is
whole-left limit statuses.Usage text left read within is = is
whole-left limit statuses.ReadFault text left read within is = absurd (read refl)
whole-left limit statuses.WriteFault text left read within is = is
whole-left limit statuses.NoMemory text left read within is = (length text, few limit (length text) within, is ∙ ap Some (sym (drop_all (length text) text (omega arith))))
  where
    few : (limit k : ℕ) → nat_lt limit k ≡ false → k ≤ limit
    few limit k test = grind (arith, nat_tests)
whole-left limit statuses.No text left read within is = is

left-after : (limit : Option ℕ) (status : Status) (text : List ℕ) (before after : Option (List ℕ)) → (status ≡ statuses.ReadFault → ⊥) → IsInput limit before (Ok text) → IfSome before (λ told. LeavesAfter limit statuses.Done told after) → IfSome before (λ told. LeavesAfter limit status told after)
left-after limit status text None after read input is = tt
left-after None status text (Some told) after read input is = is
left-after (Some limit) status text (Some told) after read input is = whole-left limit status told after read input.1 is

pub made-source : (command : Command) (text : List ℕ) (result : Result (List ℕ) Fault) (before after : Option (List ℕ)) (faults_before faults_after : ℕ)
    → IsInput (limit_of command) before (Ok text) → IsMade command text result → LeavesSource (limit_of command) statuses.Done before after faults_before faults_after
    → LeavesSource (limit_of command) (outcome_status result) before after faults_before faults_after
made-source command text result before after faults_before faults_after input is leaves = record {
  faults = leaves.faults;
  failed = λ status. absurd (made-read command text result is status);
  left = left-after (limit_of command) (outcome_status result) text before after (made-read command text result is) input leaves.left;
}
