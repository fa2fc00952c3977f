-- What refuses a text ends a run with its fault.
use Rattle.std.proofs.Common.{◌≡◌, ℕ, false, List, length, nat_lt, Err, refl}
use Rattle.net_base.specs.Answers.{Tells}
use Rattle.blif_lex.specs.declared.lines.TheConstants.{MAX_TEXT_BYTES}
use Rattle.synth.specs.declared.fault.SynthFault.{SynthFault}
use Rattle.synth.specs.declared.fault.SynthFault.TheVariants.{Blif, DuplicateDriver, Undriven, Cycle, TooManyNodes, TooManyGates, TooManyDros, NoMemory}
use Rattle.synth.specs.declared.made.Made.{Made}
use Rattle.synth.specs.Synth.{synth_of, told}
use Rattle.rsfq_main.specs.Commands.{netlist_for}
use Rattle.rsfq_main.specs.Faults.{Synthesis, fault_of}
use Rattle.rsfq_main.specs.Outcomes.{Answers}

-- Where synthesis refuses a text that isn't too long, the fault of this refusal answers for the text.
pub refusal-answers : (n : ℕ) (text : List ℕ) (means : Made → Type 0) (fault : SynthFault) → nat_lt MAX_TEXT_BYTES (length text) ≡ false → Tells (told fault) (synth_of n text) → Answers (netlist_for n text) means (Err (fault_of (Synthesis fault)))
refusal-answers n text means (Blif line) short is = (Synthesis (Blif line), refl, rw (short, is) refl)
refusal-answers n text means (DuplicateDriver name) short is = (Synthesis (DuplicateDriver name), refl, rw (short, is) refl)
refusal-answers n text means (Undriven name) short is = (Synthesis (Undriven name), refl, rw (short, is) refl)
refusal-answers n text means (Cycle line) short is = (Synthesis (Cycle line), refl, rw (short, is) refl)
refusal-answers n text means TooManyNodes short is = (Synthesis TooManyNodes, refl, rw (short, is) refl)
refusal-answers n text means TooManyGates short is = (Synthesis TooManyGates, refl, rw (short, is) refl)
refusal-answers n text means (TooManyDros count) short is = (Synthesis (TooManyDros count), refl, rw (short, is) refl)
refusal-answers n text means NoMemory short is = tt
