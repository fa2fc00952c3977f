-- The note of what ended a run before anything was written.
use Rattle.std.proofs.Common.{◌≡◌, ℕ, List, Option, Err, Some, None, refl, sym, ap}
use Rattle.rsfq_main.specs.declared.fault.Fault.{Fault}
use Rattle.rsfq_main.specs.declared.fault.Fault.TheVariants as faults
use Rattle.rsfq_main.specs.declared.words.Command.{Command}
use Rattle.rsfq_main.specs.Faults.{fault_status, fault_line}
use Rattle.rsfq_main.specs.Outcomes.{IsOutcome}
use Rattle.rsfq_main.specs.Run.{IsNoteOf}

-- the line of a fault is the note of its status
pub outcome-noted : (command : Option Command) (left : Option (List ℕ)) (fault : Fault) → IsOutcome command left (Err fault) → IsNoteOf (fault_status fault) command left (fault_line fault)
outcome-noted None left fault is = let usage : fault ≡ faults.Usage = cc in rw usage refl
outcome-noted (Some command) left faults.Usage is = absurd is
outcome-noted (Some command) left faults.Read is = refl
outcome-noted (Some command) left faults.Write is = absurd is
outcome-noted (Some command) left faults.NoMemory is = refl
outcome-noted (Some command) left faults.TooLong is = (is.0, ap fault_line is.1, sym (ap fault_status is.1), is.2)
outcome-noted (Some command) left (faults.Refused note) is = (is.0, ap fault_line is.1, sym (ap fault_status is.1), is.2)
outcome-noted (Some command) left (faults.Denied note) is = (is.0, ap fault_line is.1, sym (ap fault_status is.1), is.2)
