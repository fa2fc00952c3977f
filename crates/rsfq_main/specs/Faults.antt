-- The status and the note of what ends a run.
use Rattle.std.specs.Prelude.{ℕ, List, Option, Some, None, Result, Ok, Err, codes}
use Rattle.synth.specs.declared.fault.SynthFault.{SynthFault}
use Rattle.rsfq_main.specs.declared.status.Status.{Status}
use Rattle.rsfq_main.specs.declared.status.Status.TheVariants as statuses
use Rattle.rsfq_main.specs.declared.fault.Fault.{Fault}
use Rattle.rsfq_main.specs.declared.fault.Fault.TheVariants as faults
use Rattle.netlist_text.specs.declared.fault.TextFault.{TextFault}
use Rattle.pulse_sim.specs.declared.fault.RowFault.{RowFault}
use Rattle.pulse_net.specs.declared.fault.Invalid.{Invalid}
use Rattle.rsfq_main.specs.declared.objection.Objection.{Objection}
use Rattle.rsfq_main.specs.Notes.{note_of}
use Rattle.rsfq_main.specs.NetlistNotes.{text_note, row_note, invalid_note, objection_note}

abbrev pub number_of : Status → ℕ
number_of statuses.Done = 0
number_of statuses.Refused = 1
number_of statuses.Usage = 2
number_of statuses.ReadFault = 3
number_of statuses.WriteFault = 4
number_of statuses.NoMemory = 5
number_of statuses.No = 6

-- Why there is no output for a text: it is too long; it has no netlist; it is no netlist text; behind one it has a line that is no row;
-- its netlist isn't valid; or the answer is no.
pub data Refusal : Type 0 where
  TooLong : Refusal
  Synthesis : SynthFault → Refusal
  Text : TextFault → Refusal
  Rows : RowFault → Refusal
  Broken : Invalid → Refusal
  Denied : Objection → Refusal

-- an answer, with what refuses it among other refusals
abbrev pub refused_as : {A E F : Type 0} → (E → F) → Result A E → Result A F
refused_as tell (Ok answer) = Ok answer
refused_as tell (Err refusal) = Err (tell refusal)

-- the fault of a note, and want of memory where there is none
abbrev pub noted : Option (List ℕ) → Fault
noted None = faults.NoMemory
noted (Some note) = faults.Refused note

-- the fault that a refusal ends a run with; but for a text that is too long it has brought its note
abbrev pub fault_of : Refusal → Fault
fault_of TooLong = faults.TooLong
fault_of (Synthesis fault) = noted (note_of fault)
fault_of (Text fault) = faults.Refused (text_note fault)
fault_of (Rows fault) = faults.Refused (row_note fault)
fault_of (Broken invalid) = faults.Refused (invalid_note invalid)
fault_of (Denied objection) = faults.Denied (objection_note objection)

abbrev pub fault_status : Fault → Status
fault_status faults.Usage = statuses.Usage
fault_status faults.Read = statuses.ReadFault
fault_status faults.TooLong = statuses.Refused
fault_status (faults.Refused note) = statuses.Refused
fault_status (faults.Denied note) = statuses.No
fault_status faults.Write = statuses.WriteFault
fault_status faults.NoMemory = statuses.NoMemory

abbrev pub fault_line : Fault → List ℕ
fault_line faults.Usage = codes "usage: COMMAND [KEY=VALUE ...]\n"
fault_line faults.Read = codes "read fault\n"
fault_line faults.TooLong = codes "text too long\n"
fault_line (faults.Refused note) = note
fault_line (faults.Denied note) = note
fault_line faults.Write = codes "write fault\n"
fault_line faults.NoMemory = codes "no memory\n"

abbrev pub outcome_status : {T : Type 0} → Result T Fault → Status
outcome_status (Ok done) = statuses.Done
outcome_status (Err fault) = fault_status fault
