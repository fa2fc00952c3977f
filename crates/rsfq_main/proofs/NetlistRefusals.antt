-- What refuses a netlist text, the rows behind it or its netlist ends a run with its fault, unless there was no memory for the note.
use Rattle.std.proofs.Common.{◌≡◌, ◌+◌, ◌⊎◌, inl, inr, ℕ, Bool, List, length, drop, Result, Ok, Err, sym, ap, subst}
use Rattle.net_base.specs.Answers.{◌>>=◌}
use Rattle.pulse_net.specs.declared.net.PulseNet.{PulseNet}
use Rattle.pulse_net.specs.declared.fault.Invalid.{Invalid}
use Rattle.pulse_net.specs.Validity.{wiring_of}
use Rattle.pulse_sim.specs.declared.fault.RowFault.{RowFault}
use Rattle.pulse_sim.specs.Rows.{rows_of}
use Rattle.pulse_sim.specs.Reading.{lines_read}
use Rattle.netlist_text.specs.declared.fault.TextFault.{TextFault}
use Rattle.netlist_text.specs.declared.reading.Prefix.{Prefix}
use Rattle.netlist_text.specs.Parsing.{parsed_prefix}
use Rattle.rsfq_main.specs.declared.fault.Fault.{Fault}
use Rattle.rsfq_main.specs.declared.fault.Fault.TheVariants as faults
use Rattle.rsfq_main.specs.Faults.{Refusal, Text, Rows, Broken, fault_of, refused_as}
use Rattle.rsfq_main.specs.Outcomes.{Answers}
use Rattle.rsfq_main.specs.Sim.{lines_of, lines_behind, sim_of}

-- the fault is that of a refusal, or want of memory for its note
abbrev Tells : Refusal → Fault → Type 0
Tells refusal fault = (fault ≡ fault_of refusal) ⊎ (fault ≡ faults.NoMemory)

-- Such a fault answers for what refuses so.
pub fault-answers : {A : Type 0} (defined : Result A Refusal) (means : A → Type 0) (refusal : Refusal) (fault : Fault) → defined ≡ Err refusal → Tells refusal fault → Answers defined means (Err fault)
fault-answers defined means refusal fault is (inl same) = by fault same
  where
    by : (fault : Fault) → fault ≡ fault_of refusal → Answers defined means (Err fault)
    by faults.Usage same = (refusal, same, is)
    by faults.Read same = (refusal, same, is)
    by faults.TooLong same = (refusal, same, is)
    by (faults.Refused note) same = (refusal, same, is)
    by (faults.Denied note) same = (refusal, same, is)
    by faults.Write same = (refusal, same, is)
    by faults.NoMemory same = tt
fault-answers defined means refusal fault is (inr none) = subst (λ (f : Fault). Answers defined means (Err f)) (sym none) tt

-- A text that is no netlist text has no lines.
pub text-answers : (text : List ℕ) (means : List ℕ → Type 0) (wrong : TextFault) (fault : Fault) → parsed_prefix text ≡ Err wrong → Tells (Text wrong) fault → Answers (sim_of text) means (Err fault)
text-answers text means wrong fault is = fault-answers (sim_of text) means (Text wrong) fault (ap (λ parsed. refused_as Text parsed >>= λ prefix. lines_behind prefix (drop prefix.bytes text)) is)

-- Nor have rows of which one is none.
pub rows-answer : (prefix : Prefix) (behind : List ℕ) (means : List ℕ → Type 0) (wrong : RowFault) (fault : Fault) → rows_of behind (length prefix.net.inputs) (prefix.lines + 1) ≡ Err wrong → Tells (Rows wrong) fault → Answers (lines_behind prefix behind) means (Err fault)
rows-answer prefix behind means wrong fault is =
    fault-answers (lines_behind prefix behind) means (Rows wrong) fault (ap (λ rows. refused_as Rows rows >>= lines_of prefix.net) is)

-- Nor has a netlist that isn't valid.
pub broken-answers : (net : PulseNet) (rows : List (List Bool)) (means : List ℕ → Type 0) (invalid : Invalid) (fault : Fault) → wiring_of net ≡ Err invalid → Tells (Broken invalid) fault → Answers (lines_of net rows) means (Err fault)
broken-answers net rows means invalid fault is =
    fault-answers (lines_of net rows) means (Broken invalid) fault (ap (λ wiring. refused_as Broken wiring >>= λ wiring. Ok (lines_read net rows)) is)
