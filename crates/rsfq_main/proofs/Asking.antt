-- A fault whose status is No comes of a command that asks: what the others refuse has another status.
use Rattle.std.proofs.Common.{◌≡◌, ◌+◌, ℕ, Bool, true, false, List, length, drop, Option, Some, None, Result, Ok, Err, if◌then◌else◌, IfErr, sym, ap, subst}
use Rattle.net_base.specs.Answers.{◌>>=◌}
use Rattle.blif_lex.specs.declared.lines.TheConstants.{MAX_TEXT_BYTES}
use Rattle.pulse_net.specs.declared.fault.Invalid.{Invalid}
use Rattle.pulse_net.specs.Validity.{wiring_of}
use Rattle.pulse_sim.specs.declared.fault.RowFault.{RowFault}
use Rattle.pulse_sim.specs.Rows.{rows_of}
use Rattle.pulse_sim.specs.Reading.{lines_read}
use Rattle.netlist_text.specs.declared.fault.TextFault.{TextFault}
use Rattle.netlist_text.specs.declared.reading.Prefix.{Prefix}
use Rattle.netlist_text.specs.Spelling.{spelling_of}
use Rattle.netlist_text.specs.Parsing.{parsed_prefix}
use Rattle.synth.specs.declared.fault.SynthFault.{SynthFault}
use Rattle.synth.specs.declared.made.Made.{Made}
use Rattle.synth.specs.Synth.{synth_of}
use Rattle.gen_blif.specs.Random.{gen_text}
use Rattle.rsfq_main.specs.declared.words.Command.{Command}
use Rattle.rsfq_main.specs.declared.words.Command.TheVariants.{Map, Check, Sim, Gen, GenAdder, Bench}
use Rattle.rsfq_main.specs.declared.status.Status.TheVariants.{No}
use Rattle.rsfq_main.specs.declared.fault.Fault.{Fault}
use Rattle.rsfq_main.specs.declared.fault.Fault.TheVariants as faults
use Rattle.rsfq_main.specs.Notes.{note_of}
use Rattle.rsfq_main.specs.Summary.{summary_of}
use Rattle.rsfq_main.specs.Faults.{Refusal, TooLong, Synthesis, Text, Rows, Broken, Denied, noted, fault_of, fault_status, refused_as}
use Rattle.rsfq_main.specs.Sim.{lines_behind, lines_of}
use Rattle.rsfq_main.specs.Commands.{is_too_long, synthesised, netlist_for, made_of, IsMeant, IsQuestion}
use Rattle.rsfq_main.specs.Outcomes.{Answers, IsMade}

-- any refusal but that the answer is no
abbrev IsPlain : Refusal → Type 0
IsPlain (Denied objection) = ⊥
IsPlain refusal = Unit {0}

-- Its status isn't No.
noted-status : (note : Option (List ℕ)) → fault_status (noted note) ≡ No → ⊥
noted-status None is = absurd (cc)
noted-status (Some note) is = absurd (cc)

plain-status : (refusal : Refusal) → IsPlain refusal → fault_status (fault_of refusal) ≡ No → ⊥
plain-status TooLong plain is = absurd (cc)
plain-status (Synthesis fault) plain is = noted-status (note_of fault) is
plain-status (Text fault) plain is = absurd (cc)
plain-status (Rows fault) plain is = absurd (cc)
plain-status (Broken invalid) plain is = absurd (cc)
plain-status (Denied objection) plain is = plain

-- an answer that is refused by no other
abbrev IsPlainly : {A : Type 0} → Result A Refusal → Type 0
IsPlainly (Ok answer) = Unit {0}
IsPlainly (Err refusal) = IsPlain refusal

-- A fault that answers for such a definition has another status.
plain-fault : {A : Type 0} (defined : Result A Refusal) (means : A → Type 0) (fault : Fault) → IsPlainly defined → Answers defined means (Err fault) → fault_status fault ≡ No → ⊥
plain-fault defined means faults.Usage plain is status = absurd (cc)
plain-fault defined means faults.Read plain is status = absurd (cc)
plain-fault defined means faults.TooLong plain is status = absurd (cc)
plain-fault defined means (faults.Refused note) plain is status = absurd (cc)
plain-fault {A} defined means (faults.Denied note) plain is status = plain-status is.0 (subst (λ (answer : Result A Refusal). IsPlainly answer) is.2 plain) (sym (ap fault_status is.1))
plain-fault defined means faults.Write plain is status = absurd (cc)
plain-fault defined means faults.NoMemory plain is status = absurd (cc)

-- What goes on so from such an answer is one.
plainly-on : {A B : Type 0} (answer : Result A Refusal) (go : A → Result B Refusal) → IsPlainly answer → ((a : A) → IsPlainly (go a)) → IsPlainly (answer >>= go)
plainly-on (Ok answer) go plain more = more answer
plainly-on (Err refusal) go plain more = plain

-- Such are the answers of synthesis,
netlist-plain : (n : ℕ) (text : List ℕ) → IsPlainly (netlist_for n text)
netlist-plain n text = by (is_too_long (Some MAX_TEXT_BYTES) text) (synth_of n text)
  where
    by : (long : Bool) (made : Result Made SynthFault) → IsPlainly (if long then Err TooLong else synthesised made)
    by true made = tt
    by false (Ok made) = tt
    by false (Err fault) = tt

-- and those of reading and simulating.
text-plain : {A : Type 0} (read : Result A TextFault) → IsPlainly (refused_as Text read)
text-plain (Ok answer) = tt
text-plain (Err fault) = tt

rows-plain : {A : Type 0} (read : Result A RowFault) → IsPlainly (refused_as Rows read)
rows-plain (Ok answer) = tt
rows-plain (Err fault) = tt

broken-plain : {A : Type 0} (wiring : Result A Invalid) → IsPlainly (refused_as Broken wiring)
broken-plain (Ok answer) = tt
broken-plain (Err invalid) = tt

behind-plain : (text : List ℕ) (prefix : Prefix) → IsPlainly (lines_behind prefix (drop prefix.bytes text))
behind-plain text prefix =
    let rows = rows_of (drop prefix.bytes text) (length prefix.net.inputs) (prefix.lines + 1) in
    plainly-on (refused_as Rows rows) (lines_of prefix.net) (rows-plain rows)
    (λ rows. plainly-on (refused_as Broken (wiring_of prefix.net)) (λ wiring. Ok (lines_read prefix.net rows)) (broken-plain (wiring_of prefix.net)) (λ wiring. tt))

-- So only a command that asks has an answer that is no.
pub no-asks : (command : Command) (text : List ℕ) (result : Result (List ℕ) Fault) → IsMade command text result → IfErr result (λ fault. fault_status fault ≡ No → IsQuestion command)
no-asks command text (Ok bytes) is = tt
no-asks Check text (Err fault) is = λ status. tt
no-asks (Map n) text (Err fault) is = λ status.
    plain-fault (made_of (Map n) text) (IsMeant (Map n) text) fault
    (plainly-on (netlist_for n text) (λ made. Ok (spelling_of made.net made.flow)) (netlist-plain n text) (λ made. tt)) is status
no-asks Sim text (Err fault) is = λ status.
    plain-fault (made_of Sim text) (IsMeant Sim text) fault
    (plainly-on (refused_as Text (parsed_prefix text)) (λ prefix. lines_behind prefix (drop prefix.bytes text)) (text-plain (parsed_prefix text)) (behind-plain text)) is status
no-asks (Gen seed tables) text (Err fault) is = λ status. plain-fault (made_of (Gen seed tables) text) (IsMeant (Gen seed tables) text) fault tt is status
no-asks (GenAdder bits) text (Err fault) is = λ status. plain-fault (made_of (GenAdder bits) text) (IsMeant (GenAdder bits) text) fault tt is status
no-asks (Bench seed tables n) text (Err fault) is = λ status.
    plain-fault (made_of (Bench seed tables n) text) (IsMeant (Bench seed tables n) text) fault
    (plainly-on (netlist_for n (gen_text seed tables)) (λ made. Ok (summary_of made)) (netlist-plain n (gen_text seed tables)) (λ made. tt)) is status
