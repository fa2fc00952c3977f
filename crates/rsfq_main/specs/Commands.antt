-- What each command reads, writes and answers. A new command is a new case of each definition here; the clauses of `run` stay.
use Rattle.std.specs.Prelude.{ℕ, ◌≡◌, Bool, false, List, length, Option, Some, None, Result, Ok, Err, if◌then◌else◌, nat_lt}
use Rattle.net_base.specs.Answers.{◌>>=◌}
use Rattle.blif_lex.specs.declared.lines.TheConstants.{MAX_TEXT_BYTES}
use Rattle.flow_net.specs.declared.net.Flow.{Flow}
use Rattle.pulse_net.specs.declared.net.PulseNet.{PulseNet}
use Rattle.netlist_text.specs.declared.reading.TheConstants.{MAX_BYTES}
use Rattle.netlist_text.specs.Spelling.{spelling_of}
use Rattle.netlist_text.specs.Laws.{IsTyped}
use Rattle.synth.specs.declared.fault.SynthFault.{SynthFault}
use Rattle.synth.specs.declared.made.Made.{Made}
use Rattle.synth.specs.Meaning.{MeansText, NeedsFewest}
use Rattle.synth.specs.Synth.{synth_of}
use Rattle.gen_blif.specs.Random.{gen_text}
use Rattle.gen_blif.specs.RippleCarry.{adder_text}
use Rattle.rsfq_main.specs.declared.words.Command.{Command}
use Rattle.rsfq_main.specs.declared.words.Command.TheVariants.{Map, Check, Sim, Gen, GenAdder, Bench}
use Rattle.rsfq_main.specs.Faults.{Refusal, TooLong, Synthesis}
use Rattle.rsfq_main.specs.Summary.{summary_of}
use Rattle.rsfq_main.specs.Check.{check_of, IsCertified}
use Rattle.rsfq_main.specs.Sim.{sim_of, IsSimulated}

-- the bytes that a command's text has at most; None where it reads no text
abbrev pub limit_of : Command → Option ℕ
limit_of (Map n) = Some MAX_TEXT_BYTES
limit_of Check = Some MAX_BYTES
limit_of Sim = Some MAX_BYTES
limit_of (Gen seed tables) = None
limit_of (GenAdder bits) = None
limit_of (Bench seed tables n) = None

-- the text is longer than the limit
abbrev pub is_too_long : Option ℕ → List ℕ → Bool
is_too_long None text = false
is_too_long (Some limit) text = nat_lt limit (length text)

-- what synthesis says, with its refusals among those of a text
abbrev pub synthesised : Result Made SynthFault → Result Made Refusal
synthesised (Ok made) = Ok made
synthesised (Err fault) = Err (Synthesis fault)

-- what becomes of a text with n phases: one that is too long is refused, and else synthesis says
abbrev pub netlist_for : ℕ → List ℕ → Result Made Refusal
netlist_for n text = if is_too_long (Some MAX_TEXT_BYTES) text then Err TooLong else synthesised (synth_of n text)

-- the netlist text of a text, with n phases
abbrev pub netlist_text : ℕ → List ℕ → Result (List ℕ) Refusal
netlist_text n text = netlist_for n text >>= λ made. Ok (spelling_of made.net made.flow)

-- the summary of a text's netlist, with n phases
abbrev pub summary_text : ℕ → List ℕ → Result (List ℕ) Refusal
summary_text n text = netlist_for n text >>= λ made. Ok (summary_of made)

-- what a command makes of a text within its limit: the bytes of its output, or why there are none
abbrev pub made_of : Command → List ℕ → Result (List ℕ) Refusal
made_of (Map n) text = netlist_text n text
made_of Check text = check_of text
made_of Sim text = sim_of text
made_of (Gen seed tables) text = Ok (gen_text seed tables)
made_of (GenAdder bits) text = Ok (adder_text bits)
made_of (Bench seed tables n) text = summary_text n (gen_text seed tables)

-- a netlist and a flow are a text's, with n phases: the netlist means the text, and needs the fewest DROs, as the flow shows
pub record ServesText (n : ℕ) (text : List ℕ) (net : PulseNet) (flow : Flow) : Type 0 where
  pub means : MeansText n text net
  pub fewest : NeedsFewest net flow

-- bytes that mean a text, with n phases: they spell a netlist and a flow, as the types have them, that are the text's
pub record SpellsMeaning (n : ℕ) (text bytes : List ℕ) : Type 0 where
  pub net : PulseNet
  pub flow : Flow
  pub spelled : bytes ≡ spelling_of net flow
  pub typed : IsTyped net flow
  pub serves : ServesText n text net flow

-- bytes that sum up a text, with n phases: they are the summary of its netlist, which is the text's with its flow
pub record SumsUp (n : ℕ) (text bytes : List ℕ) : Type 0 where
  pub made : Made
  pub is_made : synth_of n text ≡ Ok made
  pub summed : bytes ≡ summary_of made
  pub serves : ServesText n text made.net made.flow

-- what the bytes of a command's output mean
abbrev pub IsMeant : Command → List ℕ → List ℕ → Type 0
IsMeant (Map n) text bytes = SpellsMeaning n text bytes
IsMeant Check text bytes = IsCertified text bytes
IsMeant Sim text bytes = IsSimulated text bytes
IsMeant (Gen seed tables) text bytes = bytes ≡ gen_text seed tables
IsMeant (GenAdder bits) text bytes = bytes ≡ adder_text bits
IsMeant (Bench seed tables n) text bytes = SumsUp n (gen_text seed tables) bytes

-- the command asks a question, so that its answer may be no
abbrev pub IsQuestion : Command → Type 0
IsQuestion (Map n) = ⊥
IsQuestion Check = Unit {0}
IsQuestion Sim = ⊥
IsQuestion (Gen seed tables) = ⊥
IsQuestion (GenAdder bits) = ⊥
IsQuestion (Bench seed tables n) = ⊥

-- the output of a command over a text: its bytes, or why there are none
abbrev pub output_of : Command → List ℕ → Result (List ℕ) Refusal
output_of command text = if is_too_long (limit_of command) text then Err TooLong else made_of command text
