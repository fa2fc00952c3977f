-- What `check` says of a netlist text: how many DROs the netlist has, where it is valid and no valid netlist of the same gates at the
-- same phases has fewer.
use Rattle.std.specs.Prelude.{◌≡◌, ◌≤◌, ◌==◌, ℕ, List, Result, Ok, Err, Option, Some, None, codes, if◌then◌else◌}
use Rattle.net_base.specs.Answers.{◌>>=◌}
use Rattle.flow_net.specs.declared.net.Flow.{Flow}
use Rattle.flow_net.specs.Epochs.{HasFewestDros, dro_count}
use Rattle.flow_cert.specs.declared.verdict.Verdict.{Verdict}
use Rattle.flow_cert.specs.declared.verdict.Verdict.TheVariants.{Fewest, Bad}
use Rattle.flow_cert.specs.Verdicts.{verdict_of}
use Rattle.pulse_net.specs.declared.net.PulseNet.{PulseNet}
use Rattle.pulse_net.specs.declared.unfolding.Unfolded.{Unfolded}
use Rattle.pulse_net.specs.Validity.{IsValid, wiring_of}
use Rattle.pulse_net.specs.Unfolding.{unfolded}
use Rattle.pulse_net.specs.Balance.{unfolded_network}
use Rattle.pulse_net.specs.Dros.{dros as dros_of}
use Rattle.netlist_text.specs.Spelling.{spelling_of}
use Rattle.netlist_text.specs.Parsing.{parsed}
use Rattle.rsfq_main.specs.declared.objection.Objection.{Objection}
use Rattle.rsfq_main.specs.declared.objection.Objection.TheVariants.{Breaks, Shows, Differs}
use Rattle.rsfq_main.specs.declared.objection.ExamineFault.{ExamineFault}
use Rattle.rsfq_main.specs.declared.objection.ExamineFault.TheVariants.{Objects, NoMemory}
use Rattle.rsfq_main.specs.Faults.{Refusal, Text, Denied, refused_as}
use Rattle.rsfq_main.specs.Summary.{count_line}

-- what a verdict says of so many DROs: none is too many where the epochs need the fewest, and as many as there are
abbrev pub by_verdict : ℕ → Verdict → Result ℕ Objection
by_verdict dros (Fewest count) = if dros == count then Ok dros else Err (Differs dros count)
by_verdict dros (Bad cause) = Err (Shows cause)

-- what a flow shows of the DROs of unfolded gates
abbrev pub judged : Unfolded → Flow → Result ℕ Objection
judged u flow = by_verdict u.dros (verdict_of (unfolded_network u) u.epochs flow)

-- the DROs of a netlist that is valid and of which a flow shows that they are the fewest, or the first objection
abbrev pub examined : PulseNet → Flow → Result ℕ Objection
examined net flow = refused_as Breaks (wiring_of net) >>= λ wiring. judged (unfolded net) flow

-- what is written of a netlist, or why not
abbrev pub examined_line : PulseNet → Flow → Result (List ℕ) Refusal
examined_line net flow = refused_as Denied (examined net flow) >>= λ dros. Ok (count_line (codes "fewest") dros)

-- what `check` makes of a text
abbrev pub check_of : List ℕ → Result (List ℕ) Refusal
check_of text = refused_as Text (parsed text) >>= λ pair. examined_line pair.0 pair.1

-- the answer that a fault tells; want of memory tells none
abbrev pub told : {A : Type 0} → ExamineFault → Option (Result A Objection)
told NoMemory = None
told (Objects objection) = Some (Err objection)

-- A netlist has the fewest DROs: it is valid, no balanced epochs of its gates at its phases need fewer than its own, it has just as many
-- as these need, and no valid netlist that unfolds to the same gates and phases has fewer.
pub record HasFewest (net : PulseNet) : Type 0 where
  pub valid : IsValid net
  pub fewest : HasFewestDros (unfolded_network (unfolded net)) (unfolded net).epochs
  pub count : dros_of net.elements ≡ dro_count (unfolded_network (unfolded net)) (unfolded net).epochs
  pub least : (other : PulseNet) → IsValid other → (unfolded other).gates ≡ (unfolded net).gates → (unfolded other).phases ≡ (unfolded net).phases → dros_of net.elements ≤ dros_of other.elements

-- Bytes certify a text: it spells a netlist, with a flow, that has the fewest DROs, and they say how many.
pub record IsCertified (text bytes : List ℕ) : Type 0 where
  pub net : PulseNet
  pub flow : Flow
  pub spelled : text ≡ spelling_of net flow
  pub fewest : HasFewest net
  pub answer : bytes ≡ count_line (codes "fewest") (dros_of net.elements)
