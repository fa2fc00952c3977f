-- Lines in order: one that is read leaves the others, and one with a fault is the end. So while the lines come one at a time,
-- what the definition reads of those that are left, in the state so far, is what it reads of all; and the fault of the line
-- at hand is that of the text.
use Rattle.std.proofs.Common.{◌≡◌, ℕ, true, List, [], ◌∷◌, Result, Ok, Err, refl, sym, subst}
use Rattle.net_base.specs.Answers.{Gives, Tells}
use Rattle.blif_read.specs.declared.fault.BlifFault.{BlifFault}
use Rattle.blif_read.specs.declared.fault.BlifKind.TheVariants as kind
use Rattle.blif_read.specs.declared.fault.ReadFault.{ReadFault}
use Rattle.blif_read.specs.declared.fault.ReadFault.TheVariants as whole
use Rattle.blif_read.specs.Answers.{read_told}
use Rattle.blif_read.specs.Words.{Line, lines_in}
use Rattle.blif_read.specs.State.{State, start}
use Rattle.blif_read.specs.Faults.{fault_of}
use Rattle.blif_read.specs.Reading.{reads, reads_lines, design_of}

-- a line that is bad
pub reads-bad : (line : Line) (state : State) → line.bad ≡ true → reads line state ≡ Err (record { line = line.number; kind = kind.BadByte })
unfolding reads fault_of
reads-bad line state bad = rw bad refl

pub reads_lines-end : (state : State) → reads_lines [] state ≡ Ok state
unfolding reads_lines
reads_lines-end state = refl

pub reads_lines-step : (line : Line) (lines : List Line) (state next : State) → reads line state ≡ Ok next → reads_lines (line ∷ lines) state ≡ reads_lines lines next
unfolding reads_lines
reads_lines-step line lines state next is = rw is refl

pub reads_lines-stop : (line : Line) (lines : List Line) (state : State) (fault : BlifFault) → reads line state ≡ Err fault → reads_lines (line ∷ lines) state ≡ Err fault
unfolding reads_lines
reads_lines-stop line lines state fault is = rw is refl

pub design_of-stop : (text : List ℕ) (fault : BlifFault) → reads_lines (lines_in text) start ≡ Err fault → design_of text ≡ Err fault
unfolding design_of
design_of-stop text fault is = rw is refl

-- The exit where a part has a fault: then the whole has it.
told_too : {A B : Type 0} (fault : ReadFault) (part : Result A BlifFault) (all : Result B BlifFault) → Tells (read_told fault) part → ((f : BlifFault) → part ≡ Err f → all ≡ Err f) → Tells (read_told fault) all
told_too (whole.Blif fault) part all tells so = so fault tells
told_too whole.NoMemory part all tells so = tt

pub Gives-fault : {A B X : Type 0} (seen : X → Result B BlifFault) (r : Result X ReadFault) (fault : ReadFault) (part : Result A BlifFault) (all : Result B BlifFault) → r ≡ Err fault
    → Tells (read_told fault) part → ((f : BlifFault) → part ≡ Err f → all ≡ Err f) → Gives seen read_told r all
Gives-fault {A} {B} {X} seen r fault part all is tells so =
    let P : Result X ReadFault → Type 0 = λ r. Gives seen read_told r all in subst P (sym is) (told_too fault part all tells so)
