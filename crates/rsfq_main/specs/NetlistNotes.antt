-- The notes of netlist texts and their rows, of netlists that aren't valid, and of an answer that is no: a line each.
use Rattle.std.specs.Prelude.{ℕ, ℤ, List, [], ◌++◌, codes, decimal}
use Rattle.std.specs.Fmt.{signed_decimal}
use Rattle.netlist_text.specs.declared.fault.TextFault.{TextFault}
use Rattle.netlist_text.specs.declared.fault.TextKind.{TextKind}
use Rattle.netlist_text.specs.declared.fault.TextKind.TheVariants.{BadLine, NoEnd, AfterEnd}
use Rattle.pulse_sim.specs.declared.fault.RowFault.{RowFault}
use Rattle.pulse_sim.specs.declared.fault.RowKind.{RowKind}
use Rattle.pulse_sim.specs.declared.fault.RowKind.TheVariants.{RowShape, RowChar, TooManyRows}
use Rattle.pulse_net.specs.declared.fault.Place.{Place}
use Rattle.pulse_net.specs.declared.fault.Place.TheVariants as places
use Rattle.pulse_net.specs.declared.fault.Wrong.{Wrong}
use Rattle.pulse_net.specs.declared.fault.Wrong.TheVariants as wrongs
use Rattle.pulse_net.specs.declared.fault.Invalid.{Invalid}
use Rattle.flow_cert.specs.declared.verdict.Cause.{Cause}
use Rattle.flow_cert.specs.declared.verdict.Cause.TheVariants as causes
use Rattle.rsfq_main.specs.declared.objection.Objection.{Objection}
use Rattle.rsfq_main.specs.declared.objection.Objection.TheVariants as objections

-- the number of a line, and what is wrong with it
abbrev pub numbered : ℕ → List ℕ → List ℕ
numbered line words = codes "line " ++ decimal line ++ codes ": " ++ words ++ codes "\n"

-- what is wrong with a line of a netlist text
abbrev pub text_words : TextKind → List ℕ
text_words BadLine = codes "bad line"
text_words NoEnd = codes "no end"
text_words AfterEnd = codes "text after end"

-- the note of a text that is no netlist text
abbrev pub text_note : TextFault → List ℕ
text_note fault = numbered fault.line (text_words fault.kind)

-- what is wrong with a row
abbrev pub row_words : RowKind → List ℕ
row_words RowShape = codes "row shape"
row_words RowChar = codes "row character"
row_words TooManyRows = codes "too many rows"

-- the note of rows of which one is none
abbrev pub row_note : RowFault → List ℕ
row_note fault = numbered fault.line (row_words fault.kind)

-- a word and a number, whole or signed
abbrev pub counted : List ℕ → ℕ → List ℕ
counted word number = word ++ decimal number

abbrev pub measured : List ℕ → ℤ → List ℕ
measured word number = word ++ signed_decimal number

-- where a netlist breaks a rule; of the latency and of the whole the cause says enough
abbrev pub place_words : Place → List ℕ
place_words (places.Input place) = counted (codes "input ") place ++ codes " "
place_words (places.Element place) = counted (codes "element ") place ++ codes " "
place_words (places.Output place) = counted (codes "output ") place ++ codes " "
place_words places.Latency = []
place_words places.Close = []

-- which rule it breaks there
abbrev pub wrong_words : Wrong → List ℕ
wrong_words (wrongs.Unmade wire) = counted (codes "wire ") wire ++ codes " unmade"
wrong_words (wrongs.MadeTwice wire) = counted (codes "wire ") wire ++ codes " made twice"
wrong_words (wrongs.UsedTwice wire) = counted (codes "wire ") wire ++ codes " used twice"
wrong_words (wrongs.Gap wire gap) = counted (codes "wire ") wire ++ measured (codes " gap ") gap
wrong_words (wrongs.Unused wire) = counted (codes "wire ") wire ++ codes " unused"
wrong_words (wrongs.NoWires latency) = counted (codes "latency ") latency ++ codes " without wires"

abbrev pub invalid_words : Invalid → List ℕ
invalid_words invalid = place_words invalid.place ++ wrong_words invalid.cause

-- the note of a netlist that isn't valid
abbrev pub invalid_note : Invalid → List ℕ
invalid_note invalid = codes "invalid: " ++ invalid_words invalid ++ codes "\n"

-- why a flow shows nothing of epochs
abbrev pub cause_words : Cause → List ℕ
cause_words (causes.Length lines pins) = counted (codes "flow lines ") lines ++ counted (codes " pins ") pins
cause_words (causes.Unbalanced pin gap weight) = counted (codes "pin ") pin ++ measured (codes " gap ") gap ++ counted (codes " weight ") weight
cause_words (causes.Balance vertex has wants) = counted (codes "vertex ") vertex ++ measured (codes " has ") has ++ measured (codes " wants ") wants
cause_words (causes.Value value count) = measured (codes "value ") value ++ measured (codes " count ") count

-- why the answer is no
abbrev pub objection_words : Objection → List ℕ
objection_words (objections.Breaks invalid) = invalid_words invalid
objection_words (objections.Shows cause) = cause_words cause
objection_words (objections.Differs dros count) = counted (codes "dros ") dros ++ counted (codes " count ") count

-- the note of an answer that is no
abbrev pub objection_note : Objection → List ℕ
objection_note objection = codes "no: " ++ objection_words objection ++ codes "\n"
