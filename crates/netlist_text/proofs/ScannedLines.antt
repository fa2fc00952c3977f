-- Scanning is right: a line that is scanned fits and stands at the front, and a line that fits and stands at the front is scanned.
use Rattle.std.proofs.Common.{◌≡◌, ◌≤◌, ◌&&◌, ℕ, Bool, true, false, nat_le, List, [], ◌∷◌, ◌++◌, Option, Some, None, if◌then◌else◌, codes, refl, sym, ap, subst, ◌∙◌, arith}
use Rattle.std.proofs.lemmas.Bool.{le-leb, leb-true, and_parts, and_from}
use Rattle.std.proofs.lemmas.List.Elements.{All-head, All-tail}
use Rattle.cell_lib.specs.declared.cell.Cell.{Cell}
use Rattle.cell_lib.specs.declared.cell.Cell.TheVariants.{Dro, Not, And, Or, Xor, Maj}
use Rattle.flow_net.specs.TheConstants.{MAX_PHASES}
use Rattle.flow_net.specs.declared.net.Flow.{Flow}
use Rattle.pulse_net.specs.declared.net.Element.{Element}
use Rattle.pulse_net.specs.declared.net.Element.TheVariants.{Clocked, Split}
use Rattle.pulse_net.specs.declared.net.PulseNet.{PulseNet}
use Rattle.netlist_text.specs.declared.word.Word.{Word}
use Rattle.netlist_text.specs.declared.word.Word.TheVariants as word
use Rattle.netlist_text.specs.Spelling.{cell_word, format_of, wire_word, outlet_word}
use Rattle.netlist_text.specs.Lines.{Line, FormatLine, ModelLine, PhasesLine, LatencyLine, InputLine, ElementLine, OutputLine, FlowLine, EndLine, SoFar, Nothing, Format, Model, Phases, Body, Ended, line_text, Fits, IsSmall, InputFits, ElementFits, OutputFits}
use Rattle.netlist_text.specs.Scanning.{◌>>◌, behind, end_at, number_line_at, model_at, input_at, output_at, units_at, split_at, clocked_at, word_text, words, word_by, word_from, is_none, takes_outputs, takes_elements, takes_inputs, format_for, body_line_at, line_at}
use Rattle.netlist_text.proofs.FrontOfBytes.{goes_on, same_some, behind-sound, behind-complete}
use Rattle.netlist_text.proofs.LineText.{spread, line-spread, name_line-spread}
use Rattle.netlist_text.proofs.FieldsRead.{number_line_at-complete, model_at-complete, input_at-complete, output_at-complete, units_at-complete, split_at-complete, clocked_at-complete}
use Rattle.netlist_text.proofs.FieldsWritten.{number_line_at-sound, model_at-sound, input_at-sound, output_at-sound, units_at-sound, split_at-sound, clocked_at-sound, ReadsSplit, ReadsClocked}

-- ---- the word of a line

pub word_from-sound : (among : List Word) (bytes : List ℕ) (read : Word × List ℕ) → word_from among bytes ≡ Some read → bytes ≡ word_text read.0 ++ read.1
unfolding word_from
word_from-sound [] bytes read is = absurd cc
word_from-sound (w ∷ among) bytes read is = by (behind (word_text w) bytes) refl (word_from-sound among bytes read) is
  where
    by : (front : Option (List ℕ)) → behind (word_text w) bytes ≡ front → (word_from among bytes ≡ Some read → bytes ≡ word_text read.0 ++ read.1) → word_by w front (word_from among bytes) ≡ Some read → bytes ≡ word_text read.0 ++ read.1
    by (Some rest) front more is =
        let P : Word × List ℕ → Type 0 = λ r. bytes ≡ word_text r.0 ++ r.1 in
        subst P (same_some is) (behind-sound (word_text w) bytes rest front)
    by None front more is = more is

pub word_from-complete : (w : Word) (rest : List ℕ) → word_from words (word_text w ++ rest) ≡ Some (w, rest)
unfolding word_from behind
word_from-complete (word.Clocked Dro) rest = refl
word_from-complete (word.Clocked Not) rest = refl
word_from-complete (word.Clocked And) rest = refl
word_from-complete (word.Clocked Or) rest = refl
word_from-complete (word.Clocked Xor) rest = refl
word_from-complete (word.Clocked Maj) rest = refl
word_from-complete word.Split rest = refl
word_from-complete word.Flow rest = refl
word_from-complete word.Input rest = refl
word_from-complete word.Output rest = refl
word_from-complete word.End rest = refl

-- ---- what may still come

is_none-true : {A : Type 0} (xs : List A) → is_none xs ≡ true → xs ≡ []
is_none-true [] is = refl
is_none-true (x ∷ xs) is = absurd cc

none-is_none : {A : Type 0} (xs : List A) → xs ≡ [] → is_none xs ≡ true
none-is_none xs is = rw is refl

-- A choice that gave something is of the first kind.
chosen : {A : Type 0} (test : Bool) (some : Option A) (a : A) → (if test then some else None) ≡ Some a → (test ≡ true) × (some ≡ Some a)
chosen true some a is = (refl, is)
chosen false some a is = absurd cc

-- ---- lines that are scanned

-- what is scanned fits, and stands at the front
pub record IsScanned (so : SoFar) (bytes : List ℕ) (one : Line) (rest : List ℕ) : Type 0 where
  pub whole : bytes ≡ line_text one ++ rest
  pub fits : Fits so one

element_format : (cell : Cell) (stage : ℕ) (pins : List ℕ) (out : ℕ) → format_of (Clocked cell stage pins out ∷ []) ≡ format_for cell
element_format Dro stage pins out = refl
element_format Not stage pins out = refl
element_format And stage pins out = refl
element_format Or stage pins out = refl
element_format Xor stage pins out = refl
element_format Maj stage pins out = refl

module _ (format : ℕ) (net : PulseNet) (flow : Flow) (bytes : List ℕ) where
  clocked-scanned : (cell : Cell) (rest : List ℕ) (element : Element) (next : List ℕ) → bytes ≡ cell_word cell ++ rest → takes_elements net flow ≡ true → nat_le (format_for cell) format ≡ true → ReadsClocked cell rest element next
      → IsScanned (Body format net flow) bytes (ElementLine element) next
  clocked-scanned cell rest element next front open_yet in_format reads =
      let both = and_parts (is_none net.outputs) (takes_outputs flow) open_yet in
      let few = leb-true (format_for cell) format in_format in
      let needs = element_format cell reads.stage reads.pins reads.out in
      let fits : ElementFits format net flow (Clocked cell reads.stage reads.pins reads.out) =
      record { pins = reads.many; small = reads.small; in_format = omega (arith, needs, few); no_output = is_none-true net.outputs both.0; no_flow = is_none-true flow.pins both.1 } in
      let P : Element → Type 0 = λ e. IsScanned (Body format net flow) bytes (ElementLine e) next in
      subst P (sym reads.is) (record { whole = front ∙ ap (λ more. cell_word cell ++ more) reads.whole ∙ sym (line-spread (cell_word cell) (reads.stage ∷ (reads.pins ++ reads.out ∷ [])) next); fits = fits })

  split-scanned : (rest : List ℕ) (element : Element) (next : List ℕ) → bytes ≡ codes "split" ++ rest → takes_elements net flow ≡ true → 1 ≤ format → ReadsSplit rest element next
      → IsScanned (Body format net flow) bytes (ElementLine element) next
  split-scanned rest element next front open_yet some reads =
      let both = and_parts (is_none net.outputs) (takes_outputs flow) open_yet in
      let fits : ElementFits format net flow (Split reads.from reads.left reads.right) =
      record { pins = tt; small = reads.small; in_format = some; no_output = is_none-true net.outputs both.0; no_flow = is_none-true flow.pins both.1 } in
      let P : Element → Type 0 = λ e. IsScanned (Body format net flow) bytes (ElementLine e) next in
      subst P (sym reads.is) (record { whole = front ∙ ap (λ more. codes "split" ++ more) reads.whole ∙ sym (line-spread (codes "split") (reads.from ∷ reads.left ∷ reads.right ∷ []) next); fits = fits })

  -- A line of the body is scanned behind its word.
  body_line_at-sound : (w : Word) (behind_word : List ℕ) → bytes ≡ word_text w ++ behind_word → (read : Line × List ℕ) → body_line_at w format net flow behind_word ≡ Some read → IsScanned (Body format net flow) bytes read.0 read.1
  unfolding body_line_at
  body_line_at-sound word.Input rest front read is =
      let choice = chosen (takes_inputs net flow) (input_at rest >> λ read. Some (InputLine read.0.0 read.0.1, read.1)) read is in
      let step = goes_on (input_at rest) _ read choice.1 in
      let input = input_at-sound rest step.0 step.1 in
      let open_elements = and_parts (is_none net.elements) (takes_elements net flow) choice.0 in
      let open_outputs = and_parts (is_none net.outputs) (takes_outputs flow) open_elements.1 in
      let P : Line × List ℕ → Type 0 = λ r. IsScanned (Body format net flow) bytes r.0 r.1 in
      let fits : InputFits net flow step.0.0.0 step.0.0.1 = record { named = input.1; small = input.2; no_element = is_none-true net.elements open_elements.0; no_output = is_none-true net.outputs open_outputs.0; no_flow = is_none-true flow.pins open_outputs.1 } in
      subst P (same_some step.2) (record { whole = front ∙ ap (λ more. codes "input" ++ more) input.0 ∙ sym (name_line-spread (codes "input") step.0.0.0 (wire_word step.0.0.1) step.0.1); fits = fits })
  body_line_at-sound (word.Clocked cell) rest front read is =
      let choice = chosen (takes_elements net flow && nat_le (format_for cell) format) (clocked_at cell rest >> λ read. Some (ElementLine read.0, read.1)) read is in
      let both = and_parts (takes_elements net flow) (nat_le (format_for cell) format) choice.0 in
      let step = goes_on (clocked_at cell rest) _ read choice.1 in
      let P : Line × List ℕ → Type 0 = λ r. IsScanned (Body format net flow) bytes r.0 r.1 in
      subst P (same_some step.2) (clocked-scanned cell rest step.0.0 step.0.1 front both.0 both.1 (clocked_at-sound cell rest step.0 step.1))
  body_line_at-sound word.Split rest front read is =
      let choice = chosen (takes_elements net flow && nat_le 1 format) (split_at rest >> λ read. Some (ElementLine read.0, read.1)) read is in
      let both = and_parts (takes_elements net flow) (nat_le 1 format) choice.0 in
      let step = goes_on (split_at rest) _ read choice.1 in
      let P : Line × List ℕ → Type 0 = λ r. IsScanned (Body format net flow) bytes r.0 r.1 in
      subst P (same_some step.2) (split-scanned rest step.0.0 step.0.1 front both.0 (leb-true 1 format both.1) (split_at-sound rest step.0 step.1))
  body_line_at-sound word.Output rest front read is =
      let choice = chosen (takes_outputs flow) (output_at rest >> λ read. Some (OutputLine read.0.0 read.0.1, read.1)) read is in
      let step = goes_on (output_at rest) _ read choice.1 in
      let output = output_at-sound rest step.0 step.1 in
      let P : Line × List ℕ → Type 0 = λ r. IsScanned (Body format net flow) bytes r.0 r.1 in
      let fits : OutputFits flow step.0.0.0 step.0.0.1 = record { named = output.1; small = output.2; no_flow = is_none-true flow.pins choice.0 } in
      subst P (same_some step.2) (record { whole = front ∙ ap (λ more. codes "output" ++ more) output.0 ∙ sym (name_line-spread (codes "output") step.0.0.0 (outlet_word step.0.0.1) step.0.1); fits = fits })
  body_line_at-sound word.Flow rest front read is =
      let step = goes_on (units_at rest) _ read is in
      let units = units_at-sound rest step.0 step.1 in
      let P : Line × List ℕ → Type 0 = λ r. IsScanned (Body format net flow) bytes r.0 r.1 in
      subst P (same_some step.2) (record { whole = front ∙ ap (λ more. codes "flow" ++ more) units.0 ∙ sym (line-spread (codes "flow") (step.0.0.forward ∷ step.0.0.back ∷ []) step.0.1); fits = (units.1, units.2) })
  body_line_at-sound word.End rest front read is =
      let step = goes_on (end_at rest) _ read is in
      let P : Line × List ℕ → Type 0 = λ r. IsScanned (Body format net flow) bytes r.0 r.1 in
      subst P (same_some step.2) (record { whole = front ∙ ap (λ more. codes "end" ++ more) (behind-sound (codes "\n") rest step.0 step.1); fits = tt })

pub line_at-sound : (so : SoFar) (bytes : List ℕ) (read : Line × List ℕ) → line_at so bytes ≡ Some read → IsScanned so bytes read.0 read.1
unfolding line_at
line_at-sound Nothing bytes read is =
    let step = goes_on (number_line_at (codes "rsfq") 1 2 bytes) _ read is in
    let number = number_line_at-sound (codes "rsfq") 1 2 bytes step.0 step.1 in
    let P : Line × List ℕ → Type 0 = λ r. IsScanned Nothing bytes r.0 r.1 in
    subst P (same_some step.2) (record { whole = number.0; fits = (number.2, number.3) })
line_at-sound (Format format) bytes read is =
    let step = goes_on (model_at bytes) _ read is in
    let model = model_at-sound bytes step.0 step.1 in
    let P : Line × List ℕ → Type 0 = λ r. IsScanned (Format format) bytes r.0 r.1 in
    subst P (same_some step.2) (record { whole = model.0; fits = model.1 })
line_at-sound (Model format model) bytes read is =
    let step = goes_on (number_line_at (codes "phases") 1 MAX_PHASES bytes) _ read is in
    let number = number_line_at-sound (codes "phases") 1 MAX_PHASES bytes step.0 step.1 in
    let P : Line × List ℕ → Type 0 = λ r. IsScanned (Model format model) bytes r.0 r.1 in
    subst P (same_some step.2) (record { whole = number.0; fits = (number.2, number.3) })
line_at-sound (Phases format model phases) bytes read is =
    let step = goes_on (number_line_at (codes "latency") 1 4294967295 bytes) _ read is in
    let number = number_line_at-sound (codes "latency") 1 4294967295 bytes step.0 step.1 in
    let P : Line × List ℕ → Type 0 = λ r. IsScanned (Phases format model phases) bytes r.0 r.1 in
    subst P (same_some step.2) (record { whole = number.0; fits = (number.2, number.1) })
line_at-sound (Body format net flow) bytes read is =
    let step = goes_on (word_from words bytes) _ read is in
    body_line_at-sound format net flow bytes step.0.0 step.0.1 (word_from-sound words bytes step.0 step.1) read step.2
line_at-sound (Ended format net flow) bytes read is = absurd cc

-- ---- lines that fit

pub line_at-complete : (so : SoFar) (one : Line) (rest : List ℕ) → Fits so one → line_at so (line_text one ++ rest) ≡ Some (one, rest)
unfolding line_at body_line_at
line_at-complete Nothing (FormatLine format) rest fits =
    let few = fits.1 in
    rw (number_line_at-complete (codes "rsfq") 1 2 format rest (omega arith) fits.0 fits.1) refl
line_at-complete (Format format) (ModelLine model) rest fits = rw (model_at-complete model rest fits) refl
line_at-complete (Model format model) (PhasesLine phases) rest fits =
    let few = fits.1 in
    rw (number_line_at-complete (codes "phases") 1 MAX_PHASES phases rest (omega arith) fits.0 fits.1) refl
line_at-complete (Phases format model phases) (LatencyLine latency) rest fits =
    let small = fits.1 in
    rw (number_line_at-complete (codes "latency") 1 4294967295 latency rest fits.1 fits.0 (omega arith)) refl
line_at-complete (Body format net flow) (InputLine name wire) rest fits =
    let open_outputs = and_from (is_none net.outputs) (takes_outputs flow) (none-is_none net.outputs fits.no_output) (none-is_none flow.pins fits.no_flow) in
    let open_inputs = and_from (is_none net.elements) (takes_elements net flow) (none-is_none net.elements fits.no_element) open_outputs in
    rw (name_line-spread (codes "input") name (wire_word wire) rest, word_from-complete word.Input (32 ∷ (name ++ (wire_word wire ++ (10 ∷ rest)))), open_inputs, input_at-complete name wire rest fits.named fits.small) refl
line_at-complete (Body format net flow) (ElementLine (Clocked cell stage pins out)) rest fits =
    let open_yet = and_from (is_none net.outputs) (takes_outputs flow) (none-is_none net.outputs fits.no_output) (none-is_none flow.pins fits.no_flow) in
    let needs = element_format cell stage pins out in
    let few = fits.in_format in
    let in_format = le-leb (format_for cell) format (omega (arith, needs, few)) in
    rw (line-spread (cell_word cell) (stage ∷ (pins ++ out ∷ [])) rest, word_from-complete (word.Clocked cell) (spread (stage ∷ (pins ++ out ∷ [])) (10 ∷ rest)), open_yet, in_format, clocked_at-complete cell stage pins out rest fits.pins fits.small) refl
line_at-complete (Body format net flow) (ElementLine (Split from left right)) rest fits =
    let open_yet = and_from (is_none net.outputs) (takes_outputs flow) (none-is_none net.outputs fits.no_output) (none-is_none flow.pins fits.no_flow) in
    let others = All-tail IsSmall from (left ∷ right ∷ []) fits.small in
    let last = All-tail IsSmall left (right ∷ []) others in
    rw (
      line-spread (codes "split") (from ∷ left ∷ right ∷ []) rest,
      word_from-complete word.Split (spread (from ∷ left ∷ right ∷ []) (10 ∷ rest)),
      open_yet,
      le-leb 1 format fits.in_format,
      split_at-complete from left right rest (All-head IsSmall from (left ∷ right ∷ []) fits.small) (All-head IsSmall left (right ∷ []) others) (All-head IsSmall right [] last),
    ) refl
line_at-complete (Body format net flow) (OutputLine name outlet) rest fits =
    rw (name_line-spread (codes "output") name (outlet_word outlet) rest, word_from-complete word.Output (32 ∷ (name ++ (outlet_word outlet ++ (10 ∷ rest)))), none-is_none flow.pins fits.no_flow, output_at-complete name outlet rest fits.named fits.small) refl
line_at-complete (Body format net flow) (FlowLine units) rest fits =
    rw (line-spread (codes "flow") (units.forward ∷ units.back ∷ []) rest, word_from-complete word.Flow (spread (units.forward ∷ units.back ∷ []) (10 ∷ rest)), units_at-complete units rest fits.0 fits.1) refl
line_at-complete (Body format net flow) EndLine rest fits = rw (word_from-complete word.End (10 ∷ rest), behind-complete (codes "\n") rest) refl
line_at-complete so one rest fits = absurd fits
