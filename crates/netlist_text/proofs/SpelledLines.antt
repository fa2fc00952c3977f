-- Lines that fit in order up to the end are the spelling of the netlist and the flow that they say. While they are read, what
-- was read so far is spelled by the lines so far: an input adds its line behind those of the inputs, as there is no element, no
-- output and no flow line yet, and so on.
use Rattle.std.proofs.Common.{◌≡◌, ◌≤◌, ◌+◌, ℕ, List, [], ◌∷◌, ◌++◌, length, Option, codes, refl, sym, ap, subst, ◌∙◌, arith, append_assoc, append-nil}
use Rattle.std.specs.List.{flat_map}
use Rattle.std.proofs.lemmas.List.{length_push}
use Rattle.std.proofs.lemmas.List.Elements.{All-nil, All-cons, All-append}
use Rattle.flow_net.specs.TheConstants.{MAX_PHASES}
use Rattle.flow_net.specs.declared.net.Flow.{Flow}
use Rattle.pulse_net.specs.declared.net.Outlet.{Outlet}
use Rattle.pulse_net.specs.declared.net.PulseNet.{PulseNet}
use Rattle.pulse_net.specs.Formed.{HasItsPins, IsFormed}
use Rattle.netlist_text.specs.Spelling.{line, model_line, name_line, wire_word, outlet_word, element_line, flow_line, input_lines, output_lines, header_lines, format_of, spelling_of}
use Rattle.netlist_text.specs.Lines.{Line, FormatLine, ModelLine, PhasesLine, LatencyLine, InputLine, ElementLine, OutputLine, FlowLine, EndLine, SoFar, Nothing, Format, Model, Phases, Body, Ended, line_text, texts, with_line, after_lines, Fits, FitInOrder}
use Rattle.netlist_text.specs.Faults.{IsRead}
use Rattle.netlist_text.specs.Read.{line_count}

-- ---- lists of lines with one line more

flat_map-push : {A : Type 0} (f : A → List ℕ) (xs : List A) (x : A) → flat_map f (xs ++ x ∷ []) ≡ flat_map f xs ++ f x
flat_map-push f [] x = append-nil (f x)
flat_map-push f (y ∷ ys) x = ap (λ more. f y ++ more) (flat_map-push f ys x) ∙ sym (append_assoc (f y) (flat_map f ys) (f x))

input_lines-push : (names : List (List ℕ)) (wires : List (Option ℕ)) (name : List ℕ) (wire : Option ℕ) → length wires ≡ length names → input_lines (names ++ name ∷ []) (wires ++ wire ∷ []) ≡ input_lines names wires ++ name_line (codes "input") name (wire_word wire)
unfolding input_lines
input_lines-push [] [] name wire same = append-nil (name_line (codes "input") name (wire_word wire))
input_lines-push [] (w ∷ wires) name wire same = absurd (omega arith)
input_lines-push (n ∷ names) [] name wire same = absurd (omega arith)
input_lines-push (n ∷ names) (w ∷ wires) name wire same =
    let first = name_line (codes "input") n (wire_word w) in
    ap (λ more. first ++ more) (input_lines-push names wires name wire (omega arith)) ∙ sym (append_assoc first (input_lines names wires) (name_line (codes "input") name (wire_word wire)))

output_lines-push : (names : List (List ℕ)) (outlets : List Outlet) (name : List ℕ) (outlet : Outlet) → length outlets ≡ length names → output_lines (names ++ name ∷ []) (outlets ++ outlet ∷ []) ≡ output_lines names outlets ++ name_line (codes "output") name (outlet_word outlet)
unfolding output_lines
output_lines-push [] [] name outlet same = append-nil (name_line (codes "output") name (outlet_word outlet))
output_lines-push [] (o ∷ outlets) name outlet same = absurd (omega arith)
output_lines-push (n ∷ names) [] name outlet same = absurd (omega arith)
output_lines-push (n ∷ names) (o ∷ outlets) name outlet same =
    let first = name_line (codes "output") n (outlet_word o) in
    ap (λ more. first ++ more) (output_lines-push names outlets name outlet (omega arith)) ∙ sym (append_assoc first (output_lines names outlets) (name_line (codes "output") name (outlet_word outlet)))

output_lines-none : (names : List (List ℕ)) → output_lines names [] ≡ []
unfolding output_lines
output_lines-none [] = refl
output_lines-none (name ∷ names) = refl

-- ---- what is spelled so far

abbrev header_text : ℕ → PulseNet → List ℕ
header_text format net = line (codes "rsfq") (format ∷ []) ++ model_line net.names.model ++ line (codes "phases") (net.phases ∷ []) ++ line (codes "latency") (net.latency ∷ [])

abbrev body_text : ℕ → PulseNet → Flow → List ℕ
body_text format net flow =
    header_text format net ++ input_lines net.names.inputs net.inputs ++ flat_map element_line net.elements ++ output_lines net.names.outputs net.outputs ++ flat_map flow_line flow.pins

abbrev written : SoFar → List ℕ
written Nothing = []
written (Format format) = line (codes "rsfq") (format ∷ [])
written (Model format model) = line (codes "rsfq") (format ∷ []) ++ model_line model
written (Phases format model phases) = line (codes "rsfq") (format ∷ []) ++ model_line model ++ line (codes "phases") (phases ∷ [])
written (Body format net flow) = body_text format net flow
written (Ended format net flow) = body_text format net flow ++ codes "end\n"

abbrev IsWell : SoFar → Type 0
IsWell Nothing = Unit {0}
IsWell (Format format) = Unit {0}
IsWell (Model format model) = Unit {0}
IsWell (Phases format model phases) = (1 ≤ phases) × (phases ≤ MAX_PHASES)
IsWell (Body format net flow) = IsFormed net
IsWell (Ended format net flow) = IsFormed net

abbrev counted : SoFar → ℕ
counted Nothing = 0
counted (Format format) = 1
counted (Model format model) = 2
counted (Phases format model phases) = 3
counted (Body format net flow) = 4 + length net.inputs + length net.elements + length net.outputs + length flow.pins
counted (Ended format net flow) = 5 + length net.inputs + length net.elements + length net.outputs + length flow.pins

-- The three of them, with one line more.
record Grows (so : SoFar) (one : Line) : Type 0 where
  text : written (with_line so one) ≡ written so ++ line_text one
  well : IsWell (with_line so one)
  count : counted (with_line so one) ≡ counted so + 1

-- Behind nothing there is no more than what is added.
behind_nothing : (front more : List ℕ) (a b c : List ℕ) → a ≡ [] → b ≡ [] → c ≡ [] → (((front ++ more) ++ a) ++ b) ++ c ≡ (((front ++ a) ++ b) ++ c) ++ more
behind_nothing front more a b c first second third =
    rw (first, second, third, append-nil (front ++ more), append-nil (front ++ more), append-nil (front ++ more), append-nil front, append-nil front, append-nil front) refl

grows : (so : SoFar) (one : Line) → IsWell so → Fits so one → Grows so one
unfolding input_lines output_lines
grows Nothing (FormatLine format) well fits = record { text = refl; well = tt; count = refl }
grows (Format format) (ModelLine model) well fits = record { text = refl; well = tt; count = refl }
grows (Model format model) (PhasesLine phases) well fits = record { text = refl; well = fits; count = refl }
grows (Phases format model phases) (LatencyLine latency) well fits =
    let header : List ℕ = line (codes "rsfq") (format ∷ []) ++ model_line model ++ line (codes "phases") (phases ∷ []) ++ line (codes "latency") (latency ∷ []) in
    record {
      text = append-nil (((header ++ []) ++ []) ++ []) ∙ append-nil ((header ++ []) ++ []) ∙ append-nil (header ++ []) ∙ append-nil header;
      well = record { some_phases = well.0; few_phases = well.1; latency = fits.0; pins = All-nil HasItsPins; inputs = refl; outputs = refl };
      count = refl;
    }
grows (Body format net flow) (InputLine name wire) well fits =
    let front = header_text format net in
    let now = input_lines net.names.inputs net.inputs in
    let more = name_line (codes "input") name (wire_word wire) in
    let elements : flat_map element_line net.elements ≡ [] = ap (flat_map element_line) fits.no_element in
    let outputs : output_lines net.names.outputs net.outputs ≡ [] = ap (output_lines net.names.outputs) fits.no_output ∙ output_lines-none net.names.outputs in
    let pins : flat_map flow_line flow.pins ≡ [] = ap (flat_map flow_line) fits.no_flow in
    let same = well.inputs in
    record {
      text =
          ap (λ (lines : List ℕ). (((front ++ lines) ++ flat_map element_line net.elements) ++ output_lines net.names.outputs net.outputs) ++ flat_map flow_line flow.pins)
          (input_lines-push net.names.inputs net.inputs name wire well.inputs)
          ∙ ap (λ (lines : List ℕ). ((lines ++ flat_map element_line net.elements) ++ output_lines net.names.outputs net.outputs) ++ flat_map flow_line flow.pins) (sym (append_assoc front now more))
          ∙ behind_nothing (front ++ now) more (flat_map element_line net.elements) (output_lines net.names.outputs net.outputs) (flat_map flow_line flow.pins) elements outputs pins;
      well = record { some_phases = well.some_phases; few_phases = well.few_phases; latency = well.latency; pins = well.pins; inputs = omega (arith, length_push net.inputs wire, length_push net.names.inputs name, same); outputs = well.outputs };
      count = omega (arith, length_push net.inputs wire);
    }
grows (Body format net flow) (ElementLine element) well fits =
    let front = header_text format net ++ input_lines net.names.inputs net.inputs in
    let now = flat_map element_line net.elements in
    let more = element_line element in
    let outputs : output_lines net.names.outputs net.outputs ≡ [] = ap (output_lines net.names.outputs) fits.no_output ∙ output_lines-none net.names.outputs in
    let pins : flat_map flow_line flow.pins ≡ [] = ap (flat_map flow_line) fits.no_flow in
    record {
      text =
          ap (λ (lines : List ℕ). ((front ++ lines) ++ output_lines net.names.outputs net.outputs) ++ flat_map flow_line flow.pins) (flat_map-push element_line net.elements element)
          ∙ ap (λ (lines : List ℕ). (lines ++ output_lines net.names.outputs net.outputs) ++ flat_map flow_line flow.pins) (sym (append_assoc front now more))
          ∙ rw (outputs, pins, append-nil ((front ++ now) ++ more), append-nil ((front ++ now) ++ more), append-nil (front ++ now), append-nil (front ++ now)) refl;
      well =
          record {
            some_phases = well.some_phases;
            few_phases = well.few_phases;
            latency = well.latency;
            pins = All-append HasItsPins net.elements (element ∷ []) well.pins (All-cons HasItsPins element [] fits.pins (All-nil HasItsPins));
            inputs = well.inputs;
            outputs = well.outputs;
          };
      count = omega (arith, length_push net.elements element);
    }
grows (Body format net flow) (OutputLine name outlet) well fits =
    let front = header_text format net ++ input_lines net.names.inputs net.inputs ++ flat_map element_line net.elements in
    let now = output_lines net.names.outputs net.outputs in
    let more = name_line (codes "output") name (outlet_word outlet) in
    let pins : flat_map flow_line flow.pins ≡ [] = ap (flat_map flow_line) fits.no_flow in
    let same = well.outputs in
    record {
      text =
          ap (λ (lines : List ℕ). (front ++ lines) ++ flat_map flow_line flow.pins) (output_lines-push net.names.outputs net.outputs name outlet well.outputs)
          ∙ ap (λ (lines : List ℕ). lines ++ flat_map flow_line flow.pins) (sym (append_assoc front now more))
          ∙ rw (pins, append-nil ((front ++ now) ++ more), append-nil (front ++ now)) refl;
      well = record { some_phases = well.some_phases; few_phases = well.few_phases; latency = well.latency; pins = well.pins; inputs = well.inputs; outputs = omega (arith, length_push net.outputs outlet, length_push net.names.outputs name, same) };
      count = omega (arith, length_push net.outputs outlet);
    }
grows (Body format net flow) (FlowLine units) well fits =
    let front = header_text format net ++ input_lines net.names.inputs net.inputs ++ flat_map element_line net.elements ++ output_lines net.names.outputs net.outputs in
    record {
      text = ap (λ (lines : List ℕ). front ++ lines) (flat_map-push flow_line flow.pins units) ∙ sym (append_assoc front (flat_map flow_line flow.pins) (flow_line units));
      well = well;
      count = omega (arith, length_push flow.pins units);
    }
grows (Body format net flow) EndLine well fits = record { text = refl; well = well; count = omega arith }
grows so one well fits = absurd fits

-- ---- all lines

record AllGrow (so : SoFar) (lines : List Line) : Type 0 where
  text : written (after_lines so lines) ≡ written so ++ texts lines
  well : IsWell (after_lines so lines)
  count : counted (after_lines so lines) ≡ counted so + length lines

all_grow : (so : SoFar) (lines : List Line) → IsWell so → FitInOrder so lines → AllGrow so lines
all_grow so [] well fit = record { text = sym (append-nil (written so)); well = well; count = omega arith }
all_grow so (one ∷ lines) well fit =
    let step = grows so one well fit.0 in
    let rest = all_grow (with_line so one) lines step.well fit.1 in
    let first = step.count in
    let others = rest.count in
    record {
      text = rest.text ∙ ap (λ front. front ++ texts lines) step.text ∙ append_assoc (written so) (line_text one) (texts lines);
      well = rest.well;
      count = omega (arith, first, others);
    }

-- A text whose lines fit up to the end begins with a spelling.
pub record IsSpelled (bytes : List ℕ) (count : ℕ) (net : PulseNet) (flow : Flow) (rest : List ℕ) : Type 0 where
  pub whole : bytes ≡ spelling_of net flow ++ rest
  pub formed : IsFormed net
  pub lines : count ≡ line_count net flow

pub spelled : (bytes : List ℕ) (count format : ℕ) (net : PulseNet) (flow : Flow) (rest : List ℕ) → IsRead bytes count (Ended format net flow) rest → format ≡ format_of net.elements → IsSpelled bytes count net flow rest
unfolding header_lines
spelled bytes count format net flow rest read same =
    let all = all_grow Nothing read.lines tt read.fit in
    let text : body_text format net flow ++ codes "end\n" ≡ texts read.lines = ap written (sym read.said) ∙ all.text in
    let spelling : spelling_of net flow ≡ texts read.lines = ap (λ (f : ℕ). body_text f net flow ++ codes "end\n") (sym same) ∙ text in
    let many : counted (Ended format net flow) ≡ length read.lines = let grown = all.count in omega (arith, grown, ap counted read.said) in
    let number = read.counted in
    record {
      whole = read.whole ∙ ap (λ front. front ++ rest) (sym spelling);
      formed = subst IsWell read.said all.well;
      lines = omega (arith, many, number);
    }

-- Lines that fit up to the end, with the format that the elements need, are the spelling.
pub spelled_lines : (net : PulseNet) (flow : Flow) (lines : List Line) → FitInOrder Nothing lines → after_lines Nothing lines ≡ Ended (format_of net.elements) net flow → spelling_of net flow ≡ texts lines
unfolding header_lines
spelled_lines net flow lines fit said = ap written (sym said) ∙ (all_grow Nothing lines tt fit).text

-- They are as many as the netlist and the flow say.
pub counted_lines : (net : PulseNet) (flow : Flow) (lines : List Line) → FitInOrder Nothing lines → after_lines Nothing lines ≡ Ended (format_of net.elements) net flow → length lines ≡ line_count net flow
counted_lines net flow lines fit said =
    let grown = (all_grow Nothing lines tt fit).count in
    omega (arith, grown, ap counted said)
