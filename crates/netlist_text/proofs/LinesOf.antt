-- The lines of a netlist and a flow: they fit in order, say the netlist and the flow, and are their spelling.
use Rattle.std.proofs.Common.{◌≡◌, ◌≤◌, ◌||◌, ℕ, Bool, true, false, cond, List, [], ◌∷◌, ◌++◌, length, map, All, Option, refl, ◌∙◌, arith, append_assoc, append-nil}
use Rattle.std.specs.List.{list_any}
use Rattle.std.proofs.lemmas.List.Elements.{All-head, All-tail}
use Rattle.net_base.specs.Name.{IsName}
use Rattle.flow_net.specs.declared.net.Flow.{Flow}
use Rattle.flow_net.specs.declared.net.Units.{Units}
use Rattle.pulse_net.specs.declared.net.Element.{Element}
use Rattle.pulse_net.specs.declared.net.Outlet.{Outlet}
use Rattle.pulse_net.specs.declared.net.PulseNet.{PulseNet}
use Rattle.pulse_net.specs.Formed.{HasItsPins, IsFormed}
use Rattle.netlist_text.specs.Spelling.{is_majority, format_of, spelling_of}
use Rattle.netlist_text.specs.Lines.{Line, FormatLine, ModelLine, PhasesLine, LatencyLine, InputLine, ElementLine, OutputLine, FlowLine, EndLine, SoFar, Nothing, Body, Ended, texts, with_line, after_lines, FitInOrder, IsSmall, IsSmallWire, IsSmallOutlet, numbers_of, no_flow}
use Rattle.netlist_text.specs.Laws.{AreSmallUnits, IsTyped}
use Rattle.netlist_text.proofs.SpelledLines.{spelled_lines}

-- Lines lead from what was read before them to what was read with them.
pub record Goes (so : SoFar) (lines : List Line) (to : SoFar) : Type 0 where
  pub fit : FitInOrder so lines
  pub said : after_lines so lines ≡ to

Goes-append : (so mid to : SoFar) (xs ys : List Line) → Goes so xs mid → Goes mid ys to → Goes so (xs ++ ys) to
Goes-append so mid to [] ys first second = rw first.said second
Goes-append so mid to (x ∷ xs) ys first second =
    let rest = Goes-append (with_line so x) mid to xs ys (record { fit = first.fit.1; said = first.said }) second in
    record { fit = (first.fit.0, rest.fit); said = rest.said }

-- ---- the lines of each part

abbrev inputs_of : List (List ℕ) → List (Option ℕ) → List Line
inputs_of (name ∷ names) (wire ∷ wires) = InputLine name wire ∷ inputs_of names wires
inputs_of names wires = []

abbrev outputs_of : List (List ℕ) → List Outlet → List Line
outputs_of (name ∷ names) (outlet ∷ outlets) = OutputLine name outlet ∷ outputs_of names outlets
outputs_of names outlets = []

-- The format that elements need is the greatest that one of them needs.
format-head : (element : Element) (elements : List Element) → format_of (element ∷ []) ≤ format_of (element ∷ elements)
format-head element elements = by (is_majority element) (list_any is_majority elements)
  where
    by : (first others : Bool) → cond (first || false) 2 1 ≤ cond (first || others) 2 1
    by true others = omega arith
    by false true = omega arith
    by false false = omega arith

format-tail : (element : Element) (elements : List Element) → format_of elements ≤ format_of (element ∷ elements)
format-tail element elements = by (is_majority element) (list_any is_majority elements)
  where
    by : (first others : Bool) → cond others 2 1 ≤ cond (first || others) 2 1
    by true true = omega arith
    by true false = omega arith
    by false others = omega arith

module _ (format : ℕ) (model : List ℕ) (phases latency : ℕ) where
  -- a netlist of its parts
  abbrev net_of : List (List ℕ) → List (Option ℕ) → List Element → List (List ℕ) → List Outlet → PulseNet
  net_of names wires elements ends outlets =
      record { names = record { model = model; inputs = names; outputs = ends }; phases = phases; latency = latency; inputs = wires; elements = elements; outputs = outlets }

  inputs-go : (names : List (List ℕ)) (wires : List (Option ℕ)) (more : List (List ℕ)) (others : List (Option ℕ)) → length others ≡ length more → All IsName more → All IsSmallWire others
      → Goes (Body format (net_of names wires [] [] []) no_flow) (inputs_of more others) (Body format (net_of (names ++ more) (wires ++ others) [] [] []) no_flow)
  inputs-go names wires [] [] same named small = record { fit = tt; said = rw (append-nil names, append-nil wires) refl }
  inputs-go names wires [] (wire ∷ others) same named small = absurd (omega arith)
  inputs-go names wires (name ∷ more) [] same named small = absurd (omega arith)
  inputs-go names wires (name ∷ more) (wire ∷ others) same named small =
      let rest = inputs-go (names ++ name ∷ []) (wires ++ wire ∷ []) more others (omega arith) (All-tail IsName name more named) (All-tail IsSmallWire wire others small) in
      record {
        fit = (record { named = All-head IsName name more named; small = All-head IsSmallWire wire others small; no_element = refl; no_output = refl; no_flow = refl }, rest.fit);
        said = rest.said ∙ rw (append_assoc names (name ∷ []) more, append_assoc wires (wire ∷ []) others) refl;
      }

  elements-go : (names : List (List ℕ)) (wires : List (Option ℕ)) (elements more : List Element) → All HasItsPins more → All (λ element. All IsSmall (numbers_of element)) more → format_of more ≤ format
      → Goes (Body format (net_of names wires elements [] []) no_flow) (map ElementLine more) (Body format (net_of names wires (elements ++ more) [] []) no_flow)
  elements-go names wires elements [] pins small in_format = record { fit = tt; said = rw (append-nil elements) refl }
  elements-go names wires elements (element ∷ more) pins small in_format =
      let head = format-head element more in
      let tail = format-tail element more in
      let rest = elements-go names wires (elements ++ element ∷ []) more (All-tail HasItsPins element more pins) (All-tail (λ element. All IsSmall (numbers_of element)) element more small) (omega (arith, tail, in_format)) in
      record {
        fit = (record { pins = All-head HasItsPins element more pins; small = All-head (λ element. All IsSmall (numbers_of element)) element more small; in_format = omega (arith, head, in_format); no_output = refl; no_flow = refl }, rest.fit);
        said = rest.said ∙ rw (append_assoc elements (element ∷ []) more) refl;
      }

  outputs-go : (names : List (List ℕ)) (wires : List (Option ℕ)) (elements : List Element) (ends : List (List ℕ)) (outlets : List Outlet) (more : List (List ℕ)) (others : List Outlet) → length others ≡ length more → All IsName more → All IsSmallOutlet others
      → Goes (Body format (net_of names wires elements ends outlets) no_flow) (outputs_of more others) (Body format (net_of names wires elements (ends ++ more) (outlets ++ others)) no_flow)
  outputs-go names wires elements ends outlets [] [] same named small = record { fit = tt; said = rw (append-nil ends, append-nil outlets) refl }
  outputs-go names wires elements ends outlets [] (outlet ∷ others) same named small = absurd (omega arith)
  outputs-go names wires elements ends outlets (name ∷ more) [] same named small = absurd (omega arith)
  outputs-go names wires elements ends outlets (name ∷ more) (outlet ∷ others) same named small =
      let rest = outputs-go names wires elements (ends ++ name ∷ []) (outlets ++ outlet ∷ []) more others (omega arith) (All-tail IsName name more named) (All-tail IsSmallOutlet outlet others small) in
      record {
        fit = (record { named = All-head IsName name more named; small = All-head IsSmallOutlet outlet others small; no_flow = refl }, rest.fit);
        said = rest.said ∙ rw (append_assoc ends (name ∷ []) more, append_assoc outlets (outlet ∷ []) others) refl;
      }

  units-go : (net : PulseNet) (units more : List Units) → All AreSmallUnits more → Goes (Body format net (record { pins = units })) (map FlowLine more) (Body format net (record { pins = units ++ more }))
  units-go net units [] small = record { fit = tt; said = rw (append-nil units) refl }
  units-go net units (one ∷ more) small =
      let rest = units-go net (units ++ one ∷ []) more (All-tail AreSmallUnits one more small) in
      record { fit = (All-head AreSmallUnits one more small, rest.fit); said = rest.said ∙ rw (append_assoc units (one ∷ []) more) refl }

-- ---- all lines

-- the lines of a netlist and a flow, in order
abbrev pub lines_of : PulseNet → Flow → List Line
lines_of net flow =
    FormatLine (format_of net.elements) ∷ ModelLine net.names.model ∷ PhasesLine net.phases ∷ LatencyLine net.latency
    ∷ (inputs_of net.names.inputs net.inputs ++ (map ElementLine net.elements ++ (outputs_of net.names.outputs net.outputs ++ (map FlowLine flow.pins ++ EndLine ∷ []))))

format-range : (elements : List Element) → (1 ≤ format_of elements) × (format_of elements ≤ 2)
format-range elements = by (list_any is_majority elements)
  where
    by : (some : Bool) → (1 ≤ cond some 2 1) × (cond some 2 1 ≤ 2)
    by true = (omega arith, omega arith)
    by false = (omega arith, omega arith)

pub lines_of-go : (net : PulseNet) (flow : Flow) → IsFormed net → IsTyped net flow → Goes Nothing (lines_of net flow) (Ended (format_of net.elements) net flow)
lines_of-go net flow formed typed =
    let format = format_of net.elements in
    let range = format-range net.elements in
    let m = net.names.model in
    let header : PulseNet = net_of format m net.phases net.latency [] [] [] [] [] in
    let with_inputs : PulseNet = net_of format m net.phases net.latency net.names.inputs net.inputs [] [] [] in
    let with_elements : PulseNet = net_of format m net.phases net.latency net.names.inputs net.inputs net.elements [] [] in
    let end : Goes (Body format net flow) (EndLine ∷ []) (Ended format net flow) = record { fit = (tt, tt); said = refl } in
    let units : Goes (Body format net no_flow) (map FlowLine flow.pins) (Body format net flow) = units-go format m net.phases net.latency net [] flow.pins typed.pins in
    let outputs : Goes (Body format with_elements no_flow) (outputs_of net.names.outputs net.outputs) (Body format net no_flow) =
    outputs-go format m net.phases net.latency net.names.inputs net.inputs net.elements [] [] net.names.outputs net.outputs formed.outputs typed.outputs typed.outlets in
    let elements : Goes (Body format with_inputs no_flow) (map ElementLine net.elements) (Body format with_elements no_flow) =
    elements-go format m net.phases net.latency net.names.inputs net.inputs [] net.elements formed.pins typed.elements (omega arith) in
    let inputs : Goes (Body format header no_flow) (inputs_of net.names.inputs net.inputs) (Body format with_inputs no_flow) =
    inputs-go format m net.phases net.latency [] [] net.names.inputs net.inputs formed.inputs typed.inputs typed.wires in
    let flow_lines : List Line = map FlowLine flow.pins ++ EndLine ∷ [] in
    let output_part : List Line = outputs_of net.names.outputs net.outputs ++ flow_lines in
    let element_part : List Line = map ElementLine net.elements ++ output_part in
    let body = Goes-append (Body format header no_flow) (Body format with_inputs no_flow) (Ended format net flow) (inputs_of net.names.inputs net.inputs) element_part inputs
    (Goes-append (Body format with_inputs no_flow) (Body format with_elements no_flow) (Ended format net flow) (map ElementLine net.elements) output_part elements
    (Goes-append (Body format with_elements no_flow) (Body format net no_flow) (Ended format net flow) (outputs_of net.names.outputs net.outputs) flow_lines outputs
    (Goes-append (Body format net no_flow) (Body format net flow) (Ended format net flow) (map FlowLine flow.pins) (EndLine ∷ []) units end))) in
    record {
      fit = ((range.0, range.1), (typed.model, ((formed.some_phases, formed.few_phases), ((formed.latency, typed.latency), body.fit))));
      said = body.said;
    }

-- The spelling of a netlist and a flow is their lines.
pub spelling-lines : (net : PulseNet) (flow : Flow) → IsFormed net → IsTyped net flow → spelling_of net flow ≡ texts (lines_of net flow)
spelling-lines net flow formed typed =
    let go = lines_of-go net flow formed typed in
    spelled_lines net flow (lines_of net flow) go.fit go.said
