-- The lines of a netlist text, what each adds to what was read before it, and which lines fit there.
use Rattle.std.specs.Prelude.{◌≡◌, ◌<◌, ◌≤◌, ◌^◌, ℕ, List, [], ◌∷◌, ◌++◌, Option, Some, None, All, ⊤, codes}
use Rattle.std.specs.List.{flat_map}
use Rattle.net_base.specs.Name.{IsName}
use Rattle.flow_net.specs.TheConstants.{MAX_PHASES}
use Rattle.flow_net.specs.declared.net.Units.{Units}
use Rattle.flow_net.specs.declared.net.Flow.{Flow}
use Rattle.pulse_net.specs.declared.net.Element.{Element}
use Rattle.pulse_net.specs.declared.net.Element.TheVariants.{Clocked, Split}
use Rattle.pulse_net.specs.declared.net.Outlet.{Outlet}
use Rattle.pulse_net.specs.declared.net.Outlet.TheVariants.{Zero, One, Wire}
use Rattle.pulse_net.specs.declared.net.PulseNet.{PulseNet}
use Rattle.pulse_net.specs.Formed.{HasItsPins}
use Rattle.netlist_text.specs.Spelling.{line, model_line, name_line, wire_word, outlet_word, element_line, flow_line, format_of}

-- a line, by what it says
pub data Line : Type 0 where
  FormatLine : ℕ → Line
  ModelLine : List ℕ → Line
  PhasesLine : ℕ → Line
  LatencyLine : ℕ → Line
  InputLine : List ℕ → Option ℕ → Line
  ElementLine : Element → Line
  OutputLine : List ℕ → Outlet → Line
  FlowLine : Units → Line
  EndLine : Line

-- the bytes of a line, with its line feed
abbrev pub line_text : Line → List ℕ
line_text (FormatLine format) = line (codes "rsfq") (format ∷ [])
line_text (ModelLine model) = model_line model
line_text (PhasesLine phases) = line (codes "phases") (phases ∷ [])
line_text (LatencyLine latency) = line (codes "latency") (latency ∷ [])
line_text (InputLine name wire) = name_line (codes "input") name (wire_word wire)
line_text (ElementLine element) = element_line element
line_text (OutputLine name outlet) = name_line (codes "output") name (outlet_word outlet)
line_text (FlowLine units) = flow_line units
line_text EndLine = codes "end\n"

abbrev pub texts : List Line → List ℕ
texts lines = flat_map line_text lines

-- What was read so far: a part of the header, then the format with the netlist and the flow so far, then these with the end.
pub data SoFar : Type 0 where
  Nothing : SoFar
  Format : ℕ → SoFar
  Model : ℕ → List ℕ → SoFar
  Phases : ℕ → List ℕ → ℕ → SoFar
  Body : ℕ → PulseNet → Flow → SoFar
  Ended : ℕ → PulseNet → Flow → SoFar

-- a netlist of which the header alone was read
abbrev pub no_net : List ℕ → ℕ → ℕ → PulseNet
no_net model phases latency =
    record {
      names = record { model = model; inputs = []; outputs = [] };
      phases = phases;
      latency = latency;
      inputs = [];
      elements = [];
      outputs = [];
    }

abbrev pub no_flow : Flow
no_flow = record { pins = [] }

-- a netlist with one input, element or output more, and a flow with the units of one pin more
abbrev pub with_input : PulseNet → List ℕ → Option ℕ → PulseNet
with_input net name wire = record net { names = record net.names { inputs = net.names.inputs ++ name ∷ [] }; inputs = net.inputs ++ wire ∷ [] }

abbrev pub with_element : PulseNet → Element → PulseNet
with_element net element = record net { elements = net.elements ++ element ∷ [] }

abbrev pub with_output : PulseNet → List ℕ → Outlet → PulseNet
with_output net name outlet = record net { names = record net.names { outputs = net.names.outputs ++ name ∷ [] }; outputs = net.outputs ++ outlet ∷ [] }

abbrev pub with_units : Flow → Units → Flow
with_units flow units = record { pins = flow.pins ++ units ∷ [] }

-- what was read with one line more
abbrev pub with_line : SoFar → Line → SoFar
with_line Nothing (FormatLine format) = Format format
with_line (Format format) (ModelLine model) = Model format model
with_line (Model format model) (PhasesLine phases) = Phases format model phases
with_line (Phases format model phases) (LatencyLine latency) = Body format (no_net model phases latency) no_flow
with_line (Body format net flow) (InputLine name wire) = Body format (with_input net name wire) flow
with_line (Body format net flow) (ElementLine element) = Body format (with_element net element) flow
with_line (Body format net flow) (OutputLine name outlet) = Body format (with_output net name outlet) flow
with_line (Body format net flow) (FlowLine units) = Body format net (with_units flow units)
with_line (Body format net flow) EndLine = Ended format net flow
with_line so line = so

abbrev pub after_lines : SoFar → List Line → SoFar
after_lines so [] = so
after_lines so (line ∷ lines) = after_lines (with_line so line) lines

-- the numbers of an element, in the order of its line
abbrev pub numbers_of : Element → List ℕ
numbers_of (Clocked cell stage pins out) = stage ∷ (pins ++ out ∷ [])
numbers_of (Split from left right) = from ∷ left ∷ right ∷ []

-- numbers of 32 bits
abbrev pub IsSmall : ℕ → Type 0
IsSmall number = number < 2 ^ 32

abbrev pub IsSmallWire : Option ℕ → Type 0
IsSmallWire None = ⊤
IsSmallWire (Some wire) = IsSmall wire

abbrev pub IsSmallOutlet : Outlet → Type 0
IsSmallOutlet Zero = ⊤
IsSmallOutlet One = ⊤
IsSmallOutlet (Wire wire) = IsSmall wire

-- an input line stands before all elements, outputs and flow lines
pub record InputFits (net : PulseNet) (flow : Flow) (name : List ℕ) (wire : Option ℕ) : Type 0 where
  pub named : IsName name
  pub small : IsSmallWire wire
  pub no_element : net.elements ≡ []
  pub no_output : net.outputs ≡ []
  pub no_flow : flow.pins ≡ []

-- an element's line stands before all outputs and flow lines; format 1 has none for a majority cell
pub record ElementFits (format : ℕ) (net : PulseNet) (flow : Flow) (element : Element) : Type 0 where
  pub pins : HasItsPins element
  pub small : All IsSmall (numbers_of element)
  pub in_format : format_of (element ∷ []) ≤ format
  pub no_output : net.outputs ≡ []
  pub no_flow : flow.pins ≡ []

-- an output line stands before all flow lines
pub record OutputFits (flow : Flow) (name : List ℕ) (outlet : Outlet) : Type 0 where
  pub named : IsName name
  pub small : IsSmallOutlet outlet
  pub no_flow : flow.pins ≡ []

-- a line may stand behind what was read so far
abbrev pub Fits : SoFar → Line → Type 0
Fits Nothing (FormatLine format) = (1 ≤ format) × (format ≤ 2)
Fits (Format format) (ModelLine model) = IsName model
Fits (Model format model) (PhasesLine phases) = (1 ≤ phases) × (phases ≤ MAX_PHASES)
Fits (Phases format model phases) (LatencyLine latency) = (1 ≤ latency) × IsSmall latency
Fits (Body format net flow) (InputLine name wire) = InputFits net flow name wire
Fits (Body format net flow) (ElementLine element) = ElementFits format net flow element
Fits (Body format net flow) (OutputLine name outlet) = OutputFits flow name outlet
Fits (Body format net flow) (FlowLine units) = IsSmall units.forward × IsSmall units.back
Fits (Body format net flow) EndLine = ⊤
Fits so line = ⊥

-- each line fits behind those before it
abbrev pub FitInOrder : SoFar → List Line → Type 0
FitInOrder so [] = ⊤
FitInOrder so (line ∷ lines) = Fits so line × FitInOrder (with_line so line) lines

-- no end line was read yet
abbrev pub IsOpen : SoFar → Type 0
IsOpen (Ended format net flow) = ⊥
IsOpen so = ⊤
