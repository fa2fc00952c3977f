-- The netlist text: the one spelling of a netlist and of a flow.
use Rattle.std.specs.Prelude.{ℕ, Bool, true, false, cond, List, [], ◌∷◌, ◌++◌, Option, Some, None, codes, decimal}
use Rattle.std.specs.List.{flat_map, list_any}
use Rattle.cell_lib.specs.declared.cell.Cell.{Cell}
use Rattle.cell_lib.specs.declared.cell.Cell.TheVariants.{Dro, Not, And, Or, Xor, Maj}
use Rattle.flow_net.specs.declared.net.Units.{Units}
use Rattle.flow_net.specs.declared.net.Flow.{Flow}
use Rattle.pulse_net.specs.declared.net.Element.{Element}
use Rattle.pulse_net.specs.declared.net.Element.TheVariants.{Clocked, Split}
use Rattle.pulse_net.specs.declared.net.Outlet.{Outlet}
use Rattle.pulse_net.specs.declared.net.Outlet.TheVariants.{Zero, One, Wire}
use Rattle.pulse_net.specs.declared.net.PulseNet.{PulseNet}

-- numbers in decimal, each behind a space
abbrev pub fields : List ℕ → List ℕ
fields numbers = flat_map (λ number. codes " " ++ decimal number) numbers

-- a line of a word and numbers
unfoldable pub line : List ℕ → List ℕ → List ℕ
line word numbers = word ++ fields numbers ++ codes "\n"

-- a line of a word, a name and a last word
abbrev pub name_line : List ℕ → List ℕ → List ℕ → List ℕ
name_line word name last = word ++ codes " " ++ name ++ last ++ codes "\n"

abbrev pub cell_word : Cell → List ℕ
cell_word Dro = codes "dro"
cell_word Not = codes "not"
cell_word And = codes "and"
cell_word Or = codes "or"
cell_word Xor = codes "xor"
cell_word Maj = codes "maj"

-- a clocked element is its cell, its stage, the wires of its pins and the wire that it makes
abbrev pub element_line : Element → List ℕ
element_line (Clocked cell stage pins out) = line (cell_word cell) (stage ∷ (pins ++ out ∷ []))
element_line (Split from left right) = line (codes "split") (from ∷ left ∷ right ∷ [])

-- an input without a wire has a dash
abbrev pub wire_word : Option ℕ → List ℕ
wire_word None = codes " -"
wire_word (Some wire) = codes " " ++ decimal wire

abbrev pub outlet_word : Outlet → List ℕ
outlet_word Zero = codes " zero"
outlet_word One = codes " one"
outlet_word (Wire wire) = codes " " ++ decimal wire

unfoldable pub input_lines : List (List ℕ) → List (Option ℕ) → List ℕ
input_lines (name ∷ names) (wire ∷ wires) = name_line (codes "input") name (wire_word wire) ++ input_lines names wires
input_lines names wires = []

unfoldable pub output_lines : List (List ℕ) → List Outlet → List ℕ
output_lines (name ∷ names) (outlet ∷ outlets) = name_line (codes "output") name (outlet_word outlet) ++ output_lines names outlets
output_lines names outlets = []

-- the units on a pin's two arcs
abbrev pub flow_line : Units → List ℕ
flow_line units = line (codes "flow") (units.forward ∷ units.back ∷ [])

-- whether an element is a majority cell
abbrev pub is_majority : Element → Bool
is_majority (Clocked Maj stage pins out) = true
is_majority element = false

-- the number of the format: 2 where there is a majority cell, which format 1 has not, and else 1
abbrev pub format_of : List Element → ℕ
format_of elements = cond (list_any is_majority elements) 2 1

-- the model's name
unfoldable pub model_line : List ℕ → List ℕ
model_line model = codes "model" ++ codes " " ++ model ++ codes "\n"

-- the format, the model, the phases and the latency
unfoldable pub header_lines : PulseNet → List ℕ
header_lines net =
    line (codes "rsfq") (format_of net.elements ∷ [])
    ++ model_line net.names.model
    ++ line (codes "phases") (net.phases ∷ [])
    ++ line (codes "latency") (net.latency ∷ [])

-- the text of a netlist and a flow, with a line for the units of each pin
abbrev pub spelling_of : PulseNet → Flow → List ℕ
spelling_of net flow =
    header_lines net
    ++ input_lines net.names.inputs net.inputs
    ++ flat_map element_line net.elements
    ++ output_lines net.names.outputs net.outputs
    ++ flat_map flow_line flow.pins
    ++ codes "end\n"
