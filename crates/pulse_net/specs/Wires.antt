-- What each wire of a netlist carries: one fold, whatever it is that the wires carry.
use Rattle.std.specs.Prelude.{ℕ, ◌+◌, List, [], ◌∷◌, ◌++◌, map, Option, Some, None, nat_eq, unwrap_or, flat_map}
use Rattle.std.specs.Map.{lookup}
use Rattle.cell_lib.specs.declared.cell.Cell.{Cell}
use Rattle.pulse_net.specs.declared.net.Element.{Element}
use Rattle.pulse_net.specs.declared.net.Element.TheVariants.{Clocked, Split}
use Rattle.pulse_net.specs.declared.net.Outlet.{Outlet}
use Rattle.pulse_net.specs.declared.net.Outlet.TheVariants.{Zero, One, Wire}
use Rattle.pulse_net.specs.declared.net.PulseNet.{PulseNet}

-- wires in the order in which they are made, each with what it carries
abbrev pub Wires : Type 0 → Type 0
Wires A = List (ℕ × A)

-- what a wire carries, if it was made
abbrev pub found : {A : Type 0} → Wires A → ℕ → Option A
found wires wire = lookup (nat_eq wire) wires

-- what a wire carries, or else `absent`
abbrev pub carried : {A : Type 0} → A → Wires A → ℕ → A
carried absent wires wire = unwrap_or (found wires wire) absent

-- the wires of the inputs from a place on: each used input makes its wire
abbrev pub input_entries : {A : Type 0} → (ℕ → A) → ℕ → List (Option ℕ) → Wires A
input_entries at_input place [] = []
input_entries at_input place (None ∷ inputs) = input_entries at_input (place + 1) inputs
input_entries at_input place (Some wire ∷ inputs) = (wire, at_input place) ∷ input_entries at_input (place + 1) inputs

-- the wires that an element makes: a clocked cell makes one by what its pins carry, a splitter hands its source on to both
abbrev pub element_wires : {A : Type 0} → A → (Cell → ℕ → List A → A) → Wires A → Element → Wires A
element_wires absent at_cell wires (Clocked cell stage pins out) =
    (out, at_cell cell stage (map (carried absent wires) pins)) ∷ []
element_wires absent at_cell wires (Split from left right) =
    (left, carried absent wires from) ∷ ((right, carried absent wires from) ∷ [])

-- the wires after these elements
abbrev pub after_elements : {A : Type 0} → A → (Cell → ℕ → List A → A) → Wires A → List Element → Wires A
after_elements absent at_cell wires [] = wires
after_elements absent at_cell wires (element ∷ elements) =
    after_elements absent at_cell (wires ++ element_wires absent at_cell wires element) elements

-- All wires of a netlist with what they carry, where `at_input` says what an input brings, and `at_cell` what a clocked
-- cell makes at a stage of what its pins carry.
abbrev pub wires_of : {A : Type 0} → A → (ℕ → A) → (Cell → ℕ → List A → A) → PulseNet → Wires A
wires_of absent at_input at_cell net =
    after_elements absent at_cell (input_entries at_input 0 net.inputs) net.elements

-- an input's stage, and a cell's
abbrev pub input_stage : ℕ → ℕ
input_stage input = 0

abbrev pub cell_stage : Cell → ℕ → List ℕ → ℕ
cell_stage cell stage pins = stage

-- the stage of each wire: 0 from an input, the cell's from a clocked cell, its source's through a splitter
abbrev pub stages_of : PulseNet → Wires ℕ
stages_of net = wires_of 0 input_stage cell_stage net

-- the wires that an element uses, from the left
abbrev pub element_uses : Element → List ℕ
element_uses (Clocked cell stage pins out) = pins
element_uses (Split from left right) = from ∷ []

-- the wire that an output uses, if it isn't constant
abbrev pub outlet_uses : Outlet → List ℕ
outlet_uses Zero = []
outlet_uses One = []
outlet_uses (Wire wire) = wire ∷ []

-- the wires that are used by elements and outputs, in order
abbrev pub used_wires : PulseNet → List ℕ
used_wires net = flat_map element_uses net.elements ++ flat_map outlet_uses net.outputs
