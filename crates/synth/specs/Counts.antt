-- What a netlist is made of, counted over its elements.
use Rattle.std.specs.Prelude.{ℕ, ◌+◌, cond, List, [], ◌∷◌}
use Rattle.cell_lib.specs.declared.cell.TheConstants.{SPLITTER_COST}
use Rattle.cell_lib.specs.Cell.{is_dro, junctions_of}
use Rattle.pulse_net.specs.declared.net.Element.{Element}
use Rattle.pulse_net.specs.declared.net.Element.TheVariants.{Clocked, Split}

-- an element that is a gate: it is clocked, and no DRO
abbrev pub is_gate : Element → ℕ
is_gate (Clocked cell stage pins out) = cond (is_dro cell) 0 1
is_gate (Split from left right) = 0

-- a splitter
abbrev pub is_split : Element → ℕ
is_split (Clocked cell stage pins out) = 0
is_split (Split from left right) = 1

-- the Josephson junctions of an element
abbrev pub element_junctions : Element → ℕ
element_junctions (Clocked cell stage pins out) = junctions_of cell
element_junctions (Split from left right) = SPLITTER_COST

-- the sum of what each element counts
abbrev pub counted : (Element → ℕ) → List Element → ℕ
counted count [] = 0
counted count (element ∷ elements) = count element + counted count elements
