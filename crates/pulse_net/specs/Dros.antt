-- How many DROs a netlist has: counted among its elements, and as they are passed when it is unfolded.
use Rattle.std.specs.Prelude.{◌≡◌, ℕ, ◌+◌, cond, List, [], ◌∷◌}
use Rattle.cell_lib.specs.Cell.{is_dro}
use Rattle.pulse_net.specs.declared.net.Element.{Element}
use Rattle.pulse_net.specs.declared.net.Element.TheVariants.{Clocked, Split}
use Rattle.pulse_net.specs.declared.net.PulseNet.{PulseNet}
use Rattle.pulse_net.specs.Unfolding.{unfolded}

-- how many DROs there are among these elements
abbrev pub dros : List Element → ℕ
dros [] = 0
dros (Clocked cell stage pins out ∷ elements) = cond (is_dro cell) 1 0 + dros elements
dros (Split from left right ∷ elements) = dros elements

-- A netlist, valid or not, unfolds to as many DROs as there are among its elements.
abbrev pub UnfoldsItsDros : Type 0
UnfoldsItsDros = (net : PulseNet) → (unfolded net).dros ≡ dros net.elements
