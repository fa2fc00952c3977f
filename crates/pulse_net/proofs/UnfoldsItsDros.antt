-- Each DRO among the elements is passed once, and nothing else is counted as one.
use Rattle.std.proofs.Common.{◌≡◌, ◌+◌, ℕ, List, [], ◌∷◌, length, map, refl, ap, arith}
use Rattle.std.specs.Prelude.{Option, Some, None}
use Rattle.std.proofs.lemmas.List.{length_push}
use Rattle.cell_lib.specs.declared.cell.Cell.TheVariants.{Dro}
use Rattle.pulse_net.specs.declared.net.Element.{Element}
use Rattle.pulse_net.specs.declared.net.Element.TheVariants.{Clocked, Split}
use Rattle.pulse_net.specs.Unfolding.{Unfolding, driver_of, dro_driver, nothing_unfolded, unfold_element, unfold_elements, unfold_inputs}
use Rattle.pulse_net.specs.Dros.{dros, UnfoldsItsDros}

-- as many DROs are passed as there are among the elements
dros-passed : (elements : List Element) (so : Unfolding) → length (unfold_elements elements so).dros ≡ length so.dros + dros elements
dros-passed [] so = omega arith
dros-passed (Split from left right ∷ elements) so = dros-passed elements (unfold_element (Split from left right) so)
dros-passed (Clocked Dro stage pins out ∷ elements) so =
    let rest = dros-passed elements (unfold_element (Clocked Dro stage pins out) so) in
    let one = length_push so.dros (dro_driver (map (driver_of so.wires) pins)) in
    omega (arith, rest, one)
dros-passed (Clocked cell stage pins out ∷ elements) so = let rest = dros-passed elements (unfold_element (Clocked cell stage pins out) so) in omega (arith, rest)

-- inputs pass none
dros-inputs : (inputs : List (Option ℕ)) (place : ℕ) (so : Unfolding) → (unfold_inputs place inputs so).dros ≡ so.dros
dros-inputs [] place so = refl
dros-inputs (None ∷ inputs) place so = dros-inputs inputs (place + 1) so
dros-inputs (Some wire ∷ inputs) place so = dros-inputs inputs (place + 1) _

pub unfolds_its_dros : UnfoldsItsDros
unfolds_its_dros net =
    omega (arith, dros-passed net.elements (unfold_inputs 0 net.inputs nothing_unfolded), ap length (dros-inputs net.inputs 0 nothing_unfolded))
