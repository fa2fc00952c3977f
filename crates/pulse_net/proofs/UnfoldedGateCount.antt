-- How many gates elements add.
use Rattle.std.proofs.Common.{◌≡◌, ◌≤◌, ◌+◌, ℕ, List, [], ◌∷◌, length, map, refl, ap, ◌∙◌, arith}
use Rattle.std.specs.Prelude.{Option, Some, None}
use Rattle.std.proofs.lemmas.List.{length_push}
use Rattle.cell_lib.specs.declared.cell.Cell.{Cell}
use Rattle.cell_lib.specs.declared.cell.Cell.TheVariants.{Dro}
use Rattle.gate_net.specs.declared.row.Driver.{Driver}
use Rattle.pulse_net.specs.declared.net.Element.{Element}
use Rattle.pulse_net.specs.declared.net.Element.TheVariants.{Clocked, Split}
use Rattle.pulse_net.specs.Unfolding.{Unfolding, driver_of, nothing_unfolded, unfold_cell, unfold_element, unfold_elements, unfold_inputs}

-- an element adds one gate at most
gates-cell : (cell : Cell) (stage out : ℕ) (pins : List Driver) (so : Unfolding) → length (unfold_cell cell stage out pins so).gates ≤ length so.gates + 1
gates-cell Dro stage out pins so = omega arith
gates-cell cell stage out pins so = omega (arith, length_push so.gates (record { cell = cell; pins = pins }))

gates-element : (element : Element) (so : Unfolding) → length (unfold_element element so).gates ≤ length so.gates + 1
gates-element (Clocked cell stage pins out) so = gates-cell cell stage out (map (driver_of so.wires) pins) so
gates-element (Split from left right) so = omega arith

-- n elements add n gates at most
pub gates-elements : (elements : List Element) (so : Unfolding) → length (unfold_elements elements so).gates ≤ length so.gates + length elements
gates-elements [] so = omega arith
gates-elements (element ∷ elements) so = omega (arith, gates-element element so, gates-elements elements (unfold_element element so))

-- inputs add none
pub gates-inputs : (inputs : List (Option ℕ)) (place : ℕ) (so : Unfolding) → (unfold_inputs place inputs so).gates ≡ so.gates
gates-inputs [] place so = refl
gates-inputs (None ∷ inputs) place so = gates-inputs inputs (place + 1) so
gates-inputs (Some wire ∷ inputs) place so = gates-inputs inputs (place + 1) _

pub gates-inputs_is : (inputs : List (Option ℕ)) (so new : Unfolding) → new ≡ unfold_inputs 0 inputs so → so ≡ nothing_unfolded → length new.gates ≡ 0
gates-inputs_is inputs so new e start =
    ap (λ (u : Unfolding). length u.gates) e ∙ ap length (gates-inputs inputs 0 so) ∙ ap (λ (u : Unfolding). length u.gates) start
