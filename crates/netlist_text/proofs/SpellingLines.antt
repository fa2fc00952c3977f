-- One turn of the loops that write the lines of inputs and outputs, and their end.
use Rattle.std.proofs.Common.{◌≡◌, ℕ, ◌+◌, ◌≤◌, List, [], ◌∷◌, ◌++◌, length, drop, min, Option, Some, codes, refl, ap, ◌∙◌, arith, length-drop}
use Rattle.std.specs.List.{slice_get}
use Rattle.std.proofs.lemmas.List.{drop_more}
use Rattle.std.proofs.lemmas.Option.{slice_get_within, get_or_from_slice_get}
use Rattle.pulse_net.specs.declared.net.Outlet.{Outlet}
use Rattle.netlist_text.specs.Spelling.{name_line, wire_word, outlet_word, input_lines, output_lines}

-- from the item at a place on
drop-at : {X : Type 0} (xs : List X) (i : ℕ) (x : X) → slice_get xs i ≡ Some x → drop i xs ≡ x ∷ drop (i + 1) xs
drop-at xs i x at =
    drop_more xs i x (slice_get_within xs i x at) ∙ ap (λ y. y ∷ drop (i + 1) xs) (get_or_from_slice_get xs i x x at)

pub input_lines-step : (names : List (List ℕ)) (wires : List (Option ℕ)) (i : ℕ) (name : List ℕ) (wire : Option ℕ) → slice_get names i ≡ Some name → slice_get wires i ≡ Some wire → input_lines (drop i names) (drop i wires) ≡ name_line (codes "input") name (wire_word wire) ++ input_lines (drop (i + 1) names) (drop (i + 1) wires)
unfolding input_lines
input_lines-step names wires i name wire at_name at_wire = rw (drop-at names i name at_name, drop-at wires i wire at_wire) refl

pub output_lines-step : (names : List (List ℕ)) (outlets : List Outlet) (i : ℕ) (name : List ℕ) (outlet : Outlet) → slice_get names i ≡ Some name → slice_get outlets i ≡ Some outlet → output_lines (drop i names) (drop i outlets) ≡ name_line (codes "output") name (outlet_word outlet) ++ output_lines (drop (i + 1) names) (drop (i + 1) outlets)
unfolding output_lines
output_lines-step names outlets i name outlet at_name at_outlet = rw (drop-at names i name at_name, drop-at outlets i outlet at_outlet) refl

-- where one of the lists is at its end there is no line
input_lines-none : (names : List (List ℕ)) (wires : List (Option ℕ)) → min (length names) (length wires) ≡ 0 → input_lines names wires ≡ []
unfolding input_lines
input_lines-none [] wires none = refl
input_lines-none (name ∷ names) [] none = refl
input_lines-none (name ∷ names) (wire ∷ wires) none = absurd (omega arith)

output_lines-none : (names : List (List ℕ)) (outlets : List Outlet) → min (length names) (length outlets) ≡ 0 → output_lines names outlets ≡ []
unfolding output_lines
output_lines-none [] outlets none = refl
output_lines-none (name ∷ names) [] none = refl
output_lines-none (name ∷ names) (outlet ∷ outlets) none = absurd (omega arith)

pub input_lines-end : (names : List (List ℕ)) (wires : List (Option ℕ)) (i : ℕ) → min (length names) (length wires) ≤ i → input_lines (drop i names) (drop i wires) ≡ []
input_lines-end names wires i end = input_lines-none (drop i names) (drop i wires) (omega (arith, length-drop i names, length-drop i wires))

pub output_lines-end : (names : List (List ℕ)) (outlets : List Outlet) (i : ℕ) → min (length names) (length outlets) ≤ i → output_lines (drop i names) (drop i outlets) ≡ []
output_lines-end names outlets i end = output_lines-none (drop i names) (drop i outlets) (omega (arith, length-drop i names, length-drop i outlets))
