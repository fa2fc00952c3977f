-- Where no wire is made twice: a wire that comes next is new, and so are those behind it.
use Rattle.std.proofs.Common.{◌≡◌, ℕ, nat_eq, ◌+◌, List, [], ◌∷◌, ◌++◌, refl, sym, ap, subst, ◌∙◌, append_assoc}
use Rattle.std.specs.Prelude.{Option, Some, None, flat_map, option_to_list}
use Rattle.std.specs.List.{IsDistinct}
use Rattle.std.specs.Map.{keys_of}
use Rattle.std.proofs.lemmas.List.{append-nil, map-append}
use Rattle.net_base.proofs.CallerLemmas.{lookup-absent, is_among-next}
use Rattle.pulse_net.specs.declared.net.Element.{Element}
use Rattle.pulse_net.specs.declared.net.Element.TheVariants.{Clocked, Split}
use Rattle.pulse_net.specs.declared.net.PulseNet.{PulseNet}
use Rattle.pulse_net.specs.Wires.{Wires, found, input_entries, element_wires, after_elements, input_stage, cell_stage, stages_of}
use Rattle.pulse_net.specs.Wired.{element_makes, makes_of}

pub keys-element : (made : Wires ℕ) (element : Element) → keys_of (element_wires 0 cell_stage made element) ≡ element_makes element
keys-element made (Clocked cell stage pins out) = refl
keys-element made (Split from left right) = refl

pub keys-inputs : (inputs : List (Option ℕ)) (place : ℕ) → keys_of (input_entries input_stage place inputs) ≡ flat_map option_to_list inputs
keys-inputs [] place = refl
keys-inputs (None ∷ inputs) place = keys-inputs inputs (place + 1)
keys-inputs (Some wire ∷ inputs) place = ap (λ l. wire ∷ l) (keys-inputs inputs (place + 1))

keys-elements : (elements : List Element) (made : Wires ℕ) → keys_of (after_elements 0 cell_stage made elements) ≡ keys_of made ++ flat_map element_makes elements
keys-elements [] made = sym (append-nil (keys_of made))
keys-elements (element ∷ elements) made =
    let rest = flat_map element_makes elements in
    keys-elements elements (made ++ element_wires 0 cell_stage made element)
    ∙ ap (λ k. k ++ rest) (map-append (λ (e : ℕ × ℕ). e.0) made (element_wires 0 cell_stage made element) ∙ ap (λ k. keys_of made ++ k) (keys-element made element))
    ∙ append_assoc (keys_of made) (element_makes element) rest

-- the wires that have a stage are those that are made, in order
pub keys-stages : (net : PulseNet) → keys_of (stages_of net) ≡ makes_of net
keys-stages net =
    keys-elements net.elements (input_entries input_stage 0 net.inputs) ∙ ap (λ k. k ++ flat_map element_makes net.elements) (keys-inputs net.inputs 0)

-- the next wire is new, where no wire is made twice
pub new_wire : (a : Wires ℕ) (wire : ℕ) (rest : List ℕ) → IsDistinct nat_eq (keys_of a ++ wire ∷ rest) → found a wire ≡ None
new_wire a wire rest h = lookup-absent (nat_eq wire) a (is_among-next (keys_of a) rest wire h)

-- behind a wire that is made
pub behind_wire : (a : Wires ℕ) (wire stage : ℕ) (rest : List ℕ) → IsDistinct nat_eq (keys_of a ++ wire ∷ rest) → IsDistinct nat_eq (keys_of (a ++ (wire, stage) ∷ []) ++ rest)
behind_wire a wire stage rest h =
    let made : keys_of (a ++ (wire, stage) ∷ []) ≡ keys_of a ++ wire ∷ [] = map-append (λ (e : ℕ × ℕ). e.0) a ((wire, stage) ∷ []) in
    subst (IsDistinct nat_eq) (sym (ap (λ k. k ++ rest) made ∙ append_assoc (keys_of a) (wire ∷ []) rest)) h

-- and behind the wires of an element
pub behind_element : (a : Wires ℕ) (element : Element) (rest : List ℕ) → IsDistinct nat_eq (keys_of a ++ (element_makes element ++ rest)) → IsDistinct nat_eq (keys_of (a ++ element_wires 0 cell_stage a element) ++ rest)
behind_element a element rest h =
    let wires = element_wires 0 cell_stage a element in
    let made : keys_of (a ++ wires) ≡ keys_of a ++ element_makes element = map-append (λ (e : ℕ × ℕ). e.0) a wires ∙ ap (λ k. keys_of a ++ k) (keys-element a element) in
    subst (IsDistinct nat_eq) (sym (ap (λ k. k ++ rest) made ∙ append_assoc (keys_of a) (element_makes element) rest)) h
