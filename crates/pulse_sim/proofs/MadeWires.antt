-- Where no wire is made twice, wires that are inserted in turn are just those; and there is room for what each does.
use Rattle.std.proofs.Common.{◌≡◌, ℕ, ◌+◌, false, if◌then◌else◌, nat_eq, List, [], ◌∷◌, ◌++◌, length, map, refl, sym, ap, subst, ◌∙◌, append_assoc, append-nil, length-append, arith}
use Rattle.std.specs.Prelude.{Option, Some, None, flat_map, option_to_list}
use Rattle.std.specs.List.{IsDistinct}
use Rattle.indexmap.specs.IndexSet.{insert_all, insert_key}
use Rattle.net_base.specs.Keys.{is_among}
use Rattle.net_base.proofs.CallerLemmas.{is_among-next}
use Rattle.pulse_net.specs.declared.net.Element.{Element}
use Rattle.pulse_net.specs.declared.net.Element.TheVariants.{Clocked, Split}
use Rattle.pulse_net.specs.declared.net.PulseNet.{PulseNet}
use Rattle.pulse_net.specs.Wired.{element_makes, makes_of}
use Rattle.pulse_sim.specs.Sites.{site_wires}
use Rattle.pulse_sim.specs.Simulators.{site_of, used_inputs}

insert-new : (wires more : List ℕ) → IsDistinct nat_eq (wires ++ more) → insert_all nat_eq wires more ≡ wires ++ more
insert-new wires [] h = sym (append-nil wires)
insert-new wires (wire ∷ more) h =
    let new : is_among nat_eq wire wires ≡ false = is_among-next wires more wire h in
    let shift = append_assoc wires (wire ∷ []) more in
    ap (λ among. insert_all nat_eq (if among then wires else wires ++ wire ∷ []) more) new
    ∙ insert-new (wires ++ wire ∷ []) more (subst (IsDistinct nat_eq) (sym shift) h)
    ∙ shift

insert-append : (wires xs ys : List ℕ) → insert_all nat_eq wires (xs ++ ys) ≡ insert_all nat_eq (insert_all nat_eq wires xs) ys
insert-append wires [] ys = refl
insert-append wires (x ∷ xs) ys = insert-append (insert_key nat_eq wires x) xs ys

-- what inputs and then elements insert is what is made
pub inserted-all : (net : PulseNet) (after_inputs after : List ℕ) → IsDistinct nat_eq (makes_of net) → after_inputs ≡ insert_all nat_eq [] (flat_map option_to_list net.inputs) → after ≡ insert_all nat_eq after_inputs (flat_map element_makes net.elements) → after ≡ makes_of net
inserted-all net after_inputs after distinct first then_all =
    then_all ∙ ap (λ wires. insert_all nat_eq wires (flat_map element_makes net.elements)) first
    ∙ sym (insert-append [] (flat_map option_to_list net.inputs) (flat_map element_makes net.elements))
    ∙ insert-new [] (makes_of net) distinct

inputs-counted : (inputs : List (Option ℕ)) (place : ℕ) → length (used_inputs place inputs) ≡ length (flat_map option_to_list inputs)
inputs-counted [] place = refl
inputs-counted (None ∷ inputs) place = inputs-counted inputs (place + 1)
inputs-counted (Some wire ∷ inputs) place = let rest = inputs-counted inputs (place + 1) in omega (arith, rest)

sites-counted : (net : PulseNet) (elements : List Element) → site_wires (map (site_of net []) elements) ≡ length (flat_map element_makes elements)
sites-counted net [] = refl
sites-counted net (Clocked cell stage pins out ∷ elements) = let rest = sites-counted net elements in omega (arith, rest)
sites-counted net (Split from left right ∷ elements) = let rest = sites-counted net elements in omega (arith, rest)

-- there are as many wires as used inputs and parts make
pub wires-counted : (net : PulseNet) → length (used_inputs 0 net.inputs) + site_wires (map (site_of net []) net.elements) ≡ length (makes_of net)
wires-counted net =
    let all = length-append (flat_map option_to_list net.inputs) (flat_map element_makes net.elements) in
    let inputs = inputs-counted net.inputs 0 in
    let sites = sites-counted net net.elements in
    omega (arith, all, inputs, sites)
