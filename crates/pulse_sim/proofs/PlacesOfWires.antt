-- Where wires stand in the order in which they are made, and what is known there.
use Rattle.std.proofs.Common.{◌≡◌, ℕ, suc, ◌<◌, ◌+◌, Bool, true, false, cond, nat_eq, nat_lt, not, List, [], ◌∷◌, ◌++◌, length, map, get_or, refl, sym, ap, ◌∙◌, arith, append_assoc}
use Rattle.std.specs.Prelude.{Option, Some, None, flat_map, option_to_list}
use Rattle.std.specs.List.{position, position_or_len}
use Rattle.std.specs.Map.{keys_of}
use Rattle.std.proofs.lemmas.Bool.Decides.{nat_tests}
use Rattle.std.proofs.lemmas.List.{append-nil, map-append}
use Rattle.cell_lib.specs.declared.cell.Cell.{Cell}
use Rattle.pulse_net.specs.declared.net.Element.{Element}
use Rattle.pulse_net.specs.declared.net.Element.TheVariants.{Clocked, Split}
use Rattle.pulse_net.specs.declared.net.PulseNet.{PulseNet}
use Rattle.pulse_net.specs.Wires.{Wires, found, input_entries, element_wires, after_elements, wires_of}
use Rattle.pulse_net.specs.Wired.{element_makes, makes_of}
use Rattle.pulse_net.specs.Pulses.{Signal}
use Rattle.pulse_sim.specs.Sites.{pulse_at}

module _ {A : Type 0} (absent : A) (at_cell : Cell → ℕ → List A → A) where
  keys-element : (made : Wires A) (element : Element) → keys_of (element_wires absent at_cell made element) ≡ element_makes element
  keys-element made (Clocked cell stage pins out) = refl
  keys-element made (Split from left right) = refl

  -- elements make their wires in order, behind those that are made
  pub keys-elements : (elements : List Element) (made : Wires A) → keys_of (after_elements absent at_cell made elements) ≡ keys_of made ++ flat_map element_makes elements
  keys-elements [] made = sym (append-nil (keys_of made))
  keys-elements (element ∷ elements) made =
      let rest = flat_map element_makes elements in
      keys-elements elements (made ++ element_wires absent at_cell made element)
      ∙ ap (λ k. k ++ rest) (map-append (λ (e : ℕ × A). e.0) made (element_wires absent at_cell made element) ∙ ap (λ k. keys_of made ++ k) (keys-element made element))
      ∙ append_assoc (keys_of made) (element_makes element) rest

keys-inputs : {A : Type 0} (at_input : ℕ → A) (inputs : List (Option ℕ)) (place : ℕ) → keys_of (input_entries at_input place inputs) ≡ flat_map option_to_list inputs
keys-inputs at_input [] place = refl
keys-inputs at_input (None ∷ inputs) place = keys-inputs at_input inputs (place + 1)
keys-inputs at_input (Some wire ∷ inputs) place = ap (λ l. wire ∷ l) (keys-inputs at_input inputs (place + 1))

pub keys-wires : {A : Type 0} (absent : A) (at_input : ℕ → A) (at_cell : Cell → ℕ → List A → A) (net : PulseNet) → keys_of (wires_of absent at_input at_cell net) ≡ makes_of net
keys-wires absent at_input at_cell net =
    keys-elements absent at_cell net.elements (input_entries at_input 0 net.inputs) ∙ ap (λ k. k ++ flat_map element_makes net.elements) (keys-inputs at_input net.inputs 0)

-- what wires do at a tick
abbrev pub doing : ℕ → Wires Signal → List Bool
doing tick wires = map (λ (e : ℕ × Signal). e.1 tick) wires

module _ (tick wire : ℕ) (signal : Signal) (more : List ℕ) where
  -- A wire that is made stands before the end, and there is what it does.
  stands : (wires : Wires Signal) → found wires wire ≡ Some signal → (position_or_len (nat_eq wire) (keys_of wires ++ more) < length (keys_of wires ++ more)) × (get_or (doing tick wires) (position_or_len (nat_eq wire) (keys_of wires ++ more)) false ≡ signal tick)
  stands [] e = absurd (cc)
  stands ((other, its) ∷ wires) e = by (nat_eq wire other) (stands wires) e
    where
      by : (same : Bool) → (found wires wire ≡ Some signal → (position_or_len (nat_eq wire) (keys_of wires ++ more) < length (keys_of wires ++ more)) × (get_or (doing tick wires) (position_or_len (nat_eq wire) (keys_of wires ++ more)) false ≡ signal tick)) → cond same (Some its) (found wires wire) ≡ Some signal →
          (cond (not same) (1 + position_or_len (nat_eq wire) (keys_of wires ++ more)) 0 < length (other ∷ (keys_of wires ++ more))) × (get_or (its tick ∷ doing tick wires) (cond (not same) (1 + position_or_len (nat_eq wire) (keys_of wires ++ more)) 0) false ≡ signal tick)
      by true rest e = let same : its ≡ signal = cc in (omega arith, ap (λ (s : Signal). s tick) same)
      by false rest e =
          let later = rest e in
          let up : 1 + position_or_len (nat_eq wire) (keys_of wires ++ more) ≡ suc (position_or_len (nat_eq wire) (keys_of wires ++ more)) = omega arith in
          (omega (arith, later.0), ap (λ k. get_or (its tick ∷ doing tick wires) k false) up ∙ later.1)

  pub pulse_at-place : (wires : Wires Signal) → found wires wire ≡ Some signal → pulse_at (doing tick wires) (position (nat_eq wire) (keys_of wires ++ more)) ≡ signal tick
  pulse_at-place wires e =
      let there = stands wires e in
      let test : nat_lt (position_or_len (nat_eq wire) (keys_of wires ++ more)) (length (keys_of wires ++ more)) ≡ true = grind (arith, nat_tests, there.0) in
      ap (λ within. pulse_at (doing tick wires) (cond within (Some (position_or_len (nat_eq wire) (keys_of wires ++ more))) None)) test ∙ there.1
