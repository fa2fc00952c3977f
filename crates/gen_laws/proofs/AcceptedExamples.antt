-- A small design in order with its text, and one that isn't: a false definition fails here.
use Rattle.std.proofs.Common.{◌≡◌, ℕ, true, List, [], ◌∷◌, length, All, codes, refl, sym, arith, true≢false}
use Rattle.std.specs.List.{IsDistinct}
use Rattle.std.specs.Str.{bytes_eq}
use Rattle.std.proofs.lemmas.List.Elements.{All-head, All-nil, All-cons}
use Rattle.std.proofs.lemmas.List.Sums.{AllPass-from_list_all}
use Rattle.net_base.specs.Keys.{is_among}
use Rattle.blif_model.specs.declared.design.Bit.TheVariants.{One}
use Rattle.blif_model.specs.declared.design.Cube.{Cube}
use Rattle.blif_read.specs.Spelling.{is_plain_byte, IsPlainName}
use Rattle.gen_laws.specs.Named.{NamedTable, NamedDesign, named_text, FollowDrivers, IsNamedTable, IsInOrder}

-- a table of two pins that is true where both are
abbrev an_and : List ℕ → List ℕ → List ℕ → NamedTable
an_and first second target = record { pins = first ∷ second ∷ []; target = target; rows = record { bits = One ∷ One ∷ [] } ∷ []; on = true }

-- two of them, the second behind the first, which drives a pin of it
abbrev two_ands : NamedDesign
two_ands = record {
  name = codes "m";
  inputs = codes "a" ∷ codes "b" ∷ [];
  outputs = codes "g" ∷ [];
  tables = an_and (codes "a") (codes "b") (codes "f") ∷ an_and (codes "f") (codes "a") (codes "g") ∷ [];
}

text_of_two_ands : named_text two_ands ≡ codes ".model m\n.inputs a b\n.outputs g\n.names a b f\n11 1\n.names f a g\n11 1\n.end\n"
text_of_two_ands = refl

a_letter : (byte : ℕ) → is_plain_byte byte ≡ true → IsPlainName (byte ∷ [])
a_letter byte plain = record { some = omega arith; short = omega arith; plain = AllPass-from_list_all is_plain_byte (byte ∷ []) (rw plain refl) }

an_and-IsNamedTable : (first second target : List ℕ) → IsPlainName target → IsNamedTable (an_and first second target)
an_and-IsNamedTable first second target plain =
    let Row = λ (row : Cube). length row.bits ≡ 2 in
    record { target = plain; few = omega arith; rows = All-cons Row (record { bits = One ∷ One ∷ [] }) [] refl (All-nil Row); on = λ none. refl }

-- The pins of a table are driven.
two_driven : (driven : List (List ℕ)) (first second : List ℕ) → is_among bytes_eq first driven ≡ true → is_among bytes_eq second driven ≡ true
    → All (λ (pin : List ℕ). is_among bytes_eq pin driven ≡ true) (first ∷ second ∷ [])
two_driven driven first second one other =
    let Driven = λ (pin : List ℕ). is_among bytes_eq pin driven ≡ true in
    All-cons Driven first (second ∷ []) one (All-cons Driven second [] other (All-nil Driven))

two_ands-IsInOrder : IsInOrder two_ands
unfolding IsDistinct
two_ands-IsInOrder =
    let Driven = λ (pin : List ℕ). is_among bytes_eq pin (codes "a" ∷ codes "b" ∷ codes "f" ∷ codes "g" ∷ []) ≡ true in
    let first = an_and (codes "a") (codes "b") (codes "f") in
    let second = an_and (codes "f") (codes "a") (codes "g") in
    record {
      name = a_letter 109 refl;
      inputs = All-cons IsPlainName (codes "a") (codes "b" ∷ []) (a_letter 97 refl) (All-cons IsPlainName (codes "b") [] (a_letter 98 refl) (All-nil IsPlainName));
      distinct_inputs = ((refl, tt), (tt, tt));
      few_inputs = omega arith;
      distinct_outputs = (tt, tt);
      few_outputs = omega arith;
      driven_outputs = All-cons Driven (codes "g") [] refl (All-nil Driven);
      tables =
          All-cons IsNamedTable first (second ∷ []) (an_and-IsNamedTable (codes "a") (codes "b") (codes "f") (a_letter 102 refl))
          (All-cons IsNamedTable second [] (an_and-IsNamedTable (codes "f") (codes "a") (codes "g") (a_letter 103 refl)) (All-nil IsNamedTable));
      few_tables = omega arith;
      order = (
        two_driven (codes "a" ∷ codes "b" ∷ []) (codes "a") (codes "b") refl refl,
        refl,
        (two_driven (codes "a" ∷ codes "b" ∷ codes "f" ∷ []) (codes "f") (codes "a") refl refl, refl, tt),
      );
    }

-- The second of them in front doesn't follow what drives it.
not_in_order : FollowDrivers (codes "a" ∷ codes "b" ∷ []) (an_and (codes "f") (codes "a") (codes "g") ∷ an_and (codes "a") (codes "b") (codes "f") ∷ []) → ⊥
not_in_order follow =
    let Driven = λ (pin : List ℕ). is_among bytes_eq pin (codes "a" ∷ codes "b" ∷ []) ≡ true in
    true≢false (sym (All-head Driven (codes "f") (codes "a" ∷ []) follow.0))
