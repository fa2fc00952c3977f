-- The tables of an adder stand behind those that drive their pins, so its text is accepted.
--
-- Before the tables of a bit, both numbers are driven, and so is the carry into the bit; no sum of this bit or of a higher one
-- is, and no carry into a higher one. Both tables of the bit drive its sum and the carry out of it, so the same is true one bit
-- further. The carry out of the last bit is the highest bit of the sum, behind which no table stands.
use Rattle.std.proofs.Common.{◌≡◌, ◌<◌, ◌≤◌, ◌+◌, ◌-◌, ◌++◌, ◌^◌, ◌∙◌, ℕ, zero, suc, true, false, List, [], ◌∷◌, refl, sym, subst, arith, flat_map, append-nil, codes}
use Rattle.std.specs.List.{range_with_len, IsDistinct}
use Rattle.std.specs.Str.{bytes_eq}
use Rattle.std.specs.Fmt.{decimal}
use Rattle.std.proofs.lemmas.Bool.{or_left, or_right, or_from}
use Rattle.std.proofs.lemmas.List.{length-append}
use Rattle.std.proofs.lemmas.List.Elements.{All-append, All-from_recursion}
use Rattle.std.proofs.lemmas.List.Folds.{list_any-append}
use Rattle.std.proofs.lemmas.List.Sums.{AllPass-from_list_all}
use Rattle.net_base.specs.Keys.{is_among}
use Rattle.blif_model.specs.Names.{AreDistinctNames}
use Rattle.blif_read.specs.Spelling.{is_plain_byte, IsPlainName}
use Rattle.gen_blif.specs.declared.ripple_carry.TheConstants.{MAX_BITS}
use Rattle.gen_blif.specs.Lines.{name_of}
use Rattle.gen_laws.specs.Named.{FollowDrivers, IsInOrder, IsAccepted, DesignsInOrderAreAccepted}
use Rattle.gen_laws.specs.RippleCarry.{bit_names, carry_name, next_tables, adder_design, AddersAreAccepted}
use Rattle.gen_laws.proofs.RippleCarryNames.{name-plain, names-all, length-names, numbers-differ, letter-absent, number-among, names-distinct}
use Rattle.gen_laws.proofs.RippleCarryTables.{inner-carry, by_carry, tables-are, length-next, targets, sum-driven}
use Rattle.gen_laws.proofs.RippleCarryTexts.{adder-text}
use Rattle.gen_laws.proofs.RandomNames.{same_name}

-- whether a signal is driven
abbrev driven_by : List (List ℕ) → List ℕ → Type 0
driven_by driven name = is_among bytes_eq name driven ≡ true

abbrev free_of : List (List ℕ) → List ℕ → Type 0
free_of driven name = is_among bytes_eq name driven ≡ false

driven-more : (driven : List (List ℕ)) (name other : List ℕ) → driven_by driven name → driven_by (driven ++ other ∷ []) name
driven-more driven name other is =
    list_any-append (bytes_eq name) driven (other ∷ []) ∙ or_left (is_among bytes_eq name driven) (is_among bytes_eq name (other ∷ [])) is

driven-last : (driven : List (List ℕ)) (name : List ℕ) → driven_by (driven ++ name ∷ []) name
driven-last driven name =
    list_any-append (bytes_eq name) driven (name ∷ [])
    ∙ or_right (is_among bytes_eq name driven) (is_among bytes_eq name (name ∷ [])) (or_left (bytes_eq name name) false (same_name name))

free-more : (driven : List (List ℕ)) (name other : List ℕ) → free_of driven name → bytes_eq name other ≡ false → free_of (driven ++ other ∷ []) name
free-more driven name other free differ =
    list_any-append (bytes_eq name) driven (other ∷ [])
    ∙ or_from (is_among bytes_eq name driven) (is_among bytes_eq name (other ∷ [])) free (or_from (bytes_eq name other) false differ refl)

-- what is driven before the tables of a bit
record IsBefore (bits bit : ℕ) (driven : List (List ℕ)) : Type 0 where
  a : (number : ℕ) → number < bits → driven_by driven (name_of 97 number)
  b : (number : ℕ) → number < bits → driven_by driven (name_of 98 number)
  sum : (number : ℕ) → bit ≤ number → number ≤ bits → free_of driven (name_of 115 number)
  carry : (number : ℕ) → bit < number → number ≤ bits → free_of driven (name_of 99 number)

-- behind the first table of a bit, and behind both
abbrev behind_sum : ℕ → List (List ℕ) → List (List ℕ)
behind_sum bit driven = driven ++ name_of 115 bit ∷ []

abbrev behind : ℕ → ℕ → List (List ℕ) → List (List ℕ)
behind bits bit driven = behind_sum bit driven ++ carry_name bits bit ∷ []

module _ (bits : ℕ) (few : bits ≤ MAX_BITS) where
  carry-free : (bit : ℕ) (driven : List (List ℕ)) → bit < bits → IsBefore bits bit driven → free_of (behind_sum bit driven) (carry_name bits bit)
  carry-free bit driven below before =
      by_carry (free_of (behind_sum bit driven)) bits bit below
      (λ last. free-more driven (name_of 115 (bit + 1)) (name_of 115 bit) (before.sum (bit + 1) (omega arith) (omega arith)) (numbers-differ 115 (bit + 1) bit (omega arith) (omega arith) (λ same. omega arith)))
      (λ inner. free-more driven (name_of 99 (bit + 1)) (name_of 115 bit) (before.carry (bit + 1) (omega arith) (omega arith)) refl)

  one_further : (bit : ℕ) (driven : List (List ℕ)) → bit + 1 < bits → IsBefore bits bit driven → IsBefore bits (bit + 1) (behind_sum bit driven ++ name_of 99 (bit + 1) ∷ [])
  one_further bit driven inner before =
      let next = name_of 99 (bit + 1) in
      let more = λ (name : List ℕ) (is : driven_by driven name). driven-more (behind_sum bit driven) name next (driven-more driven name (name_of 115 bit) is) in
      record {
        a = λ number below. more (name_of 97 number) (before.a number below);
        b = λ number below. more (name_of 98 number) (before.b number below);
        sum = λ number from within.
            free-more (behind_sum bit driven) (name_of 115 number) next
            (free-more driven (name_of 115 number) (name_of 115 bit) (before.sum number (omega arith) within) (numbers-differ 115 number bit (omega arith) (omega arith) (λ same. omega arith)))
            refl;
        carry = λ number from within.
            free-more (behind_sum bit driven) (name_of 99 number) next
            (free-more driven (name_of 99 number) (name_of 115 bit) (before.carry number (omega arith) within) refl)
            (numbers-differ 99 number (bit + 1) (omega arith) (omega arith) (λ same. omega arith));
      }

  further : (bit : ℕ) (driven : List (List ℕ)) → bit + 1 < bits → IsBefore bits bit driven → IsBefore bits (bit + 1) (behind bits bit driven) × driven_by (behind bits bit driven) (name_of 99 (bit + 1))
  further bit driven inner before =
      subst (λ name. IsBefore bits (bit + 1) (behind_sum bit driven ++ name ∷ []) × driven_by (behind_sum bit driven ++ name ∷ []) (name_of 99 (bit + 1)))
      (sym (inner-carry bits bit inner))
      (one_further bit driven inner before, driven-last (behind_sum bit driven) (name_of 99 (bit + 1)))

  next-follow : (count bit : ℕ) (driven : List (List ℕ)) → bit + count ≡ bits → (bit < bits → IsBefore bits bit driven × driven_by driven (name_of 99 bit)) → FollowDrivers driven (flat_map (next_tables bits) (range_with_len bit count))
  next-follow zero bit driven whole before = tt
  next-follow (suc count) bit driven whole before =
      let below : bit < bits = omega arith in
      let is : IsBefore bits bit driven = (before below).0 in
      let carry : driven_by driven (name_of 99 bit) = (before below).1 in
      let sum = name_of 115 bit in
      let pins : List (List ℕ) = name_of 97 bit ∷ name_of 98 bit ∷ name_of 99 bit ∷ [] in
      let more = λ (name : List ℕ) (is : driven_by driven name). driven-more driven name sum is in (
        All-from_recursion (driven_by driven) pins (is.a bit below, (is.b bit below, (carry, tt))),
        is.sum bit (omega arith) (omega arith),
        (
          All-from_recursion (driven_by (behind_sum bit driven)) pins (more (name_of 97 bit) (is.a bit below), (more (name_of 98 bit) (is.b bit below), (more (name_of 99 bit) carry, tt))),
          carry-free bit driven below is,
          next-follow count (bit + 1) (behind bits bit driven) (omega arith) (λ inner. further bit driven inner is),
        ),
      )

  first-follow : (driven : List (List ℕ)) → 1 ≤ bits → IsBefore bits 0 driven → FollowDrivers driven (adder_design bits).tables
  first-follow driven some is =
      let below : 0 < bits = omega arith in
      let sum = name_of 115 0 in
      let pins : List (List ℕ) = name_of 97 0 ∷ name_of 98 0 ∷ [] in
      let more = λ (name : List ℕ) (is : driven_by driven name). driven-more driven name sum is in (
        All-from_recursion (driven_by driven) pins (is.a 0 below, (is.b 0 below, tt)),
        is.sum 0 (omega arith) (omega arith),
        (
          All-from_recursion (driven_by (behind_sum 0 driven)) pins (more (name_of 97 0) (is.a 0 below), (more (name_of 98 0) (is.b 0 below), tt)),
          carry-free 0 driven below is,
          next-follow (bits - 1) 1 (behind bits 0 driven) (omega arith) (λ inner. further 0 driven (omega arith) is),
        ),
      )

  abbrev inputs : List (List ℕ)
  inputs = (adder_design bits).inputs

  -- At first, the inputs are driven.
  inputs-before : IsBefore bits 0 inputs
  inputs-before =
      let a_names = bit_names 97 0 bits in
      let b_names = bit_names 98 0 bits in
      let absent = λ (name : List ℕ) (first : free_of a_names name) (second : free_of b_names name). list_any-append (bytes_eq name) a_names b_names ∙ or_from (is_among bytes_eq name a_names) (is_among bytes_eq name b_names) first second in
      record {
        a = λ number below.
            list_any-append (bytes_eq (name_of 97 number)) a_names b_names
            ∙ or_left (is_among bytes_eq (name_of 97 number) a_names) (is_among bytes_eq (name_of 97 number) b_names) (number-among 97 number 0 bits (omega arith) (omega arith));
        b = λ number below.
            list_any-append (bytes_eq (name_of 98 number)) a_names b_names
            ∙ or_right (is_among bytes_eq (name_of 98 number) a_names) (is_among bytes_eq (name_of 98 number) b_names) (number-among 98 number 0 bits (omega arith) (omega arith));
        sum = λ number from within. absent (name_of 115 number) (letter-absent 115 97 refl (decimal number) 0 bits) (letter-absent 115 98 refl (decimal number) 0 bits);
        carry = λ number from within. absent (name_of 99 number) (letter-absent 99 97 refl (decimal number) 0 bits) (letter-absent 99 98 refl (decimal number) 0 bits);
      }

  none-distinct : AreDistinctNames []
  unfolding IsDistinct
  none-distinct = tt

  letter-distinct : (letter count : ℕ) → count ≤ 10 ^ 5 → AreDistinctNames (bit_names letter 0 count)
  letter-distinct letter count small = subst (λ names. AreDistinctNames names) (append-nil (bit_names letter 0 count)) (names-distinct letter 0 count [] (omega arith) (λ digits. refl) none-distinct)

  adder-IsInOrder : 1 ≤ bits → IsInOrder (adder_design bits)
  adder-IsInOrder some =
      let a_names = bit_names 97 0 bits in
      let b_names = bit_names 98 0 bits in
      let tables = (adder_design bits).tables in
      let all_plain = λ (letter count : ℕ) (plain : is_plain_byte letter ≡ true) (small : count ≤ 10 ^ 5). names-all IsPlainName letter 0 count (λ number from below. name-plain letter number plain (omega arith)) in
      record {
        name = record { some = omega arith; short = omega arith; plain = AllPass-from_list_all is_plain_byte (codes "adder") refl };
        inputs = All-append IsPlainName a_names b_names (all_plain 97 bits refl (omega arith)) (all_plain 98 bits refl (omega arith));
        distinct_inputs = names-distinct 97 0 bits b_names (omega arith) (λ digits. letter-absent 97 98 refl digits 0 bits) (letter-distinct 98 bits (omega arith));
        few_inputs = omega (arith, length-append a_names b_names, length-names 97 0 bits, length-names 98 0 bits);
        distinct_outputs = letter-distinct 115 (bits + 1) (omega arith);
        few_outputs = omega (arith, length-names 115 0 (bits + 1));
        driven_outputs =
            names-all (driven_by (inputs ++ targets tables)) 115 0 (bits + 1)
            (λ number from below.
            list_any-append (bytes_eq (name_of 115 number)) inputs (targets tables)
            ∙ or_right (is_among bytes_eq (name_of 115 number) inputs) (is_among bytes_eq (name_of 115 number) (targets tables)) (sum-driven bits number some (omega arith)));
        tables = tables-are bits some few;
        few_tables = omega (arith, length-next bits (bits - 1) 1);
        order = first-follow inputs some inputs-before;
      }

pub adders_are_accepted : DesignsInOrderAreAccepted → AddersAreAccepted
adders_are_accepted accepted bits some few = subst IsAccepted (sym (adder-text bits)) (accepted (adder_design bits) (adder-IsInOrder bits few some))
