-- The tables of an adder: each is one, they are two for each bit, and their targets are the sum.
use Rattle.std.proofs.Common.{◌≡◌, ◌<◌, ◌≤◌, ◌+◌, ◌-◌, ◌*◌, ◌∙◌, ℕ, zero, suc, Bool, true, false, List, [], ◌∷◌, length, map, All, nat_eq, refl, sym, ap, subst, arith, flat_map}
use Rattle.std.specs.List.{range_with_len}
use Rattle.std.specs.Str.{bytes_eq}
use Rattle.std.proofs.lemmas.Bool.{or_left, or_right, eqb-true, eqb-false, eq-eqb, ne_eqb}
use Rattle.std.proofs.lemmas.List.Elements.{All-nil, All-cons, All-map, All-append, All-from_recursion}
use Rattle.net_base.specs.Keys.{is_among}
use Rattle.blif_model.specs.declared.design.Bit.{Bit}
use Rattle.blif_model.specs.declared.design.Bit.TheVariants.{Zero, One, Any}
use Rattle.blif_model.specs.declared.design.Cube.{Cube}
use Rattle.blif_read.specs.Spelling.{IsPlainName}
use Rattle.gen_blif.specs.declared.ripple_carry.TheConstants.{MAX_BITS}
use Rattle.gen_blif.specs.Lines.{name_of}
use Rattle.gen_laws.specs.Named.{NamedTable, IsNamedTable}
use Rattle.gen_laws.specs.RippleCarry.{carry_name, on_table, first_tables, next_tables, adder_design}
use Rattle.gen_laws.proofs.RippleCarryNames.{name-plain}
use Rattle.gen_laws.proofs.RandomNames.{same_name}

-- The carry out of the last bit is the highest bit of the sum, and another is a carry.
pub last-carry : (bits bit : ℕ) → bit + 1 ≡ bits → carry_name bits bit ≡ name_of 115 (bit + 1)
last-carry bits bit last = rw (eq-eqb (bit + 1) bits last) refl

pub inner-carry : (bits bit : ℕ) → bit + 1 < bits → carry_name bits bit ≡ name_of 99 (bit + 1)
inner-carry bits bit inner = rw (ne_eqb (bit + 1) bits (λ same. omega arith)) refl

pub by_carry : (P : List ℕ → Type 0) (bits bit : ℕ) → bit < bits → (bit + 1 ≡ bits → P (name_of 115 (bit + 1))) → (bit + 1 < bits → P (name_of 99 (bit + 1))) → P (carry_name bits bit)
by_carry P bits bit below last inner = by (nat_eq (bit + 1) bits) refl
  where
    by : (b : Bool) → nat_eq (bit + 1) bits ≡ b → P (carry_name bits bit)
    by true e = let same = eqb-true (bit + 1) bits e in subst P (sym (last-carry bits bit same)) (last same)
    by false e = let differ = eqb-false (bit + 1) bits e in let less : bit + 1 < bits = grind (arith, differ) in subst P (sym (inner-carry bits bit less)) (inner less)

on_table-is : (pins : List (List ℕ)) (target : List ℕ) (rows : List (List Bit)) → IsPlainName target → length pins ≤ 3 → All (λ row. length row ≡ length pins) rows → IsNamedTable (on_table pins target rows)
on_table-is pins target rows plain few fit = record {
  target = plain;
  few = omega arith;
  rows = All-map (λ (row : Cube). length row.bits ≡ length pins) (λ (row : List Bit). record { bits = row }) rows fit;
  on = λ none. refl;
}

carry-plain : (bits bit : ℕ) → bit < bits → bits ≤ MAX_BITS → IsPlainName (carry_name bits bit)
carry-plain bits bit below few = by_carry IsPlainName bits bit below (λ last. name-plain 115 (bit + 1) refl (omega arith)) (λ inner. name-plain 99 (bit + 1) refl (omega arith))

pub next_tables-are : (bits count bit : ℕ) → bit + count ≤ bits → bits ≤ MAX_BITS → All IsNamedTable (flat_map (next_tables bits) (range_with_len bit count))
next_tables-are bits zero bit within few = All-nil IsNamedTable
next_tables-are bits (suc count) bit within few =
    let pins = name_of 97 bit ∷ name_of 98 bit ∷ name_of 99 bit ∷ [] in
    let Fits = λ (row : List Bit). length row ≡ 3 in
    let odd : List (List Bit) = (One ∷ Zero ∷ Zero ∷ []) ∷ (Zero ∷ One ∷ Zero ∷ []) ∷ (Zero ∷ Zero ∷ One ∷ []) ∷ (One ∷ One ∷ One ∷ []) ∷ [] in
    let two : List (List Bit) = (One ∷ One ∷ Any ∷ []) ∷ (One ∷ Any ∷ One ∷ []) ∷ (Any ∷ One ∷ One ∷ []) ∷ [] in
    let rest = flat_map (next_tables bits) (range_with_len (bit + 1) count) in
    All-cons IsNamedTable (on_table pins (name_of 115 bit) odd) (on_table pins (carry_name bits bit) two ∷ rest)
    (on_table-is pins (name_of 115 bit) odd (name-plain 115 bit refl (omega arith)) (omega arith) (All-from_recursion Fits odd (refl, (refl, (refl, (refl, tt))))))
    (All-cons IsNamedTable (on_table pins (carry_name bits bit) two) rest
    (on_table-is pins (carry_name bits bit) two (carry-plain bits bit (omega arith) few) (omega arith) (All-from_recursion Fits two (refl, (refl, (refl, tt)))))
    (next_tables-are bits count (bit + 1) (omega arith) few))

first_tables-are : (bits : ℕ) → 1 ≤ bits → bits ≤ MAX_BITS → All IsNamedTable (first_tables bits)
first_tables-are bits some few =
    let pins = name_of 97 0 ∷ name_of 98 0 ∷ [] in
    let Fits = λ (row : List Bit). length row ≡ 2 in
    let one : List (List Bit) = (One ∷ Zero ∷ []) ∷ (Zero ∷ One ∷ []) ∷ [] in
    let both : List (List Bit) = (One ∷ One ∷ []) ∷ [] in
    All-cons IsNamedTable (on_table pins (name_of 115 0) one) (on_table pins (carry_name bits 0) both ∷ [])
    (on_table-is pins (name_of 115 0) one (name-plain 115 0 refl (omega arith)) (omega arith) (All-from_recursion Fits one (refl, (refl, tt))))
    (All-cons IsNamedTable (on_table pins (carry_name bits 0) both) []
    (on_table-is pins (carry_name bits 0) both (carry-plain bits 0 (omega arith) few) (omega arith) (All-from_recursion Fits both (refl, tt)))
    (All-nil IsNamedTable))

pub tables-are : (bits : ℕ) → 1 ≤ bits → bits ≤ MAX_BITS → All IsNamedTable (adder_design bits).tables
tables-are bits some few =
    All-append IsNamedTable (first_tables bits) (flat_map (next_tables bits) (range_with_len 1 (bits - 1))) (first_tables-are bits some few) (next_tables-are bits (bits - 1) 1 (omega arith) few)

pub length-next : (bits count bit : ℕ) → length (flat_map (next_tables bits) (range_with_len bit count)) ≡ 2 * count
length-next bits zero bit = refl
length-next bits (suc count) bit = omega (arith, length-next bits count (bit + 1))

-- the targets of tables
abbrev pub targets : List NamedTable → List (List ℕ)
targets tables = map (λ table. table.target) tables

-- A bit of the sum is the target of its own table, or of a later one, and the highest is the carry out of the last bit.
sum-here : (bits bit number : ℕ) (names : List (List ℕ)) → bit < bits → bit ≤ number → number ≤ bits → (bit + 1 < bits → bit + 1 ≤ number → is_among bytes_eq (name_of 115 number) names ≡ true)
    → is_among bytes_eq (name_of 115 number) (name_of 115 bit ∷ carry_name bits bit ∷ names) ≡ true
sum-here bits bit number names below from within later = by (nat_eq number bit) refl
  where
    behind : (b : Bool) → nat_eq (bit + 1) bits ≡ b → bit + 1 ≤ number → is_among bytes_eq (name_of 115 number) (carry_name bits bit ∷ names) ≡ true
    behind true e above =
        let last = eqb-true (bit + 1) bits e in
        let number-is : number ≡ bit + 1 = omega arith in
        let same : carry_name bits bit ≡ name_of 115 number = last-carry bits bit last ∙ ap (name_of 115) (sym number-is) in
        or_left (bytes_eq (name_of 115 number) (carry_name bits bit)) (is_among bytes_eq (name_of 115 number) names) (ap (bytes_eq (name_of 115 number)) same ∙ same_name (name_of 115 number))
    behind false e above =
        let differ = eqb-false (bit + 1) bits e in
        or_right (bytes_eq (name_of 115 number) (carry_name bits bit)) (is_among bytes_eq (name_of 115 number) names) (later (grind (arith, differ)) above)

    by : (b : Bool) → nat_eq number bit ≡ b → is_among bytes_eq (name_of 115 number) (name_of 115 bit ∷ carry_name bits bit ∷ names) ≡ true
    by true e =
        let same : name_of 115 bit ≡ name_of 115 number = ap (name_of 115) (sym (eqb-true number bit e)) in
        or_left (bytes_eq (name_of 115 number) (name_of 115 bit)) (is_among bytes_eq (name_of 115 number) (carry_name bits bit ∷ names)) (ap (bytes_eq (name_of 115 number)) same ∙ same_name (name_of 115 number))
    by false e =
        let differ = eqb-false number bit e in
        or_right (bytes_eq (name_of 115 number) (name_of 115 bit)) (is_among bytes_eq (name_of 115 number) (carry_name bits bit ∷ names)) (behind (nat_eq (bit + 1) bits) refl (grind (arith, differ)))

next-sum : (bits count bit number : ℕ) → bit + count ≡ bits → bit < bits → bit ≤ number → number ≤ bits → is_among bytes_eq (name_of 115 number) (targets (flat_map (next_tables bits) (range_with_len bit count))) ≡ true
next-sum bits zero bit number whole below from within = absurd (omega arith)
next-sum bits (suc count) bit number whole below from within =
    sum-here bits bit number (targets (flat_map (next_tables bits) (range_with_len (bit + 1) count))) below from within
    (λ inner above. next-sum bits count (bit + 1) number (omega arith) inner above within)

-- Each bit of the sum is the target of a table.
pub sum-driven : (bits number : ℕ) → 1 ≤ bits → number ≤ bits → is_among bytes_eq (name_of 115 number) (targets (adder_design bits).tables) ≡ true
sum-driven bits number some within =
    sum-here bits 0 number (targets (flat_map (next_tables bits) (range_with_len 1 (bits - 1)))) (omega arith) (omega arith) within
    (λ inner above. next-sum bits (bits - 1) 1 number (omega arith) (omega arith) (omega arith) within)
