-- Ripple-carry adders by their names, and that their texts are accepted.
use Rattle.std.specs.Prelude.{ℕ, ◌≤◌, ◌+◌, ◌-◌, true, List, [], ◌∷◌, ◌++◌, map, codes}
use Rattle.std.specs.List.{flat_map, range_with_len}
use Rattle.blif_model.specs.declared.design.Bit.{Bit}
use Rattle.blif_model.specs.declared.design.Bit.TheVariants.{Zero, One, Any}
use Rattle.gen_blif.specs.declared.ripple_carry.TheConstants.{MAX_BITS}
use Rattle.gen_blif.specs.Lines.{name_of}
use Rattle.gen_blif.specs.RippleCarry.{carry, adder_text}
use Rattle.gen_laws.specs.Named.{NamedTable, NamedDesign, IsAccepted}

-- the names of a number's bits, so many from one on
abbrev pub bit_names : ℕ → ℕ → ℕ → List (List ℕ)
bit_names letter first count = map (name_of letter) (range_with_len first count)

-- the name of the carry out of a bit, which of the last one is the highest bit of the sum
abbrev pub carry_name : ℕ → ℕ → List ℕ
carry_name bits bit = name_of (carry bits bit).letter (bit + 1)

-- a table that is on where a row fits
abbrev pub on_table : List (List ℕ) → List ℕ → List (List Bit) → NamedTable
on_table pins target rows = record { pins = pins; target = target; rows = map (λ row. record { bits = row }) rows; on = true }

-- the lowest bit: the sum is one of two, the carry both
abbrev pub first_tables : ℕ → List NamedTable
first_tables bits =
    let pins = name_of 97 0 ∷ name_of 98 0 ∷ [] in
    on_table pins (name_of 115 0) ((One ∷ Zero ∷ []) ∷ (Zero ∷ One ∷ []) ∷ [])
    ∷ on_table pins (carry_name bits 0) ((One ∷ One ∷ []) ∷ [])
    ∷ []

-- another bit: the sum is an odd number of three, the carry two of them at least
abbrev pub next_tables : ℕ → ℕ → List NamedTable
next_tables bits bit =
    let pins = name_of 97 bit ∷ name_of 98 bit ∷ name_of 99 bit ∷ [] in
    on_table pins (name_of 115 bit) ((One ∷ Zero ∷ Zero ∷ []) ∷ (Zero ∷ One ∷ Zero ∷ []) ∷ (Zero ∷ Zero ∷ One ∷ []) ∷ (One ∷ One ∷ One ∷ []) ∷ [])
    ∷ on_table pins (carry_name bits bit) ((One ∷ One ∷ Any ∷ []) ∷ (One ∷ Any ∷ One ∷ []) ∷ (Any ∷ One ∷ One ∷ []) ∷ [])
    ∷ []

-- the adder of two numbers `a` and `b` of so many bits: their sum `s` has one bit more
abbrev pub adder_design : ℕ → NamedDesign
adder_design bits = record {
  name = codes "adder";
  inputs = bit_names 97 0 bits ++ bit_names 98 0 bits;
  outputs = bit_names 115 0 (bits + 1);
  tables = first_tables bits ++ flat_map (next_tables bits) (range_with_len 1 (bits - 1));
}

-- The text of an adder is accepted.
abbrev pub AddersAreAccepted : Type 0
AddersAreAccepted = (bits : ℕ) → 1 ≤ bits → bits ≤ MAX_BITS → IsAccepted (adder_text bits)
