-- Ripple-carry adders: two numbers `a` and `b`, their sum `s`, and a carry `c` into each bit but the lowest.
use Rattle.std.specs.Prelude.{ℕ, ◌+◌, ◌-◌, ◌==◌, zero, suc, List, [], ◌∷◌, ◌++◌, codes, if◌then◌else◌}
use Rattle.gen_blif.specs.declared.lines.Signal.{Signal}
use Rattle.gen_blif.specs.Lines.{fields, names_line}

-- a bit of one of the numbers
abbrev pub bit_of : ℕ → ℕ → Signal
bit_of letter bit = record { letter = letter; number = bit }

-- the carry out of a bit, which of the last one is the highest bit of the sum
abbrev pub carry : ℕ → ℕ → Signal
carry bits bit = record { letter = (if bit + 1 == bits then 115 else 99); number = bit + 1 }

-- the lowest bit: the sum is one of two, the carry both
unfoldable pub first_bit : ℕ → List ℕ
first_bit bits =
    names_line (bit_of 97 0 ∷ bit_of 98 0 ∷ bit_of 115 0 ∷ []) ++ codes "10 1\n01 1\n"
    ++ names_line (bit_of 97 0 ∷ bit_of 98 0 ∷ carry bits 0 ∷ []) ++ codes "11 1\n"

-- another bit: the sum is an odd number of three, the carry two of them at least
unfoldable pub next_bit : ℕ → ℕ → List ℕ
next_bit bits bit =
    names_line (bit_of 97 bit ∷ bit_of 98 bit ∷ bit_of 99 bit ∷ bit_of 115 bit ∷ []) ++ codes "100 1\n010 1\n001 1\n111 1\n"
    ++ names_line (bit_of 97 bit ∷ bit_of 98 bit ∷ bit_of 99 bit ∷ carry bits bit ∷ []) ++ codes "11- 1\n1-1 1\n-11 1\n"

-- so many bits from one on, which isn't the lowest
unfoldable pub next_bits : ℕ → ℕ → ℕ → List ℕ
next_bits bits zero bit = []
next_bits bits (suc count) bit = next_bit bits bit ++ next_bits bits count (bit + 1)

-- all bits, the lowest first
abbrev pub bit_texts : ℕ → List ℕ
bit_texts bits = first_bit bits ++ next_bits bits (bits - 1) 1

-- the model, both numbers, and their sum, which has one bit more
unfoldable pub header : ℕ → List ℕ
header bits =
    codes ".model adder\n.inputs" ++ fields 97 0 bits ++ fields 98 0 bits
    ++ codes "\n.outputs" ++ fields 115 0 (bits + 1) ++ codes "\n"

-- the text of an adder of so many bits
unfoldable pub adder_text : ℕ → List ℕ
adder_text bits = header bits ++ bit_texts bits ++ codes ".end\n"
