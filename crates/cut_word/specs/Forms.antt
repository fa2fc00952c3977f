-- The forms of a cut's words: what stands for its leaves, of which absent ones are 0, and its table, for each size.
use Rattle.std.specs.Prelude.{ℕ, ◌≡◌, ◌<◌, ◌≤◌, ◌*◌, ◌%◌}
use Rattle.cut_word.specs.declared.cut.TheConstants.{LEAF_LIMIT}

-- one leaf, and two bits four times
abbrev pub AreSingle : ℕ → ℕ → ℕ → ℕ → Type 0
AreSingle one two three table = (0 < one) × (one ≤ LEAF_LIMIT) × (two ≡ 0) × (three ≡ 0) × (table ≡ table % 4 * 0x55)

-- two leaves, and four bits twice
abbrev pub ArePair : ℕ → ℕ → ℕ → ℕ → Type 0
ArePair one two three table = (0 < one) × (one < two) × (two ≤ LEAF_LIMIT) × (three ≡ 0) × (table ≡ table % 16 * 0x11)

-- three leaves, and eight bits
abbrev pub AreTriple : ℕ → ℕ → ℕ → ℕ → Type 0
AreTriple one two three table = (0 < one) × (one < two) × (two < three) × (three ≤ LEAF_LIMIT) × (table ≤ 0xFF)
