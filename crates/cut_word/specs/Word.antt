-- The two words of a cut.
use Rattle.std.specs.Prelude.{ℕ, suc, zero, ◌≡◌, ◌+◌, ◌*◌, ◌/◌, ◌%◌, ◌^◌, List, [], ◌∷◌, ◌++◌, length, map, take, slice_index_or}
use Rattle.cut_word.specs.Cut.{CutView, IsCut}

-- what stands for the leaf at a place, from 0: the leaf plus 1, or 0 where there is none
abbrev pub field_at : List ℕ → ℕ → ℕ
field_at leaves place = slice_index_or (map suc leaves) place 0

-- the three leaves in a word
unfoldable pub packed : List ℕ → ℕ
packed leaves = field_at leaves 0 * 2 ^ 40 + field_at leaves 1 * 2 ^ 20 + field_at leaves 2

-- the first word: the size, then the three leaves
unfoldable pub first_word : List ℕ → ℕ
first_word leaves = length leaves * 2 ^ 62 + packed leaves

-- a pair of words is a cut's: some cut has them
abbrev pub IsWords : ℕ → ℕ → Type 0
IsWords first second = (cut : CutView) × IsCut cut × (first_word cut.leaves ≡ first) × (cut.table ≡ second)

-- the leaf that a number stands for, if it does
abbrev pub leaf_of : ℕ → List ℕ
leaf_of zero = []
leaf_of (suc leaf) = leaf ∷ []

-- the leaves that a first word has
unfoldable pub leaves_in : ℕ → List ℕ
leaves_in word = leaf_of (word / 2 ^ 40 % 2 ^ 20) ++ leaf_of (word / 2 ^ 20 % 2 ^ 20) ++ leaf_of (word % 2 ^ 20)

-- the cut that two words have
abbrev pub cut_of : ℕ → ℕ → CutView
cut_of first second = record { leaves = leaves_in first; table = second }

-- two words are those of the cut that they have
pub record AreOfCut (first second : ℕ) : Type 0 where
  pub cut : IsCut (cut_of first second)
  pub whole : first_word (leaves_in first) ≡ first

-- three ids, of which absent ones are 0
abbrev pub padded : List ℕ → List ℕ
padded leaves = take 3 (leaves ++ 0 ∷ 0 ∷ 0 ∷ [])
