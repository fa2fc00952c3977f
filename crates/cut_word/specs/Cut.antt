-- A cut as contracts see it: its leaves and its truth table over them; and when it is right.
use Rattle.std.specs.Prelude.{ℕ, ◌≡◌, ◌-◌, ◌<◌, ◌≤◌, ◌^◌, ◌%◌, ◌==◌, Bool, List, [], ◌∷◌, length, map, All}
use Rattle.std.specs.List.{list_any, list_all}
use Rattle.std.specs.List.Sorted.{IsStrictlyIncreasing}
use Rattle.cut_word.specs.declared.cut.TheConstants.{LEAF_LIMIT}
use Rattle.cut_word.specs.Table.{is_set, value_at}

-- a cut: the ids of its leaves, and the number whose eight bits are its truth table
pub record CutView : Type 0 where
  pub leaves : List ℕ
  pub table : ℕ

-- Leaves are 1 to 3 ids, ascending, each below the limit. The table has eight bits and doesn't depend on absent leaves: its
-- bit at a place is that at the lowest bits of the place, of which there is one for each leaf.
pub record IsCut (cut : CutView) : Type 0 where
  pub some : 1 ≤ length cut.leaves
  pub few : length cut.leaves ≤ 3
  pub ascending : IsStrictlyIncreasing cut.leaves
  pub low : All (λ leaf. leaf < LEAF_LIMIT) cut.leaves
  pub byte : cut.table < 2 ^ 8
  pub steady : (place : ℕ) → place < 8 → is_set cut.table place ≡ is_set cut.table (place % 2 ^ length cut.leaves)

-- the value of a cut where each id has a value: its table's at the values of its leaves
abbrev pub value_over : (ℕ → Bool) → CutView → Bool
value_over values cut = value_at cut.table (map values cut.leaves)

-- A cut is right for a function of input rows where over every row, which gives each id a value, the cut's value is the
-- function's.
abbrev pub IsRight : (List Bool → ℕ → Bool) → (List Bool → Bool) → CutView → Type 0
IsRight values wanted cut = (row : List Bool) → value_over (values row) cut ≡ wanted row

-- the cut of an id whose value is the id's own
abbrev pub trivial_cut : ℕ → CutView
trivial_cut leaf = record { leaves = leaf ∷ []; table = 0xAA }

-- the cut of the same leaves with the complement of the table
abbrev pub negated : CutView → CutView
negated cut = record { leaves = cut.leaves; table = 0xFF - cut.table }

-- an id is one of these leaves
abbrev pub has_leaf : List ℕ → ℕ → Bool
has_leaf leaves id = list_any (λ leaf. leaf == id) leaves

-- each of the other leaves is one of these
abbrev pub has_all : List ℕ → List ℕ → Bool
has_all leaves others = list_all (has_leaf leaves) others
