-- The steps of a merge: leaves that are left, packed in a word, and which leaves of the union a cut has.
use Rattle.std.specs.Prelude.{ℕ, ◌≡◌, ◌<◌, ◌*◌, ◌/◌, ◌%◌, ◌^◌, ◌==◌, ◌++◌, Bool, true, false, nat_lt, cond, List, []}
use Rattle.cut_word.specs.declared.merging.Had.{Had}
use Rattle.cut_word.specs.declared.merging.Union.{Union}
use Rattle.cut_word.specs.Word.{leaf_of}
use Rattle.cut_word.specs.Merge.{united}

-- what stands for the leaf in front, 0 where none is left
abbrev pub front_of : ℕ → ℕ
front_of word = word / 2 ^ 40

-- the lesser of two fronts, of which 0 is none
abbrev pub least_front : ℕ → ℕ → ℕ
least_front x y = cond (x == 0) y (cond (y == 0) x (cond (nat_lt y x) y x))

-- the leaves behind this one, where it is in front
abbrev pub behind : ℕ → ℕ → ℕ
behind word leaf = cond (front_of word == leaf) (word % 2 ^ 40 * 2 ^ 20) word

-- the leaves or values that are there
abbrev pub where_had : {X : Type 0} → Bool → List X → List X
where_had true items = items
where_had false items = []

-- Leaves are those of a union's three that a cut has. Whether it has the third one doesn't show in how its table is widened.
abbrev pub IsPart : List ℕ → ℕ → ℕ → ℕ → Had → Type 0
IsPart leaves one two three had =
    (has_three : Bool)
    × (leaves ≡ where_had had.one (leaf_of one) ++ (where_had had.two (leaf_of two) ++ where_had has_three (leaf_of three)))

-- what is found of two cuts' leaves
pub record IsUnion (xs ys : List ℕ) (union : Union) : Type 0 where
  pub leaves : united xs ys ≡ leaf_of union.one ++ (leaf_of union.two ++ leaf_of union.three)
  pub some : 0 < union.one
  pub order : union.two ≡ 0 → union.three ≡ 0
  pub one_fits : union.one < 2 ^ 20
  pub two_fits : union.two < 2 ^ 20
  pub three_fits : union.three < 2 ^ 20
  pub first : IsPart xs union.one union.two union.three union.a
  pub second : IsPart ys union.one union.two union.three union.b
