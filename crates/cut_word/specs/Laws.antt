-- The laws on cuts.
use Rattle.std.specs.Prelude.{ℕ, ◌≡◌, ◌<◌, ◌&&◌, ◌↔◌, ◌⊎◌, Bool, not, List, Contains, Some}
use Rattle.std.specs.List.Sorted.{IsStrictlyIncreasing}
use Rattle.cut_word.specs.declared.cut.TheConstants.{LEAF_LIMIT}
use Rattle.cut_word.specs.Cut.{CutView, IsCut, IsRight, value_over, trivial_cut, negated}
use Rattle.cut_word.specs.Word.{first_word}
use Rattle.cut_word.specs.Merge.{united, merged}

-- The union is ascending and has just the leaves that one of both has.
abbrev pub UnionHasBoth : Type 0
UnionHasBoth =
    (xs ys : List ℕ) → IsStrictlyIncreasing xs → IsStrictlyIncreasing ys
    → IsStrictlyIncreasing (united xs ys) × ((leaf : ℕ) → Contains (united xs ys) leaf ↔ (Contains xs leaf ⊎ Contains ys leaf))

-- A cut is its leaves and its values: where two cuts have the same leaves and, whatever the values of the ids, the same value,
-- they are one.
abbrev pub CutsAreTheirValues : Type 0
CutsAreTheirValues =
    (a b : CutView) → IsCut a → IsCut b → a.leaves ≡ b.leaves → ((values : ℕ → Bool) → value_over values a ≡ value_over values b) → a ≡ b

-- Two cuts of the same words are one.
abbrev pub WordsTellCuts : Type 0
WordsTellCuts =
    (a b : CutView) → IsCut a → IsCut b → first_word a.leaves ≡ first_word b.leaves → a.table ≡ b.table → a ≡ b

-- Where two cuts are right for two functions, their merge is a cut that is right for the conjunction.
abbrev pub MergeIsRight : Type 0
MergeIsRight =
    (values : List Bool → ℕ → Bool) (f g : List Bool → Bool) (a b cut : CutView) → IsCut a → IsCut b → merged a b ≡ Some cut
    → IsRight values f a → IsRight values g b → IsCut cut × IsRight values (λ row. f row && g row) cut

-- Where a cut is right for a function, its negation is a cut that is right for the complement.
abbrev pub NegationIsRight : Type 0
NegationIsRight =
    (values : List Bool → ℕ → Bool) (f : List Bool → Bool) (cut : CutView) → IsCut cut → IsRight values f cut
    → IsCut (negated cut) × IsRight values (λ row. not (f row)) (negated cut)

-- The trivial cut of an id is right for the id's own value.
abbrev pub TrivialCutIsRight : Type 0
TrivialCutIsRight =
    (values : List Bool → ℕ → Bool) (leaf : ℕ) → leaf < LEAF_LIMIT
    → IsCut (trivial_cut leaf) × IsRight values (λ row. values row leaf) (trivial_cut leaf)
