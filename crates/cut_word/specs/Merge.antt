-- The merge of two cuts: all leaves of both, and the conjunction of their values.
use Rattle.std.specs.Prelude.{ℕ, ◌/◌, ◌==◌, ◌&&◌, nat_lt, nat_le, Bool, false, cond, List, [], ◌∷◌, length, Option, Some, None}
use Rattle.cut_word.specs.Table.{is_set, table_of}
use Rattle.cut_word.specs.Cut.{CutView, value_over}

-- ascending leaves and one more, which is put in its place where it isn't there
abbrev pub with_leaf : ℕ → List ℕ → List ℕ
with_leaf leaf [] = leaf ∷ []
with_leaf leaf (next ∷ leaves) =
    cond (nat_lt leaf next) (leaf ∷ next ∷ leaves) (cond (leaf == next) (next ∷ leaves) (next ∷ with_leaf leaf leaves))

-- the leaves of both lists, ascending, each once
abbrev pub united : List ℕ → List ℕ → List ℕ
united [] others = others
united (leaf ∷ leaves) others = with_leaf leaf (united leaves others)

-- the values that a table's place gives its leaves: the first one has its lowest bit
abbrev pub values_at : List ℕ → ℕ → ℕ → Bool
values_at [] place id = false
values_at (leaf ∷ leaves) place id = cond (id == leaf) (is_set place 0) (values_at leaves (place / 2) id)

-- the cut over these leaves that is true where both cuts are
unfoldable pub both_over : List ℕ → CutView → CutView → CutView
both_over leaves a b = record {
  leaves = leaves;
  table = table_of (λ place. value_over (values_at leaves place) a && value_over (values_at leaves place) b);
}

-- the merge of two cuts; there is none where the union has more than three leaves
unfoldable pub merged : CutView → CutView → Option CutView
merged a b = cond (nat_le (length (united a.leaves b.leaves)) 3) (Some (both_over (united a.leaves b.leaves) a b)) None
