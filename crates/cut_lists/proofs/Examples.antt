-- Worked cases, computed from the definitions.
use Rattle.std.proofs.Common.{◌≡◌, ℕ, List, [], ◌∷◌, map, refl}
use Rattle.net_base.specs.declared.graph.GNode.TheVariants.{Inp, Neg, Both}
use Rattle.net_base.specs.declared.graph.Graph.{Graph}
use Rattle.cut_word.specs.Table.{table_of}
use Rattle.cut_word.specs.Cut.{CutView, trivial_cut}
use Rattle.cut_word.specs.Word.{first_word, packed}
use Rattle.cut_word.specs.Merge.{both_over, merged}
use Rattle.cut_lists.specs.CutList.{ascending, kept, list_with, list_from}
use Rattle.cut_lists.specs.Rows.{node_words, all_words, row_with}

-- two inputs, the complement of the second, and the conjunction of the first with it
graph : Graph
graph = record { inputs = 2; nodes = Inp 0 ∷ Inp 1 ∷ Neg 1 ∷ Both 0 2 ∷ [] }

lists : all_words graph
    ≡ (0x4000010000000000 ∷ 0xAA ∷ [])
    ∷ (0x4000020000000000 ∷ 0xAA ∷ [])
    ∷ (0x4000030000000000 ∷ 0xAA ∷ 0x4000020000000000 ∷ 0x55 ∷ [])
    ∷ (0x4000040000000000 ∷ 0xAA ∷ 0x8000010000300000 ∷ 0x88 ∷ 0x8000010000200000 ∷ 0x22 ∷ []) ∷ []
unfolding graph list_from first_word packed merged both_over table_of
lists = refl

list-last : node_words graph 3 ≡ 0x4000040000000000 ∷ 0xAA ∷ 0x8000010000300000 ∷ 0x88 ∷ 0x8000010000200000 ∷ 0x22 ∷ []
unfolding graph list_from first_word packed merged both_over table_of
list-last = refl

-- a cut of these leaves and this table
cut_over : List ℕ → ℕ → CutView
cut_over leaves table = record { leaves = leaves; table = table }

-- Fewer leaves come first; then the order is by the leaves from the lowest, and by the table.
in-order : ascending (cut_over (0 ∷ 1 ∷ []) 0x88 ∷ cut_over (2 ∷ []) 0xAA ∷ cut_over (0 ∷ 1 ∷ []) 0x22 ∷ cut_over (1 ∷ []) 0x55 ∷ [])
    ≡ cut_over (1 ∷ []) 0x55 ∷ cut_over (2 ∷ []) 0xAA ∷ cut_over (0 ∷ 1 ∷ []) 0x22 ∷ cut_over (0 ∷ 1 ∷ []) 0x88 ∷ []
unfolding cut_over first_word packed
in-order = refl

-- A cut that has the leaf 5 of the cut before isn't kept; of two with the leaf 1 the first is.
kept-some : kept (trivial_cut 5 ∷ []) (trivial_cut 1 ∷ cut_over (1 ∷ 2 ∷ []) 0x88 ∷ cut_over (2 ∷ 5 ∷ []) 0x88 ∷ cut_over (2 ∷ 3 ∷ []) 0x22 ∷ [])
    ≡ trivial_cut 1 ∷ cut_over (2 ∷ 3 ∷ []) 0x22 ∷ []
unfolding cut_over
kept-some = refl

-- the row of two words
row-one : row_with (0x4000010000000000 ∷ 0xAA ∷ []) ≡ record { len = 1; words = 0x4000010000000000 ∷ 0xAA ∷ 0 ∷ 0 ∷ 0 ∷ 0 ∷ 0 ∷ 0 ∷ 0 ∷ 0 ∷ 0 ∷ 0 ∷ 0 ∷ 0 ∷ 0 ∷ 0 ∷ [] }
unfolding row_with
row-one = refl

-- Behind the trivial cut and the fan-in cut stand the first six kept, in ascending order, whatever the order of the pool.
first-six : list_with 20 (cut_over (9 ∷ 19 ∷ []) 0x88 ∷ []) (map trivial_cut (7 ∷ 3 ∷ 0 ∷ 5 ∷ 1 ∷ 6 ∷ 2 ∷ 4 ∷ []))
    ≡ trivial_cut 20 ∷ cut_over (9 ∷ 19 ∷ []) 0x88 ∷ map trivial_cut (0 ∷ 1 ∷ 2 ∷ 3 ∷ 4 ∷ 5 ∷ [])
unfolding cut_over first_word packed
first-six = refl
