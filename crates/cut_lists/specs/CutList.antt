-- The cut list of a node: its trivial cut, its fan-in cut, and the first six kept cuts of its pool.
use Rattle.std.specs.Prelude.{ℕ, Bool, true, false, cond, List, [], ◌∷◌, ◌++◌, length, take, map, slice_index_or}
use Rattle.std.specs.List.{list_any, filter_map, flat_map}
use Rattle.std.specs.Ordering.{is_lt}
use Rattle.net_base.specs.declared.graph.GNode.{GNode}
use Rattle.net_base.specs.declared.graph.GNode.TheVariants.{Inp, Neg, Both}
use Rattle.net_base.specs.declared.graph.Graph.{Graph}
use Rattle.net_base.specs.PerItem.{per_item}
use Rattle.cut_word.specs.Cut.{CutView, trivial_cut, negated, has_all}
use Rattle.cut_word.specs.Merge.{merged}
use Rattle.cut_word.specs.Order.{cut_cmp}

-- ---- Cuts in order
-- a cut comes before another, by first words, then by second words
abbrev pub is_before : CutView → CutView → Bool
is_before a b = is_lt (cut_cmp a b)

-- ascending cuts and one more, which is put in its place
abbrev pub insert_cut : CutView → List CutView → List CutView
insert_cut cut [] = cut ∷ []
insert_cut cut (next ∷ cuts) = cond (is_before next cut) (next ∷ insert_cut cut cuts) (cut ∷ next ∷ cuts)

-- the cuts in ascending order
abbrev pub ascending : List CutView → List CutView
ascending [] = []
ascending (cut ∷ cuts) = insert_cut cut (ascending cuts)

-- ---- What is kept
-- a cut is covered by these: its leaves contain all leaves of one of them
abbrev pub is_covered : List CutView → CutView → Bool
is_covered cuts cut = list_any (λ other. has_all cut.leaves other.leaves) cuts

-- What is kept of cuts behind those before, one by one: a cut is kept where neither one of these nor one
-- that was kept before it covers it.
abbrev pub kept : List CutView → List CutView → List CutView
kept before [] = []
kept before (cut ∷ cuts) = elim (is_covered before cut) [ true ↦ kept before cuts | false ↦ cut ∷ kept (before ++ cut ∷ []) cuts ]

-- ---- The list of a node, from the lists of the nodes before it
-- each merge that exists of a cut of one list with a cut of the other
abbrev pub merges : List CutView → List CutView → List CutView
merges firsts seconds = flat_map (λ first. filter_map (merged first) seconds) firsts

-- the fan-in cut, which an input doesn't have
abbrev pub fan_in_cut : GNode → List CutView
fan_in_cut (Inp k) = []
fan_in_cut (Neg a) = negated (trivial_cut a) ∷ []
fan_in_cut (Both a b) = merges (trivial_cut a ∷ []) (trivial_cut b ∷ [])

-- the cuts to choose from: those of the fan-in negated, or those of both fan-ins merged
abbrev pub pool_of : List (List CutView) → GNode → List CutView
pool_of lists (Inp k) = []
pool_of lists (Neg a) = map negated (slice_index_or lists a [])
pool_of lists (Both a b) = merges (slice_index_or lists a []) (slice_index_or lists b [])

-- the trivial cut, the fan-in cut if there is one, and the first six kept cuts of the pool, walked in ascending order
abbrev pub list_with : ℕ → List CutView → List CutView → List CutView
list_with node fan_in pool = trivial_cut node ∷ fan_in ++ take 6 (kept fan_in (ascending pool))

-- the list of the next node
unfoldable pub list_from : List (List CutView) → GNode → List CutView
list_from lists node = list_with (length lists) (fan_in_cut node) (pool_of lists node)

-- the cut lists of all nodes, each from those before it
abbrev pub cut_lists : Graph → List (List CutView)
cut_lists graph = per_item list_from [] graph.nodes

-- the cut list of a node
abbrev pub cut_list : Graph → ℕ → List CutView
cut_list graph node = slice_index_or (cut_lists graph) node []
