-- The list of a node by the lists of all nodes: a node reads lists before its own alone, which stay as they were.
use Rattle.std.proofs.Common.{◌≡◌, ◌<◌, ◌∙◌, ℕ, List, [], get_or, length, take, map, refl, ap, arith}
use Rattle.std.proofs.lemmas.List.{get_or-take, length-take-le, get_or-map}
use Rattle.net_base.specs.declared.graph.GNode.{GNode}
use Rattle.net_base.specs.declared.graph.GNode.TheVariants.{Inp, Neg, Both}
use Rattle.net_base.specs.declared.graph.Graph.{Graph}
use Rattle.net_base.specs.Graph.{IsNodeAt, IsProper}
use Rattle.net_base.proofs.CallerLemmas.{length-per_item, get_or-per_item}
use Rattle.cut_word.specs.Cut.{CutView, negated}
use Rattle.cut_lists.specs.CutList.{merges, fan_in_cut, pool_of, list_with, list_from, cut_lists, cut_list}
use Rattle.cut_lists.specs.Rows.{words_of, node_words, all_words}

-- There is one list per node,
pub length-cut_lists : (graph : Graph) → length (cut_lists graph) ≡ length graph.nodes
length-cut_lists graph = omega (arith, length-per_item list_from [] graph.nodes)

pool_of-take : (lists : List (List CutView)) (inputs i : ℕ) (node : GNode) → IsNodeAt inputs i node → pool_of (take i lists) node ≡ pool_of lists node
pool_of-take lists inputs i (Inp k) there = refl
pool_of-take lists inputs i (Neg a) there = ap (map negated) (get_or-take i lists a [] there.1)
pool_of-take lists inputs i (Both a b) there =
    let low : a < i = omega (arith, there.1, there.2) in
    λ j. merges (get_or-take i lists a [] low j) (get_or-take i lists b [] there.2 j)

-- and the list of a node is made from its fan-in cut and its pool.
pub cut_list-is : (graph : Graph) (i : ℕ) (d : GNode) → IsProper graph → i < length graph.nodes → cut_list graph i ≡ list_with i (fan_in_cut (get_or graph.nodes i d)) (pool_of (cut_lists graph) (get_or graph.nodes i d))
unfolding list_from
cut_list-is graph i d proper within =
    let node : GNode = get_or graph.nodes i d in
    get_or-per_item list_from graph.nodes i [] d within
    ∙ ap (λ n. list_with n (fan_in_cut node) (pool_of (take i (cut_lists graph)) node)) (length-take-le i (cut_lists graph) (omega (arith, length-cut_lists graph)))
    ∙ ap (list_with i (fan_in_cut node)) (pool_of-take (cut_lists graph) graph.inputs i node (proper.nodes i d within))

-- The words at a node's place are the node's.
pub all_words-at : (graph : Graph) (i : ℕ) → i < length graph.nodes → get_or (all_words graph) i [] ≡ node_words graph i
all_words-at graph i within = get_or-map words_of (cut_lists graph) i [] [] (omega (arith, length-cut_lists graph))
