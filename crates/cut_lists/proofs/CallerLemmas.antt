-- What the crates above cite: the list of a node, the words of lists, and rows.
use Rattle.std.proofs.Common.{◌≡◌, ◌≤◌, ◌<◌, ◌*◌, ◌∙◌, ℕ, List, [], ◌∷◌, get_or, length, take, ap, arith}
use Rattle.std.proofs.lemmas.List.Elements.{All-get_or}
use Rattle.net_base.specs.declared.graph.GNode.TheVariants.{Inp}
use Rattle.net_base.specs.declared.graph.Graph.{Graph}
use Rattle.net_base.specs.Graph.{IsProper}
use Rattle.cut_word.specs.Cut.{CutView, IsCut, trivial_cut}
use Rattle.cut_lists.specs.CutList.{fan_in_cut, pool_of, list_with, cut_lists, cut_list}
use Rattle.cut_lists.specs.Rows.{node_words, row_with, words_in}
pub use Rattle.cut_lists.proofs.Sorts.{IsPermutation-ascending, ascending-sorted}
pub use Rattle.cut_lists.proofs.NodeLists.{length-cut_lists, cut_list-is, all_words-at}
pub use Rattle.cut_lists.proofs.Rights.{each_cut_right, list_of_node}
pub use Rattle.cut_lists.proofs.RowWords.{length-words_of, words_of-append, first_at, second_at, len-row_with, words-row_with, words_in-row_with, len-IsRowOf, first-IsRowOf, second-IsRowOf}
pub use Rattle.cut_lists.proofs.NodeRows.{IsRowOf-node, len-node, length-all_words}

-- A node has at most sixteen words, two for each cut, and its row has them.
pub length-node_words : (graph : Graph) (node : ℕ) → length (node_words graph node) ≡ 2 * length (cut_list graph node)
length-node_words graph node = length-words_of (cut_list graph node)

pub node_words-few : (graph : Graph) (node : ℕ) → IsProper graph → node < length graph.nodes → length (node_words graph node) ≤ 16
node_words-few graph node proper within = omega (arith, length-node_words graph node, (list_of_node graph node proper within).few)

pub words_in-node : (graph : Graph) (node : ℕ) → IsProper graph → node < length graph.nodes → words_in (row_with (node_words graph node)) ≡ node_words graph node
words_in-node graph node proper within =
    words_in-row_with (node_words graph node) (length (cut_list graph node)) (length-node_words graph node) (list_of_node graph node proper within).few

-- An input has its trivial cut alone.
pub cut_list-input : (graph : Graph) (node k : ℕ) → IsProper graph → node < length graph.nodes → get_or graph.nodes node (Inp 0) ≡ Inp k → cut_list graph node ≡ trivial_cut node ∷ []
cut_list-input graph node k proper within is =
    cut_list-is graph node (Inp 0) proper within ∙ ap (λ n. list_with node (fan_in_cut n) (pool_of (cut_lists graph) n)) is

-- Each node has a cut, and each of its cuts is one.
pub cut_list-some : (graph : Graph) (node : ℕ) → IsProper graph → node < length graph.nodes → 1 ≤ length (cut_list graph node)
cut_list-some graph node proper within = some (cut_list graph node) (list_of_node graph node proper within).trivial
  where
    some : (cuts : List CutView) → take 1 cuts ≡ trivial_cut node ∷ [] → 1 ≤ length cuts
    some [] e = absurd (cc)
    some (cut ∷ cuts) e = omega arith

pub IsCut-at : (graph : Graph) (node place : ℕ) (d : CutView) → IsProper graph → node < length graph.nodes → place < length (cut_list graph node) → IsCut (get_or (cut_list graph node) place d)
IsCut-at graph node place d proper within there = All-get_or IsCut (cut_list graph node) place d there (list_of_node graph node proper within).each
