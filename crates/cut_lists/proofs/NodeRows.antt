-- The rows of a graph's nodes: what a node's row is made of, and the rows so far.
use Rattle.std.proofs.Common.{◌≡◌, ◌≤◌, ◌<◌, ◌+◌, ◌++◌, ◌∙◌, ℕ, List, [], ◌∷◌, Some, get_or, length, take, refl, sym, ap, subst, arith}
use Rattle.std.proofs.lemmas.List.{length-map, length-take-le, get_or-take, take_more}
use Rattle.std.specs.List.{slice_get}
use Rattle.std.proofs.lemmas.Option.{get_or_from_slice_get}
use Rattle.net_base.specs.declared.graph.GNode.{GNode}
use Rattle.net_base.specs.declared.graph.GNode.TheVariants.{Inp, Neg, Both}
use Rattle.net_base.specs.declared.graph.Graph.{Graph}
use Rattle.net_base.specs.Graph.{IsNodeAt, IsProper}
use Rattle.cut_word.specs.Cut.{CutView, trivial_cut}
use Rattle.cut_lists.specs.declared.row.Row.{Row}
use Rattle.cut_lists.specs.CutList.{ascending, fan_in_cut, pool_of, list_with, cut_lists, cut_list}
use Rattle.cut_lists.specs.Steps.{with_kept}
use Rattle.cut_lists.specs.Rows.{words_of, node_words, all_words, row_with, words_in, IsRowOf, AreRowsFor, AreFanInRows}
use Rattle.cut_lists.proofs.NodeLists.{length-cut_lists, cut_list-is, all_words-at}
use Rattle.cut_lists.proofs.Rights.{list_of_node}
use Rattle.cut_lists.proofs.RowWords.{length-words_of, len-row_with, words_in-row_with}

-- A node's row is that of its cuts.
pub IsRowOf-node : (graph : Graph) (j : ℕ) (row : Row) → IsProper graph → j < length graph.nodes → row ≡ row_with (node_words graph j) → IsRowOf (cut_list graph j) row
IsRowOf-node graph j row proper within is =
    let of-node = list_of_node graph j proper within in record { each = of-node.each; few = of-node.few; is = is }

pub len-node : (graph : Graph) (j : ℕ) (row : Row) → IsProper graph → j < length graph.nodes → row ≡ row_with (node_words graph j) → row.len ≤ 8
len-node graph j row proper within is =
    omega (arith, ap (λ (r : Row). r.len) is, len-row_with (node_words graph j) (length (cut_list graph j)) (length-words_of (cut_list graph j)), (list_of_node graph j proper within).few)

-- ---- A node that was read
module _ (graph : Graph) (i : ℕ) (read node : GNode) (got : slice_get graph.nodes i ≡ Some read) (is : read ≡ node) where
  node-is : get_or graph.nodes i (Inp 0) ≡ node
  node-is = get_or_from_slice_get graph.nodes i read (Inp 0) got ∙ is

  -- it stands behind its fan-ins,
  pub node_at : IsProper graph → i < length graph.nodes → IsNodeAt graph.inputs i node
  node_at proper within = subst (IsNodeAt graph.inputs i) node-is (proper.nodes i (Inp 0) within)

  -- their rows are those of the node,
  rows_at : (a b : Row) → AreFanInRows graph i a b → AreRowsFor graph node a b
  rows_at a b rows = subst (λ (n : GNode). AreRowsFor graph n a b) node-is rows

  fan_ins_at : (a b : Row) → AreRowsFor graph node a b → AreFanInRows graph i a b
  fan_ins_at a b rows = subst (λ (n : GNode). AreRowsFor graph n a b) (sym node-is) rows

  -- and its list is made from its fan-in cut and its pool.
  pub row_at : IsProper graph → i < length graph.nodes → row_with (words_of (list_with i (fan_in_cut node) (pool_of (cut_lists graph) node))) ≡ row_with (node_words graph i)
  row_at proper within =
      ap row_with (sym (ap words_of (cut_list-is graph i (Inp 0) proper within ∙ ap (λ (n : GNode). list_with i (fan_in_cut n) (pool_of (cut_lists graph) n)) node-is)))

-- A complement has the row of its fan-in,
pub neg-row : (graph : Graph) (i j : ℕ) (read : GNode) (a b : Row) → slice_get graph.nodes i ≡ Some read → read ≡ Neg j → IsProper graph → i < length graph.nodes → AreFanInRows graph i a b → IsRowOf (cut_list graph j) a
neg-row graph i j read a b got is proper within rows =
    let there : IsNodeAt graph.inputs i (Neg j) = node_at graph i read (Neg j) got is proper within in
    IsRowOf-node graph j a proper (omega (arith, there.1)) (rows_at graph i read (Neg j) got is a b rows)

-- and a conjunction those of both.
pub both-rows : (graph : Graph) (i j k : ℕ) (read : GNode) (a b : Row) → slice_get graph.nodes i ≡ Some read → read ≡ Both j k → IsProper graph → i < length graph.nodes → AreFanInRows graph i a b → IsRowOf (cut_list graph j) a × IsRowOf (cut_list graph k) b
both-rows graph i j k read a b got is proper within rows =
    let there : IsNodeAt graph.inputs i (Both j k) = node_at graph i read (Both j k) got is proper within in
    let are : AreRowsFor graph (Both j k) a b = rows_at graph i read (Both j k) got is a b rows in
    (IsRowOf-node graph j a proper (omega (arith, there.1, there.2)) are.0, IsRowOf-node graph k b proper (omega (arith, there.2)) are.1)

-- The two first cuts, and what is kept behind them, are the list.
pub with_kept-list : (i : ℕ) (fan_in : CutView) (pool : List CutView) → with_kept (trivial_cut i ∷ fan_in ∷ []) (ascending pool) ≡ list_with i (fan_in ∷ []) pool
unfolding with_kept
with_kept-list i fan_in pool = refl

-- ---- The rows so far
pub length-all_words : (graph : Graph) → length (all_words graph) ≡ length graph.nodes
length-all_words graph = length-map (cut_lists graph) words_of ∙ length-cut_lists graph

pub length-before : (graph : Graph) (i : ℕ) (rows : List (List ℕ)) → i ≤ length graph.nodes → rows ≡ take i (all_words graph) → length rows ≡ i
length-before graph i rows few is = ap length is ∙ length-take-le i (all_words graph) (omega (arith, length-all_words graph))

pub words-before : (graph : Graph) (i j : ℕ) (rows : List (List ℕ)) → j < i → i ≤ length graph.nodes → rows ≡ take i (all_words graph) → get_or rows j [] ≡ node_words graph j
words-before graph i j rows low few is =
    ap (λ (rs : List (List ℕ)). get_or rs j []) is ∙ get_or-take i (all_words graph) j [] low ∙ all_words-at graph j (omega arith)

-- The row of the next node behind them is one more.
pub rows-more : (graph : Graph) (i : ℕ) (rows : List (List ℕ)) (row : Row) → IsProper graph → i < length graph.nodes → rows ≡ take i (all_words graph) → row ≡ row_with (node_words graph i) → rows ++ words_in row ∷ [] ≡ take (i + 1) (all_words graph)
rows-more graph i rows row proper within before is =
    let words : words_in row ≡ node_words graph i =
    ap words_in is ∙ words_in-row_with (node_words graph i) (length (cut_list graph i)) (length-words_of (cut_list graph i)) (list_of_node graph i proper within).few in
    ap (λ (rs : List (List ℕ)). rs ++ words_in row ∷ []) before ∙ ap (λ (ws : List ℕ). take i (all_words graph) ++ ws ∷ []) (words ∙ sym (all_words-at graph i within))
    ∙ sym (take_more (all_words graph) i [] (omega (arith, length-all_words graph)))

-- The rows so far have those of the fan-ins.
pub neg-fan_ins : (graph : Graph) (i j : ℕ) (read : GNode) (rows : List (List ℕ)) (a : Row) → slice_get graph.nodes i ≡ Some read → read ≡ Neg j → IsProper graph → i < length graph.nodes → rows ≡ take i (all_words graph) → a ≡ row_with (get_or rows j []) → AreFanInRows graph i a a
neg-fan_ins graph i j read rows a got is proper within before row =
    let there : IsNodeAt graph.inputs i (Neg j) = node_at graph i read (Neg j) got is proper within in
    fan_ins_at graph i read (Neg j) got is a a (row ∙ ap row_with (words-before graph i j rows there.1 (omega arith) before))

pub both-fan_ins : (graph : Graph) (i j k : ℕ) (read : GNode) (rows : List (List ℕ)) (a b : Row) → slice_get graph.nodes i ≡ Some read → read ≡ Both j k → IsProper graph → i < length graph.nodes → rows ≡ take i (all_words graph) → a ≡ row_with (get_or rows j []) → b ≡ row_with (get_or rows k []) → AreFanInRows graph i a b
both-fan_ins graph i j k read rows a b got is proper within before first second =
    let there : IsNodeAt graph.inputs i (Both j k) = node_at graph i read (Both j k) got is proper within in
    fan_ins_at graph i read (Both j k) got is a b (
      first ∙ ap row_with (words-before graph i j rows (omega (arith, there.1, there.2)) (omega arith) before),
      second ∙ ap row_with (words-before graph i k rows there.2 (omega arith) before),
    )
