-- The rows that a core keeps: their words are those of the cut lists.
use Rattle.std.proofs.Common.{◌≡◌, ◌≤◌, ◌<◌, ◌*◌, ◌∙◌, ℕ, Bool, false, List, get_or, length, set, nat_eq, ◌&&◌, sym, ap, inl, inr, arith}
use Rattle.std.proofs.lemmas.Bool.{cases_eq, lt-ltb}
use Rattle.std.proofs.lemmas.List.{get_or-take, get_or-set_same, get_or-set_other, length-set}
use Rattle.net_base.specs.declared.graph.Graph.{Graph}
use Rattle.net_base.specs.Graph.{IsProper}
use Rattle.cut_lists.specs.declared.row.Row.{Row}
use Rattle.cut_lists.specs.CutList.{cut_list}
use Rattle.cut_lists.specs.Rows.{node_words, row_with, words_in}
use Rattle.cut_lists.proofs.CallerLemmas.{length-node_words, node_words-few, words_in-node, len-row_with}
use Rattle.cut_core.specs.declared.event.NodeState.{NodeState}
use Rattle.cut_core.specs.declared.event.NodeState.TheVariants.{Free}
use Rattle.cut_core.specs.Machine.{is_free, state_at, is_word, states_at_start}
use Rattle.cut_core.specs.Cores.{AreRowsOf}
use Rattle.cut_core.proofs.Soundness.{inputs_alone}

-- A row that was read is that of its node,
pub row-read : (graph : Graph) (states : List NodeState) (rows : List Row) (node : ℕ) (row : Row) → AreRowsOf graph states rows → node < length graph.nodes → is_free (state_at states node) ≡ false → row ≡ get_or rows node row → row ≡ row_with (node_words graph node)
row-read graph states rows node row are within known read = read ∙ are.known node row within known

module _ (graph : Graph) (node : ℕ) (row : Row) (proper : IsProper graph) (within : node < length graph.nodes) (is : row ≡ row_with (node_words graph node)) where
  -- it has two words for each cut,
  pub count-row : 2 * row.len ≡ length (node_words graph node)
  count-row =
      omega (arith, ap (λ (r : Row). r.len) is, len-row_with (node_words graph node) (length (cut_list graph node)) (length-node_words graph node), length-node_words graph node)

  pub count-few : 2 * row.len ≤ 16
  count-few = omega (arith, count-row, node_words-few graph node proper within)

  -- and they are those of the cut list.
  pub word-row : (place : ℕ) → place < length (node_words graph node) → get_or row.words place 0 ≡ get_or (node_words graph node) place 0
  word-row place low =
      let here : place < 2 * row.len = omega (arith, count-row) in
      sym (get_or-take (2 * row.len) row.words place 0 here)
      ∙ ap (λ (ws : List ℕ). get_or ws place 0) (ap words_in is ∙ words_in-node graph node proper within)

  pub is_word-row : (place word : ℕ) → place < length (node_words graph node) → nat_eq (get_or row.words place 0) word ≡ is_word graph node place word
  is_word-row place word low =
      ap (λ (w : ℕ). nat_eq w word) (word-row place low)
      ∙ sym (ap (λ (b : Bool). b && nat_eq (get_or (node_words graph node) place 0) word) (lt-ltb place (length (node_words graph node)) low))

-- ---- A row more
pub rows-set : (graph : Graph) (states : List NodeState) (rows : List Row) (node : ℕ) (state : NodeState) (row : Row) → AreRowsOf graph states rows → length states ≡ length graph.nodes → node < length graph.nodes → row ≡ row_with (node_words graph node) → AreRowsOf graph (set states node state) (set rows node row)
rows-set graph states rows node state row are each within is = record {
  each = length-set rows node row ∙ are.each;
  known = λ n d low known. elim (cases_eq n node) [
    | inl same ↦
        ap (λ (k : ℕ). get_or (set rows node row) k d) same ∙ get_or-set_same rows node row d (omega (arith, are.each)) ∙ is
        ∙ ap (λ (k : ℕ). row_with (node_words graph k)) (sym same)
    | inr apart ↦
        get_or-set_other rows node n row d apart
        ∙ are.known n d low (sym (ap is_free (get_or-set_other states node n state Free apart)) ∙ known)
  ];
}

-- The rows stay, where a node's state changes that wasn't free.
pub rows-kept : (graph : Graph) (states : List NodeState) (rows : List Row) (node : ℕ) (state : NodeState) → AreRowsOf graph states rows → is_free (state_at states node) ≡ false → AreRowsOf graph (set states node state) rows
rows-kept graph states rows node state are taken = record {
  each = are.each;
  known = λ n d low known. elim (cases_eq n node) [
    | inl same ↦ are.known n d low (ap (λ (k : ℕ). is_free (state_at states k)) same ∙ taken)
    | inr apart ↦ are.known n d low (sym (ap is_free (get_or-set_other states node n state Free apart)) ∙ known)
  ];
}

-- ---- The start
-- The rows of the inputs are the rows of all nodes that aren't free.
pub inputs-all : (graph : Graph) (rows : List Row) (i : ℕ) → IsProper graph → graph.inputs ≤ i → length rows ≡ length graph.nodes → ((k : ℕ) (d : Row) → k < i → get_or rows k d ≡ row_with (node_words graph k)) → AreRowsOf graph (states_at_start graph) rows
inputs-all graph rows i proper all each before = record {
  each = each;
  known = λ n d low known. let input : n < graph.inputs = inputs_alone graph proper n known in before n d (omega arith);
}
