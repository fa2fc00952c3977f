-- Each cut of a node's list is right for it. By induction over the nodes: the trivial cut is right for its leaf, the negation
-- of a cut that is right for a node is right for its complement, and the merge of two that are right for two nodes for their
-- conjunction; and a node has the value that its fan-ins give it. What is sorted, kept and taken is of the pool.
use Rattle.std.proofs.Common.{◌≡◌, ◌≤◌, ◌<◌, ◌+◌, ◌&&◌, ◌++◌, ◌∙◌, inl, inr, ℕ, zero, suc, Bool, true, false, not, cond, nat_lt, ◌==◌, List, [], ◌∷◌, Some, get_or, length, take, drop, map, All, refl, sym, ap, subst, arith}
use Rattle.std.proofs.lemmas.Bool.{cases_lt}
use Rattle.std.proofs.lemmas.List.{length-append, length-take}
use Rattle.std.proofs.lemmas.List.Elements.{All-nil, All-cons, All-head, All-tail, All-append, All-map, All-take, All-weaker}
use Rattle.net_base.specs.declared.graph.GNode.{GNode}
use Rattle.net_base.specs.declared.graph.GNode.TheVariants.{Inp, Neg, Both}
use Rattle.net_base.specs.declared.graph.Graph.{Graph}
use Rattle.net_base.specs.Graph.{IsNodeAt, IsProper}
use Rattle.net_base.specs.NodeValues.{value_of, node_values, node_value}
use Rattle.net_base.proofs.Nodes.{nodes_follow_fan_ins}
use Rattle.cut_word.specs.declared.cut.TheConstants.{LEAF_LIMIT}
use Rattle.cut_word.specs.Cut.{CutView, IsCut, IsRight, value_over, trivial_cut, negated}
use Rattle.cut_word.specs.Merge.{with_leaf, united, merged, both_over}
use Rattle.cut_word.proofs.CallerLemmas.{IsCut-trivial, value_over-trivial, IsCut-negated, value_over-negated, IsCut-merged, value_over-merged, merged-is}
use Rattle.cut_lists.specs.CutList.{ascending, kept, merges, fan_in_cut, pool_of, cut_lists, cut_list}
use Rattle.cut_lists.specs.Laws.{AreOfNode}
use Rattle.cut_lists.proofs.Pools.{All-ascending, All-kept, All-merges, length-merges-single}
use Rattle.cut_lists.proofs.NodeLists.{cut_list-is}

-- ---- Leaves of a union
All-with_leaf : (P : ℕ → Type 0) (leaf : ℕ) (leaves : List ℕ) → P leaf → All P leaves → All P (with_leaf leaf leaves)
All-with_leaf P leaf [] one all = All-cons P leaf [] one all
All-with_leaf P leaf (next ∷ leaves) one all = by (nat_lt leaf next) (leaf == next) (All-with_leaf P leaf leaves one (All-tail P next leaves all))
  where
    by : (b e : Bool) → All P (with_leaf leaf leaves) → All P (cond b (leaf ∷ next ∷ leaves) (cond e (next ∷ leaves) (next ∷ with_leaf leaf leaves)))
    by true e rest = All-cons P leaf (next ∷ leaves) one all
    by false true rest = all
    by false false rest = All-cons P next (with_leaf leaf leaves) (All-head P next leaves all) rest

All-united : (P : ℕ → Type 0) (leaves others : List ℕ) → All P leaves → All P others → All P (united leaves others)
All-united P [] others mine theirs = theirs
All-united P (leaf ∷ leaves) others mine theirs =
    All-with_leaf P leaf (united leaves others) (All-head P leaf leaves mine) (All-united P leaves others (All-tail P leaf leaves mine) theirs)

-- ---- A cut over nodes below a place, which is right for a function
record Fits (graph : Graph) (bound : ℕ) (f : List Bool → Bool) (cut : CutView) : Type 0 where
  pub cut' : IsCut cut
  pub low : All (λ leaf. leaf < bound) cut.leaves
  pub right : IsRight (node_value graph) f cut

module _ (graph : Graph) where
  Fits-trivial : (bound leaf : ℕ) → leaf < LEAF_LIMIT → leaf < bound → Fits graph bound (λ row. node_value graph row leaf) (trivial_cut leaf)
  Fits-trivial bound leaf low below = record {
    cut' = IsCut-trivial leaf low;
    low = All-cons (λ n. n < bound) leaf [] below (All-nil (λ n. n < bound));
    right = λ row. value_over-trivial (node_value graph row) leaf;
  }

  Fits-negated : (bound : ℕ) (f : List Bool → Bool) (cut : CutView) → Fits graph bound f cut → Fits graph bound (λ row. not (f row)) (negated cut)
  Fits-negated bound f cut fits = record {
    cut' = IsCut-negated cut fits.cut';
    low = fits.low;
    right = λ row. value_over-negated (node_value graph row) cut fits.cut' ∙ ap not (fits.right row);
  }

  Fits-merged : (bound : ℕ) (f g : List Bool → Bool) (a b cut : CutView) → Fits graph bound f a → Fits graph bound g b → merged a b ≡ Some cut → Fits graph bound (λ row. f row && g row) cut
  unfolding both_over
  Fits-merged bound f g a b cut of-a of-b is = record {
    cut' = IsCut-merged a b cut of-a.cut' of-b.cut' is;
    low =
        subst (All (λ n. n < bound)) (ap (λ (v : CutView). v.leaves) (merged-is a b cut is).1)
        (All-united (λ n. n < bound) a.leaves b.leaves of-a.low of-b.low);
    right = λ row.
        value_over-merged a b cut (node_value graph row) is
        ∙ ap (λ v. v && value_over (node_value graph row) b) (of-a.right row) ∙ ap (λ v. f row && v) (of-b.right row);
  }

  -- a cut fits a higher place, and a function of the same values
  Fits-weaker : (bound more : ℕ) (f g : List Bool → Bool) → bound ≤ more → ((row : List Bool) → f row ≡ g row) → (cut : CutView) → Fits graph bound f cut → Fits graph more g cut
  Fits-weaker bound more f g le same cut fits = record {
    cut' = fits.cut';
    low = All-weaker (λ n. n < bound) (λ n. n < more) (λ n h. omega arith) cut.leaves fits.low;
    right = λ row. fits.right row ∙ same row;
  }

  Fits-all : (bound more : ℕ) (f g : List Bool → Bool) → bound ≤ more → ((row : List Bool) → f row ≡ g row) → (cuts : List CutView) → All (Fits graph bound f) cuts → All (Fits graph more g) cuts
  Fits-all bound more f g le same = All-weaker (Fits graph bound f) (Fits graph more g) (Fits-weaker bound more f g le same)

  -- What fits the fan-in cut and the pool fits what is chosen.
  Fits-chosen : (bound : ℕ) (f : List Bool → Bool) (fan_in pool : List CutView) → All (Fits graph bound f) fan_in → All (Fits graph bound f) pool → All (Fits graph bound f) (fan_in ++ take 6 (kept fan_in (ascending pool)))
  Fits-chosen bound f fan_in pool first all =
      All-append (Fits graph bound f) fan_in (take 6 (kept fan_in (ascending pool))) first
      (All-take (Fits graph bound f) 6 (kept fan_in (ascending pool)) (All-kept (Fits graph bound f) fan_in (ascending pool) (All-ascending (Fits graph bound f) pool all)))

  -- the cut list of a node fits the node
  abbrev ListFits : ℕ → Type 0
  ListFits i = All (Fits graph (i + 1) (λ row. node_value graph row i)) (cut_list graph i)

  -- what is chosen for a node fits it, over lower nodes, where the lists before fit theirs
  chosen : GNode → List CutView
  chosen node = fan_in_cut node ++ take 6 (kept (fan_in_cut node) (ascending (pool_of (cut_lists graph) node)))

  chosen-fits : (i : ℕ) (node : GNode) → i ≤ LEAF_LIMIT → IsNodeAt graph.inputs i node → ((row : List Bool) → value_of row (node_values row graph.nodes) node ≡ node_value graph row i) → ((j : ℕ) → j < i → ListFits j) → All (Fits graph i (λ row. node_value graph row i)) (chosen node)
  unfolding chosen
  chosen-fits i (Inp k) few there value before = All-nil (Fits graph i (λ row. node_value graph row i))
  chosen-fits i (Neg a) few there value before =
      let f : List Bool → Bool = λ row. node_value graph row a in
      let g : List Bool → Bool = λ row. not (node_value graph row a) in
      let low : a < i = there.1 in
      Fits-all i i g (λ row. node_value graph row i) (omega arith) value (chosen (Neg a))
      (Fits-chosen i g (fan_in_cut (Neg a)) (map negated (cut_list graph a))
      (All-cons (Fits graph i g) (negated (trivial_cut a)) [] (Fits-negated i f (trivial_cut a) (Fits-trivial i a (omega arith) low)) (All-nil (Fits graph i g)))
      (All-map (Fits graph i g) negated (cut_list graph a)
      (All-weaker (Fits graph (a + 1) f) (λ cut. Fits graph i g (negated cut))
      (λ cut fits. Fits-negated i f cut (Fits-weaker (a + 1) i f f (omega arith) (λ row. refl) cut fits)) (cut_list graph a) (before a low))))
  chosen-fits i (Both a b) few there value before =
      let f : List Bool → Bool = λ row. node_value graph row a in
      let g : List Bool → Bool = λ row. node_value graph row b in
      let h : List Bool → Bool = λ row. node_value graph row a && node_value graph row b in
      let low-b : b < i = there.2 in
      let low-a : a < i = omega (arith, there.1) in
      let merge-fits : (x y cut : CutView) → Fits graph i f x → Fits graph i g y → merged x y ≡ Some cut → Fits graph i h cut = Fits-merged i f g in
      Fits-all i i h (λ row. node_value graph row i) (omega arith) value (chosen (Both a b))
      (Fits-chosen i h (fan_in_cut (Both a b)) (merges (cut_list graph a) (cut_list graph b))
      (All-merges (Fits graph i h) (Fits graph i f) (Fits graph i g) merge-fits (trivial_cut a ∷ []) (trivial_cut b ∷ [])
      (All-cons (Fits graph i f) (trivial_cut a) [] (Fits-trivial i a (omega arith) low-a) (All-nil (Fits graph i f)))
      (All-cons (Fits graph i g) (trivial_cut b) [] (Fits-trivial i b (omega arith) low-b) (All-nil (Fits graph i g))))
      (All-merges (Fits graph i h) (Fits graph i f) (Fits graph i g) merge-fits (cut_list graph a) (cut_list graph b)
      (Fits-all (a + 1) i f f (omega arith) (λ row. refl) (cut_list graph a) (before a low-a))
      (Fits-all (b + 1) i g g (omega arith) (λ row. refl) (cut_list graph b) (before b low-b))))

  length-chosen : (node : GNode) → length (chosen node) ≤ 7
  unfolding chosen
  length-chosen node =
      let rest : List CutView = kept (fan_in_cut node) (ascending (pool_of (cut_lists graph) node)) in
      let one : length (fan_in_cut node) ≤ 1 = few node in
      omega (arith, one, length-append (fan_in_cut node) (take 6 rest), length-take 6 rest)
    where
      few : (n : GNode) → length (fan_in_cut n) ≤ 1
      few (Inp k) = omega arith
      few (Neg a) = omega arith
      few (Both a b) = length-merges-single (trivial_cut a) (trivial_cut b)

  -- the list is the trivial cut, and what is chosen
  list-is : (i : ℕ) (d : GNode) → IsProper graph → i < length graph.nodes → cut_list graph i ≡ trivial_cut i ∷ chosen (get_or graph.nodes i d)
  unfolding chosen
  list-is i d proper within = cut_list-is graph i d proper within

  next-fits : (i : ℕ) → IsProper graph → i < length graph.nodes → ((j : ℕ) → j < i → ListFits j) → All (Fits graph i (λ row. node_value graph row i)) (chosen (get_or graph.nodes i (Inp 0)))
  next-fits i proper within before =
      chosen-fits i (get_or graph.nodes i (Inp 0)) (omega (arith, proper.few)) (proper.nodes i (Inp 0) within)
      (λ row. sym (nodes_follow_fan_ins graph row i (Inp 0) proper within)) before

  list-fits : (i : ℕ) → IsProper graph → i < length graph.nodes → ((j : ℕ) → j < i → ListFits j) → ListFits i
  list-fits i proper within before =
      let f : List Bool → Bool = λ row. node_value graph row i in
      subst (All (Fits graph (i + 1) f)) (sym (list-is i (Inp 0) proper within))
      (All-cons (Fits graph (i + 1) f) (trivial_cut i) (chosen (get_or graph.nodes i (Inp 0)))
      (Fits-trivial (i + 1) i (omega (arith, proper.few)) (omega arith))
      (Fits-all i (i + 1) f f (omega arith) (λ row. refl) (chosen (get_or graph.nodes i (Inp 0))) (next-fits i proper within before)))

  -- By induction, all lists fit.
  last-fits : (n : ℕ) → IsProper graph → n < length graph.nodes → ((j : ℕ) → j < n → ListFits j) → (j : ℕ) → j < suc n → ListFits j
  last-fits n proper within before j low = elim (cases_lt j n) [
    | inl lower ↦ before j lower
    | inr last ↦ let same : n ≡ j = omega arith in subst ListFits same (list-fits n proper within before)
  ]

  lists-fit : IsProper graph → (n : ℕ) → n ≤ length graph.nodes → (j : ℕ) → j < n → ListFits j
  lists-fit proper zero few j low = absurd (omega arith)
  lists-fit proper (suc n) few j low = last-fits n proper (omega arith) (λ k h. lists-fit proper n (omega arith) k h) j low

  -- ---- The laws
  pub each_cut_right : (node : ℕ) → IsProper graph → node < length graph.nodes → All (IsRight (node_value graph) (λ row. node_value graph row node)) (cut_list graph node)
  each_cut_right node proper within =
      let f : List Bool → Bool = λ row. node_value graph row node in
      All-weaker (Fits graph (node + 1) f) (IsRight (node_value graph) f) (λ cut fits. fits.right) (cut_list graph node)
      (lists-fit proper (length graph.nodes) (omega arith) node within)

  pub list_of_node : (node : ℕ) → IsProper graph → node < length graph.nodes → AreOfNode node (cut_list graph node)
  list_of_node node proper within =
      let f : List Bool → Bool = λ row. node_value graph row node in
      let rest : List CutView = chosen (get_or graph.nodes node (Inp 0)) in
      let is : cut_list graph node ≡ trivial_cut node ∷ rest = list-is node (Inp 0) proper within in
      let fit : All (Fits graph node f) rest = next-fits node proper within (λ j low. lists-fit proper (length graph.nodes) (omega arith) j (omega arith)) in
      record {
        few = omega (arith, ap length is, length-chosen (get_or graph.nodes node (Inp 0)));
        each = All-weaker (Fits graph (node + 1) f) IsCut (λ cut fits. fits.cut') (cut_list graph node) (lists-fit proper (length graph.nodes) (omega arith) node within);
        trivial = ap (take 1) is;
        lower =
            subst (λ cuts. All (λ (cut : CutView). All (λ leaf. leaf < node) cut.leaves) (drop 1 cuts)) (sym is)
            (All-weaker (Fits graph node f) (λ (cut : CutView). All (λ leaf. leaf < node) cut.leaves) (λ cut fits. fits.low) rest fit);
      }
