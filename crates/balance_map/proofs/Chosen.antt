-- What the choice of a node that isn't an input is: it comes from a cut of the node's list, which is right for the node and
-- over lower nodes, and a formula has the cut's table at the choice's depth. There is such a choice since the node's fan-in cut
-- has a candidate: the table of a complement is a NOT's, and that of a conjunction an AND's.
use Rattle.std.proofs.Common.{◌≡◌, ◌≤◌, ◌<◌, ◌/◌, ◌++◌, ◌∙◌, ◌==◌, ◌&&◌, ℕ, zero, suc, Bool, true, false, cond, nat_lt, List, [], ◌∷◌, Some, is_some, get_or, length, take, drop, map, All, refl, sym, ap, subst, arith, true≢false}
use Rattle.std.specs.List.{flat_map, cons_option}
use Rattle.std.specs.Ordering.{is_lt}
use Rattle.std.proofs.lemmas.Bool.{eq-eqb}
use Rattle.std.proofs.lemmas.Bool.Decides.{nat_tests}
use Rattle.std.proofs.lemmas.List.{length-append, length-take-le, length-map}
use Rattle.std.proofs.lemmas.List.Elements.{All-nil, All-head, All-tail, All-append, All-weaker, All-map, All-drop}
use Rattle.net_base.specs.declared.graph.GNode.{GNode}
use Rattle.net_base.specs.declared.graph.GNode.TheVariants.{Inp, Neg, Both}
use Rattle.net_base.specs.declared.graph.Subject.{Subject}
use Rattle.net_base.specs.Graph.{IsNodeAt, IsProper}
use Rattle.net_base.specs.NodeValues.{node_value}
use Rattle.net_base.proofs.CallerLemmas.{length-per_item, get_or-per_item}
use Rattle.cut_word.specs.Table.{is_set, value_at, table_of}
use Rattle.cut_word.specs.Cut.{CutView, IsCut, IsRight, trivial_cut, negated}
use Rattle.cut_word.specs.Merge.{united, both_over, merged}
use Rattle.cut_word.specs.Word.{first_word, leaves_in}
use Rattle.cut_word.proofs.CallerLemmas.{merged-some, leaves_in-first_word}
use Rattle.cut_lists.specs.CutList.{ascending, kept, fan_in_cut, pool_of, merges, cut_lists, cut_list}
use Rattle.cut_lists.proofs.CallerLemmas.{cut_list-is, each_cut_right, list_of_node}
use Rattle.pattern_table.specs.Least.{least_formula, has_formula}
use Rattle.cell_match.specs.declared.matching.Match.{Match}
use Rattle.cell_match.specs.Candidates.{match_of, cut_matches, candidates}
use Rattle.cell_match.proofs.CallerLemmas.{IsOfSome, All-candidates, cut_matches-complement, cut_matches-conjunction}
use Rattle.balance_map.specs.declared.choice.Choice.{Choice}
use Rattle.balance_map.specs.Choices.{own_choice, choice_at, choice_of, choice_cmp, lesser, least_of, best_of, next_choice, choices_of}

-- ---- Where a choice comes from
-- A choice comes from a cut of these: its leaves and its table are the cut's, and a formula has the table at its depth.
pub record ComesFrom (C : CutView → Type 0) (choice : Choice) : Type 0 where
  pub cut : CutView
  pub is : C cut
  pub leaves : choice.leaves ≡ first_word cut.leaves
  pub table : choice.table ≡ cut.table
  pub below : ℕ
  pub depth : choice.depth ≡ suc below
  pub shallow : below ≤ 3
  pub formula : has_formula (length cut.leaves) cut.table (suc below) ≡ true

-- what all lists have, their concatenation has
pub All-flat_map : {X Y : Type 0} (P : Y → Type 0) (f : X → List Y) (xs : List X) → All (λ x. All P (f x)) xs → All P (flat_map f xs)
All-flat_map P f [] all = All-nil P
All-flat_map P f (x ∷ xs) all =
    All-append P (f x) (flat_map f xs) (All-head (λ x. All P (f x)) x xs all) (All-flat_map P f xs (All-tail (λ x. All P (f x)) x xs all))

module _ (P : Choice → Type 0) where
  least_of-has : (best : Choice) (choices : List Choice) → P best → All P choices → P (least_of best choices)
  least_of-has best [] first all = first
  least_of-has best (choice ∷ choices) first all =
      least_of-has (lesser best choice) choices (by (is_lt (choice_cmp choice best))) (All-tail P choice choices all)
    where
      by : (b : Bool) → P (cond b choice best)
      by true = All-head P choice choices all
      by false = first

  -- what all have, the best has, where there are some
  best_of-has : (node : ℕ) (choices : List Choice) → 1 ≤ length choices → All P choices → P (best_of node choices)
  best_of-has node [] some all = absurd (omega arith)
  best_of-has node (choice ∷ choices) some all = least_of-has choice choices (All-head P choice choices all) (All-tail P choice choices all)

module _ (subject : Subject) (prior : List Choice) (C : CutView → Type 0) where
  -- A candidate of a cut comes from it: it is one deep at least, since at depth 0 there is no formula.
  candidate-comes : (candidate : Match) → IsOfSome C candidate → ComesFrom C (choice_of subject prior candidate)
  unfolding choice_of
  candidate-comes candidate (cut, is, of) = by candidate.depth refl (ap is_some of.formula.1)
    where
      same : candidate ≡ match_of cut candidate.depth of.formula.0
      same = of.formula.2

      by : (depth : ℕ) → candidate.depth ≡ depth → is_some (least_formula (length cut.leaves) cut.table candidate.depth) ≡ true → ComesFrom C (choice_of subject prior candidate)
      by zero at some = absurd (true≢false (sym some ∙ ap (λ n. is_some (least_formula (length cut.leaves) cut.table n)) at))
      by (suc below) at some = record {
        cut = cut;
        is = is;
        leaves = ap (λ (m : Match). m.leaves) same;
        table = ap (λ (m : Match). m.table) same;
        below = below;
        depth = at;
        shallow = omega (arith, of.shallow);
        formula = sym (ap (λ n. is_some (least_formula (length cut.leaves) cut.table n)) at) ∙ some;
      }

  candidates-come : (cuts : List CutView) → All C (drop 1 cuts) → All (ComesFrom C) (map (choice_of subject prior) (candidates cuts))
  candidates-come cuts all =
      All-map (ComesFrom C) (choice_of subject prior) (candidates cuts)
      (All-weaker (IsOfSome C) (λ candidate. ComesFrom C (choice_of subject prior candidate)) candidate-comes (candidates cuts) (All-candidates C cuts all))

-- ---- There is a candidate
-- the table of a conjunction of two leaves, by the tests that tell them apart
conjunction_table : (aa ab ba bb : Bool) → ℕ
conjunction_table aa ab ba bb =
    table_of (λ place. value_at 0xAA (cond aa (is_set place 0) (cond ab (is_set (place / 2) 0) false) ∷ []) && value_at 0xAA (cond ba (is_set place 0) (cond bb (is_set (place / 2) 0) false) ∷ []))

conjunction_table-is : (ab : Bool) → conjunction_table true ab false true ≡ 0x88
unfolding conjunction_table table_of
conjunction_table-is ab = refl

module _ (a b : ℕ) (low : a < b) where
  united-is : united (a ∷ []) (b ∷ []) ≡ a ∷ b ∷ []
  united-is = let before : nat_lt a b ≡ true = grind (arith, nat_tests) in ap (λ t. cond t (a ∷ b ∷ []) (cond (a == b) (b ∷ []) (b ∷ a ∷ []))) before

  both : CutView
  both = record { leaves = a ∷ b ∷ []; table = 0x88 }

  both_over-is : both_over (a ∷ b ∷ []) (trivial_cut a) (trivial_cut b) ≡ both
  unfolding both_over both conjunction_table
  both_over-is =
      let aa : (a == a) ≡ true = eq-eqb a a refl in
      let bb : (b == b) ≡ true = eq-eqb b b refl in
      let ba : (b == a) ≡ false = grind (arith, nat_tests) in
      let over : ℕ → CutView = λ table. record { leaves = a ∷ b ∷ []; table = table } in
      ap over (ap (λ t. conjunction_table t (a == b) (b == a) (b == b)) aa ∙ ap (λ t. conjunction_table true (a == b) t (b == b)) ba ∙ ap (conjunction_table true (a == b) false) bb ∙ conjunction_table-is (a == b))

  merged-is-both : merged (trivial_cut a) (trivial_cut b) ≡ Some both
  merged-is-both =
      let few : length (united (a ∷ []) (b ∷ [])) ≤ 3 = omega (arith, ap length united-is) in
      merged-some (trivial_cut a) (trivial_cut b) few ∙ ap (λ leaves. Some (both_over leaves (trivial_cut a) (trivial_cut b))) united-is ∙ ap Some both_over-is

  both-some : 1 ≤ length (cut_matches both)
  unfolding both
  both-some = omega (arith, ap length (cut_matches-conjunction a b).1)

fan_in-some : (inputs place : ℕ) (node : GNode) (rest : List CutView) → IsNodeAt inputs place node → inputs ≤ place → 1 ≤ length (flat_map cut_matches (fan_in_cut node ++ rest))
fan_in-some inputs place (Inp k) rest at behind = absurd (let e : k ≡ place = at.0 in let h : k < inputs = at.1 in omega arith)
fan_in-some inputs place (Neg a) rest at behind =
    let cut : CutView = negated (trivial_cut a) in
    let some : 1 ≤ length (cut_matches cut) = omega (arith, ap length (cut_matches-complement a).1) in
    omega (arith, some, length-append (cut_matches cut) (flat_map cut_matches rest))
fan_in-some inputs place (Both a b) rest at behind =
    let low : a < b = at.1 in
    let is : merges (trivial_cut a ∷ []) (trivial_cut b ∷ []) ≡ both a b low ∷ [] = ap (λ o. cons_option o [] ++ []) (merged-is-both a b low) in
    subst (λ cuts. 1 ≤ length (flat_map cut_matches (cuts ++ rest))) (sym is)
    (omega (arith, both-some a b low, length-append (cut_matches (both a b low)) (flat_map cut_matches rest)))

-- ---- The choice
module _ (subject : Subject) (node : ℕ) where
  -- a cut over lower nodes that is right for the node
  pub record IsOfNode (cut : CutView) : Type 0 where
    pub cut' : IsCut cut
    pub lower : All (λ leaf. leaf < node) cut.leaves
    pub right : IsRight (node_value subject.graph) (λ row. node_value subject.graph row node) cut

  cuts-of_node : IsProper subject.graph → node < length subject.graph.nodes → All IsOfNode (drop 1 (cut_list subject.graph node))
  cuts-of_node proper within =
      let cuts : List CutView = cut_list subject.graph node in
      let of = list_of_node subject.graph node proper within in
      λ k d h. record {
        cut' = All-drop IsCut 1 cuts of.each k d h;
        lower = of.lower k d h;
        right = All-drop (IsRight (node_value subject.graph) (λ row. node_value subject.graph row node)) 1 cuts (each_cut_right subject.graph node proper within) k d h;
      }

  pub length-choices_of : length (choices_of subject) ≡ length subject.graph.nodes
  length-choices_of = omega (arith, length-per_item (next_choice subject) [] subject.graph.nodes)

  candidates-some : IsProper subject.graph → node < length subject.graph.nodes → subject.graph.inputs ≤ node → 1 ≤ length (candidates (cut_list subject.graph node))
  candidates-some proper within behind =
      let at : GNode = get_or subject.graph.nodes node (Inp 0) in
      subst (λ cuts. 1 ≤ length (flat_map cut_matches (drop 1 cuts))) (sym (cut_list-is subject.graph node (Inp 0) proper within))
      (fan_in-some subject.graph.inputs node at (take 6 (kept (fan_in_cut at) (ascending (pool_of (cut_lists subject.graph) at)))) (proper.nodes node (Inp 0) within) behind)

  -- The choice of a node that isn't an input comes from a cut of the node.
  pub choice-comes : IsProper subject.graph → node < length subject.graph.nodes → subject.graph.inputs ≤ node → ComesFrom IsOfNode (choice_at (choices_of subject) node)
  unfolding next_choice
  choice-comes proper within behind =
      let prior : List Choice = take node (choices_of subject) in
      let long : length prior ≡ node = length-take-le node (choices_of subject) (omega (arith, length-choices_of)) in
      let cuts : List CutView = cut_list subject.graph node in
      let is : choice_at (choices_of subject) node ≡ best_of node (map (choice_of subject prior) (candidates cuts)) =
      get_or-per_item (next_choice subject) subject.graph.nodes node (own_choice node) (Inp 0) within
      ∙ ap (λ n. best_of n (map (choice_of subject prior) (candidates (cut_list subject.graph n)))) long in
      subst (ComesFrom IsOfNode) (sym is)
      (best_of-has (ComesFrom IsOfNode) node (map (choice_of subject prior) (candidates cuts))
      (omega (arith, length-map (candidates cuts) (choice_of subject prior), candidates-some proper within behind))
      (candidates-come subject prior IsOfNode cuts (cuts-of_node proper within)))

  -- its leaves are the cut's
  pub leaves-come : (from : ComesFrom IsOfNode (choice_at (choices_of subject) node)) → leaves_in (choice_at (choices_of subject) node).leaves ≡ from.cut.leaves
  leaves-come from = ap leaves_in from.leaves ∙ leaves_in-first_word from.cut.leaves from.is.cut'.few from.is.cut'.low
