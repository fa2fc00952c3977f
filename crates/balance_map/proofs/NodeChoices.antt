-- The choices of all nodes: each is made from those before it, and all have room in sums.
use Rattle.std.proofs.Common.{◌≡◌, ◌≤◌, ◌<◌, ◌+◌, ◌*◌, ◌^◌, ◌++◌, ◌∙◌, inl, inr, ℕ, zero, suc, Bool, true, false, cond, List, [], ◌∷◌, length, get_or, take, drop, map, All, sym, ap, subst, arith}
use Rattle.std.specs.Ordering.{is_lt}
use Rattle.std.proofs.lemmas.Bool.{cases_lt}
use Rattle.std.proofs.lemmas.List.{get_or-take, length-take-le, take_more, get_or_default}
use Rattle.std.proofs.lemmas.List.Elements.{All-head, All-tail, All-map, All-weaker, All-drop, All-from_get_or}
use Rattle.net_base.specs.declared.graph.GNode.{GNode}
use Rattle.net_base.specs.declared.graph.GNode.TheVariants.{Inp}
use Rattle.net_base.specs.declared.graph.Graph.{Graph}
use Rattle.net_base.specs.declared.graph.Subject.{Subject}
use Rattle.net_base.specs.Graph.{IsProper, IsSubject}
use Rattle.net_base.proofs.CallerLemmas.{length-per_item, get_or-per_item}
use Rattle.cut_word.specs.Cut.{CutView, IsCut}
use Rattle.cut_word.specs.Word.{leaves_in}
use Rattle.cut_lists.specs.declared.row.Row.{Row}
use Rattle.cut_lists.specs.CutList.{cut_list}
use Rattle.cut_lists.specs.Rows.{all_words, row_with, IsRowOf}
use Rattle.cut_lists.proofs.CallerLemmas.{list_of_node, all_words-at, IsRowOf-node}
use Rattle.cell_match.specs.declared.matching.Match.{Match}
use Rattle.cell_match.specs.Candidates.{candidates}
use Rattle.cell_match.proofs.CallerLemmas.{IsOfSome, All-candidates}
use Rattle.balance_map.specs.declared.choice.Choice.{Choice}
use Rattle.balance_map.specs.declared.choice.TheConstants.{MAX_COST}
use Rattle.balance_map.specs.Choices.{own_choice, choice_at, latest, choice_of, choice_cmp, lesser, least_of, best_of, next_choice, choices_of}
use Rattle.balance_map.specs.Steps.{HaveRoom, IsOver}
use Rattle.balance_map.proofs.Candidates.{leaves-there}

-- ---- Candidates of a node are over lower nodes
below-node : (node : ℕ) (candidate : Match) → IsOfSome (λ (cut : CutView). IsCut cut × All (λ leaf. leaf < node) cut.leaves) candidate → IsOver node candidate
below-node node candidate (cut, low, of) =
    let is = of.formula.2 in
    record {
      shallow = of.shallow;
      cut = (cut, low.0, low.1, ap (λ (m : Match). m.leaves) is, ap (λ (m : Match). m.table) is);
    }

pub candidates-below : (graph : Graph) (node : ℕ) → IsProper graph → node < length graph.nodes → All (IsOver node) (candidates (cut_list graph node))
candidates-below graph node proper within =
    let Low : CutView → Type 0 = λ cut. IsCut cut × All (λ leaf. leaf < node) cut.leaves in
    let of-node = list_of_node graph node proper within in
    let cuts : List CutView = drop 1 (cut_list graph node) in
    let cut : All IsCut cuts = All-drop IsCut 1 (cut_list graph node) of-node.each in
    All-weaker (IsOfSome Low) (IsOver node) (below-node node) (candidates (cut_list graph node))
    (All-candidates Low (cut_list graph node) (λ k d h. (cut k d h, of-node.lower k d h)))

-- ---- The choice of a node, from those of the nodes before it
pub length-choices_of : (subject : Subject) → length (choices_of subject) ≡ length subject.graph.nodes
length-choices_of subject = omega (arith, length-per_item (next_choice subject) [] subject.graph.nodes)

pub length-before : (subject : Subject) (node : ℕ) → node ≤ length subject.graph.nodes → length (take node (choices_of subject)) ≡ node
length-before subject node within = length-take-le node (choices_of subject) (omega (arith, length-choices_of subject))

-- the least of what a node's candidates would be, given these choices
abbrev pub best_at : Subject → List Choice → ℕ → Choice
best_at subject choices node = best_of node (map (choice_of subject choices) (candidates (cut_list subject.graph node)))

next_choice-is : (subject : Subject) (choices : List Choice) (node : ℕ) (item : GNode) → length choices ≡ node → next_choice subject choices item ≡ best_at subject choices node
unfolding next_choice
next_choice-is subject choices node item long = ap (best_at subject choices) long

pub choice-is : (subject : Subject) (node : ℕ) (d : Choice) → node < length subject.graph.nodes → get_or (choices_of subject) node d ≡ best_at subject (take node (choices_of subject)) node
choice-is subject node d within =
    get_or-per_item (next_choice subject) subject.graph.nodes node d (Inp 0) within
    ∙ next_choice-is subject (take node (choices_of subject)) node (get_or subject.graph.nodes node (Inp 0)) (length-before subject node (omega arith))

-- One node more.
pub choices-more : (subject : Subject) (node : ℕ) (choices : List Choice) (choice : Choice) → node < length subject.graph.nodes → choices ≡ take node (choices_of subject) → choice ≡ best_at subject choices node → choices ++ choice ∷ [] ≡ take (node + 1) (choices_of subject)
choices-more subject node choices choice within before is =
    ap (λ (c : Choice). choices ++ c ∷ []) (is ∙ ap (λ (cs : List Choice). best_at subject cs node) before ∙ sym (choice-is subject node choice within))
    ∙ ap (λ (cs : List Choice). cs ++ get_or (choices_of subject) node choice ∷ []) before
    ∙ sym (take_more (choices_of subject) node choice (omega (arith, length-choices_of subject)))

-- ---- Room
-- what the choice of a node costs at most, and the level at which it arrives at most
abbrev Fits : ℕ → Choice → Type 0
Fits node choice = (choice.cost ≤ MAX_COST) × (choice.arrival ≤ 4 * node + 4)

latest-low : (choices : List Choice) (node : ℕ) (leaves : List ℕ) → All (λ leaf. leaf < node) leaves → ((leaf : ℕ) → leaf < node → Fits leaf (choice_at choices leaf)) → latest choices leaves ≤ 4 * node
latest-low choices node [] low fit = omega arith
latest-low choices node (leaf ∷ leaves) low fit =
    let first : leaf < node = All-head (λ n. n < node) leaf leaves low in
    let fits : Fits leaf (choice_at choices leaf) = fit leaf first in
    omega (arith, fits.1, latest-low choices node leaves (All-tail (λ n. n < node) leaf leaves low) fit)

choice_of-fits : (subject : Subject) (choices : List Choice) (node : ℕ) (candidate : Match) → IsOver node candidate → ((leaf : ℕ) → leaf < node → Fits leaf (choice_at choices leaf)) → Fits node (choice_of subject choices candidate)
unfolding choice_of
choice_of-fits subject choices node candidate is fit =
    (omega arith, omega (arith, latest-low choices node (leaves_in candidate.leaves) (leaves-there node candidate is) fit, is.shallow))

module _ (P : Choice → Type 0) where
  lesser-has : (a b : Choice) → P a → P b → P (lesser a b)
  lesser-has a b of-a of-b = by (is_lt (choice_cmp b a))
    where
      by : (less : Bool) → P (cond less b a)
      by true = of-b
      by false = of-a

  least_of-has : (best : Choice) (choices : List Choice) → P best → All P choices → P (least_of best choices)
  least_of-has best [] one all = one
  least_of-has best (choice ∷ choices) one all =
      least_of-has (lesser best choice) choices (lesser-has best choice one (All-head P choice choices all)) (All-tail P choice choices all)

  best_of-has : (node : ℕ) (choices : List Choice) → P (own_choice node) → All P choices → P (best_of node choices)
  best_of-has node [] own all = own
  best_of-has node (choice ∷ choices) own all = least_of-has choice choices (All-head P choice choices all) (All-tail P choice choices all)

before-is : (subject : Subject) (node leaf : ℕ) → leaf < node → choice_at (take node (choices_of subject)) leaf ≡ choice_at (choices_of subject) leaf
before-is subject node leaf low = get_or-take node (choices_of subject) leaf (own_choice leaf) low

choice-fits : (subject : Subject) (node : ℕ) → IsSubject subject → node < length subject.graph.nodes → ((leaf : ℕ) → leaf < node → Fits leaf (choice_at (choices_of subject) leaf)) → Fits node (choice_at (choices_of subject) node)
choice-fits subject node is within fit =
    let before : List Choice = take node (choices_of subject) in
    let fit-before : (leaf : ℕ) → leaf < node → Fits leaf (choice_at before leaf) = λ leaf low. subst (Fits leaf) (sym (before-is subject node leaf low)) (fit leaf low) in
    let own : Fits node (own_choice node) = (omega arith, omega arith) in
    subst (Fits node) (sym (choice-is subject node (own_choice node) within))
    (best_of-has (Fits node) node (map (choice_of subject before) (candidates (cut_list subject.graph node))) own
    (All-map (Fits node) (choice_of subject before) (candidates (cut_list subject.graph node))
    (All-weaker (IsOver node) (λ candidate. Fits node (choice_of subject before candidate)) (λ candidate over. choice_of-fits subject before node candidate over fit-before)
    (candidates (cut_list subject.graph node)) (candidates-below subject.graph node is.graph within))))

-- By induction, all choices fit.
choices-fit : (subject : Subject) → IsSubject subject → (n : ℕ) → n ≤ length subject.graph.nodes → (node : ℕ) → node < n → Fits node (choice_at (choices_of subject) node)
choices-fit subject is zero few node low = absurd (omega arith)
choices-fit subject is (suc n) few node low = elim (cases_lt node n) [
  | inl lower ↦ choices-fit subject is n (omega arith) node lower
  | inr last ↦
      let same : n ≡ node = omega arith in
      subst (λ k. Fits k (choice_at (choices_of subject) k)) same (choice-fits subject n is (omega arith) (λ leaf below. choices-fit subject is n (omega arith) leaf below))
]

-- Sums over the choices so far stay in range.
pub HaveRoom-before : (subject : Subject) (node : ℕ) (choices : List Choice) → IsSubject subject → node ≤ length subject.graph.nodes → choices ≡ take node (choices_of subject) → HaveRoom choices
HaveRoom-before subject node choices is within before =
    let all : List Choice = take node (choices_of subject) in
    let long : length all ≡ node = length-before subject node within in
    let fit : (place : ℕ) → place < length all → Fits place (get_or all place (own_choice 0)) = λ place low.
    subst (Fits place)
    (sym (get_or_default all place (own_choice 0) (own_choice place) low ∙ before-is subject node place (omega arith)))
    (choices-fit subject is (length subject.graph.nodes) (omega arith) place (omega arith)) in
    subst HaveRoom (sym before) (record {
      costs = All-from_get_or (λ (c : Choice). c.cost ≤ MAX_COST) all (own_choice 0) (λ place low. (fit place low).0);
      arrivals = All-from_get_or (λ (c : Choice). c.arrival ≤ 2 ^ 23) all (own_choice 0) (λ place low. omega (arith, (fit place low).1, is.graph.few));
    })

-- ---- The loop over the nodes
-- The row that is read at a node's place is that of its cut list.
pub row-is : (graph : Graph) (rows : List (List ℕ)) (node : ℕ) (row : Row) → IsProper graph → node < length graph.nodes → rows ≡ all_words graph → row ≡ row_with (get_or rows node []) → IsRowOf (cut_list graph node) row
row-is graph rows node row proper within all is =
    IsRowOf-node graph node row proper within (is ∙ ap (λ (ws : List (List ℕ)). row_with (get_or ws node [])) all ∙ ap row_with (all_words-at graph node within))

-- Candidates of a node are over the choices so far.
pub candidates-over : (subject : Subject) (node : ℕ) (found : List Match) (choices : List Choice) → IsSubject subject → node < length subject.graph.nodes → found ≡ candidates (cut_list subject.graph node) → choices ≡ take node (choices_of subject) → All (IsOver (length choices)) found
candidates-over subject node found choices is within found-is before =
    subst (λ n. All (IsOver n) found) (sym (ap length before ∙ length-before subject node (omega arith)))
    (subst (All (IsOver node)) (sym found-is) (candidates-below subject.graph node is.graph within))
