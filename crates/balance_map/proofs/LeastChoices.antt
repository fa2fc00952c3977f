-- A choice is least. The comparison is a total order, so the lesser of each two, candidate by candidate, is in the end no greater
-- than any; and a complement or a conjunction has a first candidate, one cell over its fan-ins.
use Rattle.std.proofs.Common.{◌≡◌, ◌≤◌, ◌<◌, ◌+◌, ◌-◌, ◌*◌, ◌/◌, ◌++◌, ◌==◌, ◌∙◌, ℕ, Bool, true, false, List, [], ◌∷◌, length, get_or, take, map, sum, max, min, All, Some, refl, sym, ap, subst, arith}
use Rattle.std.specs.Prelude.{Contains}
use Rattle.std.specs.List.{cons_option, best_of as first_best}
use Rattle.std.specs.Cmp.{IsStrictWeakOrder}
use Rattle.std.specs.Ordering.{is_lt}
use Rattle.std.proofs.lemmas.Bool.{lt-ltb, eq-eqb, ne_eqb}
use Rattle.std.proofs.lemmas.List.{get_or-take, get_or_default, length-map}
use Rattle.std.proofs.lemmas.List.Elements.{All-head, All-tail}
use Rattle.std.proofs.lemmas.List.MinMax.{ranks_by, IsFirstBest-from_best_of}
use Rattle.net_base.specs.declared.graph.GNode.{GNode}
use Rattle.net_base.specs.declared.graph.GNode.TheVariants.{Inp, Neg, Both}
use Rattle.net_base.specs.declared.graph.Graph.{Graph}
use Rattle.net_base.specs.declared.graph.Subject.{Subject}
use Rattle.net_base.specs.Graph.{IsNodeAt, IsProper}
use Rattle.cell_lib.specs.declared.cell.Cell.TheVariants.{Dro}
use Rattle.cell_lib.specs.Cell.{junctions_of}
use Rattle.cut_word.specs.Cut.{CutView, trivial_cut, negated}
use Rattle.cut_word.specs.Table.{table_of}
use Rattle.cut_word.specs.Word.{leaves_in}
use Rattle.cut_word.specs.Merge.{united, merged, both_over}
use Rattle.cut_word.proofs.CallerLemmas.{merged-some}
use Rattle.cut_lists.specs.CutList.{cut_list, cut_lists, fan_in_cut, pool_of, list_with, merges}
use Rattle.cut_lists.proofs.CallerLemmas.{cut_list-is}
use Rattle.cell_match.specs.declared.matching.Match.{Match}
use Rattle.cell_match.specs.Candidates.{cut_matches, candidates}
use Rattle.cell_match.proofs.CallerLemmas.{cut_matches-complement, cut_matches-conjunction}
use Rattle.balance_map.specs.contracts.choice.ChoiceOrd.TheImpl.Laws.{total-law}
use Rattle.balance_map.specs.declared.choice.Choice.{Choice}
use Rattle.balance_map.specs.Choices.{own_choice, choice_at, latest, leaf_cost, choice_over, choice_of, choice_cmp, lesser, least_of, best_of, choices_of}
use Rattle.balance_map.specs.declared.choice.TheConstants.{MAX_COST}
use Rattle.balance_map.specs.FanOuts.{fan_outs}
use Rattle.balance_map.specs.Laws.{ChoicesAreLeast}
use Rattle.balance_map.specs.Steps.{IsOver}
use Rattle.balance_map.proofs.Candidates.{leaves-there}
use Rattle.balance_map.proofs.NodeChoices.{choice-is, candidates-below}

-- ---- The least of a list
-- one choice comes before another
abbrev beats : Choice → Choice → Bool
beats a b = is_lt (choice_cmp a b)

beats-order : IsStrictWeakOrder beats
beats-order = ranks_by total-law (λ choice. choice)

least_of-first : (best : Choice) (choices : List Choice) → first_best beats best choices ≡ least_of best choices
least_of-first best [] = refl
least_of-first best (choice ∷ choices) = least_of-first (lesser best choice) choices

-- a choice is among these, and none of them comes before it
abbrev IsLeastOf : List Choice → Choice → Type 0
IsLeastOf choices least = Contains choices least × All (λ (other : Choice). is_lt (choice_cmp other least) ≡ false) choices

best_of-least : (node : ℕ) (choices : List Choice) → 1 ≤ length choices → IsLeastOf choices (best_of node choices)
best_of-least node [] some = absurd (omega arith)
best_of-least node (choice ∷ choices) some =
    let found = IsFirstBest-from_best_of beats-order choice choices in
    let is : (d : Choice) → get_or (choice ∷ choices) found.0 d ≡ least_of choice choices =
    λ d. get_or_default (choice ∷ choices) found.0 d choice found.1.0 ∙ found.2 ∙ least_of-first choice choices in (
      (found.0, found.1.0, is (least_of choice choices)),
      λ k d low. subst (λ (c : Choice). beats (get_or (choice ∷ choices) k d) c ≡ false) (is d) (found.1.1 k d low),
    )

-- ---- Choices of lower nodes alone count
latest-take : (choices : List Choice) (nodes : ℕ) (leaves : List ℕ) → All (λ leaf. leaf < nodes) leaves → latest (take nodes choices) leaves ≡ latest choices leaves
latest-take choices nodes [] low = refl
latest-take choices nodes (leaf ∷ leaves) low =
    ap (λ (c : Choice). max c.arrival (latest (take nodes choices) leaves)) (get_or-take nodes choices leaf (own_choice leaf) (All-head (λ n. n < nodes) leaf leaves low))
    ∙ ap (max (choice_at choices leaf).arrival) (latest-take choices nodes leaves (All-tail (λ n. n < nodes) leaf leaves low))

leaf_costs-take : (subject : Subject) (choices : List Choice) (nodes last : ℕ) (leaves : List ℕ) → All (λ leaf. leaf < nodes) leaves → map (leaf_cost subject (take nodes choices) last) leaves ≡ map (leaf_cost subject choices last) leaves
leaf_costs-take subject choices nodes last [] low = refl
leaf_costs-take subject choices nodes last (leaf ∷ leaves) low =
    let same : choice_at (take nodes choices) leaf ≡ choice_at choices leaf = get_or-take nodes choices leaf (own_choice leaf) (All-head (λ n. n < nodes) leaf leaves low) in
    let costs : Choice → ℕ = λ c. c.cost / fan_outs subject leaf + junctions_of Dro * (last - c.arrival) in
    let rest : map (leaf_cost subject (take nodes choices) last) leaves ≡ map (leaf_cost subject choices last) leaves = leaf_costs-take subject choices nodes last leaves (All-tail (λ n. n < nodes) leaf leaves low) in
    λ j. costs (same j) ∷ rest j

choice_of-take : (subject : Subject) (choices : List Choice) (nodes : ℕ) (candidate : Match) → IsOver nodes candidate → choice_of subject (take nodes choices) candidate ≡ choice_of subject choices candidate
unfolding choice_of
choice_of-take subject choices nodes candidate is =
    let leaves : List ℕ = leaves_in candidate.leaves in
    let low : All (λ leaf. leaf < nodes) leaves = leaves-there nodes candidate is in
    let over : List ℕ → Choice = λ costs.
    record { cost = min MAX_COST (candidate.cost + sum costs); arrival = latest choices leaves + candidate.depth; leaves = candidate.leaves; table = candidate.table; depth = candidate.depth } in
    ap (choice_over subject (take nodes choices) candidate leaves) (latest-take choices nodes leaves low)
    ∙ ap over (leaf_costs-take subject choices nodes (latest choices leaves) leaves low)

all-take : (subject : Subject) (choices : List Choice) (nodes : ℕ) (found : List Match) → All (IsOver nodes) found → map (choice_of subject (take nodes choices)) found ≡ map (choice_of subject choices) found
all-take subject choices nodes [] over = refl
all-take subject choices nodes (candidate ∷ found) over =
    λ j. choice_of-take subject choices nodes candidate (All-head (IsOver nodes) candidate found over) j ∷ all-take subject choices nodes found (All-tail (IsOver nodes) candidate found over) j

-- ---- A node that isn't an input has a candidate
conjunction-table : (a b : ℕ) → a < b → both_over (a ∷ b ∷ []) (trivial_cut a) (trivial_cut b) ≡ record { leaves = a ∷ b ∷ []; table = 0x88 }
unfolding both_over table_of
conjunction-table a b low =
    let first : (a == a) ≡ true = eq-eqb a a refl in
    let second : (b == b) ≡ true = eq-eqb b b refl in
    let other : (b == a) ≡ false = ne_eqb b a (λ e. omega arith) in
    rw (first, other, second) refl

conjunction : (a b : ℕ) → a < b → merges (trivial_cut a ∷ []) (trivial_cut b ∷ []) ≡ record { leaves = a ∷ b ∷ []; table = 0x88 } ∷ []
conjunction a b low =
    let both : united (a ∷ []) (b ∷ []) ≡ a ∷ b ∷ [] = rw (lt-ltb a b low) refl in
    let is : merged (trivial_cut a) (trivial_cut b) ≡ Some (both_over (united (a ∷ []) (b ∷ [])) (trivial_cut a) (trivial_cut b)) = merged-some (trivial_cut a) (trivial_cut b) (omega (arith, ap length both)) in
    ap (λ o. cons_option o [] ++ [])
    (is ∙ ap (λ leaves. Some (both_over leaves (trivial_cut a) (trivial_cut b))) both ∙ ap Some (conjunction-table a b low))

some-first : (cut : CutView) (more : List Match) (first : Match) (rest : List Match) → cut_matches cut ≡ first ∷ more → 1 ≤ length (cut_matches cut ++ rest)
some-first cut more first rest is = subst (λ (found : List Match). 1 ≤ length (found ++ rest)) (sym is) (omega arith)

has-candidates : (graph : Graph) (node : ℕ) → IsProper graph → node < length graph.nodes → graph.inputs ≤ node → 1 ≤ length (candidates (cut_list graph node))
has-candidates graph node proper within above =
    subst (λ (cuts : List CutView). 1 ≤ length (candidates cuts)) (sym (cut_list-is graph node (Inp 0) proper within))
    (by (get_or graph.nodes node (Inp 0)) (proper.nodes node (Inp 0) within))
  where
    by : (item : GNode) → IsNodeAt graph.inputs node item → 1 ≤ length (candidates (list_with node (fan_in_cut item) (pool_of (cut_lists graph) item)))
    by (Inp k) there = absurd (omega (arith, there.0, there.1))
    by (Neg a) there =
        let found = cut_matches-complement a in
        some-first (negated (trivial_cut a)) found.0 _ _ found.1
    by (Both a b) there =
        let cut : CutView = record { leaves = a ∷ b ∷ []; table = 0x88 } in
        let pool : List CutView = pool_of (cut_lists graph) (Both a b) in
        let found = cut_matches-conjunction a b in
        subst (λ (cuts : List CutView). 1 ≤ length (candidates (list_with node cuts pool))) (sym (conjunction a b there.1)) (some-first cut found.0 _ _ found.1)

-- ---- The law
pub choices_are_least : ChoicesAreLeast
choices_are_least subject node is within above =
    let all : List Choice = choices_of subject in
    let found : List Match = candidates (cut_list subject.graph node) in
    let made : List Choice = map (choice_of subject (take node all)) found in
    let some : 1 ≤ length made = omega (arith, length-map found (choice_of subject (take node all)), has-candidates subject.graph node is.graph within above) in
    subst (λ (choices : List Choice). IsLeastOf choices (choice_at all node)) (all-take subject all node found (candidates-below subject.graph node is.graph within))
    (subst (IsLeastOf made) (sym (choice-is subject node (own_choice node) within)) (best_of-least node made some))
