-- What the crates above cite: what a candidate is of, and that complements and conjunctions have candidates.
use Rattle.std.proofs.Common.{◌≡◌, ◌≤◌, ◌∙◌, ℕ, Bool, true, false, cond, List, [], ◌∷◌, length, drop, All, Option, Some, None, refl, sym, ap, arith}
use Rattle.std.specs.List.{filter_map, flat_map, cons_option}
use Rattle.std.specs.Option.{option_map}
use Rattle.std.proofs.lemmas.List.Elements.{All-from_recursion, All-nil, All-cons, All-head, All-tail, All-append, All-weaker}
use Rattle.cell_lib.specs.declared.cell.Cell.TheVariants.{Not, And}
use Rattle.cut_word.specs.Cut.{CutView, trivial_cut, negated}
use Rattle.cut_word.specs.Table.{table_of}
use Rattle.pattern_table.specs.declared.formula.Formula.{Formula}
use Rattle.pattern_table.specs.Formula.{table_over}
use Rattle.pattern_table.specs.Least.{least_formula, least_head}
use Rattle.cell_match.specs.declared.matching.Match.{Match}
use Rattle.cell_match.specs.Candidates.{is_plain_table, match_of, match_at, cut_matches, candidates}

-- ---- What a candidate is of
-- a candidate is that of a cut at a depth, at which a least formula has the cut's table
pub record IsOfCut (cut : CutView) (candidate : Match) : Type 0 where
  pub shallow : candidate.depth ≤ 4
  pub formula : (formula : Formula) × (least_formula (length cut.leaves) cut.table candidate.depth ≡ Some formula) × (candidate ≡ match_of cut candidate.depth formula)

-- a candidate is that of some cut that has this
abbrev pub IsOfSome : (CutView → Type 0) → Match → Type 0
IsOfSome P candidate = (cut : CutView) × P cut × IsOfCut cut candidate

All-filter_map : {X Y : Type 0} (P : X → Type 0) (Q : Y → Type 0) (h : X → Option Y) (xs : List X) → ((x : X) (y : Y) → P x → h x ≡ Some y → Q y) → All P xs → All Q (filter_map h xs)
All-filter_map P Q h [] step all = All-nil Q
All-filter_map P Q h (x ∷ xs) step all = by (h x) refl (All-filter_map P Q h xs step (All-tail P x xs all))
  where
    by : (o : Option _) → h x ≡ o → All Q (filter_map h xs) → All Q (cons_option o (filter_map h xs))
    by None is rest = rest
    by (Some y) is rest = All-cons Q y (filter_map h xs) (step x y (All-head P x xs all) is) rest

match_at-is : (cut : CutView) (depth : ℕ) (candidate : Match) → depth ≤ 4 → match_at cut depth ≡ Some candidate → IsOfCut cut candidate
match_at-is cut depth candidate low is = by (least_formula (length cut.leaves) cut.table depth) refl is
  where
    by : (o : Option Formula) → least_formula (length cut.leaves) cut.table depth ≡ o → option_map (match_of cut depth) o ≡ Some candidate → IsOfCut cut candidate
    by None least e = absurd (cc)
    by (Some formula) least e =
        let same : match_of cut depth formula ≡ candidate = cc in
        let deep : depth ≡ candidate.depth = ap (λ (m : Match). m.depth) same in
        record {
          shallow = omega arith;
          formula = (formula, ap (least_formula (length cut.leaves) cut.table) (sym deep) ∙ least, sym same ∙ ap (λ d. match_of cut d formula) deep);
        }

All-cut_matches : (cut : CutView) → All (IsOfCut cut) (cut_matches cut)
unfolding cut_matches
All-cut_matches cut = by (is_plain_table cut.table)
  where
    low : All (λ depth. depth ≤ 4) (1 ∷ 2 ∷ 3 ∷ 4 ∷ [])
    low = All-from_recursion (λ depth. depth ≤ 4) (1 ∷ 2 ∷ 3 ∷ 4 ∷ []) (omega arith, (omega arith, (omega arith, (omega arith, tt))))

    by : (b : Bool) → All (IsOfCut cut) (cond b [] (filter_map (match_at cut) (1 ∷ 2 ∷ 3 ∷ 4 ∷ [])))
    by true = All-nil (IsOfCut cut)
    by false = All-filter_map (λ depth. depth ≤ 4) (IsOfCut cut) (match_at cut) (1 ∷ 2 ∷ 3 ∷ 4 ∷ []) (match_at-is cut) low

-- Each candidate is that of a cut behind the first, and has what they all have.
pub All-candidates : (P : CutView → Type 0) (cuts : List CutView) → All P (drop 1 cuts) → All (IsOfSome P) (candidates cuts)
All-candidates P cuts all = each (drop 1 cuts) all
  where
    each : (cuts : List CutView) → All P cuts → All (IsOfSome P) (flat_map cut_matches cuts)
    each [] all = All-nil (IsOfSome P)
    each (cut ∷ cuts) all =
        All-append (IsOfSome P) (cut_matches cut) (flat_map cut_matches cuts)
        (All-weaker (IsOfCut cut) (IsOfSome P) (λ candidate of. (cut, All-head P cut cuts all, of)) (cut_matches cut) (All-cut_matches cut))
        (each cuts (All-tail P cut cuts all))

-- ---- Nodes that have candidates
-- the fan-in cut of a complement has a first candidate, one Not,
pub cut_matches-complement : (a : ℕ) → (more : List Match) × (cut_matches (negated (trivial_cut a)) ≡ match_of (negated (trivial_cut a)) 1 (record { cell = Not; left = 0xAA; middle = 0; right = 0; cost = 9 }) ∷ more)
unfolding cut_matches least_head table_over table_of
cut_matches-complement a = (filter_map (match_at (negated (trivial_cut a))) (2 ∷ 3 ∷ 4 ∷ []), refl)

-- and that of a conjunction one And.
pub cut_matches-conjunction : (a b : ℕ) → (more : List Match) × (cut_matches (record { leaves = a ∷ b ∷ []; table = 0x88 }) ≡ match_of (record { leaves = a ∷ b ∷ []; table = 0x88 }) 1 (record { cell = And; left = 0xAA; middle = 0; right = 0xCC; cost = 11 }) ∷ more)
unfolding cut_matches least_head table_over table_of
cut_matches-conjunction a b = (filter_map (match_at (record { leaves = a ∷ b ∷ []; table = 0x88 })) (2 ∷ 3 ∷ 4 ∷ []), refl)
