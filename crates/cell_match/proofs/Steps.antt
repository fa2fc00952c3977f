-- Candidates one by one: a depth more of a cut, and a cut more of a list.
use Rattle.std.proofs.Common.{◌≡◌, ◌≤◌, ◌<◌, ◌+◌, ◌-◌, ◌++◌, ◌∙◌, ℕ, zero, suc, true, false, List, [], ◌∷◌, length, get_or, take, drop, Option, refl, sym, ap, arith}
use Rattle.std.specs.List.{filter_map, flat_map, cons_option}
use Rattle.std.proofs.lemmas.Grind.{flat_map-append}
use Rattle.std.proofs.lemmas.List.{take_more, append-nil, length-take-le}
use Rattle.std.proofs.lemmas.List.Elements.{filter_map-append}
use Rattle.cut_word.specs.Cut.{CutView}
use Rattle.cell_match.specs.declared.matching.Match.{Match}
use Rattle.cell_match.specs.Candidates.{is_plain_table, match_at, cut_matches}

-- ---- The depths of a cut
abbrev pub depths : List ℕ
depths = 1 ∷ 2 ∷ 3 ∷ 4 ∷ []

depths-more : (depth : ℕ) → 1 ≤ depth → depth < 5 → take (depth - 1) depths ++ depth ∷ [] ≡ take (depth + 1 - 1) depths
depths-more zero low high = absurd (omega arith)
depths-more (suc zero) low high = refl
depths-more (suc (suc zero)) low high = refl
depths-more (suc (suc (suc zero))) low high = refl
depths-more (suc (suc (suc (suc zero)))) low high = refl
depths-more (suc (suc (suc (suc (suc depth))))) low high = absurd (omega arith)

-- What is found at the depths below one, and at this one, is what is found below the next.
pub depth-more : (h : ℕ → Option Match) (depth : ℕ) → 1 ≤ depth → depth < 5 → filter_map h (take (depth - 1) depths) ++ cons_option (h depth) [] ≡ filter_map h (take (depth + 1 - 1) depths)
depth-more h depth low high = sym (filter_map-append h (take (depth - 1) depths) (depth ∷ [])) ∙ ap (filter_map h) (depths-more depth low high)

-- A plain table has no candidate,
pub cut_matches-plain : (cut : CutView) → is_plain_table cut.table ≡ true → cut_matches cut ≡ []
unfolding cut_matches
cut_matches-plain cut plain = rw plain refl

-- and any other those of all depths.
pub cut_matches-other : (cut : CutView) → is_plain_table cut.table ≡ false → cut_matches cut ≡ filter_map (match_at cut) depths
unfolding cut_matches
cut_matches-other cut other = rw other refl

-- ---- The cuts of a list
drop-push : (cuts : List CutView) (cut : CutView) → 1 ≤ length cuts → drop 1 (cuts ++ cut ∷ []) ≡ drop 1 cuts ++ cut ∷ []
drop-push [] cut some = absurd (omega arith)
drop-push (first ∷ cuts) cut some = refl

-- The candidates of the cuts so far, and those of the next, are those of one cut more.
pub cut-more : (f : CutView → List Match) (cuts : List CutView) (k : ℕ) (cut : CutView) → 1 ≤ k → k < length cuts → cut ≡ get_or cuts k cut → flat_map f (drop 1 (take k cuts)) ++ f cut ≡ flat_map f (drop 1 (take (k + 1) cuts))
cut-more f cuts k cut some within read =
    let before : List CutView = drop 1 (take k cuts) in
    ap (λ found. flat_map f before ++ found) (sym (append-nil (f cut)))
    ∙ sym (flat_map-append f before (cut ∷ []))
    ∙ ap (flat_map f) (sym (drop-push (take k cuts) cut (omega (arith, length-take-le k cuts))))
    ∙ ap (λ (c : CutView). flat_map f (drop 1 (take k cuts ++ c ∷ []))) read
    ∙ ap (λ cs. flat_map f (drop 1 cs)) (sym (take_more cuts k cut within))

-- The first cut is no candidate's.
pub first_cut : (f : CutView → List Match) (cuts : List CutView) (k : ℕ) → k ≤ 1 → [] ≡ flat_map f (drop 1 (take k cuts))
first_cut f cuts zero few = refl
first_cut f [] (suc zero) few = refl
first_cut f (cut ∷ cuts) (suc zero) few = refl
first_cut f cuts (suc (suc k)) few = absurd (omega arith)
