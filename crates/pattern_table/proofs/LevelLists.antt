-- The levels so far, and one more.
use Rattle.std.proofs.Common.{◌≡◌, ◌<◌, ◌≤◌, ◌+◌, ◌-◌, ◌*◌, ◌++◌, ◌∙◌, inl, inr, ℕ, suc, List, [], ◌∷◌, length, get_or, Option, sym, ap, subst, arith}
use Rattle.std.proofs.lemmas.Bool.{cases_lt}
use Rattle.std.proofs.lemmas.List.{get_or_append_left, get_or_push, length_push}
use Rattle.pattern_table.specs.declared.formula.Formula.{Formula}
use Rattle.pattern_table.specs.declared.heads.Part.{Part}
use Rattle.pattern_table.specs.Least.{parts_above, parts_at}
use Rattle.pattern_table.specs.Steps.{IsLevelOver}
use Rattle.pattern_table.specs.Levels.{level_place, IsLevelOf, AreLevels}

-- A level over the parts of a depth is that of the depth above.
pub IsLevelOf-over : (size depth : ℕ) (parts : List Part) (level : List (Option Formula)) → parts ≡ parts_at size depth → IsLevelOver parts level → IsLevelOf size (suc depth) level
unfolding IsLevelOver IsLevelOf
IsLevelOf-over size depth parts level is over table h = subst (λ ps. IsLevelOver ps level) is over table h

-- Two levels at one place are of one size and of one depth.
same-place : (size depth size' depth' : ℕ) → 1 ≤ size → 1 ≤ depth → depth ≤ 4 → 1 ≤ size' → 1 ≤ depth' → depth' ≤ 4 → level_place size depth ≡ level_place size' depth' → (size ≡ size') × (depth ≡ depth')
same-place size depth size' depth' a b d a' b' d' same = (omega arith, omega arith)

pub AreLevels-more : (count : ℕ) (levels : List (List (Option Formula))) (size depth : ℕ) (level : List (Option Formula)) → 1 ≤ size → 1 ≤ depth → depth ≤ 4 → level_place size depth ≡ count → IsLevelOf size depth level → AreLevels count levels → AreLevels (count + 1) (levels ++ level ∷ [])
AreLevels-more count levels size depth level one-size one-depth few-depth place is so-far = record {
  many = omega (arith, length_push levels level, so-far.many);
  each = λ s d a b e f below. elim (cases_lt (level_place s d) count) [
    | inl before ↦
        let old : level_place s d < length levels = omega (arith, so-far.many) in
        subst (IsLevelOf s d) (sym (get_or_append_left levels (level ∷ []) [] (level_place s d) old)) (so-far.each s d a b e f before)
    | inr last ↦
        let at : level_place s d ≡ level_place size depth = omega (arith, place) in
        let same : (s ≡ size) × (d ≡ depth) = same-place s d size depth a e f one-size one-depth few-depth at in
        let new : get_or (levels ++ level ∷ []) (level_place s d) [] ≡ level = get_or_push levels level [] (level_place s d) (omega (arith, so-far.many, place)) in
        subst (IsLevelOf s d) (sym new) (subst (λ n. IsLevelOf n d level) (sym same.0) (subst (λ n. IsLevelOf size n level) (sym same.1) is))
  ];
}

-- The next level of a size.
pub AreLevels-next : (levels new : List (List (Option Formula))) (size depth : ℕ) (level : List (Option Formula)) → 1 ≤ size → depth < 4 → new ≡ levels ++ level ∷ [] → IsLevelOf size (suc depth) level → AreLevels ((size - 1) * 4 + depth) levels → AreLevels ((size - 1) * 4 + (depth + 1)) new
AreLevels-next levels new size depth level one-size few pushed is so-far =
    let place : level_place size (suc depth) ≡ (size - 1) * 4 + depth = omega arith in
    let more : AreLevels ((size - 1) * 4 + depth + 1) (levels ++ level ∷ []) =
    AreLevels-more ((size - 1) * 4 + depth) levels size (suc depth) level one-size (omega arith) (omega arith) place is so-far in
    let count : (size - 1) * 4 + depth + 1 ≡ (size - 1) * 4 + (depth + 1) = omega arith in
    subst (AreLevels ((size - 1) * 4 + (depth + 1))) (sym pushed) (subst (λ n. AreLevels n (levels ++ level ∷ [])) count more)

-- The parts of the next depth.
pub parts_at-next : (size depth : ℕ) (parts : List Part) → parts ≡ parts_above (parts_at size depth) → parts ≡ parts_at size (depth + 1)
parts_at-next size depth parts is = is ∙ ap (parts_at size) (let e : suc depth ≡ depth + 1 = omega arith in e)
