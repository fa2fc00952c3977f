-- The steps of the walks over parts: the heads of what is left are those of the next part and those of the rest.
use Rattle.std.proofs.Common.{◌≡◌, ◌<◌, ◌+◌, ◌-◌, ◌++◌, ◌∙◌, ℕ, List, ◌∷◌, Option, length, get_or, take, drop, map, sym, ap, arith}
use Rattle.std.proofs.lemmas.List.{drop_more, at_drop_more, take_all, length-drop}
use Rattle.cell_lib.specs.declared.cell.Cell.TheVariants.{Dro, Not, And, Or, Xor}
use Rattle.pattern_table.specs.declared.formula.Formula.{Formula}
use Rattle.pattern_table.specs.declared.heads.Part.{Part}
use Rattle.pattern_table.specs.Steps.{single_heads, pair_heads, triple_heads, walked_heads, AreNoted}
use Rattle.pattern_table.proofs.Noting.{AreNoted-append}

-- A walk whose step looks at the next part and at all that is left, that part among it.
pub walk-step : (heads : List Part → List Formula) (step : Part → List Part → List Formula) → ((part : Part) (parts : List Part) → heads (part ∷ parts) ≡ step part (part ∷ parts) ++ heads parts) → (parts : List Part) (i : ℕ) (d : Part) → i < length parts → heads (drop i parts) ≡ step (get_or parts i d) (take (length parts - i) (drop i parts)) ++ heads (drop (i + 1) parts)
walk-step heads step unfolds parts i d within =
    at_drop_more heads parts i d within
    ∙ unfolds (get_or parts i d) (drop (i + 1) parts)
    ∙ ap (λ ps. step (get_or parts i d) ps ++ heads (drop (i + 1) parts))
    (sym (drop_more parts i d within) ∙ sym (take_all (length parts - i) (drop i parts) (omega (arith, length-drop i parts))))

-- A walk that makes one head of each part.
pub map-step : (head : Part → Formula) (parts : List Part) (i : ℕ) (d : Part) (next : Formula) → i < length parts → next ≡ head (get_or parts i d) → map head (drop i parts) ≡ next ∷ map head (drop (i + 1) parts)
map-step head parts i d next within is = at_drop_more (map head) parts i d within ∙ ap (λ (f : Formula). f ∷ map head (drop (i + 1) parts)) (sym is)

-- ---- All heads that are met are noted one cell after the other.
module _ (parts : List Part) (empty one two three four five six : List (Option Formula)) where
  pub walked-noted : AreNoted (single_heads Dro parts) empty one → AreNoted (single_heads Not parts) one two → AreNoted (pair_heads And parts) two three → AreNoted (pair_heads Or parts) three four → AreNoted (pair_heads Xor parts) four five → AreNoted (triple_heads parts) five six → AreNoted (walked_heads parts) empty six
  unfolding walked_heads
  walked-noted dro not and or xor maj =
      AreNoted-append (single_heads Dro parts) _ empty one six dro (AreNoted-append (single_heads Not parts) _ one two six not
      (AreNoted-append (pair_heads And parts) _ two three six and (AreNoted-append (pair_heads Or parts) _ three four six or
      (AreNoted-append (pair_heads Xor parts) (triple_heads parts) four five six xor maj))))
