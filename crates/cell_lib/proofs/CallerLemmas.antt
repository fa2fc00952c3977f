-- The lemmas that other crates cite: ranks and pins of cells, which cells are no DRO, and that a cell's value doesn't hang on
-- the order of its pins.
use Rattle.std.proofs.Common.{◌≡◌, ◌≢◌, ◌==◌, ◌≤◌, ◌∙◌, ℕ, zero, suc, Bool, true, false, not, cond, nat_le, List, [], ◌∷◌, lit≤, refl, sym, ap, arith}
use Rattle.std.specs.Bool.{Decides}
use Rattle.std.specs.List.{count_by, list_all, list_any}
use Rattle.std.specs.List.Sorted.{IsPermutation}
use Rattle.std.proofs.lemmas.Bool.Decides.{Decides-eqb, Decides-like}
use Rattle.std.proofs.lemmas.List.Sums.{sum_by-cons}
use Rattle.std.proofs.lemmas.List.Sorted.{list_any-IsPermutation, sum_by-IsPermutation}
use Rattle.cell_lib.specs.declared.cell.Cell.{Cell}
use Rattle.cell_lib.specs.declared.cell.Cell.TheVariants.{Dro, Not, And, Or, Xor, Maj}
use Rattle.cell_lib.specs.Cell.{rank_of, arity_of, is_odd_count, cell_value, is_dro}

-- the cell of a rank, which undoes `rank_of`
abbrev cell_at : ℕ → Cell
cell_at zero = Dro
cell_at (suc zero) = Not
cell_at (suc (suc zero)) = And
cell_at (suc (suc (suc zero))) = Or
cell_at (suc (suc (suc (suc zero)))) = Xor
cell_at (suc (suc (suc (suc (suc n))))) = Maj

cell_at-rank_of : (cell : Cell) → cell_at (rank_of cell) ≡ cell
cell_at-rank_of Dro = refl
cell_at-rank_of Not = refl
cell_at-rank_of And = refl
cell_at-rank_of Or = refl
cell_at-rank_of Xor = refl
cell_at-rank_of Maj = refl

-- Two cells are one where their ranks are.
pub same_rank-decides : (a b : Cell) → Decides (rank_of a == rank_of b) (a ≡ b)
same_rank-decides a b =
    Decides-like (rank_of a == rank_of b) (λ e. sym (cell_at-rank_of a) ∙ ap cell_at e ∙ cell_at-rank_of b) (ap rank_of) (Decides-eqb (rank_of a) (rank_of b))

-- A cell has a pin at least,
pub arity_of-some : (cell : Cell) → 1 ≤ arity_of cell
arity_of-some Dro = lit≤ tt
arity_of-some Not = lit≤ tt
arity_of-some And = lit≤ tt
arity_of-some Or = lit≤ tt
arity_of-some Xor = lit≤ tt
arity_of-some Maj = lit≤ tt

-- and three at most.
pub arity_of-few : (cell : Cell) → arity_of cell ≤ 3
arity_of-few Dro = lit≤ tt
arity_of-few Not = lit≤ tt
arity_of-few And = lit≤ tt
arity_of-few Or = lit≤ tt
arity_of-few Xor = lit≤ tt
arity_of-few Maj = lit≤ tt

-- Any other cell than a DRO is none.
pub is_dro-other : (cell : Cell) → cell ≢ Dro → is_dro cell ≡ false
is_dro-other Dro other = absurd (other refl)
is_dro-other Not other = refl
is_dro-other And other = refl
is_dro-other Or other = refl
is_dro-other Xor other = refl
is_dro-other Maj other = refl

-- A test passes all of a list where its complement passes none,
list_all-not_any : (values : List Bool) → list_all (λ pin. pin) values ≡ not (list_any not values)
list_all-not_any [] = refl
list_all-not_any (true ∷ values) = list_all-not_any values
list_all-not_any (false ∷ values) = refl

-- and an odd number of values is true where their count is odd,
abbrev is_odd : ℕ → Bool
is_odd zero = false
is_odd (suc n) = not (is_odd n)

is_odd_count-count : (values : List Bool) → is_odd_count values ≡ is_odd (count_by (λ pin. pin) values)
is_odd_count-count [] = refl
is_odd_count-count (true ∷ values) =
    let one : suc (count_by (λ pin. pin) values) ≡ count_by (λ pin. pin) (true ∷ values) =
    omega (arith, sum_by-cons (λ pin. cond pin 1 0) true values) in
    ap not (is_odd_count-count values) ∙ ap is_odd one
is_odd_count-count (false ∷ values) =
    let none : count_by (λ pin. pin) values ≡ count_by (λ pin. pin) (false ∷ values) =
    omega (arith, sum_by-cons (λ pin. cond pin 1 0) false values) in
    is_odd_count-count values ∙ ap is_odd none

module _ (values turned : List Bool) (same : IsPermutation values turned) where
  list_all-turned : list_all (λ pin. pin) turned ≡ list_all (λ pin. pin) values
  list_all-turned = list_all-not_any turned ∙ ap not (sym (list_any-IsPermutation not values turned same)) ∙ sym (list_all-not_any values)

  count_by-turned : count_by (λ pin. pin) turned ≡ count_by (λ pin. pin) values
  count_by-turned = sum_by-IsPermutation (λ pin. cond pin 1 0) values turned same

  -- so a cell has one value over the same pins in any order.
  pub cell_value-IsPermutation : (cell : Cell) → cell_value cell turned ≡ cell_value cell values
  cell_value-IsPermutation Dro = list_all-turned
  cell_value-IsPermutation Not = ap not list_all-turned
  cell_value-IsPermutation And = list_all-turned
  cell_value-IsPermutation Or = sym (list_any-IsPermutation (λ pin. pin) values turned same)
  cell_value-IsPermutation Xor = is_odd_count-count turned ∙ ap is_odd count_by-turned ∙ sym (is_odd_count-count values)
  cell_value-IsPermutation Maj = ap (nat_le 2) count_by-turned
