-- The values that a place of a table gives the leaves, against rows of values.
use Rattle.std.proofs.Common.{◌≡◌, ◌<◌, ◌+◌, ◌*◌, ◌/◌, ◌%◌, ◌^◌, ◌==◌, ◌∙◌, inl, inr, ℕ, suc, Bool, List, [], ◌∷◌, length, map, refl, sym, ap, arith}
use Rattle.std.specs.Int.{bit_at}
use Rattle.std.proofs.Math.Arith.{mod-mul}
use Rattle.std.proofs.Math.Nat.{pow-suc}
use Rattle.std.proofs.lemmas.Nat.{pow_pos}
use Rattle.std.proofs.lemmas.Bool.{cases_eq, cases_Bool, eqb-true, eqb-false, eq-eqb, ne_eqb}
use Rattle.cut_word.specs.Table.{is_set, row_number}
use Rattle.cut_word.specs.Merge.{values_at}
use Rattle.cut_word.proofs.TableBits.{is_set-front, row_number-cons}
use Rattle.cut_word.proofs.Unions.{Has, Rises, AllAbove-has}

-- Two functions that agree on a list map it to the same.
pub map-has : (f g : ℕ → Bool) (xs : List ℕ) → ((id : ℕ) → Has xs id → f id ≡ g id) → map f xs ≡ map g xs
map-has f g [] same = refl
map-has f g (x ∷ xs) same = ap (λ v. v ∷ map f xs) (same x (inl refl)) ∙ ap (λ vs. g x ∷ vs) (map-has f g xs (λ id has. same id (inr has)))

-- the front leaf's value, and that of another
pub values_at-front : (leaf : ℕ) (leaves : List ℕ) (place id : ℕ) → id ≡ leaf → values_at (leaf ∷ leaves) place id ≡ is_set place 0
values_at-front leaf leaves place id e = rw (eq-eqb id leaf e) refl

pub values_at-behind : (leaf : ℕ) (leaves : List ℕ) (place id : ℕ) → (id ≡ leaf → ⊥) → values_at (leaf ∷ leaves) place id ≡ values_at leaves (place / 2) id
values_at-behind leaf leaves place id other = rw (ne_eqb id leaf other) refl

-- Where the place is the number of the leaves' values, it gives each leaf its value.
pub values_at-row_number : (values : ℕ → Bool) (leaves : List ℕ) (id : ℕ) → Has leaves id → values_at leaves (row_number (map values leaves)) id ≡ values id
values_at-row_number values [] id has = elim has [ ]
values_at-row_number values (leaf ∷ leaves) id has = elim (cases_eq id leaf) [
  | inl same ↦ values_at-front leaf leaves (row_number (values leaf ∷ map values leaves)) id same ∙ is_set-front (values leaf) (map values leaves) ∙ ap values (sym same)
  | inr other ↦ values_at-behind leaf leaves (row_number (values leaf ∷ map values leaves)) id other
      ∙ ap (λ n. values_at leaves n id) (row_number-cons (values leaf) (map values leaves))
      ∙ values_at-row_number values leaves id (elim has [ inl is ↦ absurd (other (sym is)) | inr there ↦ there ])
]

-- the lowest bits of a place, by its lowest bit and the others
low-bits : (place k : ℕ) → place % 2 ^ suc k ≡ place / 2 % 2 ^ k * 2 + place % 2
low-bits place k = ap (λ n. place % n) (pow-suc 2 k) ∙ mod-mul place (pow_pos k) (omega arith)

row_number-bit : (place n : ℕ) (values : List Bool) → row_number values ≡ n → row_number (is_set place 0 ∷ values) ≡ n * 2 + place % 2
row_number-bit place n values is = elim (cases_Bool (is_set place 0)) [
  | inl set ↦ let one : place / 2 ^ 0 % 2 ≡ 1 = eqb-true (bit_at place 0) 1 set in rw set (omega arith)
  | inr clear ↦ let none : place / 2 ^ 0 % 2 ≡ 1 → ⊥ = eqb-false (bit_at place 0) 1 clear in rw clear (omega arith)
]

-- The values that a place gives ascending leaves have the place's lowest bits as their number.
pub row_number-values_at : (leaves : List ℕ) → Rises leaves → (place : ℕ) → row_number (map (values_at leaves place) leaves) ≡ place % 2 ^ length leaves
row_number-values_at [] rises place = omega arith
row_number-values_at (leaf ∷ leaves) rises place =
    let others : map (values_at (leaf ∷ leaves) place) leaves ≡ map (values_at leaves (place / 2)) leaves =
    map-has (values_at (leaf ∷ leaves) place) (values_at leaves (place / 2)) leaves
    (λ id has. values_at-behind leaf leaves place id (λ e. let above : leaf < id = AllAbove-has leaf id leaves rises.0 has in omega arith)) in
    ap (λ v. row_number (v ∷ map (values_at (leaf ∷ leaves) place) leaves)) (values_at-front leaf leaves place leaf refl)
    ∙ ap (λ vs. row_number (is_set place 0 ∷ vs)) others
    ∙ row_number-bit place (place / 2 % 2 ^ length leaves) (map (values_at leaves (place / 2)) leaves) (row_number-values_at leaves rises.1 (place / 2))
    ∙ sym (low-bits place (length leaves))

-- A place gives the leaves what its lowest bits give them.
pub values_at-low : (leaves : List ℕ) (place id : ℕ) → values_at leaves (place % 2 ^ length leaves) id ≡ values_at leaves place id
values_at-low [] place id = refl
values_at-low (leaf ∷ leaves) place id = elim (cases_eq id leaf) [
  | inl same ↦ values_at-front leaf leaves (place % 2 ^ suc (length leaves)) id same
      ∙ ap (λ n. n == 1) (let e : place % 2 ^ suc (length leaves) / 2 ^ 0 % 2 ≡ place / 2 ^ 0 % 2 = omega (arith, low-bits place (length leaves)) in e)
      ∙ sym (values_at-front leaf leaves place id same)
  | inr other ↦ values_at-behind leaf leaves (place % 2 ^ suc (length leaves)) id other
      ∙ ap (λ n. values_at leaves n id) (let e : place % 2 ^ suc (length leaves) / 2 ≡ place / 2 % 2 ^ length leaves = omega (arith, low-bits place (length leaves)) in e)
      ∙ values_at-low leaves (place / 2) id
      ∙ sym (values_at-behind leaf leaves place id other)
]
