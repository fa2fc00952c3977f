-- Unions of ascending lists: they are ascending, have what one of both lists has, and begin with the lesser of the two fronts.
use Rattle.std.proofs.Common.{◌≡◌, ◌<◌, ◌+◌, ◌∙◌, ◌⊎◌, ◌↔◌, inl, inr, ℕ, zero, suc, List, [], ◌∷◌, slice_index, refl, sym, ap, subst, add-one, arith}
use Rattle.std.specs.List.{Contains}
use Rattle.std.specs.List.Sorted.{IsStrictlyIncreasing}
use Rattle.std.proofs.lemmas.Bool.{cases_order, lt-ltb, le-ltb, eq-eqb, ne_eqb}
use Rattle.cut_word.specs.Merge.{with_leaf, united}

-- each number of a list is above this one
abbrev pub AllAbove : ℕ → List ℕ → Type 0
AllAbove low [] = Unit {0}
AllAbove low (x ∷ xs) = (low < x) × AllAbove low xs

-- each number of a list is below all behind it
abbrev pub Rises : List ℕ → Type 0
Rises [] = Unit {0}
Rises (x ∷ xs) = AllAbove x xs × Rises xs

AllAbove-lower : (low high : ℕ) (xs : List ℕ) → low < high → AllAbove high xs → AllAbove low xs
AllAbove-lower low high [] h above = tt
AllAbove-lower low high (x ∷ xs) h above = (omega arith, AllAbove-lower low high xs h above.1)

-- ---- Ascending in both forms
pub Rises-from : (xs : List ℕ) → IsStrictlyIncreasing xs → Rises xs
Rises-from [] up = tt
Rises-from (x ∷ []) up = (tt, tt)
Rises-from (x ∷ (y ∷ xs)) up =
    let first : x < y = up 0 (omega arith) in
    let behind : IsStrictlyIncreasing (y ∷ xs) = λ k h. rw add-one (simp add-one at (up (k + 1) (omega arith))) in
    let rises : Rises (y ∷ xs) = Rises-from (y ∷ xs) behind in
    ((first, AllAbove-lower x y xs first rises.0), rises)

pub IsStrictlyIncreasing-from : (xs : List ℕ) → Rises xs → IsStrictlyIncreasing xs
IsStrictlyIncreasing-from [] rises k h = absurd (omega arith)
IsStrictlyIncreasing-from (x ∷ []) rises k h = absurd (omega arith)
IsStrictlyIncreasing-from (x ∷ (y ∷ xs)) rises zero h = rises.0.0
IsStrictlyIncreasing-from (x ∷ (y ∷ xs)) rises (suc k) h =
    let behind : slice_index (y ∷ xs) k < slice_index (y ∷ xs) (k + 1) = IsStrictlyIncreasing-from (y ∷ xs) rises.1 k (omega arith) in
    rw add-one (rw add-one at behind)

-- ---- What a list has
abbrev pub Has : List ℕ → ℕ → Type 0
Has [] id = ⊥
Has (x ∷ xs) id = (x ≡ id) ⊎ Has xs id

pub Has-from : (xs : List ℕ) (id : ℕ) → Contains xs id → Has xs id
Has-from [] id (k, below, is) = absurd (omega arith)
Has-from (x ∷ xs) id (zero, below, is) = inl is
Has-from (x ∷ xs) id (suc k, below, is) = inr (Has-from xs id (k, omega arith, is))

pub Contains-from : (xs : List ℕ) (id : ℕ) → Has xs id → Contains xs id
Contains-from [] id has = elim has [ ]
Contains-from (x ∷ xs) id (inl is) = (0, omega arith, is)
Contains-from (x ∷ xs) id (inr has) = let (k, below, is) = Contains-from xs id has in (suc k, omega arith, is)

pub AllAbove-has : (low id : ℕ) (xs : List ℕ) → AllAbove low xs → Has xs id → low < id
AllAbove-has low id [] above has = elim has [ ]
AllAbove-has low id (x ∷ xs) above (inl is) = subst (λ n. low < n) is above.0
AllAbove-has low id (x ∷ xs) above (inr has) = AllAbove-has low id xs above.1 has

-- ---- One leaf more
-- what the definition asks, decided
with_leaf-below : (leaf next : ℕ) (leaves : List ℕ) → leaf < next → with_leaf leaf (next ∷ leaves) ≡ leaf ∷ next ∷ leaves
with_leaf-below leaf next leaves h = rw (lt-ltb leaf next h) refl

with_leaf-same : (leaf next : ℕ) (leaves : List ℕ) → leaf ≡ next → with_leaf leaf (next ∷ leaves) ≡ next ∷ leaves
with_leaf-same leaf next leaves e = rw (le-ltb leaf next (omega arith), eq-eqb leaf next e) refl

with_leaf-above : (leaf next : ℕ) (leaves : List ℕ) → next < leaf → with_leaf leaf (next ∷ leaves) ≡ next ∷ with_leaf leaf leaves
with_leaf-above leaf next leaves h = rw (le-ltb leaf next (omega arith), ne_eqb leaf next (λ e. omega arith)) refl

-- a leaf that is below all others goes in front
with_leaf-front : (leaf : ℕ) (leaves : List ℕ) → AllAbove leaf leaves → with_leaf leaf leaves ≡ leaf ∷ leaves
with_leaf-front leaf [] above = refl
with_leaf-front leaf (next ∷ leaves) above = with_leaf-below leaf next leaves above.0

AllAbove-with_leaf : (low leaf : ℕ) (leaves : List ℕ) → low < leaf → AllAbove low leaves → AllAbove low (with_leaf leaf leaves)
AllAbove-with_leaf low leaf [] h above = (h, tt)
AllAbove-with_leaf low leaf (next ∷ leaves) h above = elim (cases_order leaf next) [
  | inl same ↦ rw (with_leaf-same leaf next leaves same) above
  | inr (inl below) ↦ rw (with_leaf-below leaf next leaves below) (h, above)
  | inr (inr over) ↦ rw (with_leaf-above leaf next leaves over) (above.0, AllAbove-with_leaf low leaf leaves h above.1)
]

Rises-with_leaf : (leaf : ℕ) (leaves : List ℕ) → Rises leaves → Rises (with_leaf leaf leaves)
Rises-with_leaf leaf [] rises = (tt, tt)
Rises-with_leaf leaf (next ∷ leaves) rises = elim (cases_order leaf next) [
  | inl same ↦ rw (with_leaf-same leaf next leaves same) rises
  | inr (inl below) ↦ rw (with_leaf-below leaf next leaves below) ((below, AllAbove-lower leaf next leaves below rises.0), rises)
  | inr (inr over) ↦ rw (with_leaf-above leaf next leaves over) (AllAbove-with_leaf next leaf leaves over rises.0, Rises-with_leaf leaf leaves rises.1)
]

Has-with_leaf : (leaf : ℕ) (leaves : List ℕ) (id : ℕ) → Has (with_leaf leaf leaves) id ↔ ((leaf ≡ id) ⊎ Has leaves id)
Has-with_leaf leaf [] id = (λ has. has, λ has. has)
Has-with_leaf leaf (next ∷ leaves) id = elim (cases_order leaf next) [
  | inl same ↦ rw (with_leaf-same leaf next leaves same) (λ has. inr has, λ has. elim has [ inl is ↦ inl (sym same ∙ is) | inr there ↦ there ])
  | inr (inl below) ↦ rw (with_leaf-below leaf next leaves below) (λ has. has, λ has. has)
  | inr (inr over) ↦ rw (with_leaf-above leaf next leaves over) (
    λ has. elim has [ inl is ↦ inr (inl is) | inr more ↦ elim ((Has-with_leaf leaf leaves id).0 more) [ inl is ↦ inl is | inr there ↦ inr (inr there) ] ],
    λ has. elim has [ inl is ↦ inr ((Has-with_leaf leaf leaves id).1 (inl is)) | inr more ↦ elim more [ inl is ↦ inl is | inr there ↦ inr ((Has-with_leaf leaf leaves id).1 (inr there)) ] ],
  )
]

-- ---- Unions
pub Rises-united : (xs ys : List ℕ) → Rises ys → Rises (united xs ys)
Rises-united [] ys rises = rises
Rises-united (x ∷ xs) ys rises = Rises-with_leaf x (united xs ys) (Rises-united xs ys rises)

pub Has-united : (xs ys : List ℕ) (id : ℕ) → Has (united xs ys) id ↔ (Has xs id ⊎ Has ys id)
Has-united [] ys id = (λ has. inr has, λ has. elim has [ inl none ↦ elim none [ ] | inr there ↦ there ])
Has-united (x ∷ xs) ys id = (
  λ has. elim ((Has-with_leaf x (united xs ys) id).0 has) [ inl is ↦ inl (inl is) | inr more ↦ elim ((Has-united xs ys id).0 more) [ inl there ↦ inl (inr there) | inr there ↦ inr there ] ],
  λ has. (Has-with_leaf x (united xs ys) id).1 (elim has [
    | inl mine ↦ elim mine [ inl is ↦ inl is | inr there ↦ inr ((Has-united xs ys id).1 (inl there)) ]
    | inr there ↦ inr ((Has-united xs ys id).1 (inr there))
  ]),
)

AllAbove-united : (low : ℕ) (xs ys : List ℕ) → AllAbove low xs → AllAbove low ys → AllAbove low (united xs ys)
AllAbove-united low [] ys p q = q
AllAbove-united low (x ∷ xs) ys p q = AllAbove-with_leaf low x (united xs ys) p.0 (AllAbove-united low xs ys p.1 q)

pub united-none : (xs : List ℕ) → Rises xs → united xs [] ≡ xs
united-none [] rises = refl
united-none (x ∷ xs) rises = ap (with_leaf x) (united-none xs rises.1) ∙ with_leaf-front x xs rises.0

united-lower : (xs : List ℕ) (y : ℕ) (ys : List ℕ) → AllAbove y xs → united xs (y ∷ ys) ≡ y ∷ united xs ys
united-lower [] y ys above = refl
united-lower (x ∷ xs) y ys above = ap (with_leaf x) (united-lower xs y ys above.1) ∙ with_leaf-above x y (united xs ys) above.0

-- The union begins with the lesser front: with the first list's,
pub united-first : (x : ℕ) (xs : List ℕ) (y : ℕ) (ys : List ℕ) → x < y → Rises (x ∷ xs) → Rises (y ∷ ys) → united (x ∷ xs) (y ∷ ys) ≡ x ∷ united xs (y ∷ ys)
united-first x xs y ys h p q = with_leaf-front x (united xs (y ∷ ys)) (AllAbove-united x xs (y ∷ ys) p.0 (h, AllAbove-lower x y ys h q.0))

-- with the second list's,
pub united-second : (x : ℕ) (xs : List ℕ) (y : ℕ) (ys : List ℕ) → y < x → Rises (x ∷ xs) → united (x ∷ xs) (y ∷ ys) ≡ y ∷ united (x ∷ xs) ys
united-second x xs y ys h p = united-lower (x ∷ xs) y ys (h, AllAbove-lower y x xs h p.0)

-- or with that of both.
pub united-both : (x : ℕ) (xs ys : List ℕ) → Rises (x ∷ xs) → united (x ∷ xs) (x ∷ ys) ≡ x ∷ united xs ys
united-both x xs ys p = ap (with_leaf x) (united-lower xs x ys p.0) ∙ with_leaf-same x x (united xs ys) refl
