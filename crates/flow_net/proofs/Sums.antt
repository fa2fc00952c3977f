-- Sums over lists, and sums over all numbers below a bound. A sum over a list may be gathered by a number of each item.
use Rattle.std.proofs.Common.{◌≡◌, ◌<◌, ◌≤◌, ◌+◌, ◌*◌, ◌==◌, ◌∙◌, ℕ, zero, suc, false, true, cond, List, [], ◌∷◌, All, refl, sym, ap, arith, ⊎_elim}
use Rattle.std.specs.List.{sum_by}
use Rattle.std.proofs.lemmas.Bool.{cases_lt}
use Rattle.std.proofs.lemmas.Bool.Decides.{nat_tests}
use Rattle.std.proofs.lemmas.List.Elements.{All-head, All-tail}
use Rattle.std.proofs.lemmas.List.Recursion.{is_sum_by}

-- the sum of f over a list
abbrev pub total : {X : Type 0} → (X → ℕ) → List X → ℕ
total f [] = 0
total f (x ∷ xs) = f x + total f xs

-- the sum of f over the numbers below n
abbrev pub below : (ℕ → ℕ) → ℕ → ℕ
below f zero = 0
below f (suc n) = below f n + f n

-- It is the sum of std.
pub sum-is_total : {X : Type 0} (f : X → ℕ) (xs : List X) → sum_by f xs ≡ total f xs
sum-is_total f xs = sym (is_sum_by (total f) f refl (λ x xs. refl) xs)

-- what one item adds at a vertex: the item's units at its own vertex, and nothing at another
here : (p : ℕ → ℕ) (key v u : ℕ) → key ≡ v → p v * cond (key == v) u 0 ≡ p key * u
here p key v u same =
    let test : (key == v) ≡ true = grind (arith, nat_tests) in
    ap (λ b. p v * cond b u 0) test ∙ ap (λ w. p w * u) (sym same)

apart : (key v : ℕ) → key < v → (key == v) ≡ false
apart key v h = grind (arith, nat_tests)

behind : (key v : ℕ) → v < key → (key == v) ≡ false
behind key v h = grind (arith, nat_tests)

elsewhere : (x u : ℕ) (key v : ℕ) → (key == v) ≡ false → x * cond (key == v) u 0 ≡ 0
elsewhere x u key v test = let f = ap (λ b. x * cond b u 0) test in omega (arith, f)

below-past : (p : ℕ → ℕ) (key u n : ℕ) → n ≤ key → below (λ v. p v * cond (key == v) u 0) n ≡ 0
below-past p key u zero past = refl
below-past p key u (suc n) past =
    omega (arith, below-past p key u n (omega arith), elsewhere (p n) u key n (behind key n (omega arith)))

below-at : (p : ℕ → ℕ) (key u n : ℕ) → key < n → below (λ v. p v * cond (key == v) u 0) n ≡ p key * u
below-at p key u zero low = absurd (omega arith)
below-at p key u (suc n) low =
    ⊎_elim {C = below (λ v. p v * cond (key == v) u 0) (suc n) ≡ p key * u}
    (λ less. omega (arith, below-at p key u n less, elsewhere (p n) u key n (apart key n less)))
    (λ least. omega (arith, below-past p key u n least, here p key n u (omega arith)))
    (cases_lt key n)

below-add : (p f g : ℕ → ℕ) (n : ℕ) → below (λ v. p v * (f v + g v)) n ≡ below (λ v. p v * f v) n + below (λ v. p v * g v) n
below-add p f g zero = refl
below-add p f g (suc n) = omega (arith, below-add p f g n)

below-none : (p : ℕ → ℕ) (n : ℕ) → below (λ v. p v * 0) n ≡ 0
below-none p zero = refl
below-none p (suc n) = omega (arith, below-none p n)

-- Sums exchanged: units at the price of each item's vertex are, over all vertices, the price times the vertex's units.
pub exchanged : {X : Type 0} (key u : X → ℕ) (p : ℕ → ℕ) (n : ℕ) (xs : List X) → All (λ x. key x < n) xs → total (λ x. p (key x) * u x) xs ≡ below (λ v. p v * total (λ x. cond (key x == v) (u x) 0) xs) n
exchanged key u p n [] low = sym (below-none p n)
exchanged key u p n (x ∷ xs) low =
    omega (
      arith,
      below-at p (key x) (u x) n (All-head (λ x. key x < n) x xs low),
      below-add p (λ v. cond (key x == v) (u x) 0) (λ v. total (λ x. cond (key x == v) (u x) 0) xs) n,
      exchanged key u p n xs (All-tail (λ x. key x < n) x xs low),
    )

-- Sums below a bound that is itself a sum, one number further.
pub below-start : (f : ℕ → ℕ) (a : ℕ) → below f (a + 0) ≡ below f a
below-start f a = let e : a + 0 ≡ a = omega arith in ap (below f) e

pub below-next : (f : ℕ → ℕ) (a n : ℕ) → below f (a + suc n) ≡ below f (a + n) + f (a + n)
below-next f a n = let e : a + suc n ≡ suc (a + n) = omega arith in ap (below f) e
