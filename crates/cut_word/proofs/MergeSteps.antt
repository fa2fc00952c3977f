-- One step of a merge: the lesser of the two leaves in front goes to the union, and each cut that has it goes on behind it.
use Rattle.std.proofs.Common.{◌≡◌, ◌<◌, ◌≤◌, ◌*◌, ◌%◌, ◌^◌, ◌==◌, ◌∙◌, inl, inr, cond, ℕ, zero, suc, true, false, List, [], ◌∷◌, ◌++◌, length, refl, sym, ap, subst, arith}
use Rattle.std.specs.List.{All}
use Rattle.std.proofs.lemmas.List.Elements.{All-tail}
use Rattle.std.proofs.lemmas.Bool.{cases_eq, cases_order, lt-ltb, le-ltb, eq-eqb, ne_eqb}
use Rattle.cut_word.specs.declared.cut.TheConstants.{LEAF_LIMIT}
use Rattle.cut_word.specs.Word.{field_at, packed, leaf_of}
use Rattle.cut_word.specs.Steps.{front_of, least_front, behind, where_had}
use Rattle.cut_word.specs.Merge.{united}
use Rattle.cut_word.proofs.Unions.{Rises, united-none, united-first, united-second, united-both}
use Rattle.cut_word.proofs.WordParts.{field_at-fits}

-- leaves that are left of a cut
pub record AreLeft (leaves : List ℕ) : Type 0 where
  pub few : length leaves ≤ 3
  pub rises : Rises leaves
  pub low : All (λ leaf. leaf < LEAF_LIMIT) leaves

-- the leaves behind one that stands plus 1, where it is in front
abbrev pub rest_of : List ℕ → ℕ → List ℕ
rest_of [] leaf = []
rest_of (x ∷ xs) leaf = cond (suc x == leaf) xs (x ∷ xs)

rest_of-same : (x : ℕ) (xs : List ℕ) (leaf : ℕ) → suc x ≡ leaf → rest_of (x ∷ xs) leaf ≡ xs
rest_of-same x xs leaf e = rw (eq-eqb (suc x) leaf e) refl

rest_of-other : (x : ℕ) (xs : List ℕ) (leaf : ℕ) → (suc x ≡ leaf → ⊥) → rest_of (x ∷ xs) leaf ≡ x ∷ xs
rest_of-other x xs leaf other = rw (ne_eqb (suc x) leaf other) refl

AreLeft-rest_of : (leaves : List ℕ) (leaf : ℕ) → AreLeft leaves → AreLeft (rest_of leaves leaf)
AreLeft-rest_of [] leaf left = left
AreLeft-rest_of (x ∷ xs) leaf left = elim (cases_eq (suc x) leaf) [
  | inl same ↦ rw (rest_of-same x xs leaf same) (record { few = let few : length (x ∷ xs) ≤ 3 = left.few in omega arith; rises = left.rises.1; low = All-tail (λ n. n < LEAF_LIMIT) x xs left.low })
  | inr other ↦ rw (rest_of-other x xs leaf other) left
]

-- what the list has in front, and behind it
had : (leaves : List ℕ) (leaf : ℕ) → leaves ≡ where_had (field_at leaves 0 == leaf) (leaf_of leaf) ++ rest_of leaves leaf
had [] zero = refl
had [] (suc leaf) = rw (ne_eqb 0 (suc leaf) (λ e. omega arith)) refl
had (x ∷ xs) leaf = elim (cases_eq (suc x) leaf) [
  | inl same ↦ rw (eq-eqb (suc x) leaf same) (ap (λ n. leaf_of n ++ xs) same)
  | inr other ↦ rw (ne_eqb (suc x) leaf other) refl
]

-- ---- Words of leaves
front_of-packed : (leaves : List ℕ) → All (λ leaf. leaf < LEAF_LIMIT) leaves → front_of (packed leaves) ≡ field_at leaves 0
unfolding packed
front_of-packed leaves low =
    let one : field_at leaves 1 < 2 ^ 20 = field_at-fits leaves 1 low in
    let two : field_at leaves 2 < 2 ^ 20 = field_at-fits leaves 2 low in
    omega arith

field_at-none : (leaves : List ℕ) (place : ℕ) → length leaves ≤ place → field_at leaves place ≡ 0
field_at-none [] zero short = refl
field_at-none [] (suc place) short = refl
field_at-none (x ∷ xs) zero short = absurd (omega arith)
field_at-none (x ∷ xs) (suc place) short = field_at-none xs place (omega arith)

packed-tail : (x : ℕ) (xs : List ℕ) → length (x ∷ xs) ≤ 3 → All (λ leaf. leaf < LEAF_LIMIT) xs → packed (x ∷ xs) % 2 ^ 40 * 2 ^ 20 ≡ packed xs
unfolding packed
packed-tail x xs few low =
    let one : field_at xs 0 < 2 ^ 20 = field_at-fits xs 0 low in
    let two : field_at xs 1 < 2 ^ 20 = field_at-fits xs 1 low in
    let three : field_at xs 2 ≡ 0 = field_at-none xs 2 (omega arith) in
    omega arith

packed-nothing : packed [] % 2 ^ 40 * 2 ^ 20 ≡ packed []
unfolding packed
packed-nothing = refl

behind-packed : (leaves : List ℕ) (leaf : ℕ) → AreLeft leaves → behind (packed leaves) leaf ≡ packed (rest_of leaves leaf)
behind-packed [] leaf left = elim (front_of (packed []) == leaf) as (λ b. cond b (packed [] % 2 ^ 40 * 2 ^ 20) (packed []) ≡ packed []) [ true ↦ packed-nothing | false ↦ refl ]
behind-packed (x ∷ xs) leaf left = elim (cases_eq (suc x) leaf) [
  | inl same ↦ rw (front_of-packed (x ∷ xs) left.low, rest_of-same x xs leaf same, eq-eqb (suc x) leaf same) (packed-tail x xs left.few (All-tail (λ n. n < LEAF_LIMIT) x xs left.low))
  | inr other ↦ rw (front_of-packed (x ∷ xs) left.low, rest_of-other x xs leaf other, ne_eqb (suc x) leaf other) refl
]

pub packed-empty : packed [] ≡ 0
unfolding packed
packed-empty = refl

-- Only where nothing is left is the word 0.
pub packed-none : (leaves : List ℕ) → packed leaves ≡ 0 → leaves ≡ []
unfolding packed
packed-none [] e = refl
packed-none (x ∷ xs) e = absurd (omega arith)

-- ---- The lesser front
is-some : (n : ℕ) → (suc n == 0) ≡ false
is-some n = ne_eqb (suc n) 0 (λ e. omega arith)

alone-front : (x : ℕ) → least_front (suc x) 0 ≡ suc x
alone-front x = rw (is-some x) refl

first-front : (x y : ℕ) → x < y → least_front (suc x) (suc y) ≡ suc x
first-front x y h = rw (is-some x, is-some y, le-ltb (suc y) (suc x) (omega arith)) refl

second-front : (x y : ℕ) → y < x → least_front (suc x) (suc y) ≡ suc y
second-front x y h = rw (is-some x, is-some y, lt-ltb (suc y) (suc x) (omega arith)) refl

both-front : (x y : ℕ) → x ≡ y → least_front (suc x) (suc y) ≡ suc x
both-front x y e = rw (is-some x, is-some y, le-ltb (suc y) (suc x) (omega arith)) refl

least_front-fits : (x y : ℕ) → x < 2 ^ 20 → y < 2 ^ 20 → least_front x y < 2 ^ 20
least_front-fits zero y p q = q
least_front-fits (suc x) zero p q = rw (alone-front x) p
least_front-fits (suc x) (suc y) p q = elim (cases_order x y) [
  | inl same ↦ rw (both-front x y same) p
  | inr (inl below) ↦ rw (first-front x y below) p
  | inr (inr above) ↦ rw (second-front x y above) q
]

least_front-none : (xs ys : List ℕ) → least_front (field_at xs 0) (field_at ys 0) ≡ 0 → (xs ≡ []) × (ys ≡ [])
least_front-none [] [] e = (refl, refl)
least_front-none [] (y ∷ ys) e = absurd (omega arith)
least_front-none (x ∷ xs) [] e = absurd (let f : suc x ≡ 0 = sym (alone-front x) ∙ e in omega arith)
least_front-none (x ∷ xs) (y ∷ ys) e = absurd (elim (cases_order x y) [
  | inl same ↦ let f : suc x ≡ 0 = sym (both-front x y same) ∙ e in omega arith
  | inr (inl below) ↦ let f : suc x ≡ 0 = sym (first-front x y below) ∙ e in omega arith
  | inr (inr above) ↦ let f : suc y ≡ 0 = sym (second-front x y above) ∙ e in omega arith
])

-- The union begins with the lesser front, and goes on with what is behind.
step-united : (xs ys : List ℕ) (leaf : ℕ) → Rises xs → Rises ys → least_front (field_at xs 0) (field_at ys 0) ≡ leaf → united xs ys ≡ leaf_of leaf ++ united (rest_of xs leaf) (rest_of ys leaf)
step-united [] [] leaf p q e = rw (← e) refl
step-united [] (y ∷ ys) leaf p q e = rw (rest_of-same y ys leaf e, ← e) refl
step-united (x ∷ xs) [] leaf p q e =
    let l : suc x ≡ leaf = sym (alone-front x) ∙ e in
    rw (rest_of-same x xs leaf l, ← l) (united-none (x ∷ xs) p ∙ ap (λ us. x ∷ us) (sym (united-none xs p.1)))
step-united (x ∷ xs) (y ∷ ys) leaf p q e = elim (cases_order x y) [
  | inl same ↦ let l : suc x ≡ leaf = sym (both-front x y same) ∙ e in
      rw (rest_of-same x xs leaf l, rest_of-same y ys leaf (ap suc (sym same) ∙ l), ← l, ← same) (united-both x xs ys p)
  | inr (inl below) ↦ let l : suc x ≡ leaf = sym (first-front x y below) ∙ e in
      rw (rest_of-same x xs leaf l, rest_of-other y ys leaf (λ f. omega arith), ← l) (united-first x xs y ys below p q)
  | inr (inr above) ↦ let l : suc y ≡ leaf = sym (second-front x y above) ∙ e in
      rw (rest_of-other x xs leaf (λ f. omega arith), rest_of-same y ys leaf l, ← l) (united-second x xs y ys above p)
]

-- ---- The step
pub record Step (x y leaf : ℕ) (xs ys : List ℕ) : Type 0 where
  pub union : united xs ys ≡ leaf_of leaf ++ united (rest_of xs leaf) (rest_of ys leaf)
  pub none : leaf ≡ 0 → (xs ≡ []) × (ys ≡ [])
  pub empty : xs ≡ [] → ys ≡ [] → leaf ≡ 0
  pub fits : leaf < 2 ^ 20
  pub x-has : xs ≡ where_had (front_of x == leaf) (leaf_of leaf) ++ rest_of xs leaf
  pub y-has : ys ≡ where_had (front_of y == leaf) (leaf_of leaf) ++ rest_of ys leaf
  pub x-behind : behind x leaf ≡ packed (rest_of xs leaf)
  pub y-behind : behind y leaf ≡ packed (rest_of ys leaf)
  pub x-left : AreLeft (rest_of xs leaf)
  pub y-left : AreLeft (rest_of ys leaf)

pub Step-of : (x y leaf : ℕ) (xs ys : List ℕ) → AreLeft xs → AreLeft ys → x ≡ packed xs → y ≡ packed ys → leaf ≡ least_front (front_of x) (front_of y) → Step x y leaf xs ys
Step-of x y leaf xs ys p q x-is y-is leaf-is =
    let x-front : front_of x ≡ field_at xs 0 = ap front_of x-is ∙ front_of-packed xs p.low in
    let y-front : front_of y ≡ field_at ys 0 = ap front_of y-is ∙ front_of-packed ys q.low in
    let is : least_front (field_at xs 0) (field_at ys 0) ≡ leaf = sym (leaf-is ∙ ap (λ n. least_front n (front_of y)) x-front ∙ ap (least_front (field_at xs 0)) y-front) in
    record {
      union = step-united xs ys leaf p.rises q.rises is;
      none = λ e. least_front-none xs ys (is ∙ e);
      empty = λ no-xs no-ys. sym is ∙ ap (λ ns. least_front (field_at ns 0) (field_at ys 0)) no-xs ∙ ap (λ ns. least_front 0 (field_at ns 0)) no-ys;
      fits = subst (λ (n : ℕ). n < 2 ^ 20) is (least_front-fits (field_at xs 0) (field_at ys 0) (field_at-fits xs 0 p.low) (field_at-fits ys 0 q.low));
      x-has = rw x-front (had xs leaf);
      y-has = rw y-front (had ys leaf);
      x-behind = ap (λ n. behind n leaf) x-is ∙ behind-packed xs leaf p;
      y-behind = ap (λ n. behind n leaf) y-is ∙ behind-packed ys leaf q;
      x-left = AreLeft-rest_of xs leaf p;
      y-left = AreLeft-rest_of ys leaf q;
    }
