-- What is in a list that is made of others.
use Rattle.std.proofs.Common.{◌≡◌, ◌<◌, ◌≤◌, ◌+◌, ◌++◌, ◌⊎◌, ◌∙◌, inl, inr, ℕ, zero, suc, Bool, true, List, [], ◌∷◌, map, Option, Some, None, refl, sym, ap, subst, arith}
use Rattle.std.specs.List.{All, filter, filter_map, flat_map, cons_option, range_with_len}
use Rattle.std.proofs.lemmas.Bool.{cases_Bool, cases_eq, cases_lt, cond-true, cond-false}
use Rattle.std.proofs.lemmas.List.Elements.{All-cons, All-head, All-tail}

-- an item is one of a list's
abbrev pub Has : {X : Type 0} → List X → X → Type 0
Has [] x = ⊥
Has (y ∷ ys) x = (y ≡ x) ⊎ Has ys x

pub Has-left : {X : Type 0} (xs ys : List X) (x : X) → Has xs x → Has (xs ++ ys) x
Has-left [] ys x has = elim has [ ]
Has-left (y ∷ xs) ys x has = elim has [ inl here ↦ inl here | inr there ↦ inr (Has-left xs ys x there) ]

pub Has-right : {X : Type 0} (xs ys : List X) (x : X) → Has ys x → Has (xs ++ ys) x
Has-right [] ys x has = has
Has-right (y ∷ xs) ys x has = inr (Has-right xs ys x has)

pub Has-either : {X : Type 0} (xs ys : List X) (x : X) → Has (xs ++ ys) x → Has xs x ⊎ Has ys x
Has-either [] ys x has = inr has
Has-either (y ∷ xs) ys x has = elim has [
  | inl here ↦ inl (inl here)
  | inr there ↦ elim (Has-either xs ys x there) [ inl left ↦ inl (inr left) | inr right ↦ inr right ]
]

pub Has-map : {X Y : Type 0} (f : X → Y) (xs : List X) (x : X) → Has xs x → Has (map f xs) (f x)
Has-map f [] x has = elim has [ ]
Has-map f (y ∷ xs) x has = elim has [ inl here ↦ inl (ap f here) | inr there ↦ inr (Has-map f xs x there) ]

pub in-map : {X Y : Type 0} (f : X → Y) (xs : List X) (y : Y) → Has (map f xs) y → (x : X) × Has xs x × (f x ≡ y)
in-map f [] y has = elim has [ ]
in-map f (x ∷ xs) y has = elim has [
  | inl here ↦ (x, inl refl, here)
  | inr there ↦ let from : (x' : _) × Has xs x' × (f x' ≡ y) = in-map f xs y there in (from.0, inr from.1, from.2)
]

pub Has-flat_map : {X Y : Type 0} (f : X → List Y) (xs : List X) (x : X) (y : Y) → Has xs x → Has (f x) y → Has (flat_map f xs) y
Has-flat_map f [] x y has of = elim has [ ]
Has-flat_map f (z ∷ xs) x y has of = elim has [
  | inl here ↦ Has-left (f z) (flat_map f xs) y (subst (λ w. Has (f w) y) (sym here) of)
  | inr there ↦ Has-right (f z) (flat_map f xs) y (Has-flat_map f xs x y there of)
]

pub in-flat_map : {X Y : Type 0} (f : X → List Y) (xs : List X) (y : Y) → Has (flat_map f xs) y → (x : X) × Has xs x × Has (f x) y
in-flat_map f [] y has = elim has [ ]
in-flat_map f (x ∷ xs) y has = elim (Has-either (f x) (flat_map f xs) y has) [
  | inl here ↦ (x, inl refl, here)
  | inr there ↦ let from : (x' : _) × Has xs x' × Has (f x') y = in-flat_map f xs y there in (from.0, inr from.1, from.2)
]

pub Has-filter : {X : Type 0} (p : X → Bool) (xs : List X) (x : X) → Has xs x → p x ≡ true → Has (filter p xs) x
Has-filter p [] x has passes = elim has [ ]
Has-filter p (y ∷ xs) x has passes = elim has [
  | inl here ↦ subst (λ ys. Has ys x) (sym (cond-true (p y) (y ∷ filter p xs) (filter p xs) (ap p here ∙ passes))) (inl here)
  | inr there ↦ elim (cases_Bool (p y)) [
    | inl kept ↦ subst (λ ys. Has ys x) (sym (cond-true (p y) (y ∷ filter p xs) (filter p xs) kept)) (inr (Has-filter p xs x there passes))
    | inr left-out ↦ subst (λ ys. Has ys x) (sym (cond-false (p y) (y ∷ filter p xs) (filter p xs) left-out)) (Has-filter p xs x there passes)
  ]
]

pub in-filter : {X : Type 0} (p : X → Bool) (xs : List X) (x : X) → Has (filter p xs) x → Has xs x × (p x ≡ true)
in-filter p [] x has = elim has [ ]
in-filter p (y ∷ xs) x has = elim (cases_Bool (p y)) [
  | inl kept ↦ elim (subst (λ ys. Has ys x) (cond-true (p y) (y ∷ filter p xs) (filter p xs) kept) has) [
    | inl here ↦ (inl here, ap p (sym here) ∙ kept)
    | inr there ↦ let from : Has xs x × (p x ≡ true) = in-filter p xs x there in (inr from.0, from.1)
  ]
  | inr left-out ↦
      let from : Has xs x × (p x ≡ true) = in-filter p xs x (subst (λ ys. Has ys x) (cond-false (p y) (y ∷ filter p xs) (filter p xs) left-out) has) in
      (inr from.0, from.1)
]

pub Has-filter_map : {X Y : Type 0} (f : X → Option Y) (xs : List X) (x : X) (y : Y) → Has xs x → f x ≡ Some y → Has (filter_map f xs) y
Has-filter_map f [] x y has is = elim has [ ]
Has-filter_map f (z ∷ xs) x y has is = elim has [
  | inl here ↦ subst (λ o. Has (cons_option o (filter_map f xs)) y) (sym (ap f here ∙ is)) (inl refl)
  | inr there ↦ kept (f z) (filter_map f xs) y (Has-filter_map f xs x y there is)
]
  where
    kept : {Y : Type 0} (o : Option Y) (ys : List Y) (y : Y) → Has ys y → Has (cons_option o ys) y
    kept None ys y has = has
    kept (Some x) ys y has = inr has

pub in-filter_map : {X Y : Type 0} (f : X → Option Y) (xs : List X) (y : Y) → Has (filter_map f xs) y → (x : X) × Has xs x × (f x ≡ Some y)
in-filter_map f [] y has = elim has [ ]
in-filter_map f (x ∷ xs) y has = elim (parts (f x) (filter_map f xs) y has) [
  | inl here ↦ (x, inl refl, here)
  | inr there ↦ let from : (x' : _) × Has xs x' × (f x' ≡ Some y) = in-filter_map f xs y there in (from.0, inr from.1, from.2)
]
  where
    parts : {Y : Type 0} (o : Option Y) (ys : List Y) (y : Y) → Has (cons_option o ys) y → (o ≡ Some y) ⊎ Has ys y
    parts None ys y has = inr has
    parts (Some x) ys y has = elim has [ inl here ↦ inl (ap Some here) | inr there ↦ inr there ]

pub Has-range : (a n k : ℕ) → a ≤ k → k < a + n → Has (range_with_len a n) k
Has-range a zero k low high = absurd (omega arith)
Has-range a (suc n) k low high = elim (cases_eq a k) [
  | inl here ↦ inl here
  | inr differs ↦ inr (Has-range (a + 1) n k (ne-le a k low differs) (omega arith))
]
  where
    ne-le : (a k : ℕ) → a ≤ k → (a ≡ k → ⊥) → a + 1 ≤ k
    ne-le a k low differs = elim (cases_lt a k) [ inl below ↦ omega arith | inr above ↦ absurd (differs (omega arith)) ]

pub in-range : (a n k : ℕ) → Has (range_with_len a n) k → (a ≤ k) × (k < a + n)
in-range a zero k has = elim has [ ]
in-range a (suc n) k has = elim has [
  | inl here ↦ (omega (arith, here), omega (arith, here))
  | inr there ↦ let from : (a + 1 ≤ k) × (k < a + 1 + n) = in-range (a + 1) n k there in (omega (arith, from.0), omega (arith, from.1))
]

-- What holds of each item is said by `All`.
pub All-from-has : {X : Type 0} (P : X → Type 0) (xs : List X) → ((x : X) → Has xs x → P x) → All P xs
All-from-has P [] each = λ k d h. absurd (omega arith)
All-from-has P (x ∷ xs) each = All-cons P x xs (each x (inl refl)) (All-from-has P xs (λ y has. each y (inr has)))

pub All-has : {X : Type 0} (P : X → Type 0) (xs : List X) (x : X) → All P xs → Has xs x → P x
All-has P [] x all has = elim has [ ]
All-has P (y ∷ xs) x all has = elim has [ inl is ↦ subst P is (All-head P y xs all) | inr there ↦ All-has P xs x (All-tail P y xs all) there ]
