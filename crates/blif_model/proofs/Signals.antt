-- Lists of signals: tests of some of them, and lists in which none stands twice.
use Rattle.std.proofs.Common.{◌≡◌, ◌<◌, ◌≤◌, ◌+◌, ◌++◌, ◌∙◌, ◌||◌, ℕ, zero, suc, Bool, true, false, List, [], ◌∷◌, length, get_or, take, drop, nat_eq, refl, sym, ap, subst, arith, true≢false, ⊎_elim}
use Rattle.std.specs.List.{AllByRecursion, IsDistinct, list_any, range_with_len}
use Rattle.std.proofs.lemmas.Bool.{or_cases, or_left, or_right, or_parts, or_from, eqb-true, eq-eqb, eqb-false, both_ways}
use Rattle.std.proofs.lemmas.List.{take-append-drop, drop_more}
use Rattle.std.proofs.lemmas.List.Folds.{list_any-append}
use Rattle.std.proofs.lemmas.Map.Keys.{IsDistinct-head, IsDistinct-tail, IsDistinct-cons}
use Rattle.net_base.specs.Keys.{is_among}
use Rattle.net_base.proofs.CallerLemmas.{is_among-next}

-- What passes one test passes another that it implies.
pub list_any-weaker : {X : Type 0} (p q : X → Bool) (xs : List X) → ((x : X) → p x ≡ true → q x ≡ true) → list_any p xs ≡ true → list_any q xs ≡ true
list_any-weaker p q [] implies e = e
list_any-weaker p q (x ∷ xs) implies e =
    ⊎_elim {C = (q x || list_any q xs) ≡ true}
    (λ here. or_left (q x) (list_any q xs) (implies x here))
    (λ rest. or_right (q x) (list_any q xs) (list_any-weaker p q xs implies rest))
    (or_cases (p x) (list_any p xs) e)

-- What passes is one of them.
pub list_any-some : (p : ℕ → Bool) (signals : List ℕ) → list_any p signals ≡ true → (signal : ℕ) × (is_among nat_eq signal signals ≡ true) × (p signal ≡ true)
list_any-some p [] e = absurd (true≢false (sym e))
list_any-some p (signal ∷ signals) e =
    ⊎_elim {C = (x : ℕ) × ((nat_eq x signal || is_among nat_eq x signals) ≡ true) × (p x ≡ true)}
    (λ here. (signal, or_left (nat_eq signal signal) (is_among nat_eq signal signals) (eq-eqb signal signal refl), here))
    (λ rest. let found = list_any-some p signals rest in (found.0, or_right (nat_eq found.0 signal) (is_among nat_eq found.0 signals) found.1, found.2))
    (or_cases (p signal) (list_any p signals) e)

-- A signal among others that passes a test is one of those that do.
pub list_any-among : (p : ℕ → Bool) (signals : List ℕ) (signal : ℕ) → is_among nat_eq signal signals ≡ true → p signal ≡ true → list_any p signals ≡ true
list_any-among p signals signal among passes =
    list_any-weaker (nat_eq signal) p signals (λ x same. subst (λ s. p s ≡ true) (eqb-true signal x same) passes) among

-- What no signal passes, one among them doesn't.
pub list_any-none : (p : ℕ → Bool) (signals : List ℕ) (signal : ℕ) → list_any p signals ≡ false → is_among nat_eq signal signals ≡ true → p signal ≡ false
list_any-none p signals signal none among = by (p signal) refl
  where
    by : (b : Bool) → p signal ≡ b → b ≡ false
    by false e = refl
    by true e = absurd (both_ways (list_any p signals) none (list_any-among p signals signal among e))

-- The numbers from one on, as many as are told.
pub is_among-range : (a n k : ℕ) → a ≤ k → k < a + n → is_among nat_eq k (range_with_len a n) ≡ true
is_among-range a zero k from below = absurd (omega arith)
is_among-range a (suc n) k from below = by (nat_eq k a) refl (λ above. is_among-range (a + 1) n k above (omega arith))
  where
    by : (b : Bool) → nat_eq k a ≡ b → (a + 1 ≤ k → is_among nat_eq k (range_with_len (a + 1) n) ≡ true) → (b || is_among nat_eq k (range_with_len (a + 1) n)) ≡ true
    by true e rest = refl
    by false e rest = let apart = eqb-false k a e in rest (grind (arith, apart))

pub range-bounds : (a n k : ℕ) → is_among nat_eq k (range_with_len a n) ≡ true → (a ≤ k) × (k < a + n)
range-bounds a zero k among = absurd (true≢false (sym among))
range-bounds a (suc n) k among =
    ⊎_elim {C = (a ≤ k) × (k < a + suc n)}
    (λ here. let same = eqb-true k a here in (omega arith, omega arith))
    (λ rest. let bounds = range-bounds (a + 1) n k rest in (omega (arith, bounds.0), omega (arith, bounds.1)))
    (or_cases (nat_eq k a) (is_among nat_eq k (range_with_len (a + 1) n)) among)

-- What is not among signals is none of them.
pub AllByRecursion-none : (signal : ℕ) (signals : List ℕ) → is_among nat_eq signal signals ≡ false → AllByRecursion (λ y. nat_eq signal y ≡ false) signals
AllByRecursion-none signal [] absent = tt
AllByRecursion-none signal (x ∷ signals) absent =
    let parts = or_parts (nat_eq signal x) (is_among nat_eq signal signals) absent in (parts.0, AllByRecursion-none signal signals parts.1)

pub none-AllByRecursion : (signal : ℕ) (signals : List ℕ) → AllByRecursion (λ y. nat_eq signal y ≡ false) signals → is_among nat_eq signal signals ≡ false
none-AllByRecursion signal [] all = refl
none-AllByRecursion signal (x ∷ signals) all = or_from (nat_eq signal x) (is_among nat_eq signal signals) all.0 (none-AllByRecursion signal signals all.1)

-- A signal before others, none of which is it.
pub distinct-cons : (signal : ℕ) (signals : List ℕ) → is_among nat_eq signal signals ≡ false → IsDistinct nat_eq signals → IsDistinct nat_eq (signal ∷ signals)
distinct-cons signal signals absent distinct = IsDistinct-cons nat_eq signal signals (AllByRecursion-none signal signals absent) distinct

pub distinct-head : (signal : ℕ) (signals : List ℕ) → IsDistinct nat_eq (signal ∷ signals) → is_among nat_eq signal signals ≡ false
distinct-head signal signals distinct = none-AllByRecursion signal signals (IsDistinct-head nat_eq signal signals distinct)

-- Lists in which none stands twice, and which share none, make one together.
pub distinct-append : (xs ys : List ℕ) → IsDistinct nat_eq xs → IsDistinct nat_eq ys → ((x : ℕ) → is_among nat_eq x xs ≡ true → is_among nat_eq x ys ≡ false) → IsDistinct nat_eq (xs ++ ys)
distinct-append [] ys first second apart = second
distinct-append (x ∷ xs) ys first second apart =
    distinct-cons x (xs ++ ys)
    (list_any-append (nat_eq x) xs ys ∙ or_from (is_among nat_eq x xs) (is_among nat_eq x ys) (distinct-head x xs first) (apart x (or_left (nat_eq x x) (is_among nat_eq x xs) (eq-eqb x x refl))))
    (distinct-append xs ys (IsDistinct-tail nat_eq x xs first) second (λ y among. apart y (or_right (nat_eq y x) (is_among nat_eq y xs) among)))

-- In one made of two parts, what stands in the first doesn't stand in the second.
pub distinct-parts : (xs ys : List ℕ) (x : ℕ) → IsDistinct nat_eq (xs ++ ys) → is_among nat_eq x xs ≡ true → is_among nat_eq x ys ≡ false
distinct-parts [] ys x distinct among = absurd (true≢false (sym among))
distinct-parts (y ∷ xs) ys x distinct among =
    ⊎_elim {C = is_among nat_eq x ys ≡ false}
    (λ here. subst (λ z. is_among nat_eq z ys ≡ false) (sym (eqb-true x y here))
    (or_parts (is_among nat_eq y xs) (is_among nat_eq y ys) (sym (list_any-append (nat_eq y) xs ys) ∙ distinct-head y (xs ++ ys) distinct)).1)
    (λ rest. distinct-parts xs ys x (IsDistinct-tail nat_eq y (xs ++ ys) distinct) rest)
    (or_cases (nat_eq x y) (is_among nat_eq x xs) among)

pub distinct-second : (xs ys : List ℕ) → IsDistinct nat_eq (xs ++ ys) → IsDistinct nat_eq ys
distinct-second [] ys distinct = distinct
distinct-second (x ∷ xs) ys distinct = distinct-second xs ys (IsDistinct-tail nat_eq x (xs ++ ys) distinct)

-- A signal that is among those before it stands twice.
pub repeated : (signals : List ℕ) (i d : ℕ) → i < length signals → is_among nat_eq (get_or signals i d) (take i signals) ≡ true → IsDistinct nat_eq signals → ⊥
repeated signals i d within among distinct =
    let whole : signals ≡ take i signals ++ get_or signals i d ∷ drop (i + 1) signals = sym (take-append-drop i signals) ∙ ap (λ rest. take i signals ++ rest) (drop_more signals i d within) in
    both_ways (is_among nat_eq (get_or signals i d) (take i signals))
    (is_among-next (take i signals) (drop (i + 1) signals) (get_or signals i d) (subst (λ xs. IsDistinct nat_eq xs) whole distinct))
    among
