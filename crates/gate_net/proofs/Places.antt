-- The first place that passes a test, in a list with one item more.
use Rattle.std.proofs.Common.{◌≡◌, ◌≤◌, ◌+◌, ◌++◌, ◌∙◌, ℕ, Bool, true, false, cond, List, [], ◌∷◌, length, Some, None, ap, arith, nat_lt, eqb, position, not}
use Rattle.std.specs.List.{position_or_len}
use Rattle.std.proofs.lemmas.Bool.Decides.{nat_tests}
use Rattle.std.proofs.lemmas.List.Folds.{position_or_len_push}
use Rattle.std.proofs.lemmas.List.Sums.{prefix_len-le-length}
use Rattle.std.proofs.lemmas.List.{length_push}

-- `position` over numbers: where the first place was, in a list of n, and where it is after a push.
seen_apart : (k l n m : ℕ) → m ≡ n + 1 → l ≡ cond (eqb k n) (n + 1) k → k ≤ n → cond (nat_lt l m) (Some l) None ≡ cond (nat_lt k n) (Some k) None
seen_apart k l n m e f h = grind (arith, nat_tests)

seen_present : (k l n m : ℕ) (b : Bool) (j : ℕ) → m ≡ n + 1 → l ≡ cond (eqb k n) (n + cond b 0 1) k → k ≤ n → cond (nat_lt k n) (Some k) None ≡ Some j → cond (nat_lt l m) (Some l) None ≡ Some j
seen_present k l n m b j e f h g = grind (arith, nat_tests)

seen_new : (k l n m : ℕ) → m ≡ n + 1 → l ≡ cond (eqb k n) (n + 0) k → k ≤ n → cond (nat_lt k n) (Some k) None ≡ None → cond (nat_lt l m) (Some l) None ≡ Some n
seen_new k l n m e f h g = grind (arith, nat_tests)

-- The first place that passes is no other after a push of what doesn't pass,
pub position-push_apart : {X : Type 0} (p : X → Bool) (xs : List X) (y : X) → p y ≡ false → position p (xs ++ y ∷ []) ≡ position p xs
position-push_apart p xs y e =
    seen_apart (position_or_len p xs) (position_or_len p (xs ++ y ∷ [])) (length xs) (length (xs ++ y ∷ [])) (length_push xs y)
    (position_or_len_push p xs y ∙ ap (λ b. cond (eqb (position_or_len p xs) (length xs)) (length xs + cond b 0 1) (position_or_len p xs)) e)
    (prefix_len-le-length (λ x. not (p x)) xs)

-- or of anything, where one passed before,
pub position-push_present : {X : Type 0} (p : X → Bool) (xs : List X) (y : X) (k : ℕ) → position p xs ≡ Some k → position p (xs ++ y ∷ []) ≡ Some k
position-push_present p xs y k e =
    seen_present (position_or_len p xs) (position_or_len p (xs ++ y ∷ [])) (length xs) (length (xs ++ y ∷ [])) (p y) k (length_push xs y)
    (position_or_len_push p xs y) (prefix_len-le-length (λ x. not (p x)) xs) e

-- and else it is the pushed one.
pub position-push_new : {X : Type 0} (p : X → Bool) (xs : List X) (y : X) → position p xs ≡ None → p y ≡ true → position p (xs ++ y ∷ []) ≡ Some (length xs)
position-push_new p xs y none e =
    seen_new (position_or_len p xs) (position_or_len p (xs ++ y ∷ [])) (length xs) (length (xs ++ y ∷ [])) (length_push xs y)
    (position_or_len_push p xs y ∙ ap (λ b. cond (eqb (position_or_len p xs) (length xs)) (length xs + cond b 0 1) (position_or_len p xs)) e)
    (prefix_len-le-length (λ x. not (p x)) xs) none
