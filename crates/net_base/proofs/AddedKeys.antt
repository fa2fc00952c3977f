-- Keys that are added to others, each unless it is there.
use Rattle.std.proofs.Common.{◌≡◌, ◌++◌, ◌||◌, ◌∙◌, ℕ, Bool, true, false, cond, List, [], ◌∷◌, nat_eq, refl, sym, ap, subst, append_assoc}
use Rattle.std.proofs.Math.Bool.{or_assoc, or-false}
use Rattle.std.proofs.lemmas.Bool.{or_left, eqb-true}
use Rattle.std.proofs.lemmas.List.{append-nil}
use Rattle.std.proofs.lemmas.List.Folds.{list_any-append}
use Rattle.net_base.specs.Keys.{is_among, with_key, with_keys}

-- One key more goes last, unless it is there.
key-grows : (keys : List ℕ) (key : ℕ) → (more : List ℕ) × (with_key nat_eq keys key ≡ keys ++ more)
key-grows keys key = by (is_among nat_eq key keys)
  where
    by : (b : Bool) → (more : List ℕ) × (cond b keys (keys ++ key ∷ []) ≡ keys ++ more)
    by true = ([], sym (append-nil keys))
    by false = (key ∷ [], refl)

key-among : (keys : List ℕ) (key x : ℕ) → is_among nat_eq x (with_key nat_eq keys key) ≡ (is_among nat_eq x keys || nat_eq x key)
key-among keys key x = by (is_among nat_eq key keys) refl
  where
    there : (b : Bool) → nat_eq x key ≡ b → is_among nat_eq key keys ≡ true → is_among nat_eq x keys ≡ (is_among nat_eq x keys || b)
    there true same among = subst (λ y. is_among nat_eq y keys ≡ (is_among nat_eq y keys || true)) (sym (eqb-true x key same)) (among ∙ sym (or_left (is_among nat_eq key keys) true among))
    there false other among = sym (or-false (is_among nat_eq x keys))

    by : (b : Bool) → is_among nat_eq key keys ≡ b → is_among nat_eq x (cond b keys (keys ++ key ∷ [])) ≡ (is_among nat_eq x keys || nat_eq x key)
    by true among = there (nat_eq x key) refl among
    by false among = list_any-append (nat_eq x) keys (key ∷ []) ∙ ap (λ b. is_among nat_eq x keys || b) (or-false (nat_eq x key))

-- What is added goes behind what is there,
pub keys-grow : (keys more : List ℕ) → (rest : List ℕ) × (with_keys nat_eq keys more ≡ keys ++ rest)
keys-grow keys [] = ([], sym (append-nil keys))
keys-grow keys (key ∷ more) =
    let first = key-grows keys key in
    let rest = keys-grow (with_key nat_eq keys key) more in
    (first.0 ++ rest.0, rest.1 ∙ ap (λ ks. ks ++ rest.0) first.1 ∙ append_assoc keys first.0 rest.0)

-- and is among all.
pub keys-among : (keys more : List ℕ) (x : ℕ) → is_among nat_eq x (with_keys nat_eq keys more) ≡ (is_among nat_eq x keys || is_among nat_eq x more)
keys-among keys [] x = sym (or-false (is_among nat_eq x keys))
keys-among keys (key ∷ more) x =
    keys-among (with_key nat_eq keys key) more x
    ∙ ap (λ b. b || is_among nat_eq x more) (key-among keys key x)
    ∙ or_assoc (is_among nat_eq x keys) (nat_eq x key) (is_among nat_eq x more)
