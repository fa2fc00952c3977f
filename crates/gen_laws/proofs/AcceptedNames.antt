-- The numbers of names: where each name is among those that are numbered, it comes back from its number, and two names are
-- equal exactly where their numbers are.
use Rattle.std.proofs.Common.{◌≡◌, ◌<◌, ◌+◌, ◌++◌, ◌∙◌, ◌||◌, ℕ, Bool, true, false, List, [], ◌∷◌, length, map, get_or, All, nat_eq, refl, sym, ap, true≢false, if◌then◌else◌, ⊎_elim}
use Rattle.std.specs.List.{IsDistinct, AllByRecursion}
use Rattle.std.specs.Str.{bytes_eq}
use Rattle.std.proofs.lemmas.Bool.{or_cases, or_left, or_right, or_from, eqb-true, eq-eqb, both_ways, false_from_ne_true}
use Rattle.std.proofs.lemmas.List.Elements.{All-head, All-tail, All-nil, All-cons, All-push}
use Rattle.std.proofs.lemmas.List.Folds.{list_any-append}
use Rattle.std.proofs.lemmas.List.Sums.{passes_at_first}
use Rattle.std.proofs.lemmas.Map.Keys.{IsDistinct-head, IsDistinct-tail}
use Rattle.std.proofs.lemmas.Slice.Eq.{bytes_eq-Decides}
use Rattle.net_base.specs.Keys.{is_among}
use Rattle.net_base.proofs.CallerLemmas.{position-found}
use Rattle.blif_model.specs.Names.{number_of, with_name, AreDistinctNames}
use Rattle.blif_model.proofs.CallerLemmas.{distinct-cons}
use Rattle.blif_read.specs.Signals.{with_names}
use Rattle.blif_read.specs.Spelling.{IsPlainName}
use Rattle.gen_laws.proofs.RandomNames.{same_name}

-- names that are all among others
abbrev pub AreAmong : List (List ℕ) → List (List ℕ) → Type 0
AreAmong names xs = AllByRecursion (λ (name : List ℕ). is_among bytes_eq name names ≡ true) xs

pub among-left : (names xs ys : List (List ℕ)) → AreAmong names (xs ++ ys) → AreAmong names xs
among-left names [] ys all = tt
among-left names (x ∷ xs) ys all = (all.0, among-left names xs ys all.1)

pub among-right : (names xs ys : List (List ℕ)) → AreAmong names (xs ++ ys) → AreAmong names ys
among-right names [] ys all = all
among-right names (x ∷ xs) ys all = among-right names xs ys all.1

pub among-append : (names xs ys : List (List ℕ)) → AreAmong names xs → AreAmong names ys → AreAmong names (xs ++ ys)
among-append names [] ys all more = more
among-append names (x ∷ xs) ys all more = (all.0, among-append names xs ys all.1 more)

-- A name among others is one of them.
pub plain-among : (name : List ℕ) (names : List (List ℕ)) → All IsPlainName names → is_among bytes_eq name names ≡ true → IsPlainName name
plain-among name [] plain e = absurd (true≢false (sym e))
plain-among name (first ∷ names) plain e =
    ⊎_elim {C = IsPlainName name}
    (λ here. rw ((bytes_eq-Decides name first).0 here) (All-head IsPlainName first names plain))
    (λ there. plain-among name names (All-tail IsPlainName first names plain) there)
    (or_cases (bytes_eq name first) (is_among bytes_eq name names) e)

-- A name is among the names with it, and stays there.
with_name-among : (name : List ℕ) (names : List (List ℕ)) → is_among bytes_eq name (with_name name names) ≡ true
with_name-among name names = by (is_among bytes_eq name names) refl
  where
    by : (b : Bool) → is_among bytes_eq name names ≡ b → is_among bytes_eq name (if b then names else names ++ name ∷ []) ≡ true
    by true e = e
    by false e =
        list_any-append (bytes_eq name) names (name ∷ [])
        ∙ or_right (is_among bytes_eq name names) (is_among bytes_eq name (name ∷ [])) (or_left (bytes_eq name name) false (same_name name))

with_name-keeps : (name token : List ℕ) (names : List (List ℕ)) → is_among bytes_eq name names ≡ true → is_among bytes_eq name (with_name token names) ≡ true
with_name-keeps name token names among = by (is_among bytes_eq token names)
  where
    by : (b : Bool) → is_among bytes_eq name (if b then names else names ++ token ∷ []) ≡ true
    by true = among
    by false = list_any-append (bytes_eq name) names (token ∷ []) ∙ or_left (is_among bytes_eq name names) (is_among bytes_eq name (token ∷ [])) among

with_names-keeps : (name : List ℕ) (tokens names : List (List ℕ)) → is_among bytes_eq name names ≡ true → is_among bytes_eq name (with_names tokens names) ≡ true
with_names-keeps name [] names among = among
with_names-keeps name (token ∷ tokens) names among = with_names-keeps name tokens (with_name token names) (with_name-keeps name token names among)

pub with_names-among : (tokens names : List (List ℕ)) → AreAmong (with_names tokens names) tokens
with_names-among [] names = tt
with_names-among (token ∷ tokens) names = (with_names-keeps token tokens (with_name token names) (with_name-among token names), with_names-among tokens (with_name token names))

-- Names of plain tokens are plain.
with_name-plain : (name : List ℕ) (names : List (List ℕ)) → IsPlainName name → All IsPlainName names → All IsPlainName (with_name name names)
with_name-plain name names one plain = by (is_among bytes_eq name names)
  where
    by : (b : Bool) → All IsPlainName (if b then names else names ++ name ∷ [])
    by true = plain
    by false = All-push IsPlainName names name plain one

pub with_names-plain : (tokens names : List (List ℕ)) → All IsPlainName tokens → All IsPlainName names → All IsPlainName (with_names tokens names)
with_names-plain [] names those plain = plain
with_names-plain (token ∷ tokens) names those plain =
    with_names-plain tokens (with_name token names) (All-tail IsPlainName token tokens those) (with_name-plain token names (All-head IsPlainName token tokens those) plain)

-- A name that differs from each of others is not among them.
apart-absent : (name : List ℕ) (names : List (List ℕ)) → AllByRecursion (λ (other : List ℕ). bytes_eq name other ≡ false) names → is_among bytes_eq name names ≡ false
apart-absent name [] apart = refl
apart-absent name (other ∷ names) apart = or_from (bytes_eq name other) (is_among bytes_eq name names) apart.0 (apart-absent name names apart.1)

module _ (names : List (List ℕ)) where
  -- the number of a name
  abbrev pub number : List ℕ → ℕ
  number name = number_of name names

  -- a name is back from its number
  number-within : (name : List ℕ) → is_among bytes_eq name names ≡ true → number name < length names
  number-within name among = position-found (bytes_eq name) names among

  number-back : (name : List ℕ) → is_among bytes_eq name names ≡ true → get_or names (number name) [] ≡ name
  number-back name among = sym ((bytes_eq-Decides name (get_or names (number name) [])).0 (passes_at_first (bytes_eq name) names [] (number-within name among)))

  pub numbers-back : (xs : List (List ℕ)) → AreAmong names xs → map (λ signal. get_or names signal []) (map number xs) ≡ xs
  numbers-back [] all = refl
  numbers-back (x ∷ xs) all = λ i. number-back x all.0 i ∷ numbers-back xs all.1 i

  pub numbers-within : (xs : List (List ℕ)) → AreAmong names xs → All (λ signal. signal < length names) (map number xs)
  numbers-within [] all = All-nil (λ signal. signal < length names)
  numbers-within (x ∷ xs) all = All-cons (λ signal. signal < length names) (number x) (map number xs) (number-within x all.0) (numbers-within xs all.1)

  -- Numbers are equal where the names are.
  number-same : (x y : List ℕ) → is_among bytes_eq x names ≡ true → is_among bytes_eq y names ≡ true → nat_eq (number x) (number y) ≡ bytes_eq x y
  number-same x y first second = by (bytes_eq x y) refl
    where
      by : (b : Bool) → bytes_eq x y ≡ b → nat_eq (number x) (number y) ≡ b
      by true e = eq-eqb (number x) (number y) (ap number ((bytes_eq-Decides x y).0 e))
      by false e =
          false_from_ne_true (nat_eq (number x) (number y)) (λ same.
          both_ways (bytes_eq x y) e
          ((bytes_eq-Decides x y).1 (sym (number-back x first) ∙ ap (λ n. get_or names n []) (eqb-true (number x) (number y) same) ∙ number-back y second)))

  pub among-numbers : (x : List ℕ) (xs : List (List ℕ)) → is_among bytes_eq x names ≡ true → AreAmong names xs → is_among nat_eq (number x) (map number xs) ≡ is_among bytes_eq x xs
  among-numbers x [] one all = refl
  among-numbers x (y ∷ xs) one all = λ i. number-same x y one all.0 i || among-numbers x xs one all.1 i

  pub distinct-numbers : (xs : List (List ℕ)) → AreAmong names xs → AreDistinctNames xs → IsDistinct nat_eq (map number xs)
  unfolding IsDistinct
  distinct-numbers [] all distinct = tt
  distinct-numbers (x ∷ xs) all distinct =
      distinct-cons (number x) (map number xs)
      (among-numbers x xs all.0 all.1 ∙ apart-absent x xs (IsDistinct-head bytes_eq x xs distinct))
      (distinct-numbers xs all.1 (IsDistinct-tail bytes_eq x xs distinct))
