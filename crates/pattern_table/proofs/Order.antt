-- The order of formulas, and what comes first in it: it doesn't hang on the order in which formulas are met, and one that has
-- another of its table before it may be left out.
use Rattle.std.proofs.Common.{◌≡◌, ◌≢◌, ◌<◌, ◌≤◌, ◌==◌, ◌&&◌, ◌⊎◌, ◌∙◌, inl, inr, nat_lt, ℕ, true, false, cond, List, [], ◌∷◌, get_or, Option, Some, None, refl, sym, ap, subst, arith}
use Rattle.std.proofs.lemmas.Bool.{cases_Bool, cases_order, cond-true, cond-false, or_parts, or_from, and_cases, and_right, and_left, le-ltb, ltb-false, eq-eqb, ne_eqb}
use Rattle.cell_lib.specs.declared.cell.Cell.{Cell}
use Rattle.cell_lib.specs.Cell.{rank_of}
use Rattle.cell_lib.proofs.CallerLemmas.{same_rank-decides}
use Rattle.pattern_table.specs.declared.formula.Formula.{Formula}
use Rattle.pattern_table.specs.Least.{is_lower, key_of, is_before, least_from}
use Rattle.pattern_table.proofs.Members.{Has}

-- ---- Numbers compared from the left
pub not_lower-greater : (n m : ℕ) (ns ms : List ℕ) → m < n → is_lower (n ∷ ns) (m ∷ ms) ≡ false
not_lower-greater n m ns ms h =
    or_from (nat_lt n m) ((n == m) && is_lower ns ms) (le-ltb n m (omega arith)) (and_left (n == m) (is_lower ns ms) (ne_eqb n m (λ e. omega arith)))

pub not_lower-same : (n m : ℕ) (ns ms : List ℕ) → n ≡ m → is_lower ns ms ≡ false → is_lower (n ∷ ns) (m ∷ ms) ≡ false
not_lower-same n m ns ms e h =
    or_from (nat_lt n m) ((n == m) && is_lower ns ms) (le-ltb n m (omega arith)) (and_right (n == m) (is_lower ns ms) h)

pub not_lower-parts : (n m : ℕ) (ns ms : List ℕ) → is_lower (n ∷ ns) (m ∷ ms) ≡ false → (m < n) ⊎ ((n ≡ m) × (is_lower ns ms ≡ false))
not_lower-parts n m ns ms h =
    let parts : (nat_lt n m ≡ false) × (((n == m) && is_lower ns ms) ≡ false) = or_parts (nat_lt n m) ((n == m) && is_lower ns ms) h in
    elim (cases_order n m) [
      | inl e ↦ elim (and_cases (n == m) (is_lower ns ms) parts.1) [
        | inl differs ↦ absurd (let same : (n == m) ≡ true = eq-eqb n m e in cc)
        | inr rest ↦ inr (e, rest)
      ]
      | inr other ↦ elim other [ inl below ↦ absurd (let le : m ≤ n = ltb-false n m parts.0 in omega arith) | inr above ↦ inl above ]
    ]

-- What isn't lower than numbers that aren't lower than others isn't lower than the others.
pub not_lower-trans : (xs ys zs : List ℕ) → is_lower ys xs ≡ false → is_lower zs ys ≡ false → is_lower zs xs ≡ false
not_lower-trans [] ys [] p q = refl
not_lower-trans [] ys (z ∷ zs) p q = refl
not_lower-trans (x ∷ xs) [] zs p q = cc
not_lower-trans (x ∷ xs) (y ∷ ys) [] p q = cc
not_lower-trans (x ∷ xs) (y ∷ ys) (z ∷ zs) p q = elim (not_lower-parts y x ys xs p) [
  | inl above ↦ elim (not_lower-parts z y zs ys q) [
    | inl higher ↦ not_lower-greater z x zs xs (omega arith)
    | inr same ↦ not_lower-greater z x zs xs (omega (arith, same.0))
  ]
  | inr same ↦ elim (not_lower-parts z y zs ys q) [
    | inl higher ↦ not_lower-greater z x zs xs (omega (arith, same.0))
    | inr same' ↦ not_lower-same z x zs xs (omega (arith, same.0, same'.0)) (not_lower-trans xs ys zs same.1 same'.1)
  ]
]

pub not_lower-itself : (xs : List ℕ) → is_lower xs xs ≡ false
not_lower-itself [] = refl
not_lower-itself (x ∷ xs) = not_lower-same x x xs xs refl (not_lower-itself xs)

-- What is lower isn't lower the other way round, and numbers of which neither are lower are the same.
not_lower-back : (xs ys : List ℕ) → is_lower xs ys ≡ true → is_lower ys xs ≡ false
not_lower-back xs ys h = elim (cases_Bool (is_lower ys xs)) [
  | inl back ↦ absurd (turn xs ys h back)
  | inr not-back ↦ not-back
]
  where
    turn : (xs ys : List ℕ) → is_lower xs ys ≡ true → is_lower ys xs ≡ true → ⊥
    turn [] [] h back = cc
    turn [] (y ∷ ys) h back = cc
    turn (x ∷ xs) [] h back = cc
    turn (x ∷ xs) (y ∷ ys) h back = elim (cases_order x y) [
      | inl e ↦ elim (cases_Bool (is_lower xs ys)) [
        | inl low ↦ elim (cases_Bool (is_lower ys xs)) [
          | inl low-back ↦ turn xs ys low low-back
          | inr none ↦ let no : is_lower (y ∷ ys) (x ∷ xs) ≡ false = not_lower-same y x ys xs (sym e) none in cc
        ]
        | inr none ↦ let no : is_lower (x ∷ xs) (y ∷ ys) ≡ false = not_lower-same x y xs ys e none in cc
      ]
      | inr other ↦ elim other [
        | inl below ↦ let no : is_lower (y ∷ ys) (x ∷ xs) ≡ false = not_lower-greater y x ys xs below in cc
        | inr above ↦ let no : is_lower (x ∷ xs) (y ∷ ys) ≡ false = not_lower-greater x y xs ys above in cc
      ]
    ]

same-numbers : (xs ys : List ℕ) → is_lower xs ys ≡ false → is_lower ys xs ≡ false → xs ≡ ys
same-numbers [] [] p q = refl
same-numbers [] (y ∷ ys) p q = cc
same-numbers (x ∷ xs) [] p q = cc
same-numbers (x ∷ xs) (y ∷ ys) p q = elim (not_lower-parts x y xs ys p) [
  | inl above ↦ elim (not_lower-parts y x ys xs q) [ inl below ↦ absurd (omega arith) | inr same ↦ absurd (omega (arith, same.0)) ]
  | inr same ↦ elim (not_lower-parts y x ys xs q) [
    | inl below ↦ absurd (omega (arith, same.0))
    | inr same' ↦ ap (λ n. n ∷ xs) same.0 ∙ ap (λ ns. y ∷ ns) (same-numbers xs ys same.1 same'.1)
  ]
]

-- ---- Formulas
-- A formula is its key.
same-key : (f g : Formula) → key_of f ≡ key_of g → f ≡ g
same-key f g e =
    let rank : rank_of f.cell ≡ rank_of g.cell = ap (λ ns. get_or ns 1 0) e in
    let cell : f.cell ≡ g.cell = (same_rank-decides f.cell g.cell).0 (eq-eqb (rank_of f.cell) (rank_of g.cell) rank) in
    let by-cell : Cell → Formula = λ x. record { cell = x; left = f.left; middle = f.middle; right = f.right; cost = f.cost } in
    let by-left : ℕ → Formula = λ x. record { cell = g.cell; left = x; middle = f.middle; right = f.right; cost = f.cost } in
    let by-middle : ℕ → Formula = λ x. record { cell = g.cell; left = g.left; middle = x; right = f.right; cost = f.cost } in
    let by-right : ℕ → Formula = λ x. record { cell = g.cell; left = g.left; middle = g.middle; right = x; cost = f.cost } in
    let by-cost : ℕ → Formula = λ x. record { cell = g.cell; left = g.left; middle = g.middle; right = g.right; cost = x } in
    ap by-cell cell
    ∙ ap by-left (ap (λ ns. get_or ns 2 0) e)
    ∙ ap by-middle (ap (λ ns. get_or ns 3 0) e)
    ∙ ap by-right (ap (λ ns. get_or ns 4 0) e)
    ∙ ap by-cost (ap (λ ns. get_or ns 0 0) e)

pub not_before-trans : (f g h : Formula) → is_before g f ≡ false → is_before h g ≡ false → is_before h f ≡ false
not_before-trans f g h p q = not_lower-trans (key_of f) (key_of g) (key_of h) p q

pub not_before-itself : (f : Formula) → is_before f f ≡ false
not_before-itself f = not_lower-itself (key_of f)

pub same-formula : (f g : Formula) → is_before f g ≡ false → is_before g f ≡ false → f ≡ g
same-formula f g p q = same-key f g (same-numbers (key_of f) (key_of g) p q)

-- ---- The first in order
-- neither of two formulas comes before another one
abbrev Neither : Formula → Formula → Formula → Type 0
Neither f g kept = (is_before f kept ≡ false) × (is_before g kept ≡ false)

-- neither of two formulas comes before the one of them that is kept
kept-is : (best head : Formula) → Neither best head (cond (is_before head best) head best)
kept-is best head = elim (cases_Bool (is_before head best)) [
  | inl before ↦ subst (Neither best head) (sym (cond-true (is_before head best) head best before)) (not_lower-back (key_of head) (key_of best) before, not_before-itself head)
  | inr other ↦ subst (Neither best head) (sym (cond-false (is_before head best) head best other)) (not_before-itself best, other)
]

least_from-some : (best : Formula) (heads : List Formula) → least_from (Some best) heads ≢ None
least_from-some best [] none = cc
least_from-some best (head ∷ heads) none = least_from-some (cond (is_before head best) head best) heads none

least_from-found : (best : Option Formula) (heads : List Formula) (first : Formula) → least_from best heads ≡ Some first → (best ≡ Some first) ⊎ Has heads first
least_from-found best [] first is = inl is
least_from-found None (head ∷ heads) first is = elim (least_from-found (Some head) heads first is) [
  | inl here ↦ inr (inl (let e : head ≡ first = cc in e))
  | inr there ↦ inr (inr there)
]
least_from-found (Some best) (head ∷ heads) first is = elim (least_from-found (Some (cond (is_before head best) head best)) heads first is) [
  | inl here ↦ elim (cases_Bool (is_before head best)) [
    | inl before ↦ inr (inl (let e : Some head ≡ Some first = ap Some (sym (cond-true (is_before head best) head best before)) ∙ here in (let s : head ≡ first = cc in s)))
    | inr other ↦ inl (ap Some (sym (cond-false (is_before head best) head best other)) ∙ here)
  ]
  | inr there ↦ inr (inr there)
]

least_from-stays : (best : Formula) (heads : List Formula) (first : Formula) → least_from (Some best) heads ≡ Some first → is_before best first ≡ false
least_from-stays best [] first is = let e : best ≡ first = cc in subst (λ f. is_before best f ≡ false) e (not_before-itself best)
least_from-stays best (head ∷ heads) first is =
    let kept : Formula = cond (is_before head best) head best in
    not_before-trans first kept best (least_from-stays kept heads first is) (kept-is best head).0

least_from-first : (best : Option Formula) (heads : List Formula) (first other : Formula) → least_from best heads ≡ Some first → Has heads other → is_before other first ≡ false
least_from-first best [] first other is has = elim has [ ]
least_from-first None (head ∷ heads) first other is has = elim has [
  | inl here ↦ subst (λ f. is_before f first ≡ false) here (least_from-stays head heads first is)
  | inr there ↦ least_from-first (Some head) heads first other is there
]
least_from-first (Some best) (head ∷ heads) first other is has = elim has [
  | inl here ↦
      let kept : Formula = cond (is_before head best) head best in
      subst (λ f. is_before f first ≡ false) here (not_before-trans first kept head (least_from-stays kept heads first is) (kept-is best head).1)
  | inr there ↦ least_from-first (Some (cond (is_before head best) head best)) heads first other is there
]

-- what comes first of formulas: one of them that no other one comes before
pub record IsFirst (heads : List Formula) (first : Formula) : Type 0 where
  pub there : Has heads first
  pub before : (other : Formula) → Has heads other → is_before other first ≡ false

pub least-first : (heads : List Formula) (first : Formula) → least_from None heads ≡ Some first → IsFirst heads first
least-first heads first is = record {
  there = elim (least_from-found None heads first is) [ inl none ↦ absurd (cc) | inr there ↦ there ];
  before = λ other has. least_from-first None heads first other is has;
}

pub least-none : (heads : List Formula) (other : Formula) → least_from None heads ≡ None → Has heads other → ⊥
least-none [] other none has = elim has [ ]
least-none (head ∷ heads) other none has = least_from-some head heads none

-- The first of some formulas is the first of more where each of those has one of the former at its place or before it.
pub least-same : (some all : List Formula) → ((head : Formula) → Has some head → Has all head) → ((head : Formula) → Has all head → (better : Formula) × Has some better × (is_before head better ≡ false)) → least_from None some ≡ least_from None all
least-same some all among led = go (least_from None some) (least_from None all) refl refl
  where
    go : (a b : Option Formula) → least_from None some ≡ a → least_from None all ≡ b → a ≡ b
    go None None is-a is-b = refl
    go None (Some b) is-a is-b = absurd (least-none some ((led b (least-first all b is-b).there).0) is-a (led b (least-first all b is-b).there).1)
    go (Some a) None is-a is-b = absurd (least-none all a is-b (among a (least-first some a is-a).there))
    go (Some a) (Some b) is-a is-b =
        let of-a : IsFirst some a = least-first some a is-a in
        let of-b : IsFirst all b = least-first all b is-b in
        let lead : (g : Formula) × Has some g × (is_before b g ≡ false) = led b of-b.there in
        ap Some (same-formula a b (of-b.before a (among a of-a.there)) (not_before-trans a lead.0 b (of-a.before lead.0 lead.1) lead.2))
