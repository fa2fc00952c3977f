-- The least of the residual arcs that may be last, by the vertex that they come from and then by number: it is one of them, and no
-- other is lesser.
use Rattle.std.proofs.Common.{◌≡◌, ◌≤◌, ◌⊎◌, ℕ, suc, Bool, true, false, cond, List, [], ◌∷◌, All, Contains, Option, Some, None, refl, sym, subst, inl, inr, arith, ⊎_elim}
use Rattle.std.proofs.lemmas.Bool.Decides.{nat_tests}
use Rattle.std.proofs.lemmas.List.Elements.{All-nil, All-cons}
use Rattle.stage_flow.specs.Residual.{Way}
use Rattle.stage_flow.specs.Longest.{Reach}
use Rattle.stage_flow.specs.Rounds.{is_last, is_lesser, or_lesser, least_last}

-- a residual arc is no lesser than another: it comes from no lesser vertex, and where from the same, it has no lesser number
pub record IsNoLesser (a b : Way) : Type 0 where
  pub tail : b.tail ≤ a.tail
  pub number : a.tail ≡ b.tail → b.number ≤ a.number

no_lesser-test : (a b : Way) → is_lesser a b ≡ false → IsNoLesser a b
no_lesser-test a b test = record { tail = grind (arith, nat_tests); number = λ same. grind (arith, nat_tests) }

pub test-no_lesser : (a b : Way) → IsNoLesser a b → is_lesser a b ≡ false
test-no_lesser a b less = grind (arith, nat_tests, less.tail, less.number)

lesser-no_lesser : (a b : Way) → is_lesser a b ≡ true → IsNoLesser b a
lesser-no_lesser a b test = record { tail = grind (arith, nat_tests); number = λ same. grind (arith, nat_tests) }

no_lesser-same : (a : Way) → IsNoLesser a a
no_lesser-same a = record { tail = omega arith; number = λ same. omega arith }

no_lesser-through : (a b c : Way) → IsNoLesser a b → IsNoLesser b c → IsNoLesser a c
no_lesser-through a b c first second = record {
  tail = omega (arith, first.tail, second.tail);
  number = λ same.
      let left : a.tail ≡ b.tail = omega (arith, first.tail, second.tail) in
      let right : b.tail ≡ c.tail = omega (arith, first.tail, second.tail) in
      omega (arith, first.number left, second.number right);
}

-- what is found is there, and another is no lesser
pub record HasLeast (found : Option Way) (other : Way) : Type 0 where
  pub way : Way
  pub is : found ≡ Some way
  pub no_lesser : IsNoLesser other way

has_least-through : (found : Option Way) (a b : Way) → IsNoLesser a b → HasLeast found b → HasLeast found a
has_least-through found a b less has = record { way = has.way; is = has.is; no_lesser = no_lesser-through a b has.way less has.no_lesser }

of_two : (way old : Way) → HasLeast (or_lesser true way (Some old)) way × HasLeast (or_lesser true way (Some old)) old
of_two way old = by (is_lesser way old) refl
  where
    by : (test : Bool) → is_lesser way old ≡ test → HasLeast (cond test (Some way) (Some old)) way × HasLeast (cond test (Some way) (Some old)) old
    by true is = (
      record { way = way; is = refl; no_lesser = no_lesser-same way },
      record { way = way; is = refl; no_lesser = lesser-no_lesser way old is },
    )
    by false is = (
      record { way = old; is = refl; no_lesser = no_lesser-test way old is },
      record { way = old; is = refl; no_lesser = no_lesser-same old },
    )

or_lesser-new : (way : Way) (found : Option Way) → HasLeast (or_lesser true way found) way
or_lesser-new way None = record { way = way; is = refl; no_lesser = no_lesser-same way }
or_lesser-new way (Some old) = (of_two way old).0

or_lesser-old : (test : Bool) (way : Way) (found : Option Way) (other : Way) → HasLeast found other → HasLeast (or_lesser test way found) other
or_lesser-old false way found other has = has
or_lesser-old true way None other has = let is : None ≡ Some has.way = has.is in absurd (cc)
or_lesser-old true way (Some old) other has =
    let is : Some old ≡ Some has.way = has.is in
    let same : has.way ≡ old = cc in
    has_least-through (or_lesser true way (Some old)) other old (subst (IsNoLesser other) same has.no_lesser) (of_two way old).1

or_lesser-one : (test : Bool) (way : Way) (found : Option Way) (one : Way) → or_lesser test way found ≡ Some one → (found ≡ Some one) ⊎ ((test ≡ true) × (way ≡ one))
or_lesser-one false way found one is = inl is
or_lesser-one true way None one is = let same : way ≡ one = cc in inr (refl, same)
or_lesser-one true way (Some old) one is = by (is_lesser way old) is
  where
    by : (test : Bool) → cond test (Some way) (Some old) ≡ Some one → (Some old ≡ Some one) ⊎ ((true ≡ true) × (way ≡ one))
    by true is = let same : way ≡ one = cc in inr (refl, same)
    by false is = inl is

module _ (best : ℕ → Option Reach) (reach : Reach) (vertex : ℕ) where
  least_last-keeps : (found : Option Way) (ways : List Way) (other : Way) → HasLeast found other → HasLeast (least_last best reach vertex found ways) other
  least_last-keeps found [] other has = has
  least_last-keeps found (way ∷ ways) other has =
      least_last-keeps (or_lesser (is_last best reach vertex way) way found) ways other
      (or_lesser-old (is_last best reach vertex way) way found other has)

  pub least_last-each : (found : Option Way) (ways : List Way) → All (λ other. is_last best reach vertex other ≡ true → HasLeast (least_last best reach vertex found ways) other) ways
  least_last-each found [] = All-nil (λ other. is_last best reach vertex other ≡ true → HasLeast found other)
  least_last-each found (way ∷ ways) =
      All-cons (λ other. is_last best reach vertex other ≡ true → HasLeast (least_last best reach vertex found (way ∷ ways)) other) way ways
      (λ last.
      least_last-keeps (or_lesser (is_last best reach vertex way) way found) ways way
      (subst (λ test. HasLeast (or_lesser test way found) way) (sym last) (or_lesser-new way found)))
      (least_last-each (or_lesser (is_last best reach vertex way) way found) ways)

  pub least_last-one : (found : Option Way) (ways : List Way) (one : Way) → least_last best reach vertex found ways ≡ Some one → (found ≡ Some one) ⊎ (Contains ways one × (is_last best reach vertex one ≡ true))
  least_last-one found [] one is = inl is
  least_last-one found (way ∷ ways) one is =
      ⊎_elim {C = (found ≡ Some one) ⊎ (Contains (way ∷ ways) one × (is_last best reach vertex one ≡ true))}
      (λ before.
      ⊎_elim {C = (found ≡ Some one) ⊎ (Contains (way ∷ ways) one × (is_last best reach vertex one ≡ true))} (λ old. inl old)
      (λ here. inr ((0, omega arith, here.1), subst (λ (w : Way). is_last best reach vertex w ≡ true) here.1 here.0))
      (or_lesser-one (is_last best reach vertex way) way found one before))
      (λ later. let ((k, within, at), last) = later in inr ((suc k, omega arith, at), last))
      (least_last-one (or_lesser (is_last best reach vertex way) way found) ways one is)
