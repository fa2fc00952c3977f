-- The wire that is named at the close is the least that is made and isn't used.
use Rattle.std.proofs.Common.{◌≡◌, ℕ, ◌≤◌, ◌⊎◌, Bool, true, false, cond, nat_eq, nat_lt, List, [], ◌∷◌, refl, sym, ap, subst, ◌∙◌, ⊎_elim, inl, inr, arith}
use Rattle.std.specs.Prelude.{Option, Some, None}
use Rattle.std.specs.Cmp.{nat_eq_equiv}
use Rattle.std.proofs.lemmas.Bool.{or_cases, or_left, or_right, true≢false, eqb-true, cases_Bool}
use Rattle.std.proofs.lemmas.Bool.Decides.{nat_tests}
use Rattle.net_base.specs.Keys.{is_among}
use Rattle.pulse_net.specs.Validity.{lesser, with_unused, least_unused}
use Rattle.pulse_net.specs.Laws.{NamesTheLeast}

-- no wire that was found before is less
abbrev NoMoreThan : ℕ → Option ℕ → Type 0
NoMoreThan wire None = Unit {0}
NoMoreThan wire (Some found) = wire ≤ found

-- a wire is the least of one that was found before, and of those that are made and aren't used
record IsLeast (used : List ℕ) (before : Option ℕ) (made : List ℕ) (wire : ℕ) : Type 0 where
  from : (before ≡ Some wire) ⊎ ((is_among nat_eq wire made ≡ true) × (is_among nat_eq wire used ≡ false))
  before_no_less : NoMoreThan wire before
  least : (other : ℕ) → is_among nat_eq other made ≡ true → is_among nat_eq other used ≡ false → wire ≤ other

lesser-le : (wire : ℕ) (other : Option ℕ) → lesser wire other ≤ wire
lesser-le wire None = omega arith
lesser-le wire (Some other) = grind (arith, nat_tests)

no_more-lesser : (least wire : ℕ) (other : Option ℕ) → least ≤ lesser wire other → NoMoreThan least other
no_more-lesser least wire None h = tt
no_more-lesser least wire (Some other) h = by (nat_lt wire other) refl h
  where
    by : (less : Bool) → nat_lt wire other ≡ less → least ≤ cond less wire other → least ≤ other
    by true e le = grind (arith, nat_tests)
    by false e le = le

lesser-is : (wire : ℕ) (other : Option ℕ) → (lesser wire other ≡ wire) ⊎ (other ≡ Some (lesser wire other))
lesser-is wire None = inl refl
lesser-is wire (Some other) = by (nat_lt wire other)
  where
    by : (less : Bool) → (cond less wire other ≡ wire) ⊎ (Some other ≡ Some (cond less wire other))
    by true = inl refl
    by false = inr refl

-- one wire more in front
module _ (used : List ℕ) (before : Option ℕ) (one : ℕ) (made : List ℕ) (wire : ℕ) where
  among-more : is_among nat_eq wire made ≡ true → is_among nat_eq wire (one ∷ made) ≡ true
  among-more h = or_right (nat_eq wire one) (is_among nat_eq wire made) h

  -- it is used, so it is passed over
  passed_over : is_among nat_eq one used ≡ true → IsLeast used before made wire → IsLeast used before (one ∷ made) wire
  passed_over used_one rest = record {
    from = ⊎_elim (λ e. inl e) (λ h. inr (among-more h.0, h.1)) rest.from;
    before_no_less = rest.before_no_less;
    least = λ other among unused. ⊎_elim (λ same. absurd (true≢false (sym used_one ∙ ap (λ wire. is_among nat_eq wire used) (sym (eqb-true other one same)) ∙ unused))) (λ later. rest.least other later unused) (or_cases (nat_eq other one) (is_among nat_eq other made) among);
  }

  -- it isn't used, so it counts
  counted : is_among nat_eq one used ≡ false → IsLeast used (Some (lesser one before)) made wire → IsLeast used before (one ∷ made) wire
  counted unused_one rest =
      let here : (w : ℕ) → w ≡ one → (is_among nat_eq w (one ∷ made) ≡ true) × (is_among nat_eq w used ≡ false) = λ w e. (or_left (nat_eq w one) (is_among nat_eq w made) (ap (nat_eq w) (sym e) ∙ nat_eq_equiv.refl w), ap (λ wire. is_among nat_eq wire used) e ∙ unused_one) in
      record {
        from = ⊎_elim (λ e. let same : lesser one before ≡ wire = cc in ⊎_elim (λ l. inr (here wire (sym same ∙ l))) (λ b. inl (b ∙ ap Some same)) (lesser-is one before)) (λ h. inr (among-more h.0, h.1)) rest.from;
        before_no_less = no_more-lesser wire one before rest.before_no_less;
        least = λ other among unused. ⊎_elim (λ same. let e = eqb-true other one same in let l = lesser-le one before in let r = rest.before_no_less in omega arith) (λ later. rest.least other later unused) (or_cases (nat_eq other one) (is_among nat_eq other made) among);
      }

least_unused-some : (used made : List ℕ) (before : Option ℕ) (wire : ℕ) → least_unused used before made ≡ Some wire → IsLeast used before made wire
least_unused-some used [] before wire h =
    record { from = inl h; before_no_less = subst (NoMoreThan wire) (sym h) (omega arith); least = λ other among unused. absurd (true≢false (sym among)) }
least_unused-some used (one ∷ made) before wire h =
    let rest = least_unused-some used made (with_unused used one before) wire h in
    ⊎_elim (λ e. passed_over used before one made wire e (subst (λ b. IsLeast used b made wire) (ap (λ u. cond u before (Some (lesser one before))) e) rest))
    (λ e. counted used before one made wire e (subst (λ b. IsLeast used b made wire) (ap (λ u. cond u before (Some (lesser one before))) e) rest))
    (cases_Bool (is_among nat_eq one used))

pub names_the_least : NamesTheLeast
names_the_least used made wire h =
    let found = least_unused-some used made None wire h in
    let from : (is_among nat_eq wire made ≡ true) × (is_among nat_eq wire used ≡ false) = ⊎_elim (λ e. cc) (λ x. x) found.from in
    record { is_made = from.0; is_unused = from.1; is_least = found.least }
