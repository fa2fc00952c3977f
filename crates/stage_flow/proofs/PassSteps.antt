-- One arc of a pass: what it offers is never better than a target's label, and it brings the target's own where that comes by it.
use Rattle.std.proofs.Common.{◌≡◌, ◌<◌, ◌+◌, ◌∙◌, ℕ, ℤ, pos, ◌+ℤ◌, true, false, List, length, slice_set, ap, sym, subst, arith, length-set, ⊎_elim}
use Rattle.std.proofs.lemmas.Bool.{cases_eq, both_ways}
use Rattle.std.proofs.lemmas.Int.{ints}
use Rattle.std.proofs.lemmas.List.{get_or-set_same, get_or-set_other}
use Rattle.stage_flow.specs.Longest.{Reach, is_better}
use Rattle.stage_flow.specs.Given.{at_vertex, count_at}
use Rattle.stage_flow.specs.LawsOfWalks.{label}
use Rattle.stage_flow.specs.Search.{way_by}
use Rattle.stage_flow.specs.Passes.{offered, OffersNoBetter, IsHeld, standing, AreUnder, Nears, Brings}
use Rattle.stage_flow.proofs.Walks.{IsNoBetter, no_better-test, test-no_better, no_better-through, reach-same, reach-tied}

module _ (far : ℕ → ℤ) (hops : ℕ → ℕ) (before : List ℤ) (counts : List ℕ) (tail head : ℕ) (span : ℤ) (fits : OffersNoBetter far hops (way_by tail head span)) (under : AreUnder far hops before counts) where
  -- what is offered is no better than the target's label
  offer-under : tail < length before → IsNoBetter (record { length = at_vertex before tail +ℤ span; hops = count_at counts tail + 1 }) (label far hops head)
  offer-under within =
      let own = no_better-test (standing before counts tail) (label far hops tail) (under tail within) in
      let fit = no_better-test (offered far hops (way_by tail head span)) (label far hops head) fits in
      no_better-through (record { length = at_vertex before tail +ℤ span; hops = count_at counts tail + 1 }) (offered far hops (way_by tail head span)) (label far hops head)
      (record {
        no_longer = omega (arith, ints, own.no_longer);
        no_fewer = λ same.
            let left : at_vertex before tail ≡ far tail = omega (arith, ints) in
            omega (arith, own.no_fewer left);
      }) fit

  -- nothing is taken, where what stands is at least as good as a target's label that comes by the arc
  pub kept : (tail < length before → head < length before → IsHeld (label far hops head) → at_vertex before tail +ℤ span ≡ far head → count_at counts tail + 1 ≡ hops head
      → IsNoBetter (label far hops head) (standing before counts head))
      → Nears far hops before counts before counts × Brings far hops before counts before counts (way_by tail head span)
  kept good = (
    record { under = under; stays = λ vertex within same. same },
    λ there from held tight same.
        let far_same = ap (λ (r : Reach). r.length) same in
        let hops_same = ap (λ (r : Reach). r.hops) same in
        let far_tight = ap (λ (r : Reach). r.length) tight in
        let hops_tight = ap (λ (r : Reach). r.hops) tight in
        reach-tied (standing before counts head) (label far hops head)
        (no_better-test (standing before counts head) (label far hops head) (under head there))
        (good from there held (omega (arith, ints, far_same, far_tight)) (omega (arith, hops_same, hops_tight))),
  )

  -- nothing is taken, where what is offered is no better
  pub refused : (led : ℤ) (count : ℕ) → led ≡ at_vertex before tail +ℤ span → count ≡ count_at counts tail + 1
      → is_better (record { length = led; hops = count }) (standing before counts head) ≡ false
      → Nears far hops before counts before counts × Brings far hops before counts before counts (way_by tail head span)
  refused led count led_is count_is worse = kept (λ from there held long many.
      subst (λ (r : Reach). IsNoBetter r (standing before counts head))
      (reach-same (record { length = led; hops = count }) (label far hops head) (led_is ∙ long) (count_is ∙ many))
      (no_better-test (record { length = led; hops = count }) (standing before counts head) worse))

  -- what is offered is taken
  pub taken : (led : ℤ) (count : ℕ) → head < length before → tail < length before → length counts ≡ length before
      → led ≡ at_vertex before tail +ℤ span → count ≡ count_at counts tail + 1
      → is_better (record { length = led; hops = count }) (standing before counts head) ≡ true
      → Nears far hops before counts (slice_set before head led) (slice_set counts head count) × Brings far hops before counts (slice_set before head led) (slice_set counts head count) (way_by tail head span)
  taken led count within from long led_is count_is better = (
    record {
      under = λ vertex low.
          ⊎_elim {C = is_better (standing (slice_set before head led) (slice_set counts head count) vertex) (label far hops vertex) ≡ false}
          (λ same. subst (λ v. is_better (standing (slice_set before head led) (slice_set counts head count) v) (label far hops v) ≡ false) (sym same) at_under)
          (λ apart. subst (λ (r : Reach). is_better r (label far hops vertex) ≡ false) (sym (elsewhere vertex apart)) (under vertex (omega (arith, low, sized))))
          (cases_eq vertex head);
      stays = λ vertex low same.
          ⊎_elim {C = standing (slice_set before head led) (slice_set counts head count) vertex ≡ label far hops vertex}
          (λ here. absurd (never (subst (λ v. standing before counts v ≡ label far hops v) here same)))
          (λ apart. elsewhere vertex apart ∙ same)
          (cases_eq vertex head);
    },
    λ there known_low held tight same.
        let far_same = ap (λ (r : Reach). r.length) same in
        let hops_same = ap (λ (r : Reach). r.hops) same in
        let far_tight = ap (λ (r : Reach). r.length) tight in
        let hops_tight = ap (λ (r : Reach). r.hops) tight in
        here ∙ reach-same (record { length = led; hops = count }) (label far hops head) (omega (arith, ints, far_same, far_tight, led_is)) (omega (arith, hops_same, hops_tight, count_is)),
  )
    where
      sized : length (slice_set before head led) ≡ length before
      sized = length-set before head led

      here : standing (slice_set before head led) (slice_set counts head count) head ≡ record { length = led; hops = count }
      here = reach-same (standing (slice_set before head led) (slice_set counts head count) head) (record { length = led; hops = count })
          (get_or-set_same before head led (pos 0) within)
          (get_or-set_same counts head count 0 (omega (arith, within, long)))

      elsewhere : (vertex : ℕ) → (vertex ≡ head → ⊥) → standing (slice_set before head led) (slice_set counts head count) vertex ≡ standing before counts vertex
      elsewhere vertex apart = reach-same (standing (slice_set before head led) (slice_set counts head count) vertex) (standing before counts vertex)
          (get_or-set_other before head vertex led (pos 0) apart)
          (get_or-set_other counts head vertex count 0 apart)

      offers : IsNoBetter (record { length = led; hops = count }) (label far hops head)
      offers =
          let most = offer-under from in
          record {
            no_longer = omega (arith, ints, most.no_longer, led_is);
            no_fewer = λ same.
                let whole : at_vertex before tail +ℤ span ≡ far head = omega (arith, ints, led_is) in
                omega (arith, most.no_fewer whole, count_is);
          }

      at_under : is_better (standing (slice_set before head led) (slice_set counts head count) head) (label far hops head) ≡ false
      at_under = subst (λ (r : Reach). is_better r (label far hops head) ≡ false) (sym here) (test-no_better (record { length = led; hops = count }) (label far hops head) offers)

      -- a target's own label isn't replaced
      never : standing before counts head ≡ label far hops head → ⊥
      never same = both_ways (is_better (record { length = led; hops = count }) (label far hops head)) (test-no_better (record { length = led; hops = count }) (label far hops head) offers)
          (subst (λ (r : Reach). is_better (record { length = led; hops = count }) r ≡ true) same better)
