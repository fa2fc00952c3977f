-- Old labels that are right outside the stale vertices, beside labels that are right everywhere. An old label is never worse than the
-- right one. Where a vertex isn't stale it is the right one: a tight walk of old labels leads over such vertices to a mirror that wants.
-- From a stale vertex a tight walk of the right labels leads to a mirror that wants, which isn't stale, so over an open residual arc. Along
-- the walk the right label costs ever less beyond the old one, since the old labels fit its arcs. So that arc's offer is no more beyond
-- its vertex' old label than the right label of the walk's start is beyond its own.
use Rattle.std.proofs.Common.{◌≡◌, ◌<◌, ◌+◌, ◌^◌, ◌∙◌, ℕ, zero, suc, ℤ, ◌+ℤ◌, ◌-ℤ◌, ◌≤ℤ◌, Bool, true, false, not, List, [], ◌∷◌, All, Contains, refl, ap, sym, subst, arith, ⊎_elim}
use Rattle.std.proofs.lemmas.Int.{ints}
use Rattle.std.proofs.lemmas.Bool.{both_ways, and_from}
use Rattle.std.proofs.lemmas.List.Elements.{All-contains, All-head}
use Rattle.flow_net.specs.declared.net.Net.{Net}
use Rattle.flow_net.specs.declared.net.Flow.{Flow}
use Rattle.stage_flow.specs.Residual.{Way, ways_of, vertex_count}
use Rattle.stage_flow.specs.Longest.{Reach}
use Rattle.stage_flow.specs.Rounds.{is_wanting}
use Rattle.stage_flow.specs.LawsOfWalks.{led_by, label, reach_of, IsTight, IsTightWalk, AreLabels}
use Rattle.stage_flow.specs.Passes.{mark_at}
use Rattle.stage_flow.specs.Mending.{cost, AreRightOutside, is_open}
use Rattle.stage_flow.proofs.Walks.{IsNoBetter, both, reach-tied}
use Rattle.stage_flow.proofs.Labels.{IsLow, way-fits, walk-fits, same-from_tight, each_is_served, tight-nearer, tight_walk-tail}
use Rattle.stage_flow.proofs.Costs.{growth, cost-led, cost-no_better}

-- an open residual arc, tight by the right labels, whose offer rises no more than the right label of a vertex does
pub record IsCrossing (net : Net) (flow : Flow) (old_far : ℕ → ℤ) (old_hops : ℕ → ℕ) (far : ℕ → ℤ) (hops : ℕ → ℕ) (stale : List Bool) (from : ℕ) : Type 0 where
  pub way : Way
  pub there : Contains (ways_of net flow) way
  pub open_way : is_open stale way ≡ true
  pub tight : IsTight far hops way
  pub rise : (cost (label far hops way.tail) -ℤ cost (label old_far old_hops way.tail)) ≤ℤ (cost (label far hops from) -ℤ cost (label old_far old_hops from))

module _ (net : Net) (flow : Flow) (old_far : ℕ → ℤ) (old_hops : ℕ → ℕ) (far : ℕ → ℤ) (hops : ℕ → ℕ) (stale : List Bool)
    (few : vertex_count net < 2 ^ 32) (low : All (IsLow (vertex_count net)) (ways_of net flow))
    (old : AreRightOutside net flow old_far old_hops stale) (labels : AreLabels net flow far hops) where
  -- A right label is no better than the old one.
  pub right-under_old : (vertex : ℕ) → vertex < vertex_count net → IsNoBetter (label far hops vertex) (label old_far old_hops vertex)
  right-under_old vertex within =
      let served = each_is_served net flow far hops labels low vertex within in
      let own = same-from_tight far hops (ways_of net flow) vertex served.mirror served.walk served.tight.goes served.tight.tight in
      let most = walk-fits old_far old_hops (ways_of net flow) old.fits vertex served.mirror served.walk served.tight.goes in
      let ends : label old_far old_hops served.mirror ≡ label far hops served.mirror =
      (old.nothing served.mirror served.wants).0 ∙ sym (labels.nothing served.mirror served.wants) in
      let whole : both (reach_of served.walk) (label old_far old_hops served.mirror) ≡ label far hops vertex =
      ap (both (reach_of served.walk)) ends ∙ own in
      subst (λ (r : Reach). IsNoBetter r (label old_far old_hops vertex)) whole most

  -- Where a vertex isn't stale the two are one.
  pub old-right : (vertex : ℕ) → vertex < vertex_count net → mark_at stale vertex ≡ false → label old_far old_hops vertex ≡ label far hops vertex
  old-right vertex within fresh = down (old_hops vertex) vertex within fresh refl
    where
      at : (left vertex : ℕ) → vertex < vertex_count net → mark_at stale vertex ≡ false → old_hops vertex ≡ left → ((next : ℕ) → next < vertex_count net → mark_at stale next ≡ false → old_hops next + 1 ≡ left → label old_far old_hops next ≡ label far hops next) → label old_far old_hops vertex ≡ label far hops vertex
      at left vertex within fresh is next =
          ⊎_elim {C = label old_far old_hops vertex ≡ label far hops vertex}
          (λ wants. (old.nothing vertex wants).0 ∙ sym (labels.nothing vertex wants))
          (λ (k, way, inside, here, (begins, tight, fresh_head)).
          let there : Contains (ways_of net flow) way = (k, inside, here) in
          let ends = All-contains (IsLow (vertex_count net)) (ways_of net flow) way low there in
          let same = ap old_hops begins in
          let rest = next way.head ends.1 fresh_head (omega (arith, tight-nearer old_far old_hops way tight, same)) in
          let whole : led_by way (label far hops way.head) ≡ label old_far old_hops vertex = ap (led_by way) (sym rest) ∙ tight ∙ ap (label old_far old_hops) begins in
          let fit : IsNoBetter (led_by way (label far hops way.head)) (label far hops vertex) =
          subst (λ v. IsNoBetter (led_by way (label far hops way.head)) (label far hops v)) begins (way-fits far hops (ways_of net flow) labels.fits way there) in
          reach-tied (label old_far old_hops vertex) (label far hops vertex)
          (subst (λ (r : Reach). IsNoBetter r (label far hops vertex)) whole fit) (right-under_old vertex within))
          (old.sound vertex within fresh)

      down : (left vertex : ℕ) → vertex < vertex_count net → mark_at stale vertex ≡ false → old_hops vertex ≡ left → label old_far old_hops vertex ≡ label far hops vertex
      down zero vertex within fresh is = at 0 vertex within fresh is (λ next h free more. absurd (omega (arith, more)))
      down (suc left) vertex within fresh is = at (suc left) vertex within fresh is (λ next h free more. down left next h free (omega (arith, more)))

  -- Along a tight arc the right label's cost beyond the old one doesn't grow.
  rise-along : (way : Way) → Contains (ways_of net flow) way → IsTight far hops way → (cost (label far hops way.head) -ℤ cost (label old_far old_hops way.head)) ≤ℤ (cost (label far hops way.tail) -ℤ cost (label old_far old_hops way.tail))
  rise-along way there tight =
      let ends = All-contains (IsLow (vertex_count net)) (ways_of net flow) way low there in
      let fit = way-fits old_far old_hops (ways_of net flow) old.fits way there in
      let below = old.few way.tail ends.0 in
      let less = cost-no_better (led_by way (label old_far old_hops way.head)) (label old_far old_hops way.tail) (omega (arith, below, few)) fit in
      let own : cost (label far hops way.tail) ≡ cost (led_by way (label far hops way.head)) = ap cost (sym tight) in
      rises (cost (label far hops way.head)) (cost (label far hops way.tail)) (cost (label old_far old_hops way.head)) (cost (label old_far old_hops way.tail)) (growth way)
      (own ∙ cost-led way (label far hops way.head))
      (subst (λ c. cost (label old_far old_hops way.tail) ≤ℤ c) (cost-led way (label old_far old_hops way.head)) less)
    where
      rises : (head tail old_head old_tail more : ℤ) → tail ≡ head +ℤ more → old_tail ≤ℤ (old_head +ℤ more) → (head -ℤ old_head) ≤ℤ (tail -ℤ old_tail)
      rises head tail old_head old_tail more own less = omega (arith, ints, own, less)

  crossing-from : (marks : List Bool) (from mirror : ℕ) (walk : List Way) → IsTightWalk far hops (ways_of net flow) from mirror walk → mark_at marks from ≡ true → mark_at marks mirror ≡ false → IsCrossing net flow old_far old_hops far hops marks from
  crossing-from marks from mirror [] tight is_stale fresh =
      let here : from ≡ mirror = tight.goes in
      absurd (both_ways (mark_at marks from) (ap (mark_at marks) here ∙ fresh) is_stale)
  crossing-from marks from mirror (way ∷ walk) tight is_stale fresh =
      by (mark_at marks way.head) refl (λ inside. crossing-from marks way.head mirror walk (tight_walk-tail far hops (ways_of net flow) from mirror way walk tight) inside fresh)
    where
      there : Contains (ways_of net flow) way
      there = tight.goes.0

      begins : way.tail ≡ from
      begins = tight.goes.1

      own : IsTight far hops way
      own = All-head (IsTight far hops) way walk tight.tight

      through : (a b c : ℤ) → a ≤ℤ b → b ≤ℤ c → a ≤ℤ c
      through a b c first second = omega (arith, ints, first, second)

      by : (test : Bool) → mark_at marks way.head ≡ test → (mark_at marks way.head ≡ true → IsCrossing net flow old_far old_hops far hops marks way.head) → IsCrossing net flow old_far old_hops far hops marks from
      by false out next = record {
        way = way;
        there = there;
        open_way = and_from (mark_at marks way.tail) (not (mark_at marks way.head)) (ap (mark_at marks) begins ∙ is_stale) (ap not out);
        tight = own;
        rise = subst (λ v. (cost (label far hops way.tail) -ℤ cost (label old_far old_hops way.tail)) ≤ℤ (cost (label far hops v) -ℤ cost (label old_far old_hops v))) begins (omega (arith, ints));
      }
      by true inside next =
          let rest = next inside in
          let first : (cost (label far hops way.head) -ℤ cost (label old_far old_hops way.head)) ≤ℤ (cost (label far hops from) -ℤ cost (label old_far old_hops from)) =
          subst (λ v. (cost (label far hops way.head) -ℤ cost (label old_far old_hops way.head)) ≤ℤ (cost (label far hops v) -ℤ cost (label old_far old_hops v))) begins (rise-along way there own) in record {
            way = rest.way;
            there = rest.there;
            open_way = rest.open_way;
            tight = rest.tight;
            rise = through (cost (label far hops rest.way.tail) -ℤ cost (label old_far old_hops rest.way.tail)) (cost (label far hops way.head) -ℤ cost (label old_far old_hops way.head)) (cost (label far hops from) -ℤ cost (label old_far old_hops from)) rest.rise first;
          }

  -- From each stale vertex there is such an arc, also where vertices that were stale aren't any more.
  pub crossing : (marks : List Bool) → ((vertex : ℕ) → is_wanting net flow vertex ≡ true → mark_at marks vertex ≡ false) → (from : ℕ) → from < vertex_count net → mark_at marks from ≡ true → IsCrossing net flow old_far old_hops far hops marks from
  crossing marks mirrors from within is_stale =
      let served = each_is_served net flow far hops labels low from within in
      crossing-from marks from served.mirror served.walk served.tight is_stale (mirrors served.mirror served.wants)
