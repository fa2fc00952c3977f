-- Labels by a search from the source are the lengths of longest walks. The best walk of at most so many arcs is at least as long as
-- the way back by last arcs, which has as many as the label counts; and it is no longer, since the labels fit.
use Rattle.std.proofs.Common.{◌≡◌, ◌<◌, ◌+◌, ◌-◌, ◌==◌, ◌∙◌, ℕ, zero, suc, ℤ, ◌+ℤ◌, ◌≤ℤ◌, Bool, true, false, cond, List, [], ◌∷◌, length, get_or, Option, Some, None, IfSome, IsSomeAnd, refl, sym, ap, subst, arith}
use Rattle.std.proofs.lemmas.Bool.Decides.{nat_tests}
use Rattle.std.proofs.lemmas.Int.{ints}
use Rattle.flow_net.specs.declared.net.Net.{Net}
use Rattle.flow_net.specs.declared.net.Flow.{Flow}
use Rattle.stage_flow.specs.Residual.{Way, ways_of, vertex_count}
use Rattle.stage_flow.specs.Longest.{Reach, is_better, better, by_way, best_into, best_within}
use Rattle.stage_flow.specs.Rounds.{best_to}
use Rattle.stage_flow.specs.LawsOfEpochs.{AreLabelsFromSource, AreFarthest, LabelsAreFarthest}
use Rattle.stage_flow.proofs.BestWithin.{best-below}

-- a walk is there, of this length or more
abbrev pub GoesFar : ℤ → Option Reach → Type 0
GoesFar length best = IsSomeAnd best (λ reach. length ≤ℤ reach.length)

-- A better reach is as long or longer, and one that isn't better is no longer.
better-longer : (a b : Reach) → is_better b a ≡ true → a.length ≤ℤ b.length
better-longer a b better = grind (arith, ints)

other-shorter : (a b : Reach) → is_better b a ≡ false → b.length ≤ℤ a.length
other-shorter a b other = grind (arith, ints)

better-left : (length : ℤ) (a b : Option Reach) → GoesFar length a → GoesFar length (better a b)
better-left length None b far = absurd far
better-left length (Some a) None far = far
better-left length (Some a) (Some b) far = by (is_better b a) refl
  where
    by : (test : Bool) → is_better b a ≡ test → GoesFar length (cond test (Some b) (Some a))
    by true e = let longer = better-longer a b e in omega (arith, ints)
    by false e = far

better-right : (length : ℤ) (a b : Option Reach) → GoesFar length b → GoesFar length (better a b)
better-right length None b far = far
better-right length (Some a) None far = absurd far
better-right length (Some a) (Some b) far = by (is_better b a) refl
  where
    by : (test : Bool) → is_better b a ≡ test → GoesFar length (cond test (Some b) (Some a))
    by true e = far
    by false e = let shorter = other-shorter a b e in omega (arith, ints)

by_way-far : (length : ℤ) (way : Way) (best : Option Reach) → GoesFar length best → GoesFar (length +ℤ way.length) (by_way way best)
by_way-far length way None far = absurd far
by_way-far length way (Some reach) far = omega (arith, ints)

-- The best into a vertex goes as far as by each residual arc that ends there.
best_into-far : (best : ℕ → Option Reach) (far : ℤ) (vertex : ℕ) (ways : List Way) (k : ℕ) (d : Way) → k < length ways → (get_or ways k d).head ≡ vertex → GoesFar far (best (get_or ways k d).tail)
    → GoesFar (far +ℤ (get_or ways k d).length) (best_into best ways vertex)
best_into-far best far vertex [] k d within ends goes = absurd (omega arith)
best_into-far best far vertex (way ∷ ways) zero d within ends goes =
    let here : (way.head == vertex) ≡ true = grind (arith, nat_tests) in
    rw here (better-left (far +ℤ way.length) (by_way way (best way.tail)) (best_into best ways vertex) (by_way-far far way (best way.tail) goes))
best_into-far best far vertex (way ∷ ways) (suc k) d within ends goes =
    by (way.head == vertex) (best_into-far best far vertex ways k d (omega arith) ends goes)
  where
    by : (b : Bool) → GoesFar (far +ℤ (get_or ways k d).length) (best_into best ways vertex)
        → GoesFar (far +ℤ (get_or ways k d).length) (cond b (better (by_way way (best way.tail)) (best_into best ways vertex)) (best_into best ways vertex))
    by true rest = better-right (far +ℤ (get_or ways k d).length) (by_way way (best way.tail)) (best_into best ways vertex) rest
    by false rest = rest

-- With more arcs the best walk goes no less far.
best-more : (ways : List Way) (from : ℕ) (far : ℤ) (vertex arcs more : ℕ) → GoesFar far (best_within ways from arcs vertex) → GoesFar far (best_within ways from (arcs + more) vertex)
best-more ways from far vertex arcs zero goes =
    let e : arcs ≡ arcs + 0 = omega arith in subst (λ n. GoesFar far (best_within ways from n vertex)) e goes
best-more ways from far vertex arcs (suc more) goes =
    let e : suc (arcs + more) ≡ arcs + suc more = omega arith in
    subst (λ n. GoesFar far (best_within ways from n vertex)) e
    (better-left far (best_within ways from (arcs + more) vertex) (best_into (best_within ways from (arcs + more)) ways vertex) (best-more ways from far vertex arcs more goes))

module _ (net : Net) (flow : Flow) (far : ℕ → ℤ) (hops : ℕ → ℕ) (labels : AreLabelsFromSource net flow far hops) where
  abbrev ways : List Way
  ways = ways_of net flow

  -- The best walk with as many arcs as the label counts goes as far as it says,
  labels-reached : (arcs vertex : ℕ) → vertex < vertex_count net → hops vertex ≡ arcs → GoesFar (far vertex) (best_within ways 0 arcs vertex)
  labels-reached zero zero within counts = omega (arith, ints, labels.origin)
  labels-reached (suc arcs) zero within counts = absurd (omega (arith, labels.starts))
  labels-reached zero (suc vertex) within counts =
      let last = labels.comes vertex within in
      absurd (omega (arith, last.4.0.counts))
  labels-reached (suc arcs) (suc vertex) within counts =
      let last = labels.comes vertex within in
      let way = last.1 in
      let own = last.4.0 in
      let best = best_within ways 0 arcs in
      let tail : GoesFar (far way.tail) (best way.tail) = labels-reached arcs way.tail last.4.1 (omega (arith, own.counts)) in
      let goes : GoesFar (far way.tail +ℤ way.length) (best_into best ways (suc vertex)) =
      subst (λ one. GoesFar (far way.tail +ℤ one.length) (best_into best ways (suc vertex))) last.3
      (best_into-far best (far way.tail) (suc vertex) ways last.0 way last.2 (ap (λ one. one.head) last.3 ∙ own.ends) (subst (λ (one : Way). GoesFar (far way.tail) (best one.tail)) (sym last.3) tail)) in
      better-right (far (suc vertex)) (best (suc vertex)) (best_into best ways (suc vertex))
      (subst (λ length. GoesFar length (best_into best ways (suc vertex))) (sym own.reaches) goes)

  -- and no walk goes further.
  just-as-far : (best : Option Reach) (length : ℤ) → GoesFar length best → IfSome best (λ reach. (far 0 +ℤ reach.length) ≤ℤ length) → (reach : Reach) × (best ≡ Some reach) × (reach.length ≡ length)
  just-as-far None length goes low = absurd goes
  just-as-far (Some reach) length goes low = (reach, refl, omega (arith, ints, labels.origin))

  pub labels-attained : (vertex : ℕ) → vertex < vertex_count net → (reach : Reach) × (best_to net flow 0 vertex ≡ Some reach) × (reach.length ≡ far vertex)
  labels-attained vertex within =
      let most = vertex_count net - 1 in
      let few = labels.few vertex within in
      let e : hops vertex + (most - hops vertex) ≡ most = omega arith in
      let own = best-more ways 0 (far vertex) vertex (hops vertex) (most - hops vertex) (labels-reached (hops vertex) vertex within refl) in
      just-as-far (best_within ways 0 most vertex) (far vertex)
      (subst (λ n. GoesFar (far vertex) (best_within ways 0 n vertex)) e own)
      (best-below far ways 0 most vertex labels.fits)

  pub labels-farthest : AreFarthest net flow far
  labels-farthest = record {
    origin = labels.origin;
    fits = labels.fits;
    attained = λ vertex within. labels-attained vertex (omega arith);
  }

pub labels-are_farthest : LabelsAreFarthest
labels-are_farthest net flow far hops labels = labels-farthest net flow far hops labels
