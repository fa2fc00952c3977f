-- Where potentials fit each residual arc no walk round is longer than nothing. So a walk that comes through a vertex twice is no better
-- than what is left of it without the walk round between, and to each walk there is one that is as good and repeats no vertex. That one
-- has fewer arcs than there are vertices, so no walk at all is better than the best of those.
use Rattle.std.proofs.Common.{◌≡◌, ◌<◌, ◌≤◌, ◌-◌, ◌∙◌, ◌||◌, ℕ, ℤ, ◌+ℤ◌, ◌≤ℤ◌, eqb, Bool, true, false, List, [], ◌∷◌, length, All, Some, refl, ap, sym, subst, arith, ⊎_elim}
use Rattle.std.specs.List.{IsDistinct, list_any}
use Rattle.std.proofs.lemmas.Bool.{eqb-true, or_cases}
use Rattle.std.proofs.lemmas.Int.{ints}
use Rattle.std.proofs.lemmas.List.Elements.{All-nil, All-cons, All-contains, recursion_from_All}
use Rattle.std.proofs.lemmas.Map.Keys.{IsDistinct-cons, IsDistinct-tail}
use Rattle.std.proofs.lemmas.Map.Steps.{length-le_from_distinct_below}
use Rattle.flow_net.specs.declared.net.Net.{Net}
use Rattle.flow_net.specs.declared.net.Flow.{Flow}
use Rattle.stage_flow.specs.Residual.{Way, ways_of, vertex_count}
use Rattle.stage_flow.specs.Longest.{Reach}
use Rattle.stage_flow.specs.Rounds.{best_to}
use Rattle.stage_flow.specs.LawsOfWalks.{IsWalk, led_by, reach_of, FitsWay}
use Rattle.stage_flow.proofs.Walks.{IsNoBetter, no_better-test, no_better-same, no_better-through, hops-is_length}
use Rattle.stage_flow.proofs.Best.{no_walk_is_better}
use Rattle.stage_flow.proofs.Labels.{no_better-led, stops, length-stops, stops-low, IsLow}

absent : (q : ℕ) (xs : List ℕ) → list_any (eqb q) xs ≡ false → All (λ v. eqb q v ≡ false) xs
absent q [] none = All-nil (λ v. eqb q v ≡ false)
absent q (x ∷ xs) none = by (eqb q x) refl none (absent q xs)
  where
    by : (test : Bool) → eqb q x ≡ test → test || list_any (eqb q) xs ≡ false → (list_any (eqb q) xs ≡ false → All (λ v. eqb q v ≡ false) xs) → All (λ v. eqb q v ≡ false) (x ∷ xs)
    by true same none rest = absurd (cc)
    by false other none rest = All-cons (λ v. eqb q v ≡ false) x xs other (rest none)

one-distinct : (vertex : ℕ) → IsDistinct eqb (vertex ∷ [])
unfolding IsDistinct
one-distinct vertex = (tt, tt)

module _ (ways : List Way) (p : ℕ → ℤ) (fits : All (FitsWay p) ways) where
  -- what is left of a walk from a vertex that it comes through
  record Rest (from to stop : ℕ) (walk : List Way) : Type 0 where
    rest : List Way
    goes : IsWalk ways stop to rest
    distinct : IsDistinct eqb (stops to rest)
    no_more : length rest ≤ length walk
    rises : (p from +ℤ (reach_of walk).length) ≤ℤ (p stop +ℤ (reach_of rest).length)

  rest-from : (from to stop : ℕ) (walk : List Way) → IsWalk ways from to walk → IsDistinct eqb (stops to walk) → list_any (eqb stop) (stops to walk) ≡ true → Rest from to stop walk
  rest-from from to stop [] here distinct through =
      ⊎_elim {C = Rest from to stop []}
      (λ is.
      let same : stop ≡ to = eqb-true stop to is in
      let level : p from ≡ p stop = ap p (here ∙ sym same) in
      record { rest = []; goes = same; distinct = distinct; no_more = omega arith; rises = omega (arith, ints, level) })
      (λ none. absurd (cc)) (or_cases (eqb stop to) false through)
  rest-from from to stop (way ∷ walk) (there, begins, goes) distinct through =
      ⊎_elim {C = Rest from to stop (way ∷ walk)}
      (λ is.
      let same : stop ≡ way.tail = eqb-true stop way.tail is in
      let level : p from ≡ p stop = ap p (sym begins ∙ sym same) in
      record { rest = way ∷ walk; goes = (there, sym same, goes); distinct = distinct; no_more = omega arith; rises = omega (arith, ints, level) })
      (λ later.
      let rest = rest-from way.head to stop walk goes (IsDistinct-tail eqb way.tail (stops to walk) distinct) later in
      let own : FitsWay p way = All-contains (FitsWay p) ways way fits there in
      let level : p way.tail ≡ p from = ap p begins in
      record { rest = rest.rest; goes = rest.goes; distinct = rest.distinct; no_more = omega (arith, rest.no_more); rises = omega (arith, ints, rest.rises, own, level) })
      (or_cases (eqb stop way.tail) (list_any (eqb stop) (stops to walk)) through)

  -- a walk that repeats no vertex and is as good
  record Shortened (from to : ℕ) (walk : List Way) : Type 0 where
    other : List Way
    goes : IsWalk ways from to other
    distinct : IsDistinct eqb (stops to other)
    no_better : IsNoBetter (reach_of walk) (reach_of other)

  shortened : (from to : ℕ) (walk : List Way) → IsWalk ways from to walk → Shortened from to walk
  shortened from to [] here = record {
    other = [];
    goes = here;
    distinct = one-distinct to;
    no_better = no_better-same (reach_of []);
  }
  shortened from to (way ∷ walk) (there, begins, goes) = by (shortened way.head to walk goes)
    where
      own : FitsWay p way
      own = All-contains (FitsWay p) ways way fits there

      after-test : (after : Shortened way.head to walk) (test : Bool) → list_any (eqb way.tail) (stops to after.other) ≡ test → IsNoBetter (reach_of (way ∷ walk)) (led_by way (reach_of after.other)) → Shortened from to (way ∷ walk)
      after-test after true twice led =
          let rest = rest-from way.head to way.tail after.other after.goes after.distinct twice in
          let less : IsNoBetter (led_by way (reach_of after.other)) (reach_of rest.rest) = record {
            no_longer = omega (arith, ints, own, rest.rises);
            no_fewer = λ same. omega (arith, hops-is_length rest.rest, hops-is_length after.other, rest.no_more);
          } in
          record {
            other = rest.rest;
            goes = subst (λ v. IsWalk ways v to rest.rest) begins rest.goes;
            distinct = rest.distinct;
            no_better = no_better-through (reach_of (way ∷ walk)) (led_by way (reach_of after.other)) (reach_of rest.rest) led less;
          }
      after-test after false once led = record {
        other = way ∷ after.other;
        goes = (there, begins, after.goes);
        distinct =
            IsDistinct-cons eqb way.tail (stops to after.other)
            (recursion_from_All (λ v. eqb way.tail v ≡ false) (stops to after.other) (absent way.tail (stops to after.other) once))
            after.distinct;
        no_better = led;
      }

      by : Shortened way.head to walk → Shortened from to (way ∷ walk)
      by after = after-test after (list_any (eqb way.tail) (stops to after.other)) refl (no_better-led (reach_of walk) (reach_of after.other) way after.no_better)

-- No walk at all is better than the best with fewer arcs than there are vertices.
pub best_to-of_all : (net : Net) (flow : Flow) (p : ℕ → ℤ) → All (FitsWay p) (ways_of net flow) → All (IsLow (vertex_count net)) (ways_of net flow) → (from to : ℕ) (walk : List Way) → to < vertex_count net → IsWalk (ways_of net flow) from to walk
    → (best : Reach) × (best_to net flow from to ≡ Some best) × IsNoBetter (reach_of walk) best
best_to-of_all net flow p fits low from to walk within goes =
    let ways = ways_of net flow in
    let short = shortened ways p fits from to walk goes in
    let few = length-le_from_distinct_below (stops to short.other) (vertex_count net) short.distinct (stops-low (vertex_count net) ways from to short.other low short.goes within) in
    let (best, is, less) = no_walk_is_better ways from (vertex_count net - 1) to short.other short.goes (omega (arith, few, length-stops to short.other)) in
    (best, is, no_better-through (reach_of walk) (reach_of short.other) best short.no_better (no_better-test (reach_of short.other) best less))
