-- The receiver is read off tight arcs. Walks from the sender are no better than its label less their end's label, and as good
-- exactly where their arcs are tight. So the best walk to a vertex that tight arcs reach by so many steps has just so many arcs,
-- and of the mirrors that want those are best that tight arcs reach by as many steps as the sender's label has.
use Rattle.std.proofs.Common.{◌≡◌, ◌<◌, ◌≤◌, ◌+◌, ◌-◌, ◌∙◌, ◌⊎◌, ℕ, zero, suc, ℤ, pos, ◌-ℤ◌, Bool, true, false, cond, List, ◌∷◌, length, filter, All, Option, Some, None, refl, ap, sym, subst, inl, inr, arith, ⊎_elim}
use Rattle.std.specs.List.{range_with_len}
use Rattle.std.proofs.lemmas.Bool.{cases_eq, both_ways}
use Rattle.std.proofs.lemmas.Int.{ints}
use Rattle.flow_net.specs.declared.net.Net.{Net}
use Rattle.flow_net.specs.declared.net.Flow.{Flow}
use Rattle.stage_flow.specs.Residual.{Way, ways_of, vertex_count}
use Rattle.stage_flow.specs.Longest.{Reach, is_better}
use Rattle.stage_flow.specs.Rounds.{is_wanting, best_to, Reached, or_better, first_best, receiver}
use Rattle.stage_flow.specs.LawsOfWalks.{reach_of, label, AreLabelsFor, IsTightWalk, IsInLayer, IsLeastServed}
use Rattle.stage_flow.proofs.Walks.{IsNoBetter, no_better-test, test-no_better, no_better-same, both, reach-same, reach-tied, hops-is_length}
use Rattle.stage_flow.proofs.Best.{the_best_is_attained, no_walk_is_better}
use Rattle.stage_flow.proofs.Labels.{walk-fits, tight-from_same, same-from_tight, tight_walk-short, IsLow, wanting-low, tight_walk-nearer}

-- What comes on behind is the same on both sides.
both-less : (a b c : Reach) → IsNoBetter (both a c) (both b c) → IsNoBetter a b
both-less a b c first = record {
  no_longer = omega (arith, ints, first.no_longer);
  no_fewer = λ same. let left : (both a c).length ≡ (both b c).length = omega (arith, ints) in omega (arith, first.no_fewer left);
}

-- how far a vertex is that tight arcs reach by so many steps
abbrev pub layer_reach : (ℕ → ℤ) → ℕ → ℕ → ℕ → Reach
layer_reach far from steps vertex = record { length = far from -ℤ far vertex; hops = steps }

module _ (net : Net) (flow : Flow) (far : ℕ → ℤ) (hops : ℕ → ℕ) (from : ℕ) (labels : AreLabelsFor net flow far hops from) (low : All (IsLow (vertex_count net)) (ways_of net flow)) where
  tight-reach : (vertex : ℕ) (walk : List Way) → IsTightWalk far hops (ways_of net flow) from vertex walk → reach_of walk ≡ layer_reach far from (length walk) vertex
  tight-reach vertex walk tight =
      let same = same-from_tight far hops (ways_of net flow) from vertex walk tight.goes tight.tight in
      let long = ap (λ (reach : Reach). reach.length) same in
      reach-same (reach_of walk) (layer_reach far from (length walk) vertex) (omega (arith, ints, long)) (hops-is_length walk)

  -- What the best walk to a vertex has is no better than the sender's label less the vertex's.
  pub best_to-fits : (vertex : ℕ) (reach : Reach) → best_to net flow from vertex ≡ Some reach → IsNoBetter (both reach (label far hops vertex)) (label far hops from)
  best_to-fits vertex reach is =
      let (walk, goes, few, far_is) = the_best_is_attained (ways_of net flow) from (vertex_count net - 1) vertex reach is in
      subst (λ (r : Reach). IsNoBetter (both r (label far hops vertex)) (label far hops from)) far_is
      (walk-fits far hops (ways_of net flow) labels.fits from vertex walk goes)

  -- The best to a vertex that tight arcs reach has just as many arcs.
  pub best_to-in_layer : (steps vertex : ℕ) → vertex < vertex_count net → IsInLayer far hops (ways_of net flow) from steps vertex → best_to net flow from vertex ≡ Some (layer_reach far from steps vertex)
  best_to-in_layer steps vertex within layer =
      let walk = layer.walk in
      let short = tight_walk-short far hops (vertex_count net) (ways_of net flow) from vertex walk low within layer.tight in
      let (best, is, less) = no_walk_is_better (ways_of net flow) from (vertex_count net - 1) vertex walk layer.tight.goes (omega (arith, short)) in
      let same = same-from_tight far hops (ways_of net flow) from vertex walk layer.tight.goes layer.tight.tight in
      let most : IsNoBetter (both best (label far hops vertex)) (both (reach_of walk) (label far hops vertex)) =
      subst (IsNoBetter (both best (label far hops vertex))) (sym same) (best_to-fits vertex best is) in
      let one : best ≡ reach_of walk =
      reach-tied best (reach_of walk) (both-less best (reach_of walk) (label far hops vertex) most) (no_better-test (reach_of walk) best less) in
      is ∙ ap Some (one ∙ tight-reach vertex walk layer.tight ∙ ap (λ n. layer_reach far from n vertex) layer.long)

  -- A vertex whose best walk is as good as that is reached by tight arcs.
  pub in_layer-from_best : (vertex : ℕ) (reach : Reach) → best_to net flow from vertex ≡ Some reach → both reach (label far hops vertex) ≡ label far hops from → IsInLayer far hops (ways_of net flow) from reach.hops vertex
  in_layer-from_best vertex reach is same =
      let (walk, goes, few, far_is) = the_best_is_attained (ways_of net flow) from (vertex_count net - 1) vertex reach is in
      let whole : both (reach_of walk) (label far hops vertex) ≡ label far hops from =
      ap (λ (r : Reach). both r (label far hops vertex)) far_is ∙ same in record {
        walk = walk;
        tight = record { goes = goes; tight = tight-from_same far hops (ways_of net flow) labels.fits from vertex walk goes whole };
        long = sym (hops-is_length walk) ∙ ap (λ (r : Reach). r.hops) far_is;
      }

-- ---- The first of the best, in order
-- what is found so far is worse than a reach
abbrev IsWorse : Option Reached → Reach → Type 0
IsWorse None reach = Unit {0}
IsWorse (Some found) reach = is_better reach found.reach ≡ true

-- what is there is no better than a reach
abbrev pub IsAtMost : Option Reach → Reach → Type 0
IsAtMost None reach = Unit {0}
IsAtMost (Some found) reach = IsNoBetter found reach

abbrev at_vertex : ℕ → Reach → Reached
at_vertex vertex reach = record { vertex = vertex; reach = reach }

-- One that is as good as can be stays,
or_better-stays : (vertex later : ℕ) (reach : Reach) (found : Option Reach) → IsAtMost found reach → or_better (Some (at_vertex vertex reach)) later found ≡ Some (at_vertex vertex reach)
or_better-stays vertex later reach None most = refl
or_better-stays vertex later reach (Some found) most = rw (test-no_better found reach most) refl

first_best-stays : (best : ℕ → Option Reach) (test : ℕ → Bool) (vertex : ℕ) (reach : Reach) → ((v : ℕ) → test v ≡ true → IsAtMost (best v) reach) → (start count : ℕ) → first_best best (Some (at_vertex vertex reach)) (filter test (range_with_len start count)) ≡ Some (at_vertex vertex reach)
first_best-stays best test vertex reach most start zero = refl
first_best-stays best test vertex reach most start (suc count) = by (test start) refl (first_best-stays best test vertex reach most (start + 1) count)
  where
    by : (passes : Bool) → test start ≡ passes → first_best best (Some (at_vertex vertex reach)) (filter test (range_with_len (start + 1) count)) ≡ Some (at_vertex vertex reach) → first_best best (Some (at_vertex vertex reach)) (cond passes (start ∷ filter test (range_with_len (start + 1) count)) (filter test (range_with_len (start + 1) count))) ≡ Some (at_vertex vertex reach)
    by false is rest = rest
    by true is rest =
        ap (λ (o : Option Reached). first_best best o (filter test (range_with_len (start + 1) count))) (or_better-stays vertex start reach (best start) (most start is))
        ∙ rest

-- and a first one that is so good is taken over all that are worse.
or_better-takes : (found : Option Reached) (vertex : ℕ) (reach : Reach) → IsWorse found reach → or_better found vertex (Some reach) ≡ Some (at_vertex vertex reach)
or_better-takes None vertex reach worse = refl
or_better-takes (Some found) vertex reach worse = rw worse refl

or_better-worse : (found : Option Reached) (vertex : ℕ) (reach : Reach) (other : Option Reach) → IsWorse found reach → IsAtMost other reach → (other ≡ Some reach → ⊥) → IsWorse (or_better found vertex other) reach
or_better-worse found vertex reach None worse most differs = worse
or_better-worse None vertex reach (Some other) worse most differs = by (is_better reach other) refl
  where
    by : (test : Bool) → is_better reach other ≡ test → is_better reach other ≡ true
    by true is = is
    by false is = absurd (differs (ap Some (reach-tied other reach most (no_better-test reach other is))))
or_better-worse (Some found) vertex reach (Some other) worse most differs = by (is_better other found.reach)
  where
    worse_too : (test : Bool) → is_better reach other ≡ test → is_better reach other ≡ true
    worse_too true is = is
    worse_too false is = absurd (differs (ap Some (reach-tied other reach most (no_better-test reach other is))))

    by : (test : Bool) → IsWorse (cond test (Some (at_vertex vertex other)) (Some found)) reach
    by true = worse_too (is_better reach other) refl
    by false = worse

past : (v start : ℕ) → start ≤ v → (v ≡ start → ⊥) → start + 1 ≤ v
past v start from other = ⊎_elim {C = start + 1 ≤ v} (λ same. absurd (other same)) (λ differs. omega (arith, differs)) (cases_eq v start)

decided : (o : Option Reach) (reach : Reach) → IsAtMost o reach → (o ≡ Some reach) ⊎ (o ≡ Some reach → ⊥)
decided None reach most = inr (λ is. absurd (cc))
decided (Some other) reach most = by (is_better reach other) refl
  where
    by : (test : Bool) → is_better reach other ≡ test → (Some other ≡ Some reach) ⊎ (Some other ≡ Some reach → ⊥)
    by true is =
        inr
        (λ same.
        let one : other ≡ reach = cc in
        both_ways (is_better reach reach) (test-no_better reach reach (no_better-same reach)) (subst (λ (r : Reach). is_better reach r ≡ true) one is))
    by false is = inl (ap Some (reach-tied other reach most (no_better-test reach other is)))

-- the first vertex that passes a test and has a reach
record IsFirst (best : ℕ → Option Reach) (test : ℕ → Bool) (reach : Reach) (found : Option Reached) (start : ℕ) : Type 0 where
  vertex : ℕ
  is : found ≡ Some (at_vertex vertex reach)
  passes : test vertex ≡ true
  has : best vertex ≡ Some reach
  least : (v : ℕ) → start ≤ v → test v ≡ true → best v ≡ Some reach → vertex ≤ v

first_best-is : (best : ℕ → Option Reach) (test : ℕ → Bool) (reach : Reach) → ((v : ℕ) → test v ≡ true → IsAtMost (best v) reach) → (start count : ℕ) (found : Option Reached) → IsWorse found reach → (v : ℕ) → start ≤ v → v < start + count → test v ≡ true → best v ≡ Some reach → IsFirst best test reach (first_best best found (filter test (range_with_len start count))) start
first_best-is best test reach most start zero found worse v from within passes has = absurd (omega arith)
first_best-is best test reach most start (suc count) found worse v from within passes has =
    by (test start) refl (first_best-is best test reach most (start + 1) count)
  where
    wider : (o : Option Reached) → (test start ≡ true → best start ≡ Some reach → ⊥) → IsFirst best test reach o (start + 1) → IsFirst best test reach o start
    wider o not_here first = record {
      vertex = first.vertex;
      is = first.is;
      passes = first.passes;
      has = first.has;
      least = λ w after does brings.
          ⊎_elim {C = first.vertex ≤ w} (λ same. absurd (not_here (subst (λ x. test x ≡ true) same does) (subst (λ x. best x ≡ Some reach) same brings)))
          (λ other. first.least w (let h : start + 1 ≤ w = past w start after other in h) does brings)
          (cases_eq w start);
    }

    by : (own : Bool) → test start ≡ own →
        ((o : Option Reached) → IsWorse o reach → (w : ℕ) → start + 1 ≤ w → w < start + 1 + count → test w ≡ true → best w ≡ Some reach → IsFirst best test reach (first_best best o (filter test (range_with_len (start + 1) count))) (start + 1)) →
        IsFirst best test reach (first_best best found (cond own (start ∷ (filter test (range_with_len (start + 1) count))) (filter test (range_with_len (start + 1) count)))) start
    by false is next =
        let not_here : test start ≡ true → best start ≡ Some reach → ⊥ = λ does brings. absurd (both_ways (test start) is does) in
        let after = past v start from (λ same. not_here (subst (λ x. test x ≡ true) same passes) (subst (λ x. best x ≡ Some reach) same has)) in
        wider (first_best best found (filter test (range_with_len (start + 1) count))) not_here (next found worse v after (omega arith) passes has)
    by true is next =
        ⊎_elim {C = IsFirst best test reach (first_best best (or_better found start (best start)) (filter test (range_with_len (start + 1) count))) start}
        (λ here. record {
          vertex = start;
          is =
              ap (λ (o : Option Reached). first_best best o (filter test (range_with_len (start + 1) count))) (ap (or_better found start) here ∙ or_better-takes found start reach worse)
              ∙ first_best-stays best test start reach most (start + 1) count;
          passes = is;
          has = here;
          least = λ w after does brings. after;
        })
        (λ differs.
        let after = past v start from (λ same. differs (subst (λ x. best x ≡ Some reach) same has)) in
        wider (first_best best (or_better found start (best start)) (filter test (range_with_len (start + 1) count))) (λ does brings. differs brings)
        (next (or_better found start (best start)) (or_better-worse found start reach (best start) worse (most start is) differs) v after (omega arith) passes has))
        (decided (best start) reach (most start is))

-- ---- The receiver
module _ (net : Net) (flow : Flow) (far : ℕ → ℤ) (hops : ℕ → ℕ) (from : ℕ) (labels : AreLabelsFor net flow far hops from) (low : All (IsLow (vertex_count net)) (ways_of net flow)) where
  -- At a mirror that wants, the best is at most the sender's label,
  mirror-same : (mirror : ℕ) (reach : Reach) → is_wanting net flow mirror ≡ true → both reach (label far hops mirror) ≡ reach
  mirror-same mirror reach wants =
      ap (both reach) (labels.nothing mirror wants)
      ∙ reach-same (both reach (record { length = pos 0; hops = 0 })) reach (omega (arith, ints)) (omega arith)

  mirror-at_most : (mirror : ℕ) → is_wanting net flow mirror ≡ true → IsAtMost (best_to net flow from mirror) (label far hops from)
  mirror-at_most mirror wants = by (best_to net flow from mirror) refl
    where
      by : (found : Option Reach) → best_to net flow from mirror ≡ found → IsAtMost found (label far hops from)
      by None is = tt
      by (Some reach) is =
          subst (λ (r : Reach). IsNoBetter r (label far hops from)) (mirror-same mirror reach wants)
          (best_to-fits net flow far hops from labels low mirror reach is)

  -- and it is the sender's label exactly where tight arcs reach the mirror by as many steps as the label has.
  mirror-in_layer : (mirror : ℕ) → is_wanting net flow mirror ≡ true → best_to net flow from mirror ≡ Some (label far hops from) → IsInLayer far hops (ways_of net flow) from (hops from) mirror
  mirror-in_layer mirror wants is =
      in_layer-from_best net flow far hops from labels low mirror (label far hops from) is (mirror-same mirror (label far hops from) wants)

  mirror-best : (mirror : ℕ) → is_wanting net flow mirror ≡ true → IsInLayer far hops (ways_of net flow) from (hops from) mirror → best_to net flow from mirror ≡ Some (label far hops from)
  mirror-best mirror wants layer =
      let nothing = ap (λ (reach : Reach). reach.length) (labels.nothing mirror wants) in
      best_to-in_layer net flow far hops from labels low (hops from) mirror (wanting-low net flow mirror wants) layer
      ∙ ap Some (reach-same (layer_reach far from (hops from) mirror) (label far hops from) (omega (arith, ints, nothing)) refl)

  -- The receiver is the least mirror that wants of those that tight arcs reach by as many steps as the sender's label has; and there
  -- is one, since a tight walk leads from each vertex to a mirror that wants.
  pub receiver-is : (mirror : ℕ) × (receiver net flow from ≡ Some (record { vertex = mirror; reach = label far hops from })) × IsLeastServed net flow far hops from mirror
  receiver-is =
      let served = labels.served in
      let nothing = ap (λ (reach : Reach). reach.hops) (labels.nothing served.mirror served.wants) in
      let long = tight_walk-nearer far hops (ways_of net flow) from served.mirror served.walk served.tight in
      let layer : IsInLayer far hops (ways_of net flow) from (hops from) served.mirror = record { walk = served.walk; tight = served.tight; long = omega (arith, nothing, long) } in
      let first = first_best-is (best_to net flow from) (is_wanting net flow) (label far hops from) mirror-at_most 0 (vertex_count net) None tt served.mirror (omega arith) (omega (arith, wanting-low net flow served.mirror served.wants)) served.wants (mirror-best served.mirror served.wants layer) in (
        first.vertex,
        first.is,
        record {
          wants = first.passes;
          layer = mirror-in_layer first.vertex first.passes first.has;
          least = λ other wants reached. first.least other (omega arith) wants (mirror-best other wants reached);
        },
      )
