-- The path is read off tight arcs, backwards. What may come before a vertex on a longest walk with the fewest arcs is just what
-- has a tight arc to it from the layer before, and the rule takes the least. So the path is a walk of tight arcs.
use Rattle.std.proofs.Common.{◌≡◌, ◌<◌, ◌==◌, ◌∙◌, ◌++◌, ℕ, zero, suc, ℤ, true, not, List, [], ◌∷◌, length, All, Contains, Option, Some, None, refl, ap, sym, subst, arith, ⊎_elim}
use Rattle.std.proofs.lemmas.Bool.{and_parts, and_from, eqb-true, eq-eqb, not-true, not_from_false}
use Rattle.std.proofs.lemmas.Int.{ints}
use Rattle.std.proofs.lemmas.List.{length_push}
use Rattle.std.proofs.lemmas.List.Elements.{All-nil, All-cons, All-head, All-contains}
use Rattle.flow_net.specs.declared.net.Net.{Net}
use Rattle.flow_net.specs.declared.net.Flow.{Flow}
use Rattle.stage_flow.specs.Residual.{Way, ways_of, vertex_count}
use Rattle.stage_flow.specs.Longest.{Reach, is_better, by_way}
use Rattle.stage_flow.specs.Rounds.{best_to, is_reach, is_last, least_last, last_of, last_way, path_to, path_from, receiver, Reached}
use Rattle.stage_flow.specs.LawsOfWalks.{led_by, label, IsTight, AreLabelsFor, IsTightWalk, IsInLayer, IsLeastServed, IsLeastLast}
use Rattle.stage_flow.proofs.Walks.{IsNoBetter, no_better-test, test-no_better, no_better-same, both, then_way, reach-same, reach-tied}
use Rattle.stage_flow.proofs.Best.{way-one}
use Rattle.stage_flow.proofs.Labels.{way-fits, tight_walk-tail, tight_walk-nearer, tight_walk-push, IsLow, wanting-low}
use Rattle.stage_flow.proofs.LeastWay.{IsNoLesser, test-no_lesser, HasLeast, least_last-each, least_last-one}
use Rattle.stage_flow.proofs.Receiver.{layer_reach, best_to-fits, best_to-in_layer, in_layer-from_best, receiver-is}

-- ---- What may be last
pub is_reach-is : (found : Option Reach) (reach : Reach) → is_reach found reach ≡ true → found ≡ Some reach
is_reach-is None reach test = absurd (cc)
is_reach-is (Some found) reach test =
    let parts = and_parts (not (is_better found reach)) (not (is_better reach found)) test in
    ap Some
    (reach-tied found reach (no_better-test found reach (not-true (is_better found reach) parts.0)) (no_better-test reach found (not-true (is_better reach found) parts.1)))

pub is_reach-same : (reach : Reach) → is_reach (Some reach) reach ≡ true
is_reach-same reach =
    let less = test-no_better reach reach (no_better-same reach) in
    and_from (not (is_better reach reach)) (not (is_better reach reach)) (not_from_false (is_better reach reach) less) (not_from_false (is_better reach reach) less)

-- The last arc of a tight walk.
record EndsBy (far : ℕ → ℤ) (hops : ℕ → ℕ) (ways : List Way) (from steps to : ℕ) : Type 0 where
  way : Way
  there : Contains ways way
  ends : way.head ≡ to
  tight : IsTight far hops way
  before : IsInLayer far hops ways from steps way.tail

ends_by : (far : ℕ → ℤ) (hops : ℕ → ℕ) (ways : List Way) (from to : ℕ) (way : Way) (walk : List Way) → IsTightWalk far hops ways from to (way ∷ walk) → EndsBy far hops ways from (length walk) to
ends_by far hops ways from to way [] tight =
    let (there, begins, here) = tight.goes in record {
      way = way;
      there = there;
      ends = here;
      tight = All-head (IsTight far hops) way [] tight.tight;
      before = record { walk = []; tight = record { goes = sym begins; tight = All-nil (IsTight far hops) }; long = refl };
    }
ends_by far hops ways from to way (next ∷ walk) tight =
    let (there, begins, goes) = tight.goes in
    let own = All-head (IsTight far hops) way (next ∷ walk) tight.tight in
    let rest = ends_by far hops ways way.head to next walk (tight_walk-tail far hops ways from to way (next ∷ walk) tight) in record {
      way = rest.way;
      there = rest.there;
      ends = rest.ends;
      tight = rest.tight;
      before = record {
        walk = way ∷ rest.before.walk;
        tight = record { goes = (there, begins, rest.before.tight.goes); tight = All-cons (IsTight far hops) way rest.before.walk own rest.before.tight.tight };
        long = (let h = rest.before.long in omega (arith, h));
      };
    }

layer-ends_by : (far : ℕ → ℤ) (hops : ℕ → ℕ) (ways : List Way) (from steps to : ℕ) → IsInLayer far hops ways from (suc steps) to → EndsBy far hops ways from steps to
layer-ends_by far hops ways from steps to layer = by layer.walk layer.tight layer.long
  where
    by : (walk : List Way) → IsTightWalk far hops ways from to walk → length walk ≡ suc steps → EndsBy far hops ways from steps to
    by [] tight long = absurd (omega arith)
    by (way ∷ walk) tight long =
        subst (λ n. EndsBy far hops ways from n to) (let h : length walk ≡ steps = omega arith in h) (ends_by far hops ways from to way walk tight)

pub layer-none : (far : ℕ → ℤ) (hops : ℕ → ℕ) (ways : List Way) (from to : ℕ) → IsInLayer far hops ways from 0 to → from ≡ to
layer-none far hops ways from to layer = by layer.walk layer.tight layer.long
  where
    by : (walk : List Way) → IsTightWalk far hops ways from to walk → length walk ≡ 0 → from ≡ to
    by [] tight long = tight.goes
    by (way ∷ walk) tight long = absurd (omega arith)

module _ (net : Net) (flow : Flow) (far : ℕ → ℤ) (hops : ℕ → ℕ) (from : ℕ) (labels : AreLabelsFor net flow far hops from) (low : All (IsLow (vertex_count net)) (ways_of net flow)) where
  -- the best walk to a vertex of a layer, and then its label, are the sender's label
  layer-whole : (steps vertex : ℕ) → IsInLayer far hops (ways_of net flow) from steps vertex → both (layer_reach far from steps vertex) (label far hops vertex) ≡ label far hops from
  layer-whole steps vertex layer =
      let long = layer.long in
      let nearer = tight_walk-nearer far hops (ways_of net flow) from vertex layer.walk layer.tight in
      reach-same (both (layer_reach far from steps vertex) (label far hops vertex)) (label far hops from) (omega (arith, ints)) (omega (arith, nearer, long))

  both-then : (before after : Reach) (way : Way) → both (then_way before way) after ≡ both before (led_by way after)
  both-then before after way = reach-same (both (then_way before way) after) (both before (led_by way after)) (omega (arith, ints)) (omega arith)

  no_better-front : (a b c : Reach) → IsNoBetter (both c a) (both c b) → IsNoBetter a b
  no_better-front a b c first = record {
    no_longer = omega (arith, ints, first.no_longer);
    no_fewer = λ same. let left : (both c a).length ≡ (both c b).length = omega (arith, ints) in omega (arith, first.no_fewer left);
  }

  -- What may be last is tight, from the layer before.
  pub last-is : (steps vertex : ℕ) (way : Way) → IsInLayer far hops (ways_of net flow) from (suc steps) vertex → Contains (ways_of net flow) way → is_last (best_to net flow from) (layer_reach far from (suc steps) vertex) vertex way ≡ true → (way.head ≡ vertex) × IsTight far hops way × IsInLayer far hops (ways_of net flow) from steps way.tail
  last-is steps vertex way layer there last =
      let reach = layer_reach far from (suc steps) vertex in
      let parts = and_parts (way.head == vertex) (is_reach (by_way way (best_to net flow from way.tail)) reach) last in
      let ends : way.head ≡ vertex = eqb-true way.head vertex parts.0 in
      let (before, is, then) = way-one way (best_to net flow from way.tail) reach (is_reach-is (by_way way (best_to net flow from way.tail)) reach parts.1) in
      let whole : both before (led_by way (label far hops way.head)) ≡ label far hops from =
      sym (both-then before (label far hops way.head) way)
      ∙ ap (λ (r : Reach). both r (label far hops way.head)) then
      ∙ ap (λ v. both reach (label far hops v)) ends
      ∙ layer-whole (suc steps) vertex layer in
      let most : IsNoBetter (both before (label far hops way.tail)) (both before (led_by way (label far hops way.head))) =
      subst (IsNoBetter (both before (label far hops way.tail))) (sym whole) (best_to-fits net flow far hops from labels low way.tail before is) in
      let own : IsTight far hops way =
      reach-tied (led_by way (label far hops way.head)) (label far hops way.tail) (way-fits far hops (ways_of net flow) labels.fits way there)
      (no_better-front (label far hops way.tail) (led_by way (label far hops way.head)) before most) in
      let rest = in_layer-from_best net flow far hops from labels low way.tail before is (ap (both before) (sym own) ∙ whole) in
      let many = ap (λ (r : Reach). r.hops) then in
      (ends, own, subst (λ n. IsInLayer far hops (ways_of net flow) from n way.tail) (let h : before.hops ≡ steps = omega (arith, many) in h) rest)

  -- What is tight, from the layer before, may be last.
  pub last-from : (steps vertex : ℕ) (way : Way) → Contains (ways_of net flow) way → way.head ≡ vertex → IsTight far hops way → IsInLayer far hops (ways_of net flow) from steps way.tail → is_last (best_to net flow from) (layer_reach far from (suc steps) vertex) vertex way ≡ true
  last-from steps vertex way there ends own before =
      let reach = layer_reach far from (suc steps) vertex in
      let within = All-contains (IsLow (vertex_count net)) (ways_of net flow) way low there in
      let is = best_to-in_layer net flow far hops from labels low steps way.tail within.0 before in
      let long = ap (λ (r : Reach). r.length) own in
      let end = ap far ends in
      let then : then_way (layer_reach far from steps way.tail) way ≡ reach =
      reach-same (then_way (layer_reach far from steps way.tail) way) reach (omega (arith, ints, long, end)) (omega arith) in
      and_from (way.head == vertex) (is_reach (by_way way (best_to net flow from way.tail)) reach) (eq-eqb way.head vertex ends)
      (ap (λ (o : Option Reach). is_reach (by_way way o) reach) is ∙ ap (λ (r : Reach). is_reach (Some r) reach) then ∙ is_reach-same reach)

  -- The last residual arc to a vertex of a layer is the least tight one from the layer before.
  pub last_way-is : (steps vertex : ℕ) → vertex < vertex_count net → IsInLayer far hops (ways_of net flow) from (suc steps) vertex → (way : Way) × (last_way (best_to net flow from) (ways_of net flow) vertex ≡ Some way) × IsLeastLast far hops (ways_of net flow) from steps vertex way
  last_way-is steps vertex within layer =
      let best = best_to net flow from in
      let ways = ways_of net flow in
      let reach = layer_reach far from (suc steps) vertex in
      let one = layer-ends_by far hops ways from steps vertex layer in
      let each = least_last-each best reach vertex None ways in
      let IsSeen : Way → Type 0 = λ other. is_last best reach vertex other ≡ true → HasLeast (least_last best reach vertex None ways) other in
      let has = All-contains IsSeen ways one.way each one.there (last-from steps vertex one.way one.there one.ends one.tight one.before) in
      let found = best_to-in_layer net flow far hops from labels low (suc steps) vertex within layer in
      let is : last_way best ways vertex ≡ Some has.way = ap (last_of best ways vertex) found ∙ has.is in
      let (there, last) = ⊎_elim {C = Contains ways has.way × (is_last best reach vertex has.way ≡ true)} (λ none. absurd (cc)) (λ h. h) (least_last-one best reach vertex None ways has.way has.is) in
      let (ends, own, before) = last-is steps vertex has.way layer there last in (
        has.way,
        is,
        record {
          there = there;
          ends = ends;
          tight = own;
          before = before;
          least = λ other inside comes close behind.
              let its = All-contains IsSeen ways other each inside (last-from steps vertex other inside comes close behind) in
              let shown : Some its.way ≡ Some has.way = sym its.is ∙ has.is in
              let same : its.way ≡ has.way = cc in
              test-no_lesser other has.way (subst (IsNoLesser other) same its.no_lesser);
        },
      )

  -- The path to a vertex ends by the last residual arc to it,
  pub path_to-next : (steps vertex : ℕ) (way : Way) → last_way (best_to net flow from) (ways_of net flow) vertex ≡ Some way → path_to (best_to net flow from) (ways_of net flow) (suc steps) vertex ≡ path_to (best_to net flow from) (ways_of net flow) steps way.tail ++ way ∷ []
  path_to-next steps vertex way is =
      ap
      (λ (o : Option Way). elim o [ None ↦ [] | Some last ↦ path_to (best_to net flow from) (ways_of net flow) steps last.tail ++ last ∷ [] ]) is

  -- and to a vertex of a layer it is a walk of tight arcs, as many as there are steps.
  pub path_to-is_tight : (steps vertex : ℕ) → vertex < vertex_count net → IsInLayer far hops (ways_of net flow) from steps vertex → IsTightWalk far hops (ways_of net flow) from vertex (path_to (best_to net flow from) (ways_of net flow) steps vertex) × (length (path_to (best_to net flow from) (ways_of net flow) steps vertex) ≡ steps)
  path_to-is_tight zero vertex within layer = (
    record { goes = layer-none far hops (ways_of net flow) from vertex layer; tight = All-nil (IsTight far hops) },
    refl,
  )
  path_to-is_tight (suc steps) vertex within layer =
      let best = best_to net flow from in
      let ways = ways_of net flow in
      let (way, is, last) = last_way-is steps vertex within layer in
      let ends = All-contains (IsLow (vertex_count net)) ways way low last.there in
      let (tight, long) = path_to-is_tight steps way.tail ends.0 last.before in
      let whole = tight_walk-push far hops ways from way.tail (path_to best ways steps way.tail) way tight last.there refl last.tight in
      let IsPath : List Way → Type 0 = λ path. IsTightWalk far hops ways from vertex path × (length path ≡ suc steps) in
      subst IsPath (sym (path_to-next steps vertex way is)) (
        subst (λ v. IsTightWalk far hops ways from v (path_to best ways steps way.tail ++ way ∷ [])) last.ends whole,
        omega (arith, length_push (path_to best ways steps way.tail) way, long),
      )

  -- The path of a round is a walk of tight arcs from the sender to the receiver.
  pub path_from-is_tight : (mirror : ℕ) × IsLeastServed net flow far hops from mirror × IsTightWalk far hops (ways_of net flow) from mirror (path_from net flow from (receiver net flow from))
  path_from-is_tight =
      let (mirror, is, served) = receiver-is net flow far hops from labels low in
      let end = wanting-low net flow mirror served.wants in
      let (tight, long) = path_to-is_tight (hops from) mirror end served.layer in
      (mirror, served, subst (λ (o : Option Reached). IsTightWalk far hops (ways_of net flow) from mirror (path_from net flow from o)) (sym is) tight)
