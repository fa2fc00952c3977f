-- Labels from the source exist where potentials fit each residual arc: how far the best walk from the source to each vertex goes. A walk
-- from the source comes to each vertex, and no walk at all is better than the best with fewer arcs than there are vertices. So a best
-- walk that goes on by an arc is no better than the best to the arc's head; and the last arc of a best walk brings there just what is
-- best to the arc's tail.
use Rattle.std.proofs.Common.{◌≡◌, ◌≢◌, ◌<◌, ◌-◌, ◌∙◌, ◌++◌, ℕ, ℤ, suc, pos, ◌+ℤ◌, ◌≤ℤ◌, true, List, [], ◌∷◌, length, All, Any, Contains, Option, Some, None, is_some, refl, ap, sym, subst, arith}
use Rattle.std.proofs.lemmas.Int.{ints}
use Rattle.std.proofs.lemmas.List.Elements.{All-weaker, All-contains, All-contains_itself}
use Rattle.gate_net.specs.declared.net.GateNet.{GateNet}
use Rattle.gate_net.specs.Net.{IsGateNet, EachGateIsUsed}
use Rattle.flow_net.specs.declared.net.Net.{Net}
use Rattle.flow_net.specs.declared.net.Flow.{Flow}
use Rattle.flow_net.specs.Uses.{uses_of}
use Rattle.flow_net.specs.Network.{network_of}
use Rattle.stage_flow.specs.Residual.{Way, ways_of, vertex_count}
use Rattle.stage_flow.specs.Longest.{Reach}
use Rattle.stage_flow.specs.Rounds.{best_to}
use Rattle.stage_flow.specs.LawsOfWalks.{IsWalk, reach_of, label}
use Rattle.stage_flow.specs.LawsOfEpochs.{Fits, FitsFlow, IsLastArc, AreLabelsFromSource, LeadsNoFurther, SourceLabelsExist}
use Rattle.stage_flow.proofs.Walks.{IsNoBetter, test-no_better, no_better-way, then_way, reach-same, reach-tied, walk-push, reach_of-push, hops-is_length}
use Rattle.stage_flow.proofs.Best.{the_best_is_attained}
use Rattle.stage_flow.proofs.Labels.{IsLow}
use Rattle.stage_flow.proofs.NetworkEnds.{network-ends}
use Rattle.stage_flow.proofs.Round.{ways-low}
use Rattle.stage_flow.proofs.ReachedByWalks.{none-leaves_reached, reaches-from}
use Rattle.stage_flow.proofs.Supply.{all-reached}
use Rattle.stage_flow.proofs.ShortWalks.{best_to-of_all}

-- ---- The best of all walks from the source
-- A reach is the best of the walks from the source to a vertex: none is better, and one with fewer arcs than there are vertices is as good.
record IsBestFromSource (net : Net) (flow : Flow) (best : Reach) (vertex : ℕ) : Type 0 where
  none_better : (walk : List Way) → IsWalk (ways_of net flow) 0 vertex walk → IsNoBetter (reach_of walk) best
  walk : List Way
  goes : IsWalk (ways_of net flow) 0 vertex walk
  few : length walk < vertex_count net
  as_good : reach_of walk ≡ best

some-found : (best : Option Reach) → is_some best ≡ true → (reach : Reach) × (best ≡ Some reach)
some-found None none = absurd (cc)
some-found (Some reach) some = (reach, refl)

-- how far the best walk from the source to a vertex goes, and nothing where there is none
abbrev pub source_reach : Net → Flow → ℕ → Reach
source_reach net flow vertex = elim (best_to net flow 0 vertex) [ None ↦ reach_of [] | Some reach ↦ reach ]

-- A walk comes to each vertex.
source-found : (net : GateNet) (phases : List ℕ) (flow : Flow) → IsGateNet net → EachGateIsUsed net → uses_of net ≢ [] → All (IsLow (vertex_count (network_of net phases))) (ways_of (network_of net phases) flow) → (vertex : ℕ) → vertex < vertex_count (network_of net phases)
    → (reach : Reach) × (best_to (network_of net phases) flow 0 vertex ≡ Some reach)
source-found net phases flow formed each some low vertex within =
    let n = network_of net phases in
    let ways = ways_of n flow in
    let heads = All-weaker (IsLow (vertex_count n)) (λ (way : Way). way.head < vertex_count n) (λ way h. h.1) ways low in
    let met = λ (v : ℕ). is_some (best_to n flow 0 v) in
    some-found (best_to n flow 0 vertex)
    (all-reached net phases flow met formed each some (reaches-from ways 0 (vertex_count n) heads (omega arith) (vertex_count n - 1)) (none-leaves_reached ways 0 (vertex_count n) heads (omega arith)) vertex within)

source_reach-best : (net : Net) (flow : Flow) (potential : ℕ → ℤ) → All (IsLow (vertex_count net)) (ways_of net flow) → FitsFlow net flow potential → (vertex : ℕ) → vertex < vertex_count net → (reach : Reach) → best_to net flow 0 vertex ≡ Some reach
    → IsBestFromSource net flow (source_reach net flow vertex) vertex
source_reach-best net flow potential low fits vertex within reach is =
    let (walk, goes, few, far) = the_best_is_attained (ways_of net flow) 0 (vertex_count net - 1) vertex reach is in
    let own : source_reach net flow vertex ≡ reach = ap (λ (o : Option Reach). let r : Reach = elim o [ None ↦ reach_of [] | Some one ↦ one ] in r) is in
    subst (λ (r : Reach). IsBestFromSource net flow r vertex) (sym own) (record {
      none_better = λ other goes'.
          let (top, top_is, less) = best_to-of_all net flow potential fits low 0 vertex other within goes' in
          let same : top ≡ reach = (let e = sym top_is ∙ is in cc) in
          subst (IsNoBetter (reach_of other)) same less;
      walk = walk;
      goes = goes;
      few = omega (arith, few, within);
      as_good = far;
    })

-- ---- A walk's last arc
record EndsByAnArc (ways : List Way) (from to : ℕ) (reach : Reach) : Type 0 where
  before : List Way
  last : Way
  goes : IsWalk ways from last.tail before
  there : Contains ways last
  ends : last.head ≡ to
  whole : reach ≡ then_way (reach_of before) last

ends-by_an_arc : (ways : List Way) (from to : ℕ) (way : Way) (walk : List Way) → IsWalk ways from to (way ∷ walk) → EndsByAnArc ways from to (reach_of (way ∷ walk))
ends-by_an_arc ways from to way [] (there, begins, ends) = record {
  before = [];
  last = way;
  goes = sym begins;
  there = there;
  ends = ends;
  whole = reach_of-push [] way;
}
ends-by_an_arc ways from to way (next ∷ walk) (there, begins, goes) =
    let rest = ends-by_an_arc ways way.head to next walk goes in
    let long = ap (λ (reach : Reach). reach.length) rest.whole in
    let many = ap (λ (reach : Reach). reach.hops) rest.whole in record {
      before = way ∷ rest.before;
      last = rest.last;
      goes = (there, begins, rest.goes);
      there = rest.there;
      ends = rest.ends;
      whole = reach-same (reach_of (way ∷ next ∷ walk)) (then_way (reach_of (way ∷ rest.before)) rest.last) (omega (arith, ints, long)) (omega (arith, many));
    }

-- ---- Best reaches are labels
module _ (net : Net) (flow : Flow) (far : ℕ → ℤ) (hops : ℕ → ℕ) (potential : ℕ → ℤ) (fits : FitsFlow net flow potential) (low : All (IsLow (vertex_count net)) (ways_of net flow))
    (best : (vertex : ℕ) → vertex < vertex_count net → IsBestFromSource net flow (label far hops vertex) vertex) where
  -- The best walk to an arc's tail, and then the arc, is no better than the best to its head.
  leads-no_better : (way : Way) → Contains (ways_of net flow) way → IsNoBetter (then_way (label far hops way.tail) way) (label far hops way.head)
  leads-no_better way there =
      let (tail, head) = All-contains (IsLow (vertex_count net)) (ways_of net flow) way low there in
      let before = best way.tail tail in
      let less = (best way.head head).none_better (before.walk ++ way ∷ []) (walk-push (ways_of net flow) 0 way.tail before.walk way before.goes there refl) in
      subst (λ (r : Reach). IsNoBetter r (label far hops way.head)) (reach_of-push before.walk way ∙ ap (λ (r : Reach). then_way r way) before.as_good) less

  leads-no_further : (way : Way) → Contains (ways_of net flow) way → LeadsNoFurther far hops way
  leads-no_further way there =
      let on : Reach = record { length = far way.tail +ℤ way.length; hops = suc (hops way.tail) } in
      let same : then_way (label far hops way.tail) way ≡ on = reach-same (then_way (label far hops way.tail) way) on refl (omega arith) in
      test-no_better on (label far hops way.head) (subst (λ (r : Reach). IsNoBetter r (label far hops way.head)) same (leads-no_better way there))

  far-fits : (way : Way) → Contains (ways_of net flow) way → Fits far way
  far-fits way there = (leads-no_better way there).no_longer

  -- No walk from the source to itself is better than none, since potentials fit.
  source-walks : (walk : List Way) (to : ℕ) (from : ℕ) → IsWalk (ways_of net flow) from to walk → (potential from +ℤ (reach_of walk).length) ≤ℤ potential to
  source-walks [] to from here = let same = ap potential here in omega (arith, ints, same)
  source-walks (way ∷ walk) to from (there, begins, goes) =
      let own : Fits potential way = All-contains (Fits potential) (ways_of net flow) way fits there in
      let rest = source-walks walk to way.head goes in
      let same = ap potential begins in
      omega (arith, ints, own, rest, same)

  source-nothing : label far hops 0 ≡ reach_of []
  source-nothing =
      let own = best 0 (omega arith) in
      let more = own.none_better [] refl in
      let round = source-walks own.walk 0 0 own.goes in
      let long = ap (λ (r : Reach). r.length) own.as_good in
      let none : pos 0 ≡ far 0 = omega (arith, ints, more.no_longer, round, long) in
      let fewest = more.no_fewer none in
      reach-same (label far hops 0) (reach_of []) (sym none) (omega (arith, fewest))

  -- The last arc of the best walk to a vertex.
  comes-last : (vertex : ℕ) → suc vertex < vertex_count net → Any (λ way. IsLastArc far hops (suc vertex) way × (way.tail < vertex_count net)) (ways_of net flow)
  comes-last vertex within = by own.walk own.goes own.as_good
    where
      own : IsBestFromSource net flow (label far hops (suc vertex)) (suc vertex)
      own = best (suc vertex) within

      by : (walk : List Way) → IsWalk (ways_of net flow) 0 (suc vertex) walk → reach_of walk ≡ label far hops (suc vertex) → Any (λ way. IsLastArc far hops (suc vertex) way × (way.tail < vertex_count net)) (ways_of net flow)
      by [] here far_is = let zero_is : 0 ≡ suc vertex = here in absurd (omega (arith, zero_is))
      by (first ∷ walk) goes far_is =
          let end = ends-by_an_arc (ways_of net flow) 0 (suc vertex) first walk goes in
          let way = end.last in
          let (tail, head) = All-contains (IsLow (vertex_count net)) (ways_of net flow) way low end.there in
          let before = (best way.tail tail).none_better end.before end.goes in
          let whole : then_way (reach_of end.before) way ≡ label far hops way.head = sym end.whole ∙ far_is ∙ ap (label far hops) (sym end.ends) in
          let back : IsNoBetter (label far hops way.head) (then_way (label far hops way.tail) way) =
          subst (λ (r : Reach). IsNoBetter r (then_way (label far hops way.tail) way)) whole (no_better-way (reach_of end.before) (label far hops way.tail) way before) in
          let same : label far hops (suc vertex) ≡ then_way (label far hops way.tail) way =
          ap (label far hops) (sym end.ends) ∙ reach-tied (label far hops way.head) (then_way (label far hops way.tail) way) back (leads-no_better way end.there) in
          let (k, inside, is) = end.there in
          (k, way, inside, is, (record { ends = end.ends; reaches = ap (λ (r : Reach). r.length) same; counts = ap (λ (r : Reach). r.hops) same }, tail))

  few-hops : (vertex : ℕ) → vertex < vertex_count net → hops vertex < vertex_count net
  few-hops vertex within =
      let own = best vertex within in
      let many = ap (λ (r : Reach). r.hops) own.as_good in
      omega (arith, own.few, many, hops-is_length own.walk)

  labels-from_best : AreLabelsFromSource net flow far hops
  labels-from_best = record {
    origin = ap (λ (r : Reach). r.length) source-nothing;
    starts = ap (λ (r : Reach). r.hops) source-nothing;
    fits = All-weaker (Contains (ways_of net flow)) (Fits far) far-fits (ways_of net flow) (All-contains_itself (ways_of net flow));
    few = few-hops;
    comes = comes-last;
  }

  none-leads_further : All (LeadsNoFurther far hops) (ways_of net flow)
  none-leads_further = All-weaker (Contains (ways_of net flow)) (LeadsNoFurther far hops) leads-no_further (ways_of net flow) (All-contains_itself (ways_of net flow))

-- the lengths and the numbers of arcs of these reaches
abbrev pub source_far : Net → Flow → ℕ → ℤ
source_far net flow vertex = (source_reach net flow vertex).length

abbrev pub source_hops : Net → Flow → ℕ → ℕ
source_hops net flow vertex = (source_reach net flow vertex).hops

pub source_labels-exist : SourceLabelsExist
source_labels-exist net phases flow potential formed each some fits =
    let n = network_of net phases in
    let far = source_far n flow in
    let hops = source_hops n flow in
    let low = ways-low n flow (network-ends net phases formed) in
    let best = λ (vertex : ℕ) (within : vertex < vertex_count n).
    let found = source-found net phases flow formed each some low vertex within in
    source_reach-best n flow potential low fits vertex within found.0 found.1 in (
      far,
      hops,
      labels-from_best n flow far hops potential fits low best,
      none-leads_further n flow far hops potential fits low best,
    )
