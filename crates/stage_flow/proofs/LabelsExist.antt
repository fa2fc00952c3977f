-- Labels exist, while a mirror wants, where potentials fit each residual arc: how far the receiver of each vertex is. That is the best of
-- all walks from the vertex to mirrors that want, and best reaches are labels.
use Rattle.std.proofs.Common.{◌≡◌, ◌<◌, ◌-◌, ◌∙◌, ℕ, ℤ, Bool, true, false, cond, List, [], ◌∷◌, All, Any, Contains, Option, Some, None, refl, ap, sym, subst, arith}
use Rattle.std.proofs.lemmas.Bool.{both_ways}
use Rattle.std.proofs.lemmas.List.Elements.{All-nil, All-cons, All-weaker, All-contains, All-contains_itself}
use Rattle.gate_net.specs.declared.net.GateNet.{GateNet}
use Rattle.gate_net.specs.Net.{IsGateNet, EachGateIsUsed}
use Rattle.flow_net.specs.declared.net.Net.{Net}
use Rattle.flow_net.specs.declared.net.Flow.{Flow}
use Rattle.flow_net.specs.Network.{network_of}
use Rattle.stage_flow.specs.Residual.{Way, ways_of, vertex_count}
use Rattle.stage_flow.specs.Longest.{Reach, is_better}
use Rattle.stage_flow.specs.Rounds.{Reached, or_better, first_best, best_to, is_wanting, wanting, receiver}
use Rattle.stage_flow.specs.LawsOfWalks.{IsWalk, led_by, reach_of, label, IsFitting, IsTight, AreLabels, IsBestLabel, FitsWay}
use Rattle.stage_flow.specs.LawsOfSending.{IsPartFlow, SomeMirrorWants}
use Rattle.stage_flow.specs.LawsOfRounds.{LabelsExist}
use Rattle.stage_flow.proofs.Walks.{IsNoBetter, no_better-test, test-no_better, better-no_better, no_better-same, no_better-through, reach-tied}
use Rattle.stage_flow.proofs.Best.{the_best_is_attained}
use Rattle.stage_flow.proofs.Labels.{no_better-led, IsLow, wanting-low}
use Rattle.stage_flow.proofs.NetworkEnds.{IsPinLow, network-ends, network-pins_low}
use Rattle.stage_flow.proofs.Round.{ways-low}
use Rattle.stage_flow.proofs.Wanting.{no_way_leaves_wanting}
use Rattle.stage_flow.proofs.Linked.{IsLinked, networks-linked}
use Rattle.stage_flow.proofs.ReceiverFound.{at_passing, some-of, receiver-found, receiver-wants}
use Rattle.stage_flow.proofs.ShortWalks.{best_to-of_all}

-- ---- The receiver is the best of all
abbrev IsUpTo : Reach → Option Reach → Type 0
IsUpTo most found = (reach : Reach) → found ≡ Some reach → IsNoBetter reach most

abbrev reach-found : Option Reached → Option Reach
reach-found None = None
reach-found (Some found) = Some found.reach

-- Of two that may be there neither is better than what was taken.
taken : (most : Reach) (found : Option Reached) (vertex : ℕ) (reach : Option Reach) → IsUpTo most (reach-found (or_better found vertex reach)) → IsUpTo most (reach-found found) × IsUpTo most reach
taken most found vertex None up = (up, λ reach is. absurd (cc))
taken most None vertex (Some own) up = ((λ reach is. absurd (cc)), up)
taken most (Some old) vertex (Some own) up = by (is_better own old.reach) refl up
  where
    both : IsNoBetter old.reach most → IsNoBetter own most → IsUpTo most (Some old.reach) × IsUpTo most (Some own)
    both first second = (
      λ reach is. (let same : old.reach ≡ reach = cc in subst (λ (r : Reach). IsNoBetter r most) same first),
      λ reach is. (let same : own ≡ reach = cc in subst (λ (r : Reach). IsNoBetter r most) same second),
    )

    by : (test : Bool) → is_better own old.reach ≡ test → IsUpTo most (reach-found (cond test (Some (record { vertex = vertex; reach = own })) (Some old))) → IsUpTo most (Some old.reach) × IsUpTo most (Some own)
    by true better up = let first = up own refl in both (no_better-through old.reach own most (better-no_better own old.reach better) first) first
    by false worse up = let first = up old.reach refl in both first (no_better-through own old.reach most (no_better-test own old.reach worse) first)

first_best-up_to : (most : Reach) (best : ℕ → Option Reach) (found : Option Reached) (vertices : List ℕ) → IsUpTo most (reach-found (first_best best found vertices)) → IsUpTo most (reach-found found) × All (λ v. IsUpTo most (best v)) vertices
first_best-up_to most best found [] up = (up, All-nil (λ v. IsUpTo most (best v)))
first_best-up_to most best found (vertex ∷ vertices) up =
    let rest = first_best-up_to most best (or_better found vertex (best vertex)) vertices up in
    let here = taken most found vertex (best vertex) rest.0 in
    (here.0, All-cons (λ v. IsUpTo most (best v)) vertex vertices here.1 rest.1)

-- No best to a mirror that wants is better than the receiver's.
receiver-most : (net : Net) (flow : Flow) (from : ℕ) (found : Reached) → receiver net flow from ≡ Some found → (mirror : ℕ) → is_wanting net flow mirror ≡ true → IsUpTo found.reach (best_to net flow from mirror)
receiver-most net flow from found is mirror wants =
    let up : IsUpTo found.reach (reach-found (receiver net flow from)) =
    (λ reach same. let one : found.reach ≡ reach = (let e = ap reach-found is in cc) in subst (λ (r : Reach). IsNoBetter r found.reach) one (no_better-same found.reach)) in
    let all = (first_best-up_to found.reach (best_to net flow from) None (wanting net flow) up).1 in
    at_passing (λ v. IsUpTo found.reach (best_to net flow from v)) (is_wanting net flow) 0 (vertex_count net) mirror all (omega arith) (omega (arith, wanting-low net flow mirror wants)) wants

-- how far the receiver of a vertex is, and nothing where there is none
abbrev pub receiver_reach : Net → Flow → ℕ → Reach
receiver_reach net flow vertex = elim (receiver net flow vertex) [ None ↦ reach_of [] | Some found ↦ found.reach ]

pub receiver_reach-best : (net : Net) (flow : Flow) (p : ℕ → ℤ) → IsLinked net → All (IsLow (vertex_count net)) (ways_of net flow) → All (FitsWay p) (ways_of net flow) → IsPartFlow net flow → SomeMirrorWants net flow → (vertex : ℕ) → vertex < vertex_count net → IsBestLabel net flow (receiver_reach net flow vertex) vertex
receiver_reach-best net flow p linked low fits part some vertex within =
    let (found, is) = some-of (receiver net flow vertex) (receiver-found net flow vertex linked part some within) in
    let (wants, best) = receiver-wants net flow vertex found is in
    let (walk, goes, few, far) = the_best_is_attained (ways_of net flow) vertex (vertex_count net - 1) found.vertex found.reach best in
    let own : receiver_reach net flow vertex ≡ found.reach = ap (λ (o : Option Reached). let r : Reach = elim o [ None ↦ reach_of [] | Some one ↦ one.reach ] in r) is in
    subst (λ (r : Reach). IsBestLabel net flow r vertex) (sym own) (record {
      none_better = λ mirror other wants' goes'.
          let (top, top_is, less) = best_to-of_all net flow p fits low vertex mirror other (wanting-low net flow mirror wants') goes' in
          test-no_better (reach_of other) found.reach (no_better-through (reach_of other) top found.reach less (receiver-most net flow vertex found is mirror wants' top top_is));
      mirror = found.vertex;
      wants = wants;
      walk = walk;
      goes = goes;
      few = omega (arith, few, within);
      as_good = far;
    })

-- ---- Best reaches are labels
module _ (net : Net) (flow : Flow) (far : ℕ → ℤ) (hops : ℕ → ℕ) (pins : All (IsPinLow net) net.pins) (low : All (IsLow (vertex_count net)) (ways_of net flow))
    (best : (vertex : ℕ) → vertex < vertex_count net → IsBestLabel net flow (label far hops vertex) vertex) where
  best-fits : (way : Way) → Contains (ways_of net flow) way → IsFitting far hops way
  best-fits way there =
      let (tail, head) = All-contains (IsLow (vertex_count net)) (ways_of net flow) way low there in
      let next = best way.head head in
      let less = (best way.tail tail).none_better next.mirror (way ∷ next.walk) next.wants (there, refl, next.goes) in
      subst (λ (r : Reach). is_better (led_by way r) (label far hops way.tail) ≡ false) next.as_good less

  best-nothing : (vertex : ℕ) → is_wanting net flow vertex ≡ true → label far hops vertex ≡ reach_of []
  best-nothing vertex wants = by own.walk own.goes own.as_good
    where
      own : IsBestLabel net flow (label far hops vertex) vertex
      own = best vertex (wanting-low net flow vertex wants)

      by : (walk : List Way) → IsWalk (ways_of net flow) vertex own.mirror walk → reach_of walk ≡ label far hops vertex → label far hops vertex ≡ reach_of []
      by [] goes far_is = sym far_is
      by (way ∷ walk) (there, begins, goes) far_is =
          absurd (All-contains (λ (w : Way). w.tail ≡ vertex → ⊥) (ways_of net flow) way (no_way_leaves_wanting net flow pins vertex wants) there begins)

  best-onward : (vertex : ℕ) → vertex < vertex_count net → is_wanting net flow vertex ≡ false → Any (λ way. (way.tail ≡ vertex) × IsTight far hops way) (ways_of net flow)
  best-onward vertex within not_wanting = by own.walk own.goes own.as_good
    where
      own : IsBestLabel net flow (label far hops vertex) vertex
      own = best vertex within

      by : (walk : List Way) → IsWalk (ways_of net flow) vertex own.mirror walk → reach_of walk ≡ label far hops vertex → Any (λ way. (way.tail ≡ vertex) × IsTight far hops way) (ways_of net flow)
      by [] here far_is = absurd (both_ways (is_wanting net flow vertex) not_wanting (subst (λ v. is_wanting net flow v ≡ true) (sym here) own.wants))
      by (way ∷ walk) (there, begins, goes) far_is =
          let (tail, head) = All-contains (IsLow (vertex_count net)) (ways_of net flow) way low there in
          let less = (best way.head head).none_better own.mirror walk own.wants goes in
          let led = no_better-led (reach_of walk) (label far hops way.head) way (no_better-test (reach_of walk) (label far hops way.head) less) in
          let whole : reach_of (way ∷ walk) ≡ label far hops way.tail = far_is ∙ ap (label far hops) (sym begins) in
          let back : IsNoBetter (label far hops way.tail) (led_by way (label far hops way.head)) = subst (λ (r : Reach). IsNoBetter r (led_by way (label far hops way.head))) whole led in
          let fit = no_better-test (led_by way (label far hops way.head)) (label far hops way.tail) (best-fits way there) in
          let tight : IsTight far hops way = reach-tied (led_by way (label far hops way.head)) (label far hops way.tail) fit back in
          let (k, inside, is) = there in
          (k, way, inside, is, (begins, tight))

  pub best-labels : AreLabels net flow far hops
  best-labels = record {
    fits = All-weaker (Contains (ways_of net flow)) (IsFitting far hops) best-fits (ways_of net flow) (All-contains_itself (ways_of net flow));
    nothing = best-nothing;
    onward = best-onward;
  }

-- the lengths and the numbers of arcs of these reaches
abbrev pub receiver_far : Net → Flow → ℕ → ℤ
receiver_far net flow vertex = (receiver_reach net flow vertex).length

abbrev pub receiver_hops : Net → Flow → ℕ → ℕ
receiver_hops net flow vertex = (receiver_reach net flow vertex).hops

pub receiver-labels : (net : GateNet) (phases : List ℕ) (flow : Flow) (p : ℕ → ℤ) → IsGateNet net → EachGateIsUsed net → IsPartFlow (network_of net phases) flow → SomeMirrorWants (network_of net phases) flow → All (FitsWay p) (ways_of (network_of net phases) flow)
    → AreLabels (network_of net phases) flow (receiver_far (network_of net phases) flow) (receiver_hops (network_of net phases) flow)
receiver-labels net phases flow p formed each part some fits =
    let whole = network_of net phases in
    let low = ways-low whole flow (network-ends net phases formed) in
    best-labels whole flow (receiver_far whole flow) (receiver_hops whole flow) (network-pins_low net phases formed) low
    (receiver_reach-best whole flow p (networks-linked net phases formed each) low fits part some)

pub labels-exist : LabelsExist
labels-exist net phases flow p formed each part some fits =
    let whole = network_of net phases in
    (receiver_far whole flow, receiver_hops whole flow, receiver-labels net phases flow p formed each part some fits)
