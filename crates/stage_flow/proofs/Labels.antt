-- Labels along walks. Add up round a walk what its arcs owe to the labels: a walk, and then its end's label, is no better than its
-- start's label, and as good exactly where each of its arcs is tight. A tight arc leads to a vertex with fewer arcs to go. So a
-- walk of tight arcs repeats no vertex, and it has fewer arcs than there are vertices.
use Rattle.std.proofs.Common.{◌≡◌, ◌<◌, ◌≤◌, ◌+◌, ◌&&◌, ◌∙◌, ◌++◌, ℕ, zero, suc, ℤ, eqb, nat_lt, nat_le, int_lt, Bool, true, false, List, [], ◌∷◌, length, All, Contains, refl, ap, sym, subst, arith, ⊎_elim}
use Rattle.std.specs.List.{IsDistinct, list_any}
use Rattle.std.proofs.lemmas.Bool.{eqb-true, ltb-true, ne_eqb, or_cases, and_parts}
use Rattle.std.proofs.lemmas.Int.{ints}
use Rattle.std.proofs.lemmas.List.Elements.{All-nil, All-cons, All-head, All-tail, All-weaker, All-contains, All-append, recursion_from_All}
use Rattle.std.proofs.lemmas.Map.Steps.{length-le_from_distinct_below}
use Rattle.flow_net.specs.declared.net.Net.{Net}
use Rattle.flow_net.specs.declared.net.Flow.{Flow}
use Rattle.flow_net.specs.Flows.{out_minus_in, wants as wanted}
use Rattle.stage_flow.specs.Residual.{Way, ways_of, vertex_count}
use Rattle.stage_flow.specs.Longest.{Reach}
use Rattle.stage_flow.specs.Rounds.{is_wanting}
use Rattle.stage_flow.specs.LawsOfWalks.{IsWalk, led_by, reach_of, label, IsFitting, IsTight, AreLabels, IsTightWalk, Serves, AreLabelsFor}
use Rattle.stage_flow.proofs.Walks.{IsNoBetter, no_better-test, no_better-same, no_better-through, both, reach-same, reach-tied, walk-push}

-- An arc that leads on makes nothing better.
pub no_better-led : (a b : Reach) (way : Way) → IsNoBetter a b → IsNoBetter (led_by way a) (led_by way b)
no_better-led a b way first = record {
  no_longer = omega (arith, ints, first.no_longer);
  no_fewer = λ same. let left : a.length ≡ b.length = omega (arith, ints) in omega (arith, first.no_fewer left);
}

led-same : (a b : Reach) (way : Way) → led_by way a ≡ led_by way b → a ≡ b
led-same a b way same =
    let long = ap (λ (reach : Reach). reach.length) same in
    let many = ap (λ (reach : Reach). reach.hops) same in
    reach-same a b (omega (arith, ints, long)) (omega (arith, many))

both-led : (way : Way) (a b : Reach) → both (led_by way a) b ≡ led_by way (both a b)
both-led way a b = reach-same (both (led_by way a) b) (led_by way (both a b)) (omega (arith, ints)) (omega arith)

both-nothing : (a : Reach) → both (reach_of []) a ≡ a
both-nothing a = reach-same (both (reach_of []) a) a (omega (arith, ints)) (omega arith)

module _ (far : ℕ → ℤ) (hops : ℕ → ℕ) (ways : List Way) (fits : All (IsFitting far hops) ways) where
  pub way-fits : (way : Way) → Contains ways way → IsNoBetter (led_by way (label far hops way.head)) (label far hops way.tail)
  way-fits way there =
      no_better-test (led_by way (label far hops way.head)) (label far hops way.tail) (All-contains (IsFitting far hops) ways way fits there)

  -- A walk, and then its end's label, is no better than its start's label.
  pub walk-fits : (from to : ℕ) (walk : List Way) → IsWalk ways from to walk → IsNoBetter (both (reach_of walk) (label far hops to)) (label far hops from)
  walk-fits from to [] here =
      subst (λ v. IsNoBetter (both (reach_of []) (label far hops v)) (label far hops from)) here
      (subst (λ (reach : Reach). IsNoBetter reach (label far hops from)) (sym (both-nothing (label far hops from))) (no_better-same (label far hops from)))
  walk-fits from to (way ∷ walk) (there, begins, goes) =
      let rest = walk-fits way.head to walk goes in
      let led = no_better-led (both (reach_of walk) (label far hops to)) (label far hops way.head) way rest in
      let all = no_better-through (led_by way (both (reach_of walk) (label far hops to))) (led_by way (label far hops way.head)) (label far hops way.tail) led (way-fits way there) in
      subst (λ v. IsNoBetter (both (reach_of (way ∷ walk)) (label far hops to)) (label far hops v)) begins
      (subst (λ (reach : Reach). IsNoBetter reach (label far hops way.tail)) (sym (both-led way (reach_of walk) (label far hops to))) all)

  -- Where it is as good, each of its arcs is tight.
  pub tight-from_same : (from to : ℕ) (walk : List Way) → IsWalk ways from to walk → both (reach_of walk) (label far hops to) ≡ label far hops from → All (IsTight far hops) walk
  tight-from_same from to [] here same = All-nil (IsTight far hops)
  tight-from_same from to (way ∷ walk) (there, begins, goes) same =
      let end = label far hops to in
      let whole : led_by way (both (reach_of walk) end) ≡ label far hops way.tail =
      sym (both-led way (reach_of walk) end) ∙ same ∙ ap (label far hops) (sym begins) in
      let rest = walk-fits way.head to walk goes in
      let led = no_better-led (both (reach_of walk) end) (label far hops way.head) way rest in
      let back : IsNoBetter (label far hops way.tail) (led_by way (label far hops way.head)) = subst (λ (reach : Reach). IsNoBetter reach (led_by way (label far hops way.head))) whole led in
      let own : IsTight far hops way = reach-tied (led_by way (label far hops way.head)) (label far hops way.tail) (way-fits way there) back in
      All-cons (IsTight far hops) way walk own
      (tight-from_same way.head to walk goes (led-same (both (reach_of walk) end) (label far hops way.head) way (whole ∙ sym own)))

-- Along tight arcs it is as good.
pub same-from_tight : (far : ℕ → ℤ) (hops : ℕ → ℕ) (ways : List Way) (from to : ℕ) (walk : List Way) → IsWalk ways from to walk → All (IsTight far hops) walk → both (reach_of walk) (label far hops to) ≡ label far hops from
same-from_tight far hops ways from to [] here tight = both-nothing (label far hops to) ∙ ap (label far hops) (sym here)
same-from_tight far hops ways from to (way ∷ walk) (there, begins, goes) tight =
    both-led way (reach_of walk) (label far hops to)
    ∙ ap (led_by way) (same-from_tight far hops ways way.head to walk goes (All-tail (IsTight far hops) way walk tight))
    ∙ All-head (IsTight far hops) way walk tight
    ∙ ap (label far hops) begins

-- Each tight arc leads one arc nearer, so a tight walk has just as many arcs as come off the label.
pub tight-nearer : (far : ℕ → ℤ) (hops : ℕ → ℕ) (way : Way) → IsTight far hops way → hops way.tail ≡ hops way.head + 1
tight-nearer far hops way tight = sym (ap (λ (reach : Reach). reach.hops) tight)

pub tight_walk-tail : (far : ℕ → ℤ) (hops : ℕ → ℕ) (ways : List Way) (from to : ℕ) (way : Way) (walk : List Way) → IsTightWalk far hops ways from to (way ∷ walk) → IsTightWalk far hops ways way.head to walk
tight_walk-tail far hops ways from to way walk tight =
    let (there, begins, goes) = tight.goes in
    record { goes = goes; tight = All-tail (IsTight far hops) way walk tight.tight }

pub tight_walk-nearer : (far : ℕ → ℤ) (hops : ℕ → ℕ) (ways : List Way) (from to : ℕ) (walk : List Way) → IsTightWalk far hops ways from to walk → hops from ≡ length walk + hops to
tight_walk-nearer far hops ways from to [] tight = let here : from ≡ to = tight.goes in let same = ap hops here in omega (arith, same)
tight_walk-nearer far hops ways from to (way ∷ walk) tight =
    let (there, begins, goes) = tight.goes in
    let same = ap hops begins in
    let rest = tight_walk-nearer far hops ways way.head to walk (tight_walk-tail far hops ways from to way walk tight) in
    omega (arith, same, rest, tight-nearer far hops way (All-head (IsTight far hops) way walk tight.tight))

pub tight_walk-push : (far : ℕ → ℤ) (hops : ℕ → ℕ) (ways : List Way) (from to : ℕ) (walk : List Way) (way : Way) → IsTightWalk far hops ways from to walk → Contains ways way → way.tail ≡ to → IsTight far hops way → IsTightWalk far hops ways from way.head (walk ++ way ∷ [])
tight_walk-push far hops ways from to walk way tight there begins own = record {
  goes = walk-push ways from to walk way tight.goes there begins;
  tight = All-append (IsTight far hops) walk (way ∷ []) tight.tight (All-cons (IsTight far hops) way [] own (All-nil (IsTight far hops)));
}

-- the vertices that a walk comes through, its end among them
abbrev pub stops : ℕ → List Way → List ℕ
stops to [] = to ∷ []
stops to (way ∷ walk) = way.tail ∷ stops to walk

pub length-stops : (to : ℕ) (walk : List Way) → length (stops to walk) ≡ length walk + 1
length-stops to [] = refl
length-stops to (way ∷ walk) = let rest = length-stops to walk in omega arith

-- the ends of each of these residual arcs are among the first of these vertices
abbrev pub IsLow : ℕ → Way → Type 0
IsLow bound way = (way.tail < bound) × (way.head < bound)

pub stops-low : (bound : ℕ) (ways : List Way) (from to : ℕ) (walk : List Way) → All (IsLow bound) ways → IsWalk ways from to walk → to < bound → (q : ℕ) → list_any (eqb q) (stops to walk) ≡ true → q < bound
stops-low bound ways from to [] low goes end q is =
    ⊎_elim {C = q < bound} (λ same. let h : q ≡ to = eqb-true q to same in omega arith) (λ none. absurd (cc)) (or_cases (eqb q to) false is)
stops-low bound ways from to (way ∷ walk) low (there, begins, goes) end q is =
    ⊎_elim {C = q < bound}
    (λ same.
    let h : q ≡ way.tail = eqb-true q way.tail same in
    let k = All-contains (IsLow bound) ways way low there in
    omega (arith, k.0))
    (λ later. stops-low bound ways way.head to walk low goes end q later)
    (or_cases (eqb q way.tail) (list_any (eqb q) (stops to walk)) is)

stops-nearer : (far : ℕ → ℤ) (hops : ℕ → ℕ) (ways : List Way) (from to : ℕ) (walk : List Way) → IsTightWalk far hops ways from to walk → All (λ v. hops v ≤ hops from) (stops to walk)
stops-nearer far hops ways from to [] tight =
    let here : from ≡ to = tight.goes in
    let same = ap hops here in
    All-cons (λ v. hops v ≤ hops from) to [] (omega (arith, same)) (All-nil (λ v. hops v ≤ hops from))
stops-nearer far hops ways from to (way ∷ walk) tight =
    let (there, begins, goes) = tight.goes in
    let same = ap hops begins in
    let nearer = tight-nearer far hops way (All-head (IsTight far hops) way walk tight.tight) in
    All-cons (λ v. hops v ≤ hops from) way.tail (stops to walk) (omega (arith, same))
    (All-weaker (λ v. hops v ≤ hops way.head) (λ v. hops v ≤ hops from) (λ v h. omega (arith, same, nearer)) (stops to walk)
    (stops-nearer far hops ways way.head to walk (tight_walk-tail far hops ways from to way walk tight)))

stops-distinct : (far : ℕ → ℤ) (hops : ℕ → ℕ) (ways : List Way) (from to : ℕ) (walk : List Way) → IsTightWalk far hops ways from to walk → IsDistinct eqb (stops to walk)
unfolding IsDistinct
stops-distinct far hops ways from to [] tight = (tt, tt)
stops-distinct far hops ways from to (way ∷ walk) tight =
    let rest = tight_walk-tail far hops ways from to way walk tight in
    let nearer = tight-nearer far hops way (All-head (IsTight far hops) way walk tight.tight) in (
      recursion_from_All (λ v. eqb way.tail v ≡ false) (stops to walk)
          (All-weaker (λ v. hops v ≤ hops way.head) (λ v. eqb way.tail v ≡ false)
          (λ v h. ne_eqb way.tail v (λ same. let equal = ap hops same in omega (arith, equal, nearer))) (stops to walk)
          (stops-nearer far hops ways way.head to walk rest)),
      stops-distinct far hops ways way.head to walk rest,
    )

-- A tight walk repeats no vertex, so it has fewer arcs than there are vertices.
pub tight_walk-short : (far : ℕ → ℤ) (hops : ℕ → ℕ) (bound : ℕ) (ways : List Way) (from to : ℕ) (walk : List Way) → All (IsLow bound) ways → to < bound → IsTightWalk far hops ways from to walk → length walk < bound
tight_walk-short far hops bound ways from to walk low end tight =
    let few = length-le_from_distinct_below (stops to walk) bound (stops-distinct far hops ways from to walk tight) (stops-low bound ways from to walk low tight.goes end) in
    omega (arith, few, length-stops to walk)

-- From each vertex a tight walk leads to a mirror that wants, since each tight arc comes nearer.
pub each_is_served : (net : Net) (flow : Flow) (far : ℕ → ℤ) (hops : ℕ → ℕ) → AreLabels net flow far hops → All (IsLow (vertex_count net)) (ways_of net flow) → (from : ℕ) → from < vertex_count net → Serves net flow far hops from
each_is_served net flow far hops labels low from within = down (hops from) from within refl
  where
    at : (left v : ℕ) (test : Bool) → is_wanting net flow v ≡ test → v < vertex_count net → hops v ≡ left → ((w : ℕ) → w < vertex_count net → hops w + 1 ≡ left → Serves net flow far hops w) → Serves net flow far hops v
    at left v true wants within is next = record {
      mirror = v;
      wants = wants;
      walk = [];
      tight = record { goes = refl; tight = All-nil (IsTight far hops) };
    }
    at left v false wants within is next =
        let (k, way, inside, here, (begins, own)) = labels.onward v within wants in
        let there : Contains (ways_of net flow) way = (k, inside, here) in
        let ends = All-contains (IsLow (vertex_count net)) (ways_of net flow) way low there in
        let same = ap hops begins in
        let rest = next way.head ends.1 (omega (arith, tight-nearer far hops way own, same)) in record {
          mirror = rest.mirror;
          wants = rest.wants;
          walk = way ∷ rest.walk;
          tight = record { goes = (there, begins, rest.tight.goes); tight = All-cons (IsTight far hops) way rest.walk own rest.tight.tight };
        }

    down : (left v : ℕ) → v < vertex_count net → hops v ≡ left → Serves net flow far hops v
    down zero v within is = at 0 v (is_wanting net flow v) refl within is (λ w h more. absurd (omega (arith, more)))
    down (suc left) v within is = at (suc left) v (is_wanting net flow v) refl within is (λ w h more. down left w h (omega (arith, more)))

-- A mirror that wants is a vertex.
pub wanting-low : (net : Net) (flow : Flow) (v : ℕ) → is_wanting net flow v ≡ true → v < vertex_count net
wanting-low net flow v wants =
    let short = int_lt (wanted net v) (out_minus_in net flow v) in
    let parts = and_parts (nat_le (net.gates + 2) v) (nat_lt v (vertex_count net) && short) wants in
    ltb-true v (vertex_count net) (and_parts (nat_lt v (vertex_count net)) short parts.1).0

-- So its label is no greater than the number of vertices less one, and within it the lengths are.
pub hops-below : (net : Net) (flow : Flow) (far : ℕ → ℤ) (hops : ℕ → ℕ) → AreLabels net flow far hops → All (IsLow (vertex_count net)) (ways_of net flow) → (from : ℕ) → from < vertex_count net → hops from < vertex_count net
hops-below net flow far hops labels low from within =
    let served = each_is_served net flow far hops labels low from within in
    let nothing = ap (λ (reach : Reach). reach.hops) (labels.nothing served.mirror served.wants) in
    let long = tight_walk-nearer far hops (ways_of net flow) from served.mirror served.walk served.tight in
    let end : served.mirror < vertex_count net = wanting-low net flow served.mirror served.wants in
    omega (arith, nothing, long, tight_walk-short far hops (vertex_count net) (ways_of net flow) from served.mirror served.walk low end served.tight)

-- So labels are labels for each vertex.
pub labels-for : (net : Net) (flow : Flow) (far : ℕ → ℤ) (hops : ℕ → ℕ) → AreLabels net flow far hops → All (IsLow (vertex_count net)) (ways_of net flow) → (from : ℕ) → from < vertex_count net → AreLabelsFor net flow far hops from
labels-for net flow far hops labels low from within = record {
  fits = labels.fits;
  nothing = labels.nothing;
  served = each_is_served net flow far hops labels low from within;
}
