-- The path is read backwards. What may come last on a longest walk to a vertex that was reached is just what is tight, enters it and
-- comes from what was reached; and it stands among the residual arcs at the vertex. So the least of these is the last one.
use Rattle.std.proofs.Common.{◌≡◌, ◌≢◌, drop, ◌<◌, ◌≤◌, ◌+◌, ◌-◌, ◌^◌, ◌==◌, ◌∙◌, ◌++◌, ◌⊎◌, ◌&&◌, inl, inr, ℕ, suc, ℤ, nat_eq, Bool, true, false, cond, List, [], ◌∷◌, length, get_or, filter, take, reverse, All, Contains, Option, Some, None, refl, ap, sym, subst, arith, true≢false, ⊎_elim, append_assoc}
use Rattle.std.specs.List.{flat_map}
use Rattle.std.proofs.Math.Seq.{drop-cons}
use Rattle.std.proofs.lemmas.Bool.{eqb-true, eq-eqb, or_left, or_right, and_parts, and_from}
use Rattle.std.proofs.lemmas.List.Elements.{All-nil, All-cons, All-head, All-tail, All-contains, All-weaker, All-more, All-contains_itself, Contains-get_or}
use Rattle.std.proofs.lemmas.List.{reverse-append, append-nil}
use Rattle.std.proofs.lemmas.Map.Views.{Contains-from_any, list_any-from_Contains}
use Rattle.std.specs.Cmp.{nat_eq_equiv}
use Rattle.net_base.specs.Keys.{is_among}
use Rattle.flow_net.specs.declared.net.Net.{Net}
use Rattle.flow_net.specs.declared.net.Flow.{Flow}
use Rattle.flow_net.specs.Arcs.{Arc, arcs_of}
use Rattle.flow_net.specs.Flows.{units_on}
use Rattle.stage_flow.specs.declared.ways.Near.{Near}
use Rattle.stage_flow.specs.Residual.{Way, adding, taking, ways_on, ways_of, vertex_count}
use Rattle.stage_flow.specs.Longest.{Reach}
use Rattle.stage_flow.specs.Rounds.{best_to, is_wanting, is_last, or_lesser, least_last, last_of, last_way, path_to, path_of, path_from}
use Rattle.stage_flow.specs.LawsOfWalks.{IsTight, IsInLayer, EndsAreVertices, AreLabelsFor}
use Rattle.stage_flow.specs.Given.{touches, count_at, near_arc}
use Rattle.stage_flow.specs.Passes.{mark_at}
use Rattle.stage_flow.specs.Sending.{way_in, ways_by, ways_near, is_residual, is_tight, comes_last, least_by, AreReached}
use Rattle.stage_flow.specs.Staleness.{AreKept}
use Rattle.stage_flow.proofs.Labels.{IsLow, tight-nearer, tight_walk-nearer}
use Rattle.stage_flow.proofs.FreshLabels.{fresh-labels_for, fresh-wanting}
use Rattle.stage_flow.proofs.Receiver.{layer_reach, best_to-in_layer, receiver-is}
use Rattle.stage_flow.proofs.Path.{last-is, last-from, last_way-is, path_to-next}
use Rattle.stage_flow.proofs.Round.{ways-low}
use Rattle.stage_flow.proofs.NearArcs.{only_if, in-alone, in-ends}
use Rattle.stage_flow.proofs.SendingSearch.{tight-test, test-tight, tail-fresh}

-- ---- The least by a test
least_by-append : (test : Way → Bool) (found : Option Way) (a b : List Way) → least_by test found (a ++ b) ≡ least_by test (least_by test found a) b
least_by-append test found [] b = refl
least_by-append test found (way ∷ a) b = least_by-append test (or_lesser (test way) way found) a b

least_by-agree : (test other : Way → Bool) (found : Option Way) (ways : List Way) → All (λ way. test way ≡ other way) ways → least_by test found ways ≡ least_by other found ways
least_by-agree test other found [] agree = refl
least_by-agree test other found (way ∷ ways) agree =
    ap (λ b. least_by test (or_lesser b way found) ways) (All-head (λ w. test w ≡ other w) way ways agree)
    ∙ least_by-agree test other (or_lesser (other way) way found) ways (All-tail (λ w. test w ≡ other w) way ways agree)

least_by-none : (test : Way → Bool) (found : Option Way) (ways : List Way) → All (λ way. test way ≡ false) ways → least_by test found ways ≡ found
least_by-none test found [] none = refl
least_by-none test found (way ∷ ways) none =
    ap (λ b. least_by test (or_lesser b way found) ways) (All-head (λ w. test w ≡ false) way ways none)
    ∙ least_by-none test found ways (All-tail (λ w. test w ≡ false) way ways none)

-- What fails the test doesn't matter.
least_by-filter : (test : Way → Bool) (found : Option Way) (ways : List Way) → least_by test found ways ≡ least_by (λ way. true) found (filter test ways)
least_by-filter test found [] = refl
least_by-filter test found (way ∷ ways) = by (test way) (least_by-filter test (or_lesser (test way) way found) ways)
  where
    by : (b : Bool) → least_by test (or_lesser b way found) ways ≡ least_by (λ way. true) (or_lesser b way found) (filter test ways) → least_by test (or_lesser b way found) ways ≡ least_by (λ way. true) found (cond b (way ∷ filter test ways) (filter test ways))
    by true rest = rest
    by false rest = rest

-- Of the residual arcs on an arc at a vertex only the one that enters it may be found.
least-in : (flow : Flow) (far : ℕ → ℤ) (hops : ℕ → ℕ) (reached : List ℕ) (vertex : ℕ) (near : Near) (found : Option Way) → near.other ≢ vertex
    → least_by (comes_last far hops reached vertex) found (ways_on flow (near_arc vertex near)) ≡ least_by (λ way. true) found (filter (comes_last far hops reached vertex) (only_if (is_residual flow (way_in vertex near)) (way_in vertex near)))
least-in flow far hops reached vertex near found apart =
    least_by-filter (comes_last far hops reached vertex) found (ways_on flow (near_arc vertex near))
    ∙ ap (least_by (λ way. true) found)
    (in-alone (comes_last far hops reached vertex) flow vertex near apart (λ way passes. eqb-true way.head vertex (and_parts (way.head == vertex) (is_tight far hops way && is_among nat_eq way.tail reached) passes).0))

pub least-none : (flow : Flow) (far : ℕ → ℤ) (hops : ℕ → ℕ) (reached : List ℕ) (vertex : ℕ) (near : Near) (found : Option Way) → near.other ≢ vertex
    → (is_residual flow (way_in vertex near) ≡ true → IsTight far hops (way_in vertex near) → is_among nat_eq (way_in vertex near).tail reached ≡ true → ⊥)
    → least_by (comes_last far hops reached vertex) found (ways_on flow (near_arc vertex near)) ≡ found
least-none flow far hops reached vertex near found apart never =
    least-in flow far hops reached vertex near found apart ∙ by (is_residual flow way) (comes_last far hops reached vertex way) refl refl
  where
    way : Way
    way = way_in vertex near

    by : (there last : Bool) → is_residual flow way ≡ there → comes_last far hops reached vertex way ≡ last → least_by (λ way. true) found (filter (comes_last far hops reached vertex) (only_if there way)) ≡ found
    by false last is own = refl
    by true false is own = ap (λ b. least_by (λ way. true) found (cond b (way ∷ []) [])) own
    by true true is own =
        let parts = and_parts (way.head == vertex) (is_tight far hops way && is_among nat_eq way.tail reached) own in
        let rest = and_parts (is_tight far hops way) (is_among nat_eq way.tail reached) parts.1 in
        absurd (never is (test-tight far hops way rest.0) rest.1)

pub least-one : (flow : Flow) (far : ℕ → ℤ) (hops : ℕ → ℕ) (reached : List ℕ) (vertex : ℕ) (near : Near) (found : Option Way) → near.other ≢ vertex
    → is_residual flow (way_in vertex near) ≡ true → IsTight far hops (way_in vertex near) → is_among nat_eq (way_in vertex near).tail reached ≡ true
    → least_by (comes_last far hops reached vertex) found (ways_on flow (near_arc vertex near)) ≡ or_lesser true (way_in vertex near) found
least-one flow far hops reached vertex near found apart there tight among =
    let way = way_in vertex near in
    let test : comes_last far hops reached vertex way ≡ true =
    and_from (way.head == vertex) (is_tight far hops way && is_among nat_eq way.tail reached) (eq-eqb way.head vertex (in-ends vertex near).1)
    (and_from (is_tight far hops way) (is_among nat_eq way.tail reached) (tight-test far hops way tight) among) in
    least-in flow far hops reached vertex near found apart
    ∙ ap (λ b. least_by (λ way. true) found (filter (comes_last far hops reached vertex) (only_if b way))) there
    ∙ ap (λ b. least_by (λ way. true) found (cond b (way ∷ []) [])) test

-- What is found on one arc more, and then on the rest.
pub least-step : (test : Way → Bool) (flow : Flow) (vertex : ℕ) (nears : List Near) (i : ℕ) (d : Near) (found next : Option Way) → i < length nears
    → next ≡ least_by test found (ways_on flow (near_arc vertex (get_or nears i d)))
    → least_by test next (ways_by vertex flow (drop (i + 1) nears)) ≡ least_by test found (ways_by vertex flow (drop i nears))
least-step test flow vertex nears i d found next within is =
    let own = ways_on flow (near_arc vertex (get_or nears i d)) in
    let rest = ways_by vertex flow (drop (i + 1) nears) in
    let first : drop i nears ≡ get_or nears i d ∷ drop (i + 1) nears = drop-cons nears i d within ∙ ap (λ n. get_or nears i d ∷ drop n nears) (let h : suc i ≡ i + 1 = omega arith in h) in
    ap (λ o. least_by test o rest) is ∙ sym (least_by-append test found own rest) ∙ ap (λ ns. least_by test found (ways_by vertex flow ns)) (sym first)

least_last-by : (best : ℕ → Option Reach) (reach : Reach) (vertex : ℕ) (found : Option Way) (ways : List Way) → least_last best reach vertex found ways ≡ least_by (is_last best reach vertex) found ways
least_last-by best reach vertex found [] = refl
least_last-by best reach vertex found (way ∷ ways) = least_last-by best reach vertex (or_lesser (is_last best reach vertex way) way found) ways

-- Arcs that don't touch a vertex don't matter to a test that only what enters it passes.
module _ (flow : Flow) (vertex : ℕ) (test : Way → Bool) (enters : (way : Way) → test way ≡ true → way.head ≡ vertex) where
  fails : (way : Way) → (way.head ≡ vertex → ⊥) → test way ≡ false
  fails way other = by (test way) refl
    where
      by : (b : Bool) → test way ≡ b → test way ≡ false
      by true passes = absurd (other (enters way passes))
      by false none = none

  untouched : (arc : Arc) → touches vertex arc ≡ false → All (λ way. test way ≡ false) (ways_on flow arc)
  untouched arc none =
      let tail : arc.tail ≡ vertex → ⊥ = λ same. true≢false (sym (or_left (arc.tail == vertex) (arc.head == vertex) (eq-eqb arc.tail vertex same)) ∙ none) in
      let head : arc.head ≡ vertex → ⊥ = λ same. true≢false (sym (or_right (arc.tail == vertex) (arc.head == vertex) (eq-eqb arc.head vertex same)) ∙ none) in
      by (units_on flow arc == 0) (fails (adding arc) head) (fails (taking arc) tail)
    where
      by : (b : Bool) → test (adding arc) ≡ false → test (taking arc) ≡ false → All (λ way. test way ≡ false) (adding arc ∷ cond b [] (taking arc ∷ []))
      by true adds takes = All-cons (λ way. test way ≡ false) (adding arc) [] adds (All-nil (λ way. test way ≡ false))
      by false adds takes = All-cons (λ way. test way ≡ false) (adding arc) (taking arc ∷ []) adds (All-cons (λ way. test way ≡ false) (taking arc) [] takes (All-nil (λ way. test way ≡ false)))

  least_by-near : (arcs : List Arc) (found : Option Way) → least_by test found (flat_map (ways_on flow) arcs) ≡ least_by test found (flat_map (ways_on flow) (filter (touches vertex) arcs))
  least_by-near [] found = refl
  least_by-near (arc ∷ arcs) found =
      least_by-append test found (ways_on flow arc) (flat_map (ways_on flow) arcs)
      ∙ by (touches vertex arc) refl (least_by-near arcs (least_by test found (ways_on flow arc)))
    where
      by : (b : Bool) → touches vertex arc ≡ b
          → least_by test (least_by test found (ways_on flow arc)) (flat_map (ways_on flow) arcs) ≡ least_by test (least_by test found (ways_on flow arc)) (flat_map (ways_on flow) (filter (touches vertex) arcs))
          → least_by test (least_by test found (ways_on flow arc)) (flat_map (ways_on flow) arcs) ≡ least_by test found (flat_map (ways_on flow) (cond b (arc ∷ filter (touches vertex) arcs) (filter (touches vertex) arcs)))
      by true touch rest = rest ∙ sym (least_by-append test found (ways_on flow arc) (flat_map (ways_on flow) (filter (touches vertex) arcs)))
      by false none rest =
          rest ∙ ap (λ o. least_by test o (flat_map (ways_on flow) (filter (touches vertex) arcs))) (least_by-none test found (ways_on flow arc) (untouched arc none))

same-tests : (a b : Bool) → (a ≡ true → b ≡ true) → (b ≡ true → a ≡ true) → a ≡ b
same-tests true b to from = sym (to refl)
same-tests false true to from = from refl
same-tests false false to from = refl

-- ---- The last arc, and the path
module _ (net : Net) (flow : Flow) (far : ℕ → ℤ) (hops : ℕ → ℕ) (marks : List Bool) (kept : AreKept net flow far hops marks) (ends : EndsAreVertices net) (from : ℕ) (begins : from < vertex_count net) (unmarked : mark_at marks from ≡ false) (reached : List ℕ) (are : AreReached net flow far hops marks from reached) where
  -- They serve who sends, as a round asks.
  serve : AreLabelsFor net flow far hops from
  serve = fresh-labels_for net flow far hops marks kept.right (ways-low net flow ends) from begins unmarked

  tests-agree : (steps vertex : ℕ) → vertex < vertex_count net → mark_at marks vertex ≡ false → IsInLayer far hops (ways_of net flow) from (suc steps) vertex → (way : Way) → Contains (ways_of net flow) way
      → is_last (best_to net flow from) (layer_reach far from (suc steps) vertex) vertex way ≡ comes_last far hops reached vertex way
  tests-agree steps vertex within free layer way there =
      same-tests (is_last (best_to net flow from) (layer_reach far from (suc steps) vertex) vertex way) (comes_last far hops reached vertex way)
      (λ last.
      let (comes, tight, before) = last-is net flow far hops from serve (ways-low net flow ends) steps vertex way layer there last in
      and_from (way.head == vertex) (is_tight far hops way && is_among nat_eq way.tail reached) (eq-eqb way.head vertex comes)
      (and_from (is_tight far hops way) (is_among nat_eq way.tail reached) (tight-test far hops way tight) (are.all way.tail steps before (tail-fresh net flow far hops marks way kept.dead there tight (ap (mark_at marks) comes ∙ free)))))
      (λ passes.
      let parts = and_parts (way.head == vertex) (is_tight far hops way && is_among nat_eq way.tail reached) passes in
      let rest = and_parts (is_tight far hops way) (is_among nat_eq way.tail reached) parts.1 in
      let comes : way.head ≡ vertex = eqb-true way.head vertex parts.0 in
      let tight = test-tight far hops way rest.0 in
      let (k, behind) = are.found way.tail rest.1 in
      let one = tight_walk-nearer far hops (ways_of net flow) from vertex layer.walk layer.tight in
      let two = tight_walk-nearer far hops (ways_of net flow) from way.tail behind.walk behind.tight in
      let nearer = tight-nearer far hops way tight in
      let same = ap hops comes in
      let level : k ≡ steps = omega (arith, one, two, nearer, same, layer.long, behind.long) in
      last-from net flow far hops from serve (ways-low net flow ends) steps vertex way there comes tight
      (subst (λ n. IsInLayer far hops (ways_of net flow) from n way.tail) level behind))

  pub last_way-read : (steps vertex : ℕ) → vertex < vertex_count net → mark_at marks vertex ≡ false → IsInLayer far hops (ways_of net flow) from (suc steps) vertex
      → last_way (best_to net flow from) (ways_of net flow) vertex ≡ least_by (comes_last far hops reached vertex) None (ways_near net flow vertex)
  last_way-read steps vertex within free layer =
      let best = best_to net flow from in
      let ways = ways_of net flow in
      let reach = layer_reach far from (suc steps) vertex in
      ap (last_of best ways vertex) (best_to-in_layer net flow far hops from serve (ways-low net flow ends) (suc steps) vertex within layer)
      ∙ least_last-by best reach vertex None ways
      ∙ least_by-agree (is_last best reach vertex) (comes_last far hops reached vertex) None ways
      (All-weaker (Contains ways) (λ way. is_last best reach vertex way ≡ comes_last far hops reached vertex way) (λ way there. tests-agree steps vertex within free layer way there) ways (All-contains_itself ways))
      ∙ least_by-near flow vertex (comes_last far hops reached vertex)
      (λ way passes. eqb-true way.head vertex (and_parts (way.head == vertex) (is_tight far hops way && is_among nat_eq way.tail reached) passes).0)
      (arcs_of net) None

  -- The path to a vertex of a layer goes on by the least arc that was found, which there is, and comes from the layer before.
  pub record GoesBack (steps vertex : ℕ) (found : Option Way) : Type 0 where
    pub way : Way
    pub is : found ≡ Some way
    pub low : way.tail < vertex_count net
    pub fresh : mark_at marks way.tail ≡ false
    pub layer : IsInLayer far hops (ways_of net flow) from steps way.tail
    pub path : path_to (best_to net flow from) (ways_of net flow) (suc steps) vertex ≡ path_to (best_to net flow from) (ways_of net flow) steps way.tail ++ way ∷ []

  pub goes_back : (steps vertex : ℕ) (found : Option Way) → vertex < vertex_count net → mark_at marks vertex ≡ false → IsInLayer far hops (ways_of net flow) from (suc steps) vertex
      → found ≡ least_by (comes_last far hops reached vertex) None (ways_near net flow vertex) → GoesBack steps vertex found
  goes_back steps vertex found within free layer is =
      let low = ways-low net flow ends in
      let (way, last, least) = last_way-is net flow far hops from serve low steps vertex within layer in
      record {
        way = way;
        is = is ∙ sym (last_way-read steps vertex within free layer) ∙ last;
        low = (All-contains (IsLow (vertex_count net)) (ways_of net flow) way low least.there).0;
        fresh = tail-fresh net flow far hops marks way kept.dead least.there least.tight (ap (mark_at marks) least.ends ∙ free);
        layer = least.before;
        path = path_to-next net flow far hops from serve low steps vertex way last;
      }

  -- ---- The receiver
  -- A vertex with no arcs to go that was reached is a mirror that wants,
  hops-wants : (vertex : ℕ) → vertex < vertex_count net → mark_at marks vertex ≡ false → hops vertex ≡ 0 → is_wanting net flow vertex ≡ true
  hops-wants vertex within free none = fresh-wanting net flow far hops marks kept.right vertex within free ∙ eq-eqb (hops vertex) 0 none

  wants-hops : (vertex : ℕ) → is_wanting net flow vertex ≡ true → hops vertex ≡ 0
  wants-hops vertex wants = ap (λ (r : Reach). r.hops) (kept.right.nothing vertex wants).0

  -- so the least of these is the receiver.
  pub receiver-read : (vertex : ℕ)
      → ((other : ℕ) → is_among nat_eq other reached ≡ true → hops other ≡ 0 → vertex ≤ other)
      → (((other : ℕ) → is_among nat_eq other reached ≡ true → hops other ≡ 0 → ⊥) ⊎ ((is_among nat_eq vertex reached ≡ true) × (hops vertex ≡ 0)))
      → (vertex < vertex_count net) × (mark_at marks vertex ≡ false) × IsInLayer far hops (ways_of net flow) from (hops from) vertex × (path_of net flow (Some from) ≡ path_to (best_to net flow from) (ways_of net flow) (hops from) vertex)
  receiver-read vertex least some =
      let (mirror, is, served) = receiver-is net flow far hops from serve (ways-low net flow ends) in
      let there = are.all mirror (hops from) served.layer (kept.right.nothing mirror served.wants).1 in
      let own : is_among nat_eq vertex reached ≡ true × (hops vertex ≡ 0) =
      ⊎_elim {C = (is_among nat_eq vertex reached ≡ true) × (hops vertex ≡ 0)} (λ none. absurd (none mirror there (wants-hops mirror served.wants))) (λ h. h) some in
      let low = are.low vertex own.0 in
      let free = are.fresh vertex own.0 in
      let wants = hops-wants vertex low free own.1 in
      let (k, layer) = are.found vertex own.0 in
      let long = tight_walk-nearer far hops (ways_of net flow) from vertex layer.walk layer.tight in
      let level : k ≡ hops from = omega (arith, long, own.1, layer.long) in
      let here = subst (λ n. IsInLayer far hops (ways_of net flow) from n vertex) level layer in
      let down = least mirror there (wants-hops mirror served.wants) in
      let up = served.least vertex wants here in
      let same : mirror ≡ vertex = omega (arith, down, up) in (
        low,
        free,
        here,
        ap (path_from net flow from) is ∙ ap (λ v. path_to (best_to net flow from) (ways_of net flow) (hops from) v) same,
      )

-- ---- While the path is read
-- The path to a vertex of a layer, and then what was read, is the whole path.
pub record ReadsBack (net : Net) (flow : Flow) (far : ℕ → ℤ) (hops : ℕ → ℕ) (marks : List Bool) (from : ℕ) (read : List Way) (left vertex : ℕ) : Type 0 where
  pub low : vertex < vertex_count net
  pub fresh : mark_at marks vertex ≡ false
  pub layer : IsInLayer far hops (ways_of net flow) from left vertex
  pub path : path_to (best_to net flow from) (ways_of net flow) left vertex ++ reverse read ≡ path_of net flow (Some from)

pub reads-next : (net : Net) (flow : Flow) (far : ℕ → ℤ) (hops : ℕ → ℕ) (marks : List Bool) (from : ℕ) (read more : List Way) (left less vertex : ℕ) (way : Way) → less + 1 ≡ left → ReadsBack net flow far hops marks from read left vertex
    → way.tail < vertex_count net → mark_at marks way.tail ≡ false → IsInLayer far hops (ways_of net flow) from less way.tail
    → path_to (best_to net flow from) (ways_of net flow) (suc less) vertex ≡ path_to (best_to net flow from) (ways_of net flow) less way.tail ++ way ∷ []
    → more ≡ read ++ way ∷ [] → ReadsBack net flow far hops marks from more less way.tail
reads-next net flow far hops marks from read more left less vertex way down reads low free layer path is =
    let best = best_to net flow from in
    let ways = ways_of net flow in
    let same : left ≡ suc less = omega arith in
    record {
      low = low;
      fresh = free;
      layer = layer;
      path =
          ap (λ r. path_to best ways less way.tail ++ reverse r) is
          ∙ ap (λ r. path_to best ways less way.tail ++ r) (reverse-append read (way ∷ []))
          ∙ sym (append_assoc (path_to best ways less way.tail) (way ∷ []) (reverse read))
          ∙ ap (λ p. p ++ reverse read) (sym path)
          ∙ ap (λ n. path_to best ways n vertex ++ reverse read) (sym same)
          ∙ reads.path;
    }

-- What is true of each, and what is among them.
pub among-Contains : (xs : List ℕ) (x : ℕ) → is_among nat_eq x xs ≡ true → Contains xs x
among-Contains xs x among = Contains-from_any (λ a b same. eqb-true a b same) x xs among

pub Contains-among : (xs : List ℕ) (x : ℕ) → Contains xs x → is_among nat_eq x xs ≡ true
Contains-among xs x there = list_any-from_Contains nat_eq_equiv x xs there

-- The least so far, and one more.
pub least-more : (hops : List ℕ) (xs : List ℕ) (i least next : ℕ) → i < length xs → All (λ v. count_at hops v ≡ 0 → least ≤ v) (take i xs) → next ≤ least → (count_at hops (get_or xs i 0) ≡ 0 → next ≤ get_or xs i 0)
    → All (λ v. count_at hops v ≡ 0 → next ≤ v) (take (i + 1) xs)
least-more hops xs i least next within all less here =
    All-more (λ v. count_at hops v ≡ 0 → next ≤ v) xs i 0 within
    (All-weaker (λ v. count_at hops v ≡ 0 → least ≤ v) (λ v. count_at hops v ≡ 0 → next ≤ v) (λ v h none. (let low = h none in omega (arith, low, less))) (take i xs) all) here

pub reached-low : (net : Net) (flow : Flow) (far : ℕ → ℤ) (hops : ℕ → ℕ) (marks : List Bool) (from : ℕ) (reached : List ℕ) → AreReached net flow far hops marks from reached → All (λ v. v < vertex_count net) reached
reached-low net flow far hops marks from reached are = λ k d within. are.low (get_or reached k d) (Contains-among reached (get_or reached k d) (Contains-get_or reached k d within))

-- At first nothing was read, and the vertex is the receiver.
pub reads-first : (net : Net) (flow : Flow) (far : ℕ → ℤ) (hops xs : List ℕ) (marks : List Bool) (kept : AreKept net flow far (count_at hops) marks) (ends : EndsAreVertices net) (from : ℕ) (begins : from < vertex_count net) (unmarked : mark_at marks from ≡ false) (reached : List ℕ) (are : AreReached net flow far (count_at hops) marks from reached) (vertex left : ℕ) (read : List Way) (hs : List ℕ)
    → vertex_count net < 2 ^ 32 → hs ≡ hops → xs ≡ reached
    → All (λ v. count_at hs v ≡ 0 → vertex ≤ v) xs → (vertex ≡ 2 ^ 32 - 1) ⊎ (Contains xs vertex × (count_at hs vertex ≡ 0)) → count_at hops from ≡ left → read ≡ []
    → ReadsBack net flow far (count_at hops) marks from read left vertex
reads-first net flow far hops xs marks kept ends from begins unmarked reached are vertex left read hs few hs_is xs_is all some left_is none =
    let least : (other : ℕ) → is_among nat_eq other reached ≡ true → count_at hops other ≡ 0 → vertex ≤ other =
    λ other among empty.
    let low : count_at hs other ≡ 0 → vertex ≤ other = All-contains (λ v. count_at hs v ≡ 0 → vertex ≤ v) xs other all (subst (λ ys. Contains ys other) (sym xs_is) (among-Contains reached other among)) in
    low (ap (λ ys. count_at ys other) hs_is ∙ empty) in
    let (low, free, layer, path) =
    receiver-read net flow far (count_at hops) marks kept ends from begins unmarked reached are vertex least
    (⊎_elim {C = ((other : ℕ) → is_among nat_eq other reached ≡ true → count_at hops other ≡ 0 → ⊥) ⊎ ((is_among nat_eq vertex reached ≡ true) × (count_at hops vertex ≡ 0))}
    (λ most. inl (λ other among empty. let h = least other among empty in let k = are.low other among in omega (arith, h, k, few, most)))
    (λ found. inr (Contains-among reached vertex (subst (λ ys. Contains ys vertex) xs_is found.0), ap (λ ys. count_at ys vertex) (sym hs_is) ∙ found.1))
    some) in
    let best = best_to net flow from in
    let ways = ways_of net flow in
    record {
      low = low;
      fresh = free;
      layer = subst (λ n. IsInLayer far (count_at hops) ways from n vertex) left_is layer;
      path =
          ap (λ n. path_to best ways n vertex ++ reverse read) (sym left_is)
          ∙ ap (λ r. path_to best ways (count_at hops from) vertex ++ reverse r) none
          ∙ append-nil (path_to best ways (count_at hops from) vertex)
          ∙ sym path;
    }

-- And it goes on by the arc that was found.
pub reads-on : (net : Net) (flow : Flow) (far : ℕ → ℤ) (hops : ℕ → ℕ) (marks : List Bool) (kept : AreKept net flow far hops marks) (ends : EndsAreVertices net) (from : ℕ) (begins : from < vertex_count net) (unmarked : mark_at marks from ≡ false) (reached : List ℕ) (are : AreReached net flow far hops marks from reached) (read more : List Way) (left less vertex : ℕ) (found : Option Way) (way : Way)
    → found ≡ Some way → less + 1 ≡ left → ReadsBack net flow far hops marks from read left vertex → found ≡ least_by (comes_last far hops reached vertex) None (ways_near net flow vertex) → more ≡ read ++ way ∷ []
    → ReadsBack net flow far hops marks from more less way.tail
reads-on net flow far hops marks kept ends from begins unmarked reached are read more left less vertex found way one down reads is grown =
    let back = goes_back net flow far hops marks kept ends from begins unmarked reached are less vertex found reads.low reads.fresh (subst (λ n. IsInLayer far hops (ways_of net flow) from n vertex) (let h : left ≡ suc less = omega arith in h) reads.layer) is in
    let both : Some back.way ≡ Some way = sym back.is ∙ one in
    let same : back.way ≡ way = cc in
    reads-next net flow far hops marks from read more left less vertex way down reads
    (subst (λ (w : Way). w.tail < vertex_count net) same back.low)
    (subst (λ (w : Way). mark_at marks w.tail ≡ false) same back.fresh)
    (subst (λ (w : Way). IsInLayer far hops (ways_of net flow) from less w.tail) same back.layer)
    (subst (λ (w : Way). path_to (best_to net flow from) (ways_of net flow) (suc less) vertex ≡ path_to (best_to net flow from) (ways_of net flow) less w.tail ++ w ∷ []) same back.path)
    grown

-- There is one.
pub reads-some : (net : Net) (flow : Flow) (far : ℕ → ℤ) (hops : ℕ → ℕ) (marks : List Bool) (kept : AreKept net flow far hops marks) (ends : EndsAreVertices net) (from : ℕ) (begins : from < vertex_count net) (unmarked : mark_at marks from ≡ false) (reached : List ℕ) (are : AreReached net flow far hops marks from reached) (read : List Way) (left vertex : ℕ) (found : Option Way)
    → 0 < left → ReadsBack net flow far hops marks from read left vertex → found ≡ least_by (comes_last far hops reached vertex) None (ways_near net flow vertex) → found ≡ None → ⊥
reads-some net flow far hops marks kept ends from begins unmarked reached are read left vertex found some reads is none =
    let back = goes_back net flow far hops marks kept ends from begins unmarked reached are (left - 1) vertex found reads.low reads.fresh (subst (λ n. IsInLayer far hops (ways_of net flow) from n vertex) (let h : left ≡ suc (left - 1) = omega arith in h) reads.layer) is in
    let both : None ≡ Some back.way = sym none ∙ back.is in
    cc

-- At the end all was read.
pub reads-all : (net : Net) (flow : Flow) (far : ℕ → ℤ) (hops : ℕ → ℕ) (marks : List Bool) (from : ℕ) (read : List Way) (left vertex : ℕ) → left ≤ 0 → ReadsBack net flow far hops marks from read left vertex → reverse read ≡ path_of net flow (Some from)
reads-all net flow far hops marks from read left vertex none reads =
    ap (λ n. path_to (best_to net flow from) (ways_of net flow) n vertex ++ reverse read) (let h : 0 ≡ left = omega arith in h) ∙ reads.path
