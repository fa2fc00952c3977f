-- The search along tight arcs. Vertices are added behind those that are there, and are gone through in order. Each was found by a
-- walk of tight arcs, and of each that was gone through the heads of its tight arcs are there too. At the end all were gone
-- through, so what was reached is what walks of tight arcs reach.
use Rattle.std.proofs.Common.{◌≡◌, ◌≢◌, nat_lt, ◌<◌, ◌≤◌, ◌+◌, ◌/◌, ◌==◌, ◌∙◌, ◌++◌, ◌⊎◌, ◌||◌, ◌&&◌, inl, ℕ, zero, suc, ℤ, nat_eq, Bool, true, false, not, cond, List, [], ◌∷◌, length, get_or, map, filter, take, drop, All, Contains, Some, refl, ap, sym, subst, arith, true≢false, ⊎_elim, length-append}
use Rattle.std.specs.List.{flat_map, IsDistinct}
use Rattle.std.proofs.Math.Seq.{drop-cons}
use Rattle.std.proofs.lemmas.Bool.{eqb-true, eq-eqb, or_left, or_right, or_cases, and_parts, and_from, not-true}
use Rattle.std.proofs.lemmas.List.{get_or-map, length-map, take_all, take_more, take-append-le, map-append}
use Rattle.std.proofs.lemmas.List.Folds.{list_any-append}
use Rattle.std.proofs.lemmas.List.Sums.{fold-append}
use Rattle.std.proofs.lemmas.List.Elements.{All-nil, All-head, All-contains, All-filter, All-contains_itself, All-weaker, filter-append}
use Rattle.std.proofs.lemmas.Map.Steps.{length-le_from_distinct_below}
use Rattle.net_base.specs.Keys.{is_among, with_key, with_keys}
use Rattle.net_base.proofs.CallerLemmas.{keys-grow, keys-among}
use Rattle.flow_net.specs.declared.net.Net.{Net}
use Rattle.flow_net.specs.declared.net.Flow.{Flow}
use Rattle.stage_flow.specs.declared.ways.Near.{Near}
use Rattle.flow_net.specs.Arcs.{Arc, arcs_of}
use Rattle.stage_flow.specs.Residual.{Way, ways_on, ways_of, vertex_count}
use Rattle.stage_flow.specs.Rounds.{is_reach}
use Rattle.stage_flow.specs.LawsOfWalks.{IsTight, IsTightWalk, IsInLayer, EndsAreVertices, led_by, label}
use Rattle.stage_flow.specs.Given.{touches, number_of, near_arc, arc_by_end, IsRow}
use Rattle.stage_flow.specs.Passes.{mark_at}
use Rattle.stage_flow.specs.Sending.{way_out, ways_by, ways_near, is_residual, IsRead, AreRead, is_tight, leads_on, heads_of, AreReached}
use Rattle.stage_flow.specs.Staleness.{AreDead}
use Rattle.stage_flow.proofs.Labels.{IsLow, tight_walk-push, tight_walk-tail}
use Rattle.stage_flow.proofs.Path.{is_reach-is, is_reach-same}
use Rattle.stage_flow.proofs.Units.{arc-low}
use Rattle.stage_flow.proofs.Along.{way-on, way-on_arc, adding-there, taking-there, ways-there, adding-in, taking-in}
use Rattle.stage_flow.proofs.Round.{ways-low}
use Rattle.stage_flow.proofs.NearArcs.{only_if, out-alone}

-- ---- The residual arcs at a vertex
filter-there : (test : Arc → Bool) (arcs : List Arc) (arc : Arc) → Contains arcs arc → test arc ≡ true → Contains (filter test arcs) arc
filter-there test [] arc (k, within, is) passes = absurd (omega arith)
filter-there test (first ∷ arcs) arc (zero, within, is) passes =
    let own : test first ≡ true = ap test is ∙ passes in
    subst (λ b. Contains (cond b (first ∷ filter test arcs) (filter test arcs)) arc) (sym own) (0, omega arith, is)
filter-there test (first ∷ arcs) arc (suc k, within, is) passes = by (test first) (filter-there test arcs arc (k, omega arith, is) passes)
  where
    by : (b : Bool) → Contains (filter test arcs) arc → Contains (cond b (first ∷ filter test arcs) (filter test arcs)) arc
    by true (j, inside, at) = (suc j, omega arith, at)
    by false rest = rest

near-there : (net : Net) (vertex : ℕ) → All (Contains (arcs_of net)) (filter (touches vertex) (arcs_of net))
near-there net vertex = All-filter (touches vertex) (Contains (arcs_of net)) (arcs_of net) (All-contains_itself (arcs_of net))

-- A row stands for the arcs that touch its vertex, and so for their residual arcs.
pub row-ways : (net : Net) (flow : Flow) (vertex : ℕ) (nears : List Near) → IsRow net vertex nears → ways_by vertex flow nears ≡ ways_near net flow vertex
row-ways net flow vertex nears row = ap (flat_map (ways_on flow)) row.arcs

-- what is known of an entry of a row
pub record IsNear (net : Net) (vertex : ℕ) (near : Near) : Type 0 where
  pub apart : near.other ≢ vertex
  pub pin : number_of near / 2 < length net.pins
  pub low : near.other < vertex_count net
  pub there : Contains (arcs_of net) (near_arc vertex near)

pub row-near : (net : Net) (vertex : ℕ) (nears : List Near) → EndsAreVertices net → IsRow net vertex nears → All (IsNear net vertex) nears
row-near net vertex nears ends row i d within =
    let near = get_or nears i d in
    let long = length-map nears on in
    let there : Contains (arcs_of net) (on near) =
    subst (Contains (arcs_of net)) (get_or-map on nears i d (on d) within)
    (subst (All (Contains (arcs_of net))) (sym row.arcs) (near-there net vertex) i (on d) (omega (arith, within, long))) in
    let low = All-contains (λ (arc : Arc). (arc.tail < vertex_count net) × (arc.head < vertex_count net)) (arcs_of net) (on near) ends there in
    record { apart = row.apart i d within; pin = by (nat_lt near.other vertex) (arc-low net (on near) there); low = other (nat_lt near.other vertex) low; there = there }
  where
    on : Near → Arc
    on = near_arc vertex

    by : (lower : Bool) → (arc_by_end lower vertex (get_or nears i d)).number / 2 < length net.pins → number_of (get_or nears i d) / 2 < length net.pins
    by true h = h
    by false h = h

    other : (lower : Bool) → ((arc_by_end lower vertex (get_or nears i d)).tail < vertex_count net) × ((arc_by_end lower vertex (get_or nears i d)).head < vertex_count net) → (get_or nears i d).other < vertex_count net
    other true h = h.0
    other false h = h.1

-- So it can be read.
pub row-read : (net : Net) (flow : Flow) (far : List ℤ) (hops : List ℕ) (vertex : ℕ) (nears : List Near) → AreRead net flow far hops → vertex < vertex_count net → IsRow net vertex nears → All (IsRead flow far hops vertex) nears
row-read net flow far hops vertex nears read low row =
    All-weaker (IsNear net vertex) (IsRead flow far hops vertex) (λ near known. record {
      apart = known.apart;
      units = omega (arith, known.pin, read.units);
      lengths = (omega (arith, low, read.each_far), omega (arith, known.low, read.each_far));
      counts = (omega (arith, low, read.each_hops), omega (arith, known.low, read.each_hops));
    }) nears (row-near net vertex nears read.ends row)

pub near-from : (net : Net) (flow : Flow) (vertex : ℕ) (way : Way) → Contains (ways_near net flow vertex) way → Contains (ways_of net flow) way
near-from net flow vertex way there =
    let on = way-on_arc flow (filter (touches vertex) (arcs_of net)) way there in
    let inside = All-contains (Contains (arcs_of net)) (filter (touches vertex) (arcs_of net)) on.arc (near-there net vertex) on.there in
    ⊎_elim {C = Contains (ways_of net flow) way}
    (λ adds. subst (Contains (ways_of net flow)) (sym adds) (adding-in net flow on.arc inside))
    (λ takes. subst (Contains (ways_of net flow)) (sym takes.0) (taking-in net flow on.arc inside takes.1)) on.is

pub near-to : (net : Net) (flow : Flow) (vertex : ℕ) (way : Way) → Contains (ways_of net flow) way → (way.tail ≡ vertex) ⊎ (way.head ≡ vertex) → Contains (ways_near net flow vertex) way
near-to net flow vertex way there at =
    let on = way-on net flow way there in
    ⊎_elim {C = Contains (ways_near net flow vertex) way}
    (λ adds.
    let touch : touches vertex on.arc ≡ true =
    ⊎_elim {C = touches vertex on.arc ≡ true}
    (λ tail. or_left (on.arc.tail == vertex) (on.arc.head == vertex) (eq-eqb on.arc.tail vertex (sym (ap (λ (w : Way). w.tail) adds) ∙ tail)))
    (λ head. or_right (on.arc.tail == vertex) (on.arc.head == vertex) (eq-eqb on.arc.head vertex (sym (ap (λ (w : Way). w.head) adds) ∙ head))) at in
    ways-there flow (filter (touches vertex) (arcs_of net)) on.arc way (filter-there (touches vertex) (arcs_of net) on.arc on.there touch)
    (subst (Contains (ways_on flow on.arc)) (sym adds) (adding-there flow on.arc)))
    (λ takes.
    let touch : touches vertex on.arc ≡ true =
    ⊎_elim {C = touches vertex on.arc ≡ true}
    (λ tail. or_right (on.arc.tail == vertex) (on.arc.head == vertex) (eq-eqb on.arc.head vertex (sym (ap (λ (w : Way). w.tail) takes.0) ∙ tail)))
    (λ head. or_left (on.arc.tail == vertex) (on.arc.head == vertex) (eq-eqb on.arc.tail vertex (sym (ap (λ (w : Way). w.head) takes.0) ∙ head))) at in
    ways-there flow (filter (touches vertex) (arcs_of net)) on.arc way (filter-there (touches vertex) (arcs_of net) on.arc on.there touch)
    (subst (Contains (ways_on flow on.arc)) (sym takes.0) (taking-there flow on.arc takes.1)))
    on.is

-- ---- Tight arcs by their test
pub tight-test : (far : ℕ → ℤ) (hops : ℕ → ℕ) (way : Way) → IsTight far hops way → is_tight far hops way ≡ true
tight-test far hops way tight =
    subst (λ r. is_reach (Some (led_by way (label far hops way.head))) r ≡ true) tight (is_reach-same (led_by way (label far hops way.head)))

pub test-tight : (far : ℕ → ℤ) (hops : ℕ → ℕ) (way : Way) → is_tight far hops way ≡ true → IsTight far hops way
test-tight far hops way test =
    let is = is_reach-is (Some (led_by way (label far hops way.head))) (label far hops way.tail) test in
    let same : led_by way (label far hops way.head) ≡ label far hops way.tail = cc in
    same

-- ---- Heads of tight arcs out of a vertex
heads-append : (far : ℕ → ℤ) (hops : ℕ → ℕ) (marks : List Bool) (vertex : ℕ) (a b : List Way) → heads_of far hops marks vertex (a ++ b) ≡ heads_of far hops marks vertex a ++ heads_of far hops marks vertex b
heads-append far hops marks vertex a b =
    ap (map (λ (way : Way). way.head)) (filter-append (leads_on far hops marks vertex) a b) ∙ map-append (λ (way : Way). way.head) (filter (leads_on far hops marks vertex) a) (filter (leads_on far hops marks vertex) b)

-- What is reached over one arc more, and then over the rest.
pub reached-step : (flow : Flow) (far : ℕ → ℤ) (hops : ℕ → ℕ) (marks : List Bool) (vertex : ℕ) (nears : List Near) (i : ℕ) (d : Near) (keys next : List ℕ) → i < length nears
    → next ≡ with_keys nat_eq keys (heads_of far hops marks vertex (ways_on flow (near_arc vertex (get_or nears i d))))
    → with_keys nat_eq next (heads_of far hops marks vertex (ways_by vertex flow (drop (i + 1) nears))) ≡ with_keys nat_eq keys (heads_of far hops marks vertex (ways_by vertex flow (drop i nears)))
reached-step flow far hops marks vertex nears i d keys next within is =
    let own = ways_on flow (near_arc vertex (get_or nears i d)) in
    let rest = ways_by vertex flow (drop (i + 1) nears) in
    let first : drop i nears ≡ get_or nears i d ∷ drop (i + 1) nears = drop-cons nears i d within ∙ ap (λ n. get_or nears i d ∷ drop n nears) (let h : suc i ≡ i + 1 = omega arith in h) in
    ap (λ ks. with_keys nat_eq ks (heads_of far hops marks vertex rest)) is
    ∙ sym (fold-append (with_key nat_eq) keys (heads_of far hops marks vertex own) (heads_of far hops marks vertex rest))
    ∙ ap (with_keys nat_eq keys) (sym (heads-append far hops marks vertex own rest))
    ∙ ap (λ ns. with_keys nat_eq keys (heads_of far hops marks vertex (ways_by vertex flow ns))) (sym first)

-- The residual arc that leaves a vertex is the only one on an arc there whose head may be reached.
pub heads-out : (flow : Flow) (far : ℕ → ℤ) (hops : ℕ → ℕ) (marks : List Bool) (vertex : ℕ) (near : Near) → near.other ≢ vertex
    → heads_of far hops marks vertex (ways_on flow (near_arc vertex near)) ≡ heads_of far hops marks vertex (only_if (is_residual flow (way_out vertex near)) (way_out vertex near))
heads-out flow far hops marks vertex near apart =
    ap (map (λ (way : Way). way.head))
    (out-alone (leads_on far hops marks vertex) flow vertex near apart (λ way passes. eqb-true way.tail vertex (and_parts (way.tail == vertex) (not (mark_at marks way.head) && is_tight far hops way) passes).0))

-- Where that isn't there, or isn't tight, or leads to a marked vertex, no head is reached.
pub heads-none : (flow : Flow) (far : ℕ → ℤ) (hops : ℕ → ℕ) (marks : List Bool) (vertex : ℕ) (near : Near) → near.other ≢ vertex
    → (is_residual flow (way_out vertex near) ≡ true → mark_at marks (way_out vertex near).head ≡ false → IsTight far hops (way_out vertex near) → ⊥) → heads_of far hops marks vertex (ways_on flow (near_arc vertex near)) ≡ []
heads-none flow far hops marks vertex near apart never =
    heads-out flow far hops marks vertex near apart ∙ by (is_residual flow way) (leads_on far hops marks vertex way) refl refl
  where
    way : Way
    way = way_out vertex near

    by : (there leads : Bool) → is_residual flow way ≡ there → leads_on far hops marks vertex way ≡ leads → heads_of far hops marks vertex (only_if there way) ≡ []
    by false leads is own = refl
    by true false is own = ap (λ b. map (λ (w : Way). w.head) (cond b (way ∷ []) [])) own
    by true true is own =
        let parts = and_parts (way.tail == vertex) (not (mark_at marks way.head) && is_tight far hops way) own in
        let rest = and_parts (not (mark_at marks way.head)) (is_tight far hops way) parts.1 in
        absurd (never is (not-true (mark_at marks way.head) rest.0) (test-tight far hops way rest.1))

head-among : (far : ℕ → ℤ) (hops : ℕ → ℕ) (marks : List Bool) (vertex : ℕ) (ways : List Way) (way : Way) → Contains ways way → way.tail ≡ vertex → IsTight far hops way → mark_at marks way.head ≡ false → is_among nat_eq way.head (heads_of far hops marks vertex ways) ≡ true
head-among far hops marks vertex [] way (k, within, is) begins tight free = absurd (omega arith)
head-among far hops marks vertex (first ∷ ways) way (zero, within, is) begins tight free =
    let test : leads_on far hops marks vertex way ≡ true =
    and_from (way.tail == vertex) (not (mark_at marks way.head) && is_tight far hops way) (eq-eqb way.tail vertex begins)
    (and_from (not (mark_at marks way.head)) (is_tight far hops way) (ap not free) (tight-test far hops way tight)) in
    let own : leads_on far hops marks vertex first ≡ true = ap (leads_on far hops marks vertex) is ∙ test in
    let here : nat_eq way.head first.head ≡ true = eq-eqb way.head first.head (sym (ap (λ (w : Way). w.head) is)) in
    subst (λ b. is_among nat_eq way.head (map (λ (w : Way). w.head) (cond b (first ∷ filter (leads_on far hops marks vertex) ways) (filter (leads_on far hops marks vertex) ways))) ≡ true) (sym own)
    (or_left (nat_eq way.head first.head) (is_among nat_eq way.head (heads_of far hops marks vertex ways)) here)
head-among far hops marks vertex (first ∷ ways) way (suc k, within, is) begins tight free =
    by (leads_on far hops marks vertex first) (head-among far hops marks vertex ways way (k, omega arith, is) begins tight free)
  where
    by : (b : Bool) → is_among nat_eq way.head (heads_of far hops marks vertex ways) ≡ true → is_among nat_eq way.head (map (λ (w : Way). w.head) (cond b (first ∷ filter (leads_on far hops marks vertex) ways) (filter (leads_on far hops marks vertex) ways))) ≡ true
    by true rest = or_right (nat_eq way.head first.head) (is_among nat_eq way.head (heads_of far hops marks vertex ways)) rest
    by false rest = rest

-- a tight arc from a vertex to another, which isn't marked
record Leads (far : ℕ → ℤ) (hops : ℕ → ℕ) (marks : List Bool) (ways : List Way) (vertex to : ℕ) : Type 0 where
  way : Way
  there : Contains ways way
  begins : way.tail ≡ vertex
  tight : IsTight far hops way
  free : mark_at marks way.head ≡ false
  ends : way.head ≡ to

among-head : (far : ℕ → ℤ) (hops : ℕ → ℕ) (marks : List Bool) (vertex : ℕ) (ways : List Way) (x : ℕ) → is_among nat_eq x (heads_of far hops marks vertex ways) ≡ true → Leads far hops marks ways vertex x
among-head far hops marks vertex [] x among = absurd (true≢false (sym among))
among-head far hops marks vertex (first ∷ ways) x among = by (leads_on far hops marks vertex first) refl among (among-head far hops marks vertex ways x)
  where
    later : Leads far hops marks ways vertex x → Leads far hops marks (first ∷ ways) vertex x
    later rest = let (k, within, is) = rest.there in record { way = rest.way; there = (suc k, omega arith, is); begins = rest.begins; tight = rest.tight; free = rest.free; ends = rest.ends }

    by : (b : Bool) → leads_on far hops marks vertex first ≡ b → is_among nat_eq x (map (λ (w : Way). w.head) (cond b (first ∷ filter (leads_on far hops marks vertex) ways) (filter (leads_on far hops marks vertex) ways))) ≡ true → (is_among nat_eq x (heads_of far hops marks vertex ways) ≡ true → Leads far hops marks ways vertex x) → Leads far hops marks (first ∷ ways) vertex x
    by true own among next =
        ⊎_elim {C = Leads far hops marks (first ∷ ways) vertex x}
        (λ here.
        let parts = and_parts (first.tail == vertex) (not (mark_at marks first.head) && is_tight far hops first) own in
        let rest = and_parts (not (mark_at marks first.head)) (is_tight far hops first) parts.1 in
        record {
          way = first;
          there = (0, omega arith, refl);
          begins = eqb-true first.tail vertex parts.0;
          tight = test-tight far hops first rest.1;
          free = not-true (mark_at marks first.head) rest.0;
          ends = sym (eqb-true x first.head here);
        })
        (λ rest. later (next rest)) (or_cases (nat_eq x first.head) (is_among nat_eq x (heads_of far hops marks vertex ways)) among)
    by false own among next = later (next among)

-- ---- Vertices among those that were reached
pub at-among : (xs : List ℕ) (i x : ℕ) → i < length xs → x ≡ get_or xs i 0 → is_among nat_eq x xs ≡ true
at-among [] i x within at = absurd (omega arith)
at-among (y ∷ xs) zero x within at = or_left (nat_eq x y) (is_among nat_eq x xs) (eq-eqb x y at)
at-among (y ∷ xs) (suc i) x within at = or_right (nat_eq x y) (is_among nat_eq x xs) (at-among xs i x (omega arith) at)

-- ---- The search
-- while vertices are reached: the first few of them have the heads of their tight arcs there
pub record ReachesOn (net : Net) (flow : Flow) (far : ℕ → ℤ) (hops : ℕ → ℕ) (marks : List Bool) (from : ℕ) (reached : List ℕ) (next : ℕ) : Type 0 where
  pub few : next ≤ length reached
  pub start : is_among nat_eq from reached ≡ true
  pub found : (x : ℕ) → is_among nat_eq x reached ≡ true → (steps : ℕ) × IsInLayer far hops (ways_of net flow) from steps x
  pub low : (x : ℕ) → is_among nat_eq x reached ≡ true → x < vertex_count net
  pub fresh : (x : ℕ) → is_among nat_eq x reached ≡ true → mark_at marks x ≡ false
  pub closed : (x : ℕ) → is_among nat_eq x (take next reached) ≡ true → (way : Way) → Contains (ways_of net flow) way → way.tail ≡ x → IsTight far hops way → mark_at marks way.head ≡ false → is_among nat_eq way.head reached ≡ true

only : (x y : ℕ) → is_among nat_eq x (y ∷ []) ≡ true → x ≡ y
only x y among = eqb-true x y (⊎_elim {C = nat_eq x y ≡ true} (λ same. same) (λ none. absurd (true≢false (sym none))) (or_cases (nat_eq x y) false among))

pub reaches-first : (net : Net) (flow : Flow) (far : ℕ → ℤ) (hops : ℕ → ℕ) (marks : List Bool) (from : ℕ) (reached : List ℕ) → reached ≡ from ∷ [] → from < vertex_count net → mark_at marks from ≡ false → ReachesOn net flow far hops marks from reached 0
reaches-first net flow far hops marks from reached is within free =
    let among : (x : ℕ) → is_among nat_eq x reached ≡ true → x ≡ from = λ x there. only x from (ap (is_among nat_eq x) (sym is) ∙ there) in record {
      few = omega arith;
      start = ap (is_among nat_eq from) is ∙ or_left (nat_eq from from) false (eq-eqb from from refl);
      found = λ x there. (0, record { walk = []; tight = record { goes = sym (among x there); tight = All-nil (IsTight far hops) }; long = refl });
      low = λ x there. (let same = among x there in omega (arith, same));
      fresh = λ x there. ap (mark_at marks) (among x there) ∙ free;
      closed = λ x there way inside begins tight unmarked. absurd (true≢false (sym there));
    }

pub reaches-next : (net : Net) (flow : Flow) (far : ℕ → ℤ) (hops : ℕ → ℕ) (marks : List Bool) (from : ℕ) (reached : List ℕ) (next vertex : ℕ) (new : List ℕ) → EndsAreVertices net → next < length reached → vertex ≡ get_or reached next 0
    → new ≡ with_keys nat_eq reached (heads_of far hops marks vertex (ways_near net flow vertex)) → ReachesOn net flow far hops marks from reached next → ReachesOn net flow far hops marks from new (next + 1)
reaches-next net flow far hops marks from reached next vertex new ends within here is was =
    let near = ways_near net flow vertex in
    let heads = heads_of far hops marks vertex near in
    let grown = keys-grow reached heads in
    let whole : new ≡ reached ++ grown.0 = is ∙ grown.1 in
    let among_new : (x : ℕ) → is_among nat_eq x new ≡ (is_among nat_eq x reached || is_among nat_eq x heads) = λ x. ap (is_among nat_eq x) is ∙ keys-among reached heads x in
    let old : (x : ℕ) → is_among nat_eq x reached ≡ true → is_among nat_eq x new ≡ true =
    λ x among. among_new x ∙ or_left (is_among nat_eq x reached) (is_among nat_eq x heads) among in
    let looked : take (next + 1) new ≡ take next reached ++ vertex ∷ [] =
    ap (take (next + 1)) whole ∙ take-append-le (next + 1) reached grown.0 (omega arith) ∙ take_more reached next 0 within ∙ ap (λ s. take next reached ++ s ∷ []) (sym here) in
    let itself : is_among nat_eq vertex reached ≡ true = at-among reached next vertex within here in
    let low = ways-low net flow ends in
    record {
      few = omega (arith, ap length whole, length-append reached grown.0);
      start = old from was.start;
      found = λ x among.
          ⊎_elim {C = (steps : ℕ) × IsInLayer far hops (ways_of net flow) from steps x} (λ before. was.found x before)
          (λ head.
          let leads = among-head far hops marks vertex near x head in
          let (steps, layer) = was.found vertex itself in
          let inside = near-from net flow vertex leads.way leads.there in (
            length (layer.walk ++ leads.way ∷ []),
            record {
              walk = layer.walk ++ leads.way ∷ [];
              tight = subst (λ v. IsTightWalk far hops (ways_of net flow) from v (layer.walk ++ leads.way ∷ [])) leads.ends (tight_walk-push far hops (ways_of net flow) from vertex layer.walk leads.way layer.tight inside leads.begins leads.tight);
              long = refl;
            },
          ))
          (or_cases (is_among nat_eq x reached) (is_among nat_eq x heads) (sym (among_new x) ∙ among));
      low = λ x among.
          ⊎_elim {C = x < vertex_count net} (λ before. was.low x before)
          (λ head.
          let leads = among-head far hops marks vertex near x head in
          let ends = All-contains (IsLow (vertex_count net)) (ways_of net flow) leads.way low (near-from net flow vertex leads.way leads.there) in
          let same = leads.ends in
          omega (arith, ends.1, same))
          (or_cases (is_among nat_eq x reached) (is_among nat_eq x heads) (sym (among_new x) ∙ among));
      fresh = λ x among.
          ⊎_elim {C = mark_at marks x ≡ false} (λ before. was.fresh x before)
          (λ head. let leads = among-head far hops marks vertex near x head in ap (mark_at marks) (sym leads.ends) ∙ leads.free)
          (or_cases (is_among nat_eq x reached) (is_among nat_eq x heads) (sym (among_new x) ∙ among));
      closed = λ x among way inside begins tight unmarked.
          ⊎_elim {C = is_among nat_eq way.head new ≡ true} (λ before. old way.head (was.closed x before way inside begins tight unmarked))
          (λ last.
          let at : way.tail ≡ vertex = begins ∙ only x vertex last in
          among_new way.head
          ∙ or_right (is_among nat_eq way.head reached) (is_among nat_eq way.head heads) (head-among far hops marks vertex near way (near-to net flow vertex way inside (inl at)) at tight unmarked))
          (or_cases (is_among nat_eq x (take next reached)) (is_among nat_eq x (vertex ∷ [])) (sym (list_any-append (nat_eq x) (take next reached) (vertex ∷ [])) ∙ ap (is_among nat_eq x) (sym looked) ∙ among));
    }

-- There are no more than the vertices,
pub reaches-few : (net : Net) (flow : Flow) (far : ℕ → ℤ) (hops : ℕ → ℕ) (marks : List Bool) (from : ℕ) (reached : List ℕ) (next : ℕ) → IsDistinct nat_eq reached → ReachesOn net flow far hops marks from reached next → length reached ≤ vertex_count net
reaches-few net flow far hops marks from reached next distinct was = length-le_from_distinct_below reached (vertex_count net) distinct was.low

-- A tight walk that ends at an unmarked vertex comes by no marked one, as marked vertices are dead,
pub tail-fresh : (net : Net) (flow : Flow) (far : ℕ → ℤ) (hops : ℕ → ℕ) (marks : List Bool) (way : Way) → AreDead net flow far hops marks → Contains (ways_of net flow) way → IsTight far hops way → mark_at marks way.head ≡ false → mark_at marks way.tail ≡ false
tail-fresh net flow far hops marks way dead there tight unmarked = by (mark_at marks way.tail) refl
  where
    by : (b : Bool) → mark_at marks way.tail ≡ b → mark_at marks way.tail ≡ false
    by false free = free
    by true marked =
        absurd (true≢false (sym (All-contains (λ (one : Way). IsTight far hops one → mark_at marks one.tail ≡ true → mark_at marks one.head ≡ true) (ways_of net flow) way dead there tight marked) ∙ unmarked))

walk-fresh : (net : Net) (flow : Flow) (far : ℕ → ℤ) (hops : ℕ → ℕ) (marks : List Bool) (at to : ℕ) (walk : List Way) → AreDead net flow far hops marks → IsTightWalk far hops (ways_of net flow) at to walk → mark_at marks to ≡ false → mark_at marks at ≡ false
walk-fresh net flow far hops marks at to [] dead tight unmarked = ap (mark_at marks) tight.goes ∙ unmarked
walk-fresh net flow far hops marks at to (way ∷ walk) dead tight unmarked =
    let (there, begins, goes) = tight.goes in
    let later = walk-fresh net flow far hops marks way.head to walk dead (tight_walk-tail far hops (ways_of net flow) at to way walk tight) unmarked in
    ap (mark_at marks) (sym begins) ∙ tail-fresh net flow far hops marks way dead there (All-head (IsTight far hops) way walk tight.tight) later

-- and so at the end all are reached.
pub reaches-all : (net : Net) (flow : Flow) (far : ℕ → ℤ) (hops : ℕ → ℕ) (marks : List Bool) (from : ℕ) (reached : List ℕ) (next : ℕ) → AreDead net flow far hops marks → length reached ≤ next → ReachesOn net flow far hops marks from reached next → AreReached net flow far hops marks from reached
reaches-all net flow far hops marks from reached next dead all was = record {
  found = was.found;
  low = was.low;
  fresh = was.fresh;
  all = λ vertex steps layer unmarked. along from layer.walk vertex layer.tight unmarked was.start;
}
  where
    along : (at : ℕ) (walk : List Way) (vertex : ℕ) → IsTightWalk far hops (ways_of net flow) at vertex walk → mark_at marks vertex ≡ false → is_among nat_eq at reached ≡ true → is_among nat_eq vertex reached ≡ true
    along at [] vertex tight unmarked among = subst (λ v. is_among nat_eq v reached ≡ true) tight.goes among
    along at (way ∷ walk) vertex tight unmarked among =
        let (there, begins, goes) = tight.goes in
        let own = All-head (IsTight far hops) way walk tight.tight in
        let rest = tight_walk-tail far hops (ways_of net flow) at vertex way walk tight in
        along way.head walk vertex rest unmarked
        (was.closed at (ap (is_among nat_eq at) (take_all next reached all) ∙ among) way there begins own (walk-fresh net flow far hops marks way.head vertex walk dead rest unmarked))
