-- Which labels a round leaves stale. A vertex that is found stale is marked, and the tails of the tight arcs into it are looked at again;
-- every other vertex keeps the arc that made it sound. At the end nobody is left to be looked at, so who isn't marked is sound.
use Rattle.std.proofs.Common.{◌≡◌, ◌≢◌, ◌<◌, ◌+◌, ◌==◌, ◌∙◌, ◌++◌, ◌⊎◌, inl, inr, ℕ, zero, suc, ℤ, Bool, true, false, cond, List, [], ◌∷◌, length, get_or, map, filter, drop, All, Any, Contains, Option, Some, None, refl, ap, sym, subst, arith, true≢false, ⊎_elim, append_assoc}
use Rattle.std.specs.Prelude.{slice_set}
use Rattle.std.specs.List.{sum_by}
use Rattle.std.proofs.Math.Seq.{drop-cons}
use Rattle.std.proofs.lemmas.Bool.{eqb-true, eq-eqb, and_parts, and_from}
use Rattle.std.proofs.lemmas.List.{get_or-set_same, get_or-set_other, length-set, map-append}
use Rattle.std.proofs.lemmas.List.Elements.{All-append, All-nil, All-cons, All-filter, All-map, All-contains, All-weaker, All-contains_itself, filter-append, Contains-append_left, Contains-append_right, Contains-append_cases}
use Rattle.net_base.proofs.CallerLemmas.{Contains-one}
use Rattle.flow_net.specs.declared.net.Net.{Net}
use Rattle.flow_net.specs.declared.net.Flow.{Flow}
use Rattle.stage_flow.specs.declared.ways.Near.{Near}
use Rattle.stage_flow.specs.Residual.{Way, ways_on, ways_of, vertex_count}
use Rattle.stage_flow.specs.Rounds.{is_wanting}
use Rattle.stage_flow.specs.LawsOfWalks.{IsTight, EndsAreVertices}
use Rattle.stage_flow.specs.Given.{near_arc}
use Rattle.stage_flow.specs.Sending.{way_in, ways_by, ways_near, is_residual, is_tight}
use Rattle.stage_flow.specs.Passes.{mark_at}
use Rattle.stage_flow.specs.Mending.{IsSound}
use Rattle.stage_flow.specs.Staleness.{LeadsAway, NoneLeadsAway, leads_to, tails_of, AreSpread}
use Rattle.stage_flow.proofs.Labels.{IsLow}
use Rattle.stage_flow.proofs.Round.{ways-low}
use Rattle.stage_flow.proofs.NearArcs.{only_if, in-alone}
use Rattle.stage_flow.proofs.SendingSearch.{near-from, near-to, tight-test, test-tight}

-- ---- Tails of tight arcs
pub tails-append : (far : ℕ → ℤ) (hops : ℕ → ℕ) (vertex : ℕ) (a b : List Way) → tails_of far hops vertex (a ++ b) ≡ tails_of far hops vertex a ++ tails_of far hops vertex b
tails-append far hops vertex a b =
    ap (map (λ (way : Way). way.tail)) (filter-append (leads_to far hops vertex) a b) ∙ map-append (λ (way : Way). way.tail) (filter (leads_to far hops vertex) a) (filter (leads_to far hops vertex) b)

-- The tail of a tight arc into a vertex is among them.
pub tail-among : (far : ℕ → ℤ) (hops : ℕ → ℕ) (vertex : ℕ) (ways : List Way) (way : Way) → Contains ways way → way.head ≡ vertex → IsTight far hops way → Contains (tails_of far hops vertex ways) way.tail
tail-among far hops vertex [] way (k, within, is) ends tight = absurd (omega arith)
tail-among far hops vertex (first ∷ ways) way (zero, within, is) ends tight =
    let test : leads_to far hops vertex way ≡ true = and_from (way.head == vertex) (is_tight far hops way) (eq-eqb way.head vertex ends) (tight-test far hops way tight) in
    let own : leads_to far hops vertex first ≡ true = ap (leads_to far hops vertex) is ∙ test in
    subst (λ b. Contains (map (λ (w : Way). w.tail) (cond b (first ∷ filter (leads_to far hops vertex) ways) (filter (leads_to far hops vertex) ways))) way.tail) (sym own)
    (0, omega arith, ap (λ (w : Way). w.tail) is)
tail-among far hops vertex (first ∷ ways) way (suc k, within, is) ends tight =
    by (leads_to far hops vertex first) (tail-among far hops vertex ways way (k, omega arith, is) ends tight)
  where
    by : (b : Bool) → Contains (tails_of far hops vertex ways) way.tail → Contains (map (λ (w : Way). w.tail) (cond b (first ∷ filter (leads_to far hops vertex) ways) (filter (leads_to far hops vertex) ways))) way.tail
    by true (j, inside, at) = (suc j, omega arith, at)
    by false rest = rest

-- and all of them are vertices.
pub tails-low : (net : Net) (flow : Flow) (far : ℕ → ℤ) (hops : ℕ → ℕ) (vertex : ℕ) → EndsAreVertices net → All (λ tail. tail < vertex_count net) (tails_of far hops vertex (ways_near net flow vertex))
tails-low net flow far hops vertex ends =
    All-map (λ tail. tail < vertex_count net) (λ (way : Way). way.tail) (filter (leads_to far hops vertex) (ways_near net flow vertex))
    (All-filter (leads_to far hops vertex) (λ (way : Way). way.tail < vertex_count net) (ways_near net flow vertex)
    (All-weaker (Contains (ways_near net flow vertex)) (λ (way : Way). way.tail < vertex_count net)
    (λ way there. (All-contains (IsLow (vertex_count net)) (ways_of net flow) way (ways-low net flow ends) (near-from net flow vertex way there)).0)
    (ways_near net flow vertex) (All-contains_itself (ways_near net flow vertex))))

-- What is listed over one arc more, and then over the rest.
pub tails-step : (flow : Flow) (far : ℕ → ℤ) (hops : ℕ → ℕ) (vertex : ℕ) (nears : List Near) (i : ℕ) (d : Near) (pending next : List ℕ) → i < length nears
    → next ≡ pending ++ tails_of far hops vertex (ways_on flow (near_arc vertex (get_or nears i d)))
    → next ++ tails_of far hops vertex (ways_by vertex flow (drop (i + 1) nears)) ≡ pending ++ tails_of far hops vertex (ways_by vertex flow (drop i nears))
tails-step flow far hops vertex nears i d pending next within is =
    let own = ways_on flow (near_arc vertex (get_or nears i d)) in
    let rest = ways_by vertex flow (drop (i + 1) nears) in
    let first : drop i nears ≡ get_or nears i d ∷ drop (i + 1) nears = drop-cons nears i d within ∙ ap (λ n. get_or nears i d ∷ drop n nears) (let h : suc i ≡ i + 1 = omega arith in h) in
    ap (λ ps. ps ++ tails_of far hops vertex rest) is
    ∙ append_assoc pending (tails_of far hops vertex own) (tails_of far hops vertex rest)
    ∙ ap (λ ts. pending ++ ts) (sym (tails-append far hops vertex own rest))
    ∙ ap (λ ns. pending ++ tails_of far hops vertex (ways_by vertex flow ns)) (sym first)

-- The residual arc that enters a vertex is the only one on an arc there whose tail may be listed.
pub tails-in : (flow : Flow) (far : ℕ → ℤ) (hops : ℕ → ℕ) (vertex : ℕ) (near : Near) → near.other ≢ vertex
    → tails_of far hops vertex (ways_on flow (near_arc vertex near)) ≡ tails_of far hops vertex (only_if (is_residual flow (way_in vertex near)) (way_in vertex near))
tails-in flow far hops vertex near apart =
    ap (map (λ (way : Way). way.tail))
    (in-alone (leads_to far hops vertex) flow vertex near apart (λ way passes. eqb-true way.head vertex (and_parts (way.head == vertex) (is_tight far hops way) passes).0))

-- Where that isn't there, or isn't tight, no tail is listed.
pub tails-none : (flow : Flow) (far : ℕ → ℤ) (hops : ℕ → ℕ) (vertex : ℕ) (near : Near) → near.other ≢ vertex
    → (is_residual flow (way_in vertex near) ≡ true → IsTight far hops (way_in vertex near) → ⊥) → tails_of far hops vertex (ways_on flow (near_arc vertex near)) ≡ []
tails-none flow far hops vertex near apart never =
    tails-in flow far hops vertex near apart ∙ by (is_residual flow way) (leads_to far hops vertex way) refl refl
  where
    way : Way
    way = way_in vertex near

    by : (there leads : Bool) → is_residual flow way ≡ there → leads_to far hops vertex way ≡ leads → tails_of far hops vertex (only_if there way) ≡ []
    by false leads is own = refl
    by true false is own = ap (λ b. map (λ (w : Way). w.tail) (cond b (way ∷ []) [])) own
    by true true is own = absurd (never is (test-tight far hops way (and_parts (way.head == vertex) (is_tight far hops way) own).1))

-- ---- Marks
mark-here : (marks : List Bool) (vertex : ℕ) → vertex < length marks → mark_at (slice_set marks vertex true) vertex ≡ true
mark-here marks vertex within = get_or-set_same marks vertex true false within

mark-other : (marks : List Bool) (vertex other : ℕ) → other ≢ vertex → mark_at (slice_set marks vertex true) other ≡ mark_at marks other
mark-other marks vertex other apart = get_or-set_other marks vertex other true false apart

-- What is unmarked was so before one mark more.
pub unmarked-before : (marks : List Bool) (vertex other : ℕ) → mark_at (slice_set marks vertex true) other ≡ false → mark_at marks other ≡ false
unmarked-before [] vertex other is = is
unmarked-before (mark ∷ marks) zero zero is = absurd (cc)
unmarked-before (mark ∷ marks) zero (suc other) is = is
unmarked-before (mark ∷ marks) (suc vertex) zero is = is
unmarked-before (mark ∷ marks) (suc vertex) (suc other) is = unmarked-before marks vertex other is

-- How many vertices are unmarked; one mark more leaves fewer.
abbrev pub unmarked : List Bool → ℕ
unmarked marks = sum_by (λ (mark : Bool). cond mark 0 1) marks

-- ---- One stale vertex more
-- what was looked at for the next stale vertex: each vertex that was to be looked at still is, or is the one, or is marked or sound
abbrev pub WasLookedAt : Net → Flow → (ℕ → ℤ) → (ℕ → ℕ) → List Bool → List ℕ → List ℕ → ℕ → Type 0
WasLookedAt net flow far hops marks before after found =
    (vertex : ℕ) → Contains before vertex → Contains after vertex ⊎ ((found ≡ vertex) ⊎ ((mark_at marks vertex ≡ true) ⊎ IsSound net flow far hops marks vertex))

pub spread-more : (net : Net) (flow : Flow) (far : ℕ → ℤ) (hops : ℕ → ℕ) (marks : List Bool) (vertices before after : List ℕ) (found : ℕ) → EndsAreVertices net → length marks ≡ vertex_count net
    → found < vertex_count net → is_wanting net flow found ≡ false → NoneLeadsAway far hops marks found (ways_of net flow) → All (λ v. v < vertex_count net) after → WasLookedAt net flow far hops marks before after found
    → AreSpread net flow far hops marks vertices before
    → AreSpread net flow far hops (slice_set marks found true) (vertices ++ found ∷ []) (after ++ tails_of far hops found (ways_near net flow found))
spread-more net flow far hops marks vertices before after found ends each low idle nowhere lows looked was = record {
  marked = record {
    low = All-append (λ v. v < vertex_count net) vertices (found ∷ []) was.marked.low (All-cons (λ v. v < vertex_count net) found [] low (All-nil (λ v. v < vertex_count net)));
    all = λ v marked. listed v marked;
  };
  unmarked = λ v wants. mark-other marks found v (λ same. true≢false (sym wants ∙ ap (is_wanting net flow) same ∙ idle)) ∙ was.unmarked v wants;
  low = All-append (λ v. v < vertex_count net) after (tails_of far hops found near) lows (tails-low net flow far hops found ends);
  sound = λ v within none. still v within none;
  dead =
      All-weaker (Contains (ways_of net flow)) (λ way. IsTight far hops way → mark_at new way.tail ≡ true → mark_at new way.head ≡ true) dead-on
      (ways_of net flow) (All-contains_itself (ways_of net flow));
}
  where
    near : List Way
    near = ways_near net flow found

    new : List Bool
    new = slice_set marks found true

    inside : found < length marks
    inside = omega (arith, each)

    listed : (v : ℕ) → mark_at new v ≡ true → Contains (vertices ++ found ∷ []) v
    listed v marked = by (v == found) refl
      where
        by : (b : Bool) → (v == found) ≡ b → Contains (vertices ++ found ∷ []) v
        by true same = Contains-append_right vertices (found ∷ []) v (0, omega arith, sym (eqb-true v found same))
        by false other = Contains-append_left vertices (found ∷ []) v (was.marked.all v (sym (mark-other marks found v (λ same. true≢false (sym (eq-eqb v found same) ∙ other))) ∙ marked))

    other : (v : ℕ) → mark_at new v ≡ false → v ≢ found
    other v none same = true≢false (sym (mark-here marks found inside) ∙ ap (mark_at new) (sym same) ∙ none)

    -- a vertex that was sound is so still, or its arc led to the one that is stale now
    kept : (v : ℕ) → IsSound net flow far hops marks v → Contains (after ++ tails_of far hops found near) v ⊎ IsSound net flow far hops new v
    kept v (inl wants) = inr (inl wants)
    kept v (inr (k, way, within, there, (begins, tight, free))) = by (way.head == found) refl
      where
        by : (b : Bool) → (way.head == found) ≡ b → Contains (after ++ tails_of far hops found near) v ⊎ IsSound net flow far hops new v
        by true same =
            let at : way.head ≡ found = eqb-true way.head found same in
            let close = near-to net flow found way (k, within, there) (inr at) in
            inl (subst (Contains (after ++ tails_of far hops found near)) begins (Contains-append_right after (tails_of far hops found near) way.tail (tail-among far hops found near way close at tight)))
        by false apart =
            let away = mark-other marks found way.head (λ same. true≢false (sym (eq-eqb way.head found same) ∙ apart)) in
            inr (inr (k, way, within, there, (begins, tight, away ∙ free)))

    still : (v : ℕ) → v < vertex_count net → mark_at new v ≡ false → Contains (after ++ tails_of far hops found near) v ⊎ IsSound net flow far hops new v
    still v within none =
        let apart = other v none in
        let before_none : mark_at marks v ≡ false = sym (mark-other marks found v apart) ∙ none in
        ⊎_elim {C = Contains (after ++ tails_of far hops found near) v ⊎ IsSound net flow far hops new v}
        (λ was_pending.
        ⊎_elim {C = Contains (after ++ tails_of far hops found near) v ⊎ IsSound net flow far hops new v}
        (λ pending. inl (Contains-append_left after (tails_of far hops found near) v pending))
        (λ rest.
        ⊎_elim {C = Contains (after ++ tails_of far hops found near) v ⊎ IsSound net flow far hops new v}
        (λ same. absurd (apart (sym same)))
        (λ more.
        ⊎_elim {C = Contains (after ++ tails_of far hops found near) v ⊎ IsSound net flow far hops new v}
        (λ marked. absurd (true≢false (sym marked ∙ before_none)))
        (kept v) more) rest) (looked v was_pending))
        (kept v) (was.sound v within before_none)

    -- a vertex that was marked before leads to no other, and nor does the one that is stale now
    dead-on : (way : Way) → Contains (ways_of net flow) way → IsTight far hops way → mark_at new way.tail ≡ true → mark_at new way.head ≡ true
    dead-on way there tight marked = by (way.head == found) refl
      where
        onward : (b : Bool) → (way.tail == found) ≡ b → (m : Bool) → mark_at marks way.head ≡ m → mark_at marks way.head ≡ true
        onward b is true held = held
        onward true same false free =
            absurd (All-contains (λ (one : Way). LeadsAway far hops marks found one → ⊥) (ways_of net flow) way nowhere there (eqb-true way.tail found same, tight, free))
        onward false apart false free =
            let old = mark-other marks found way.tail (λ same. true≢false (sym (eq-eqb way.tail found same) ∙ apart)) in
            All-contains (λ (one : Way). IsTight far hops one → mark_at marks one.tail ≡ true → mark_at marks one.head ≡ true) (ways_of net flow) way was.dead there tight (sym old ∙ marked)

        by : (b : Bool) → (way.head == found) ≡ b → mark_at new way.head ≡ true
        by true same = ap (mark_at new) (eqb-true way.head found same) ∙ mark-here marks found inside
        by false apart =
            mark-other marks found way.head (λ same. true≢false (sym (eq-eqb way.head found same) ∙ apart)) ∙ onward (way.tail == found) refl (mark_at marks way.head) refl

-- ---- Arcs that lead on
any-there : {A : Type 0} (P : A → Type 0) (items : List A) (item : A) → Contains items item → P item → Any P items
any-there P items item (k, within, is) holds = (k, item, within, is, holds)

-- One of the residual arcs on one of several arcs passes,
pub any-by : (P : Way → Type 0) (flow : Flow) (vertex : ℕ) (nears : List Near) (i : ℕ) (d : Near) → i < length nears → Any P (ways_on flow (near_arc vertex (get_or nears i d))) → Any P (ways_by vertex flow nears)
any-by P flow vertex [] i d within any = absurd (omega arith)
any-by P flow vertex (first ∷ nears) zero d within (k, way, low, is, holds) =
    any-there P (ways_by vertex flow (first ∷ nears)) way (Contains-append_left (ways_on flow (near_arc vertex first)) (ways_by vertex flow nears) way (k, low, is)) holds
any-by P flow vertex (first ∷ nears) (suc i) d within any =
    let (k, way, low, is, holds) = any-by P flow vertex nears i d (omega arith) any in
    any-there P (ways_by vertex flow (first ∷ nears)) way (Contains-append_right (ways_on flow (near_arc vertex first)) (ways_by vertex flow nears) way (k, low, is)) holds

-- Where nothing leads away from a vertex by the arcs near it, nothing does.
pub near-none : (net : Net) (flow : Flow) (far : ℕ → ℤ) (hops : ℕ → ℕ) (marks : List Bool) (vertex : ℕ) (ways : List Way) → ways ≡ ways_near net flow vertex → NoneLeadsAway far hops marks vertex ways → NoneLeadsAway far hops marks vertex (ways_of net flow)
near-none net flow far hops marks vertex ways is none =
    All-weaker (Contains (ways_of net flow)) (λ (way : Way). LeadsAway far hops marks vertex way → ⊥)
    (λ way there leads.
    All-contains (λ (one : Way). LeadsAway far hops marks vertex one → ⊥) (ways_near net flow vertex) way
    (subst (NoneLeadsAway far hops marks vertex) is none) (near-to net flow vertex way there (inl leads.0)) leads)
    (ways_of net flow) (All-contains_itself (ways_of net flow))

-- What leads away from a vertex by the arcs near it makes it sound.
pub near-sound : (net : Net) (flow : Flow) (far : ℕ → ℤ) (hops : ℕ → ℕ) (marks : List Bool) (vertex : ℕ) (ways : List Way) → ways ≡ ways_near net flow vertex → Any (LeadsAway far hops marks vertex) ways → IsSound net flow far hops marks vertex
near-sound net flow far hops marks vertex ways is any =
    let (k, way, low, at, holds) = subst (Any (LeadsAway far hops marks vertex)) is any in
    inr (any-there (LeadsAway far hops marks vertex) (ways_of net flow) way (near-from net flow vertex way (k, low, at)) holds)

-- What was looked at, when one vertex more was taken off and found marked or sound,
pub looked-on : {Rest : ℕ → Type 0} (initial before after : List ℕ) (taken : ℕ) → before ≡ after ++ taken ∷ [] → Rest taken → ((vertex : ℕ) → Contains initial vertex → Contains before vertex ⊎ Rest vertex) → (vertex : ℕ) → Contains initial vertex → Contains after vertex ⊎ Rest vertex
looked-on {Rest} initial before after taken is rest looked vertex there =
    ⊎_elim {C = Contains after vertex ⊎ Rest vertex}
    (λ still.
    ⊎_elim {C = Contains after vertex ⊎ Rest vertex} (λ left. inl left)
    (λ last. inr (subst Rest (Contains-one taken vertex last) rest))
    (Contains-append_cases after (taken ∷ []) vertex (subst (λ xs. Contains xs vertex) is still)))
    inr (looked vertex there)

-- and when it was the next stale one.
pub looked-last : {Rest : ℕ → Type 0} (initial before after : List ℕ) (taken : ℕ) → before ≡ after ++ taken ∷ [] → ((vertex : ℕ) → Contains initial vertex → Contains before vertex ⊎ Rest vertex) → (vertex : ℕ) → Contains initial vertex → Contains after vertex ⊎ ((Some taken ≡ Some vertex) ⊎ Rest vertex)
looked-last {Rest} initial before after taken is looked vertex there =
    ⊎_elim {C = Contains after vertex ⊎ ((Some taken ≡ Some vertex) ⊎ Rest vertex)}
    (λ still.
    ⊎_elim {C = Contains after vertex ⊎ ((Some taken ≡ Some vertex) ⊎ Rest vertex)} (λ left. inl left)
    (λ last. inr (inl (ap Some (Contains-one taken vertex last))))
    (Contains-append_cases after (taken ∷ []) vertex (subst (λ xs. Contains xs vertex) is still)))
    (λ rest. inr (inr rest)) (looked vertex there)

pub length-marked : (marks : List Bool) (vertex : ℕ) → length (slice_set marks vertex true) ≡ length marks
length-marked marks vertex = length-set marks vertex true

-- what an answer says was looked at
abbrev pub LookedAt : Net → Flow → (ℕ → ℤ) → (ℕ → ℕ) → List Bool → List ℕ → List ℕ → Option ℕ → Type 0
LookedAt net flow far hops marks before after answer =
    (vertex : ℕ) → Contains before vertex → Contains after vertex ⊎ ((answer ≡ Some vertex) ⊎ ((mark_at marks vertex ≡ true) ⊎ IsSound net flow far hops marks vertex))

-- An answer is one vertex,
pub found-one : (net : Net) (flow : Flow) (far : ℕ → ℤ) (hops : ℕ → ℕ) (marks : List Bool) (before after : List ℕ) (found : ℕ) → LookedAt net flow far hops marks before after (Some found) → WasLookedAt net flow far hops marks before after found
found-one net flow far hops marks before after found looked vertex there =
    ⊎_elim {C = Contains after vertex ⊎ ((found ≡ vertex) ⊎ ((mark_at marks vertex ≡ true) ⊎ IsSound net flow far hops marks vertex))} inl
    (λ rest.
    ⊎_elim {C = Contains after vertex ⊎ ((found ≡ vertex) ⊎ ((mark_at marks vertex ≡ true) ⊎ IsSound net flow far hops marks vertex))}
    (λ one. inr (inl (cc)))
    (λ more. inr (inr more)) rest) (looked vertex there)

-- and where there is none all are sound or marked.
pub spread-done : (net : Net) (flow : Flow) (far : ℕ → ℤ) (hops : ℕ → ℕ) (marks : List Bool) (vertices before after : List ℕ) (answer : Option ℕ) → after ≡ [] → answer ≡ None → LookedAt net flow far hops marks before after answer → AreSpread net flow far hops marks vertices before → AreSpread net flow far hops marks vertices []
spread-done net flow far hops marks vertices before after answer empty none looked was = record {
  marked = was.marked;
  unmarked = was.unmarked;
  low = All-nil (λ v. v < vertex_count net);
  sound = λ v within unmarked.
      ⊎_elim {C = Contains [] v ⊎ IsSound net flow far hops marks v}
      (λ pending.
      ⊎_elim {C = Contains [] v ⊎ IsSound net flow far hops marks v}
      (λ left. inl (subst (λ xs. Contains xs v) empty left))
      (λ rest.
      ⊎_elim {C = Contains [] v ⊎ IsSound net flow far hops marks v}
      (λ one. absurd (cc (sym none ∙ one)))
      (λ more.
      ⊎_elim {C = Contains [] v ⊎ IsSound net flow far hops marks v}
      (λ marked. absurd (true≢false (sym marked ∙ unmarked))) inr more) rest) (looked v pending))
      inr (was.sound v within unmarked);
  dead = was.dead;
}
