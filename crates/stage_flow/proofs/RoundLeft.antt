-- What a round leaves of labels. A residual arc is lost only where it took a unit back and the path took it too, so its tail is on the
-- path; every other vertex keeps its tight arc. A residual arc that is new is the reverse of a tight one, and not tight. Of who wants, the
-- receiver alone changes: it wants no more.
use Rattle.std.proofs.Common.{◌≡◌, ◌<◌, ◌≤◌, ◌+◌, ◌==◌, ◌&&◌, ◌/◌, ◌∙◌, ◌++◌, ◌⊎◌, ◌+ℤ◌, ◌-ℤ◌, ◌≤ℤ◌, inl, inr, ℕ, ℤ, suc, pos, nat_lt, nat_le, int_lt, Bool, true, false, not, cond, List, [], ◌∷◌, length, All, Contains, Some, refl, ap, sym, subst, arith, true≢false, ⊎_elim}
use Rattle.std.proofs.lemmas.Bool.{cases_eq, cases_lt, eqb-true, eq-eqb, ne_eqb, leb-true, and_parts}
use Rattle.std.proofs.lemmas.Bool.Decides.{nat_tests}
use Rattle.std.proofs.lemmas.Int.{ints}
use Rattle.std.proofs.lemmas.List.Elements.{All-nil, All-cons, All-head, All-tail, All-append, All-map, All-contains, All-weaker, Contains-append_left, Contains-append_right}
use Rattle.flow_net.specs.declared.net.Net.{Net}
use Rattle.flow_net.specs.declared.net.Flow.{Flow}
use Rattle.flow_net.specs.Arcs.{Arc, arcs_of}
use Rattle.flow_net.specs.Flows.{units_on, out_minus_in, wants as wanted_of}
use Rattle.stage_flow.specs.Residual.{Way, adding, taking, ways_of, vertex_count}
use Rattle.stage_flow.specs.Rounds.{sender, is_wanting, path_of, moved, along, sent_along, after_round}
use Rattle.stage_flow.specs.LawsOfWalks.{IsTight, IsWalk, HasUnits, IsRound, unit_at}
use Rattle.stage_flow.specs.LawsOfSending.{IsPartFlow}
use Rattle.stage_flow.specs.Given.{IsNetwork}
use Rattle.stage_flow.specs.Mending.{IsSound, AreMarked}
use Rattle.stage_flow.specs.Passes.{mark_at}
use Rattle.stage_flow.specs.Staleness.{AreDead, AreSpread, end_of, AreLeftByRound, tails_on, AreKept}
use Rattle.stage_flow.proofs.Labels.{IsLow, tight-nearer, wanting-low}
use Rattle.stage_flow.proofs.FreshLabels.{fresh-labels_for, fresh-wanting}
use Rattle.stage_flow.proofs.Units.{arc-same, arc-low, units_on-along, units_on-others}
use Rattle.stage_flow.proofs.Along.{way-on, adding-in, taking-in, has_units-along, IsOnArc, on_arc, walk-inside, kept-sent}
use Rattle.stage_flow.proofs.Round.{ways-low, sender-low, after_round-is, rounds_go_by_labels}
use Rattle.stage_flow.proofs.Wants.{sender-low as sends-low}
use Rattle.stage_flow.proofs.Wanting.{wants-mirror}
use Rattle.stage_flow.proofs.StillToSend.{sender-sends}
use Rattle.stage_flow.proofs.ProgressNetworks.{ends-among}

-- ---- Residual arcs that stay
-- A residual arc stays when a unit goes along one that leaves another vertex,
still-along : (net : Net) (flow : Flow) (way other : Way) → HasUnits net flow → IsOnArc net way → (way.tail ≡ other.tail → ⊥) → Contains (ways_of net flow) other → Contains (ways_of net (along way flow)) other
still-along net flow way other units (arc, there, of) apart inside =
    let on = way-on net flow other inside in
    ⊎_elim {C = Contains (ways_of net (along way flow)) other}
    (λ adds. subst (Contains (ways_of net (along way flow))) (sym adds) (adding-in net (along way flow) on.arc on.there))
    (λ takes. subst (Contains (ways_of net (along way flow))) (sym takes.0) (taking-in net (along way flow) on.arc on.there (some on.arc on.there takes.0 takes.1)))
    on.is
  where
    some : (a : Arc) → Contains (arcs_of net) a → other ≡ taking a → 0 < units_on flow a → 0 < units_on (along way flow) a
    some a at takes had =
        let within : a.number / 2 < length flow.pins = omega (arith, arc-low net a at, units.each) in
        ⊎_elim {C = 0 < units_on (along way flow) a}
        (λ same.
        let changed = units_on-along way flow a within same in
        ⊎_elim {C = 0 < units_on (along way flow) a}
        (λ adds. let more = ap (λ (w : Way). moved w.takes (units_on flow a)) adds in omega (arith, changed, more))
        (λ back.
        let number = ap (λ (w : Way). w.number) back in
        let one : a ≡ arc = arc-same net a arc at there (same ∙ number) in
        absurd (apart (ap (λ (w : Way). w.tail) back ∙ sym (ap (λ (x : Arc). x.head) one) ∙ sym (ap (λ (w : Way). w.tail) takes))))
        of)
        (λ differs. let kept = units_on-others way flow a within differs in omega (arith, kept, had))
        (cases_eq a.number way.number)

-- and so it does when one goes along a path that never leaves its tail.
pub still-sent : (net : Net) (flow : Flow) (path : List Way) (other : Way) → HasUnits net flow → All (IsOnArc net) path → All (λ way. way.tail ≡ other.tail → ⊥) path → Contains (ways_of net flow) other → Contains (ways_of net (sent_along path flow)) other
still-sent net flow [] other units on apart inside = inside
still-sent net flow (way ∷ path) other units on apart inside =
    still-sent net (along way flow) path other (has_units-along net flow way units)
    (All-tail (IsOnArc net) way path on) (All-tail (λ one. one.tail ≡ other.tail → ⊥) way path apart)
    (still-along net flow way other units (All-head (IsOnArc net) way path on) (All-head (λ one. one.tail ≡ other.tail → ⊥) way path apart) inside)

-- ---- Who wants
walk-ends : (ways : List Way) (from to : ℕ) (walk : List Way) → IsWalk ways from to walk → end_of from walk ≡ to
walk-ends ways from to [] here = here
walk-ends ways from to (way ∷ walk) (there, begins, goes) = walk-ends ways way.head to walk goes

no-less : (a b : ℤ) → b ≤ℤ a → int_lt a b ≡ false
no-less a b over = grind (arith, ints)

and-last : (a b c : Bool) → c ≡ false → (a && (b && c)) ≡ false
and-last false b c none = refl
and-last true false c none = refl
and-last true true c none = none

and-true : (a b : Bool) → b ≡ true → (a && b) ≡ a
and-true false b is = refl
and-true true b is = is

and-false : (a b : Bool) → b ≡ false → (a && b) ≡ false
and-false false b is = refl
and-false true b is = is

-- whether a vertex is a mirror and wants, by what leaves it less what enters it
abbrev wants-by : Net → ℕ → ℤ → Bool
wants-by net vertex out = nat_le (net.gates + 2) vertex && (nat_lt vertex (vertex_count net) && int_lt (wanted_of net vertex) out)

elsewhere : (place vertex : ℕ) → (place ≡ vertex → ⊥) → unit_at place vertex ≡ pos 0
elsewhere place vertex apart = ap (λ b. cond b (pos 1) (pos 0)) (ne_eqb place vertex apart)

here : (place : ℕ) → unit_at place place ≡ pos 1
here place = ap (λ b. cond b (pos 1) (pos 0)) (eq-eqb place place refl)

-- After a round the receiver wants no more, and nobody else changes.
wanting-after : (net : Net) (flow after : Flow) (from mirror : ℕ) → IsPartFlow net flow → from < net.gates + 2 → is_wanting net flow mirror ≡ true
    → ((vertex : ℕ) → out_minus_in net after vertex ≡ (out_minus_in net flow vertex +ℤ unit_at from vertex) -ℤ unit_at mirror vertex)
    → (vertex : ℕ) → is_wanting net after vertex ≡ (is_wanting net flow vertex && not (vertex == mirror))
wanting-after net flow after from mirror part low wants ends vertex = by (vertex == mirror) refl
  where
    rest : Bool
    rest = nat_lt mirror (vertex_count net) && int_lt (wanted_of net mirror) (out_minus_in net flow mirror)

    high : net.gates + 2 ≤ mirror
    high = leb-true (net.gates + 2) mirror (and_parts (nat_le (net.gates + 2) mirror) rest wants).0

    within : mirror < vertex_count net
    within = wanting-low net flow mirror wants

    served : wants-by net mirror (out_minus_in net after mirror) ≡ false
    served =
        let wanted = wants-mirror net mirror high within in
        let most = (part.received mirror high).1 in
        let out = ends mirror in
        let none = elsewhere from mirror (λ same. absurd (omega (arith, same, low, high))) in
        let one = here mirror in
        and-last (nat_le (net.gates + 2) mirror) (nat_lt mirror (vertex_count net)) (int_lt (wanted_of net mirror) (out_minus_in net after mirror))
        (no-less (wanted_of net mirror) (out_minus_in net after mirror) (omega (arith, ints, wanted, most, out, none, one)))

    other : (vertex ≡ mirror → ⊥) → is_wanting net after vertex ≡ is_wanting net flow vertex
    other apart =
        ⊎_elim {C = is_wanting net after vertex ≡ is_wanting net flow vertex}
        (λ (below : vertex < net.gates + 2).
        let test : nat_le (net.gates + 2) vertex ≡ false = grind (arith, nat_tests) in
        ap (λ b. b && (nat_lt vertex (vertex_count net) && int_lt (wanted_of net vertex) (out_minus_in net after vertex))) test
        ∙ sym (ap (λ b. b && (nat_lt vertex (vertex_count net) && int_lt (wanted_of net vertex) (out_minus_in net flow vertex))) test))
        (λ (above : net.gates + 2 ≤ vertex).
        let none = elsewhere from vertex (λ same. absurd (omega (arith, same, low, above))) in
        let nothing = elsewhere mirror vertex (λ same. apart (sym same)) in
        let out = ends vertex in
        ap (wants-by net vertex) (let same : out_minus_in net after vertex ≡ out_minus_in net flow vertex = omega (arith, ints, out, none, nothing) in same))
        (cases_lt vertex (net.gates + 2))

    by : (b : Bool) → (vertex == mirror) ≡ b → is_wanting net after vertex ≡ (is_wanting net flow vertex && not b)
    by true same = ap (is_wanting net after) (eqb-true vertex mirror same) ∙ served ∙ sym (and-false (is_wanting net flow vertex) (not true) refl)
    by false apart = other (λ same. true≢false (sym (eq-eqb vertex mirror same) ∙ apart)) ∙ sym (and-true (is_wanting net flow vertex) (not false) refl)

-- ---- What is left
pub round-left : (net : Net) (flow : Flow) (far : ℕ → ℤ) (hops : ℕ → ℕ) (marks : List Bool) (from : ℕ) → IsNetwork net → IsPartFlow net flow → AreKept net flow far hops marks → mark_at marks from ≡ false → sender net flow ≡ Some from
    → AreLeftByRound net (after_round net flow) far hops marks from (path_of net flow (Some from))
round-left net flow far hops marks from is part kept fresh sends =
    let (mirror, round) = rounds_go_by_labels net flow far hops from (ends-among net is) units (fresh-labels_for net flow far hops marks kept.right low from start fresh) sends in
    record {
      fits = round.labels;
      waits = λ v within unmarked.
          wants-after mirror round v
          ∙ (λ i. fresh-wanting net flow far hops marks kept.right v within unmarked i && not (v == sym (walk-ends (ways_of net flow) from mirror path round.path.goes) i));
      zero = λ v wants. kept.right.nothing v (and_parts (is_wanting net flow v) (not (v == mirror)) (sym (wants-after mirror round v) ∙ wants)).0;
      few = kept.right.few;
      held = kept.right.held;
      low = All-weaker (Contains (ways_of net flow)) (λ way. (way.tail < vertex_count net) × (way.head < vertex_count net))
          (λ way there. let own = All-contains (IsLow (vertex_count net)) (ways_of net flow) way low there in (own.0, own.1))
          path (walk-inside (ways_of net flow) from mirror path round.path.goes);
      starts = start;
      sound = λ v within unmarked apart other. sound mirror round v within unmarked apart (λ same. other (same ∙ sym (walk-ends (ways_of net flow) from mirror path round.path.goes)));
      dead = dead mirror round;
    }
  where
    path : List Way
    path = path_of net flow (Some from)

    units : HasUnits net flow
    units = record { each = part.each }

    low : All (IsLow (vertex_count net)) (ways_of net flow)
    low = ways-low net flow (ends-among net is)

    start : from < vertex_count net
    start = sender-low net flow from sends

    wants-after : (mirror : ℕ) → IsRound net flow far hops from mirror → (v : ℕ) → is_wanting net (after_round net flow) v ≡ (is_wanting net flow v && not (v == mirror))
    wants-after mirror round = wanting-after net flow (after_round net flow) from mirror part (sends-low net flow from (sender-sends net flow from sends)).0 round.receives.wants round.ends

    sound : (mirror : ℕ) → IsRound net flow far hops from mirror → (v : ℕ) → v < vertex_count net → mark_at marks v ≡ false → All (λ way. way.tail ≡ v → ⊥) path → (v ≡ mirror → ⊥) → IsSound net (after_round net flow) far hops marks v
    sound mirror round v within unmarked apart other = by (kept.right.sound v within unmarked)
      where
        by : IsSound net flow far hops marks v → IsSound net (after_round net flow) far hops marks v
        by (inl wants) = inl (wants-after mirror round v ∙ (λ i. wants i && not (ne_eqb v mirror other i)))
        by (inr (k, way, under, there, (begins, tight, free))) =
            let inside = still-sent net flow path way units
            (All-weaker (Contains (ways_of net flow)) (IsOnArc net) (on_arc net flow) path (walk-inside (ways_of net flow) from mirror path round.path.goes))
            (All-weaker (λ one. one.tail ≡ v → ⊥) (λ one. one.tail ≡ way.tail → ⊥) (λ one differs same. differs (same ∙ begins)) path apart) (k, under, there) in
            let still : Contains (ways_of net (after_round net flow)) way = subst (λ (f : Flow). Contains (ways_of net f) way) (sym (after_round-is net flow from sends)) inside in
            inr (still.0, way, still.1, still.2, (begins, tight, free))

    -- The reverse of a tight arc leads away from the mirrors, and is tight for no labels.
    dead : (mirror : ℕ) → IsRound net flow far hops from mirror → AreDead net (after_round net flow) far hops marks
    dead mirror round =
        subst (λ (f : Flow). AreDead net f far hops marks) (sym (after_round-is net flow from sends))
        (kept-sent (λ way. IsTight far hops way → mark_at marks way.tail ≡ true → mark_at marks way.head ≡ true) net flow from mirror path units kept.dead round.path.goes
        (All-weaker (IsTight far hops) (λ way. (arc : Arc) → way ≡ adding arc → IsTight far hops (taking arc) → mark_at marks arc.head ≡ true → mark_at marks arc.tail ≡ true)
        (λ way own arc adds back marked.
        let onward = tight-nearer far hops (adding arc) (subst (IsTight far hops) adds own) in
        let backward = tight-nearer far hops (taking arc) back in
        absurd (omega (arith, onward, backward)))
        path round.path.tight))

-- ---- Where the search for stale vertices begins
-- A vertex is among the tails of a path, or no arc of it leaves the vertex.
among-tails : (path : List Way) (vertex : ℕ) → Contains (tails_on path) vertex ⊎ All (λ way. way.tail ≡ vertex → ⊥) path
among-tails [] vertex = inr (All-nil (λ way. way.tail ≡ vertex → ⊥))
among-tails (way ∷ path) vertex =
    ⊎_elim {C = Contains (tails_on (way ∷ path)) vertex ⊎ All (λ one. one.tail ≡ vertex → ⊥) (way ∷ path)}
    (λ same. inl (0, omega arith, same))
    (λ apart.
    ⊎_elim {C = Contains (tails_on (way ∷ path)) vertex ⊎ All (λ one. one.tail ≡ vertex → ⊥) (way ∷ path)}
    (λ later. let (k, within, is) = later in inl (suc k, omega arith, is))
    (λ none. inr (All-cons (λ one. one.tail ≡ vertex → ⊥) way path apart none))
    (among-tails path vertex))
    (cases_eq way.tail vertex)

pub spread-start : (net : Net) (flow : Flow) (far : ℕ → ℤ) (hops : ℕ → ℕ) (from : ℕ) (path : List Way) (marks : List Bool) (vertices pending : List ℕ) → AreLeftByRound net flow far hops marks from path → AreMarked net marks vertices
    → pending ≡ tails_on path ++ end_of from path ∷ [] → AreSpread net flow far hops marks vertices pending
spread-start net flow far hops from path marks vertices pending left marked is = record {
  marked = marked;
  unmarked = λ v wants. (left.zero v wants).1;
  low = subst (All (λ v. v < vertex_count net)) (sym is)
      (All-append (λ v. v < vertex_count net) (tails_on path) (end_of from path ∷ [])
      (All-map (λ v. v < vertex_count net) (λ (way : Way). way.tail) path (All-weaker (λ way. (way.tail < vertex_count net) × (way.head < vertex_count net)) (λ way. way.tail < vertex_count net) (λ way both. both.0) path left.low))
      (All-cons (λ v. v < vertex_count net) (end_of from path) [] (end-low from path left.starts left.low) (All-nil (λ v. v < vertex_count net))));
  sound = λ v within none.
      subst (λ list. Contains list v ⊎ IsSound net flow far hops marks v) (sym is)
      (⊎_elim {C = Contains (tails_on path ++ end_of from path ∷ []) v ⊎ IsSound net flow far hops marks v}
      (λ tail. inl (Contains-append_left (tails_on path) (end_of from path ∷ []) v tail))
      (λ apart.
      ⊎_elim {C = Contains (tails_on path ++ end_of from path ∷ []) v ⊎ IsSound net flow far hops marks v}
      (λ same. inl (Contains-append_right (tails_on path) (end_of from path ∷ []) v (0, omega arith, sym same)))
      (λ other. inr (left.sound v within none apart other))
      (cases_eq v (end_of from path)))
      (among-tails path v));
  dead = left.dead;
}
  where
    end-low : (at : ℕ) (walk : List Way) → at < vertex_count net → All (λ way. (way.tail < vertex_count net) × (way.head < vertex_count net)) walk → end_of at walk < vertex_count net
    end-low at [] low all = low
    end-low at (way ∷ walk) low all =
        end-low way.head walk (All-head (λ one. (one.tail < vertex_count net) × (one.head < vertex_count net)) way walk all).1
        (All-tail (λ one. (one.tail < vertex_count net) × (one.head < vertex_count net)) way walk all)
