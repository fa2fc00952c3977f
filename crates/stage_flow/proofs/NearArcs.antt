-- An arc at a vertex, as the vertex' row has it, and its two residual arcs: one leaves the vertex, and one enters it. Each of those on the
-- arc that a test asks to leave the vertex is the first, and each that it asks to enter it is the second.
use Rattle.std.proofs.Common.{◌≡◌, ◌≢◌, ◌<◌, ◌+◌, ◌==◌, ◌∙◌, ℕ, Bool, true, false, not, cond, List, [], ◌∷◌, All, Any, length, get_or, map, take, filter, nat_lt, refl, ap, sym, subst, arith, true≢false}
use Rattle.std.specs.List.{flat_map}
use Rattle.std.proofs.lemmas.List.{flat_map_more, take_more, map-append}
use Rattle.std.proofs.lemmas.List.Elements.{All-append}
use Rattle.flow_net.specs.declared.net.Flow.{Flow}
use Rattle.flow_net.specs.Arcs.{Arc}
use Rattle.flow_net.specs.Flows.{units_on}
use Rattle.stage_flow.specs.declared.ways.Near.{Near}
use Rattle.stage_flow.specs.Residual.{Way, adding, taking, ways_on}
use Rattle.stage_flow.specs.Given.{number_of, near_arc, arc_by_end}
use Rattle.stage_flow.specs.Sending.{residual, way_out, way_in, ways_by, is_residual}

pub out-ends : (vertex : ℕ) (near : Near) → ((way_out vertex near).tail ≡ vertex) × ((way_out vertex near).head ≡ near.other) × ((way_out vertex near).number ≡ number_of near)
out-ends vertex near = by (nat_lt near.other vertex)
  where
    by : (lower : Bool) → ((residual lower (arc_by_end lower vertex near)).tail ≡ vertex) × ((residual lower (arc_by_end lower vertex near)).head ≡ near.other) × ((residual lower (arc_by_end lower vertex near)).number ≡ number_of near)
    by true = (refl, refl, refl)
    by false = (refl, refl, refl)

pub in-ends : (vertex : ℕ) (near : Near) → ((way_in vertex near).tail ≡ near.other) × ((way_in vertex near).head ≡ vertex) × ((way_in vertex near).number ≡ number_of near)
in-ends vertex near = by (nat_lt near.other vertex)
  where
    by : (lower : Bool) → ((residual (not lower) (arc_by_end lower vertex near)).tail ≡ near.other) × ((residual (not lower) (arc_by_end lower vertex near)).head ≡ vertex) × ((residual (not lower) (arc_by_end lower vertex near)).number ≡ number_of near)
    by true = (refl, refl, refl)
    by false = (refl, refl, refl)

-- ---- Tests that ask for one of the two
-- what is left of one residual arc, by whether it is there
abbrev pub only_if : Bool → Way → List Way
only_if there way = cond there (way ∷ []) []

-- the residual arcs on an arc of which one fails a test
first-alone : (test : Way → Bool) (flow : Flow) (arc : Arc) → test (taking arc) ≡ false → filter test (ways_on flow arc) ≡ filter test (only_if (is_residual flow (adding arc)) (adding arc))
first-alone test flow arc fails = by (units_on flow arc == 0)
  where
    rest : (none : Bool) → filter test (cond none [] (taking arc ∷ [])) ≡ []
    rest true = refl
    rest false = ap (λ b. cond b (taking arc ∷ []) []) fails

    by : (none : Bool) → filter test (adding arc ∷ cond none [] (taking arc ∷ [])) ≡ filter test (adding arc ∷ [])
    by none = ap (λ ways. cond (test (adding arc)) (adding arc ∷ ways) ways) (rest none)

second-alone : (test : Way → Bool) (flow : Flow) (arc : Arc) → test (adding arc) ≡ false → filter test (ways_on flow arc) ≡ filter test (only_if (is_residual flow (taking arc)) (taking arc))
second-alone test flow arc fails = by (units_on flow arc == 0)
  where
    by : (none : Bool) → filter test (adding arc ∷ cond none [] (taking arc ∷ [])) ≡ filter test (only_if (not none) (taking arc))
    by true = ap (λ b. cond b (adding arc ∷ []) []) fails
    by false = ap (λ b. cond b (adding arc ∷ filter test (taking arc ∷ [])) (filter test (taking arc ∷ []))) fails

fails-apart : (test : Way → Bool) (way : Way) → (test way ≡ true → ⊥) → test way ≡ false
fails-apart test way never = by (test way) never
  where
    by : (b : Bool) → (b ≡ true → ⊥) → b ≡ false
    by true none = absurd (none refl)
    by false none = refl

-- A test that asks that a residual arc leave the vertex,
pub out-alone : (test : Way → Bool) (flow : Flow) (vertex : ℕ) (near : Near) → near.other ≢ vertex → ((way : Way) → test way ≡ true → way.tail ≡ vertex)
    → filter test (ways_on flow (near_arc vertex near)) ≡ filter test (only_if (is_residual flow (way_out vertex near)) (way_out vertex near))
out-alone test flow vertex near apart asks = by (nat_lt near.other vertex)
  where
    by : (lower : Bool) → filter test (ways_on flow (arc_by_end lower vertex near)) ≡ filter test (only_if (is_residual flow (residual lower (arc_by_end lower vertex near))) (residual lower (arc_by_end lower vertex near)))
    by true = second-alone test flow (arc_by_end true vertex near) (fails-apart test (adding (arc_by_end true vertex near)) (λ passes. apart (asks (adding (arc_by_end true vertex near)) passes)))
    by false = first-alone test flow (arc_by_end false vertex near) (fails-apart test (taking (arc_by_end false vertex near)) (λ passes. apart (asks (taking (arc_by_end false vertex near)) passes)))

-- and one that asks that it enter the vertex.
pub in-alone : (test : Way → Bool) (flow : Flow) (vertex : ℕ) (near : Near) → near.other ≢ vertex → ((way : Way) → test way ≡ true → way.head ≡ vertex)
    → filter test (ways_on flow (near_arc vertex near)) ≡ filter test (only_if (is_residual flow (way_in vertex near)) (way_in vertex near))
in-alone test flow vertex near apart asks = by (nat_lt near.other vertex)
  where
    by : (lower : Bool) → filter test (ways_on flow (arc_by_end lower vertex near)) ≡ filter test (only_if (is_residual flow (residual (not lower) (arc_by_end lower vertex near))) (residual (not lower) (arc_by_end lower vertex near)))
    by true = first-alone test flow (arc_by_end true vertex near) (fails-apart test (taking (arc_by_end true vertex near)) (λ passes. apart (asks (taking (arc_by_end true vertex near)) passes)))
    by false = second-alone test flow (arc_by_end false vertex near) (fails-apart test (adding (arc_by_end false vertex near)) (λ passes. apart (asks (adding (arc_by_end false vertex near)) passes)))

-- ---- What holds of the residual arcs on an arc
-- The one that leaves the vertex is among them if it is there.
pub any-out : (P : Way → Type 0) (flow : Flow) (vertex : ℕ) (near : Near) → is_residual flow (way_out vertex near) ≡ true → P (way_out vertex near) → Any P (ways_on flow (near_arc vertex near))
any-out P flow vertex near there own = by (nat_lt near.other vertex) there own
  where
    second : (none : Bool) (arc : Arc) → not none ≡ true → P (taking arc) → Any P (adding arc ∷ cond none [] (taking arc ∷ []))
    second true arc some takes = absurd (true≢false (sym some))
    second false arc some takes = (1, taking arc, omega arith, refl, takes)

    by : (lower : Bool) → is_residual flow (residual lower (arc_by_end lower vertex near)) ≡ true → P (residual lower (arc_by_end lower vertex near)) → Any P (ways_on flow (arc_by_end lower vertex near))
    by true there own = let arc = arc_by_end true vertex near in second (units_on flow arc == 0) arc there own
    by false there own = (0, adding (arc_by_end false vertex near), omega arith, refl, own)

-- What holds of the residual arcs on several arcs holds of those on one more.
pub all-more : (P : Way → Type 0) (flow : Flow) (vertex : ℕ) (nears : List Near) (i : ℕ) (d : Near) → i < length nears → All P (ways_by vertex flow (take i nears)) → All P (ways_on flow (near_arc vertex (get_or nears i d)))
    → All P (ways_by vertex flow (take (i + 1) nears))
all-more P flow vertex nears i d within before here =
    let own = near_arc vertex (get_or nears i d) in
    subst (λ arcs. All P (flat_map (ways_on flow) arcs)) (sym (ap (map (near_arc vertex)) (take_more nears i d within) ∙ map-append (near_arc vertex) (take i nears) (get_or nears i d ∷ [])))
    (subst (All P) (flat_map_more (ways_on flow) [] (map (near_arc vertex) (take i nears)) own)
    (All-append P (ways_by vertex flow (take i nears)) (ways_on flow own) before here))
