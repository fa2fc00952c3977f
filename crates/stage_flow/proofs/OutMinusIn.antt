-- Of what leaves a vertex less what enters it, a unit along a residual arc changes the arc's two ends: one more at its tail, and one
-- less at its head. Along a walk all but its two ends cancel.
use Rattle.std.proofs.Common.{◌≡◌, ◌<◌, ◌+◌, ◌-◌, ◌*◌, ◌/◌, ◌==◌, ◌∙◌, ℕ, zero, suc, ℤ, pos, ◌+ℤ◌, ◌-ℤ◌, Bool, true, false, cond, List, [], ◌∷◌, length, get_or, Contains, refl, ap, sym, subst, arith, ⊎_elim}
use Rattle.std.specs.List.{sum_by}
use Rattle.std.proofs.lemmas.Int.{ints}
use Rattle.std.proofs.lemmas.List.Elements.{Contains-get_or}
use Rattle.flow_net.specs.declared.net.Net.{Net}
use Rattle.flow_net.specs.declared.net.Flow.{Flow}
use Rattle.flow_net.specs.Arcs.{Arc, arcs_of}
use Rattle.flow_net.specs.Flows.{units_on, out_minus_in}
use Rattle.flow_net.proofs.CallerLemmas.{total, sum-is_total}
use Rattle.stage_flow.specs.Residual.{Way, ways_of}
use Rattle.stage_flow.specs.Rounds.{moved, along, sent_along}
use Rattle.stage_flow.specs.LawsOfWalks.{IsTightWalk, HasUnits, unit_at}
use Rattle.stage_flow.proofs.Units.{arc-low, arcs_from-number, units_on-along, units_on-others}
use Rattle.stage_flow.proofs.Along.{way-on, way-number, has_units-along}
use Rattle.stage_flow.proofs.Ends.{tight-kept}

-- ---- Sums that differ at one item
total-same : (f g : Arc → ℕ) (arcs : List Arc) → ((j : ℕ) (d : Arc) → j < length arcs → f (get_or arcs j d) ≡ g (get_or arcs j d)) → total f arcs ≡ total g arcs
total-same f g [] same = refl
total-same f g (arc ∷ arcs) same =
    let own = same 0 arc (omega arith) in
    let rest = total-same f g arcs (λ j d inside. same (suc j) d (omega arith)) in
    omega (arith, own, rest)

total-one : (f g : Arc → ℕ) (arcs : List Arc) (k : ℕ) (e : Arc) → k < length arcs → ((j : ℕ) (d : Arc) → j < length arcs → (j ≡ k → ⊥) → f (get_or arcs j d) ≡ g (get_or arcs j d)) → total f arcs + g (get_or arcs k e) ≡ total g arcs + f (get_or arcs k e)
total-one f g [] k e within same = absurd (omega arith)
total-one f g (arc ∷ arcs) zero e within same =
    let rest = total-same f g arcs (λ j d inside. same (suc j) d (omega arith) (λ h. absurd (omega arith))) in
    omega (arith, rest)
total-one f g (arc ∷ arcs) (suc k) e within same =
    let own = same 0 arc (omega arith) (λ h. absurd (omega arith)) in
    let rest = total-one f g arcs k e (omega arith) (λ j d inside differs. same (suc j) d (omega arith) (λ h. differs (omega arith))) in
    omega (arith, own, rest)

-- the units at the ends of arcs at a vertex
abbrev at_end : (Arc → ℕ) → Flow → ℕ → Arc → ℕ
at_end end flow vertex arc = cond (end arc == vertex) (units_on flow arc) 0

-- Only the arc of the residual arc changes.
ends-along : (net : Net) (flow : Flow) (end : Arc → ℕ) (vertex : ℕ) (way : Way) (arc : Arc) → HasUnits net flow → Contains (arcs_of net) arc → arc.number ≡ way.number →
    sum_by (at_end end (along way flow) vertex) (arcs_of net) + at_end end flow vertex arc ≡ sum_by (at_end end flow vertex) (arcs_of net) + at_end end (along way flow) vertex arc
ends-along net flow end vertex way arc pins (k, within, is) same =
    let new = at_end end (along way flow) vertex in
    let old = at_end end flow vertex in
    let here : (get_or (arcs_of net) k arc).number ≡ 2 * 0 + k = arcs_from-number net 0 net.pins k arc within in
    let own = ap (λ (a : Arc). a.number) is in
    let one = total-one new old (arcs_of net) k arc within
    (λ j d inside differs.
    let there = arcs_from-number net 0 net.pins j d inside in
    let other = get_or (arcs_of net) j d in
    let low : other.number / 2 < length flow.pins = omega (arith, arc-low net other (Contains-get_or (arcs_of net) j d inside), pins.each) in
    let kept = units_on-others way flow other low (λ equal. differs (omega (arith, there, here, own, same, equal))) in
    ap (λ u. cond (end other == vertex) u 0) kept) in
    let first = ap old is in
    let second = ap new is in
    omega (arith, one, first, second, sum-is_total new (arcs_of net), sum-is_total old (arcs_of net))

more-at_ends : (out into out' into' units units' : ℕ) (tail head : Bool) → units' ≡ units + 1 → out' + cond tail units 0 ≡ out + cond tail units' 0 → into' + cond head units 0 ≡ into + cond head units' 0 →
    pos out' -ℤ pos into' ≡ ((pos out -ℤ pos into) +ℤ cond tail (pos 1) (pos 0)) -ℤ cond head (pos 1) (pos 0)
more-at_ends out into out' into' units units' true true more leaves enters = omega (arith, ints, more, leaves, enters)
more-at_ends out into out' into' units units' true false more leaves enters = omega (arith, ints, more, leaves, enters)
more-at_ends out into out' into' units units' false true more leaves enters = omega (arith, ints, more, leaves, enters)
more-at_ends out into out' into' units units' false false more leaves enters = omega (arith, ints, more, leaves, enters)

less-at_ends : (out into out' into' units units' : ℕ) (tail head : Bool) → units' + 1 ≡ units → out' + cond tail units 0 ≡ out + cond tail units' 0 → into' + cond head units 0 ≡ into + cond head units' 0 →
    pos out' -ℤ pos into' ≡ ((pos out -ℤ pos into) +ℤ cond head (pos 1) (pos 0)) -ℤ cond tail (pos 1) (pos 0)
less-at_ends out into out' into' units units' true true less leaves enters = omega (arith, ints, less, leaves, enters)
less-at_ends out into out' into' units units' true false less leaves enters = omega (arith, ints, less, leaves, enters)
less-at_ends out into out' into' units units' false true less leaves enters = omega (arith, ints, less, leaves, enters)
less-at_ends out into out' into' units units' false false less leaves enters = omega (arith, ints, less, leaves, enters)

pub out_minus_in-along : (net : Net) (flow : Flow) (way : Way) (vertex : ℕ) → HasUnits net flow → Contains (ways_of net flow) way → out_minus_in net (along way flow) vertex ≡ (out_minus_in net flow vertex +ℤ unit_at way.tail vertex) -ℤ unit_at way.head vertex
out_minus_in-along net flow way vertex pins there =
    let on = way-on net flow way there in
    let arc = on.arc in
    let number = way-number flow (arcs_of net) way on in
    let within : arc.number / 2 < length flow.pins = omega (arith, arc-low net arc on.there, pins.each) in
    let units = units_on-along way flow arc within (sym number) in
    let out = ends-along net flow (λ (a : Arc). a.tail) vertex way arc pins on.there (sym number) in
    let into = ends-along net flow (λ (a : Arc). a.head) vertex way arc pins on.there (sym number) in
    let old = units_on flow arc in
    let new = units_on (along way flow) arc in
    let Says : ℕ → ℕ → Type 0 = λ tail head. out_minus_in net (along way flow) vertex ≡ (out_minus_in net flow vertex +ℤ unit_at tail vertex) -ℤ unit_at head vertex in
    let sum = λ (end : Arc → ℕ) (f : Flow). sum_by (at_end end f vertex) (arcs_of net) in
    let tail = λ (a : Arc). a.tail in
    let head = λ (a : Arc). a.head in
    ⊎_elim {C = Says way.tail way.head}
    (λ adds.
    let more : new ≡ old + 1 = units ∙ ap (λ (w : Way). moved w.takes old) adds in
    let ends : Says arc.tail arc.head = more-at_ends (sum tail flow) (sum head flow) (sum tail (along way flow)) (sum head (along way flow)) old new (arc.tail == vertex) (arc.head == vertex) more out into in
    subst (λ (w : Way). Says w.tail w.head) (sym adds) ends)
    (λ takes.
    let one : new ≡ old - 1 = units ∙ ap (λ (w : Way). moved w.takes old) takes.0 in
    let some = takes.1 in
    let less : new + 1 ≡ old = omega (arith, one, some) in
    let ends : Says arc.head arc.tail = less-at_ends (sum tail flow) (sum head flow) (sum tail (along way flow)) (sum head (along way flow)) old new (arc.tail == vertex) (arc.head == vertex) less out into in
    subst (λ (w : Way). Says w.tail w.head) (sym takes.0) ends)
    on.is

-- Along a walk of tight arcs a unit leaves its start and comes to its end, and nothing else changes.
pub out_minus_in-sent : (net : Net) (flow : Flow) (far : ℕ → ℤ) (hops : ℕ → ℕ) (from to : ℕ) (path : List Way) (vertex : ℕ) → HasUnits net flow → IsTightWalk far hops (ways_of net flow) from to path → out_minus_in net (sent_along path flow) vertex ≡ (out_minus_in net flow vertex +ℤ unit_at from vertex) -ℤ unit_at to vertex
out_minus_in-sent net flow far hops from to [] vertex pins tight =
    let here : from ≡ to = tight.goes in
    let same = ap (λ v. unit_at v vertex) here in
    omega (arith, ints, same)
out_minus_in-sent net flow far hops from to (way ∷ path) vertex pins tight =
    let (there, begins, goes) = tight.goes in
    let start = ap (λ v. unit_at v vertex) begins in
    let first = out_minus_in-along net flow way vertex pins there in
    let rest = out_minus_in-sent net (along way flow) far hops way.head to path vertex (has_units-along net flow way pins) (tight-kept net flow far hops from to way path pins tight) in
    cancelled (out_minus_in net (sent_along path (along way flow)) vertex) (out_minus_in net (along way flow) vertex) (out_minus_in net flow vertex) (unit_at from vertex) (unit_at way.tail vertex) (unit_at way.head vertex) (unit_at to vertex) start first rest
  where
    cancelled : (last next own start tail head end : ℤ) → tail ≡ start → next ≡ (own +ℤ tail) -ℤ head → last ≡ (next +ℤ head) -ℤ end → last ≡ (own +ℤ start) -ℤ end
    cancelled last next own start tail head end same first rest = omega (arith, ints, same, first, rest)
