-- One unit along a path of tight arcs. Each arc of the path gains a unit, or its reverse loses one; what leaves a vertex less what
-- enters it changes at the two ends of the path alone; and potentials that fit before, and that rise on the path by just the
-- lengths, fit after, since a reverse arc that is new goes down by what its arc went up.
use Rattle.std.proofs.Common.{◌≡◌, ◌<◌, ◌/◌, ◌==◌, ◌∙◌, ◌⊎◌, ℕ, zero, suc, ℤ, ◌+ℤ◌, Bool, true, false, cond, List, [], ◌∷◌, length, All, Contains, refl, ap, sym, subst, inl, inr, arith, ⊎_elim}
use Rattle.std.specs.List.{flat_map}
use Rattle.std.proofs.lemmas.Bool.{cases_eq, eqb-true, eqb-false}
use Rattle.std.proofs.lemmas.Int.{ints}
use Rattle.std.proofs.lemmas.List.Elements.{All-nil, All-cons, All-head, All-tail, All-weaker, All-contains, All-contains_itself, Contains-append_cases, Contains-append_left, Contains-append_right}
use Rattle.flow_net.specs.declared.net.Net.{Net}
use Rattle.flow_net.specs.declared.net.Flow.{Flow}
use Rattle.flow_net.specs.Arcs.{Arc, arcs_of}
use Rattle.flow_net.specs.Flows.{units_on}
use Rattle.stage_flow.specs.Residual.{Way, adding, taking, ways_on, ways_of}
use Rattle.stage_flow.specs.Rounds.{moved, along, sent_along}
use Rattle.stage_flow.specs.Longest.{Reach}
use Rattle.stage_flow.specs.LawsOfWalks.{IsWalk, led_by, label, IsFitting, IsTight, IsTightWalk, HasUnits, FitsWay, IsLevel}
use Rattle.stage_flow.proofs.Walks.{test-no_better}
use Rattle.stage_flow.proofs.Units.{arc-same, arc-low, units_on-along, units_on-others, length-along}

-- ---- Residual arcs by their arcs
-- a residual arc adds to this arc, or takes back from it
pub record IsWayOn (flow : Flow) (arcs : List Arc) (way : Way) : Type 0 where
  pub arc : Arc
  pub there : Contains arcs arc
  pub is : (way ≡ adding arc) ⊎ ((way ≡ taking arc) × (0 < units_on flow arc))

pub way-on_arc : (flow : Flow) (arcs : List Arc) (way : Way) → Contains (flat_map (ways_on flow) arcs) way → IsWayOn flow arcs way
way-on_arc flow [] way (k, within, is) = absurd (omega arith)
way-on_arc flow (arc ∷ arcs) way there =
    ⊎_elim {C = IsWayOn flow (arc ∷ arcs) way}
    (λ here. record { arc = arc; there = (0, omega arith, refl); is = by (units_on flow arc == 0) refl here })
    (λ later.
    let rest = way-on_arc flow arcs way later in
    let (k, within, is) = rest.there in record { arc = rest.arc; there = (suc k, omega arith, is); is = rest.is })
    (Contains-append_cases (ways_on flow arc) (flat_map (ways_on flow) arcs) way there)
  where
    by : (none : Bool) → (units_on flow arc == 0) ≡ none → Contains (adding arc ∷ cond none [] (taking arc ∷ [])) way → (way ≡ adding arc) ⊎ ((way ≡ taking arc) × (0 < units_on flow arc))
    by none empty (zero, within, is) = inl (sym is)
    by true empty (suc k, within, is) = absurd (omega arith)
    by false empty (suc zero, within, is) =
        let some = eqb-false (units_on flow arc) 0 empty in
        inr (sym is, ⊎_elim {C = 0 < units_on flow arc} (λ same. absurd (some same)) (λ other. omega (arith, other)) (cases_eq (units_on flow arc) 0))
    by false empty (suc (suc k), within, is) = absurd (omega arith)

pub way-on : (net : Net) (flow : Flow) (way : Way) → Contains (ways_of net flow) way → IsWayOn flow (arcs_of net) way
way-on net flow way there = way-on_arc flow (arcs_of net) way there

-- Each arc's residual arcs are among them.
pub adding-there : (flow : Flow) (arc : Arc) → Contains (ways_on flow arc) (adding arc)
adding-there flow arc = (0, by (units_on flow arc == 0), refl)
  where
    by : (none : Bool) → 0 < length (adding arc ∷ cond none [] (taking arc ∷ []))
    by true = omega arith
    by false = omega arith

pub taking-there : (flow : Flow) (arc : Arc) → 0 < units_on flow arc → Contains (ways_on flow arc) (taking arc)
taking-there flow arc some = by (units_on flow arc == 0) refl
  where
    by : (none : Bool) → (units_on flow arc == 0) ≡ none → Contains (adding arc ∷ cond none [] (taking arc ∷ [])) (taking arc)
    by true empty = let h = eqb-true (units_on flow arc) 0 empty in absurd (omega (arith, h))
    by false empty = (1, omega arith, refl)

pub ways-there : (flow : Flow) (arcs : List Arc) (arc : Arc) (way : Way) → Contains arcs arc → Contains (ways_on flow arc) way → Contains (flat_map (ways_on flow) arcs) way
ways-there flow [] arc way (k, within, is) on = absurd (omega arith)
ways-there flow (first ∷ arcs) arc way (zero, within, is) on =
    Contains-append_left (ways_on flow first) (flat_map (ways_on flow) arcs) way (subst (λ (a : Arc). Contains (ways_on flow a) way) (sym is) on)
ways-there flow (first ∷ arcs) arc way (suc k, within, is) on =
    Contains-append_right (ways_on flow first) (flat_map (ways_on flow) arcs) way (ways-there flow arcs arc way (k, omega arith, is) on)

pub adding-in : (net : Net) (flow : Flow) (arc : Arc) → Contains (arcs_of net) arc → Contains (ways_of net flow) (adding arc)
adding-in net flow arc there = ways-there flow (arcs_of net) arc (adding arc) there (adding-there flow arc)

pub taking-in : (net : Net) (flow : Flow) (arc : Arc) → Contains (arcs_of net) arc → 0 < units_on flow arc → Contains (ways_of net flow) (taking arc)
taking-in net flow arc there some = ways-there flow (arcs_of net) arc (taking arc) there (taking-there flow arc some)

pub way-number : (flow : Flow) (arcs : List Arc) (way : Way) (on : IsWayOn flow arcs way) → way.number ≡ on.arc.number
way-number flow arcs way on =
    ⊎_elim {C = way.number ≡ on.arc.number} (λ adds. ap (λ (w : Way). w.number) adds) (λ takes. ap (λ (w : Way). w.number) takes.0) on.is

-- ---- What holds of residual arcs, kept
pub has_units-along : (net : Net) (flow : Flow) (way : Way) → HasUnits net flow → HasUnits net (along way flow)
has_units-along net flow way pins = record { each = length-along way flow ∙ pins.each }

-- Residual after a unit along a residual arc are those that were before, and the reverse of an arc that gained the unit.
kept-along : (P : Way → Type 0) (net : Net) (flow : Flow) (way : Way) → HasUnits net flow → All P (ways_of net flow) → (arc : Arc) → Contains (arcs_of net) arc → (way ≡ adding arc) ⊎ (way ≡ taking arc) → (way ≡ adding arc → P (taking arc)) → All P (ways_of net (along way flow))
kept-along P net flow way pins holds arc there of reverse =
    All-weaker (Contains (ways_of net (along way flow))) P each (ways_of net (along way flow)) (All-contains_itself (ways_of net (along way flow)))
  where
    old : (other : Way) → Contains (ways_of net flow) other → P other
    old other inside = All-contains P (ways_of net flow) other holds inside

    lost : (a : Arc) → Contains (arcs_of net) a → 0 < units_on (along way flow) a → P (taking a)
    lost a inside some =
        let within : a.number / 2 < length flow.pins = omega (arith, arc-low net a inside, pins.each) in
        ⊎_elim {C = P (taking a)}
        (λ same.
        let changed = units_on-along way flow a within same in
        ⊎_elim {C = P (taking a)}
        (λ adds.
        let number = ap (λ (w : Way). w.number) adds in
        let one : a ≡ arc = arc-same net a arc inside there (same ∙ number) in
        subst (λ (x : Arc). P (taking x)) (sym one) (reverse adds))
        (λ takes.
        let back = ap (λ (w : Way). moved w.takes (units_on flow a)) takes in
        old (taking a) (taking-in net flow a inside (omega (arith, changed, back, some))))
        of)
        (λ differs. old (taking a) (taking-in net flow a inside (let same = units_on-others way flow a within differs in omega (arith, same, some))))
        (cases_eq a.number way.number)

    each : (other : Way) → Contains (ways_of net (along way flow)) other → P other
    each other inside =
        let on = way-on net (along way flow) other inside in
        ⊎_elim {C = P other} (λ adds. subst P (sym adds) (old (adding on.arc) (adding-in net flow on.arc on.there)))
        (λ takes. subst P (sym takes.0) (lost on.arc on.there takes.1)) on.is

-- a residual arc of some flow in the network
abbrev pub IsOnArc : Net → Way → Type 0
IsOnArc net way = (arc : Arc) × Contains (arcs_of net) arc × ((way ≡ adding arc) ⊎ (way ≡ taking arc))

pub on_arc : (net : Net) (flow : Flow) (way : Way) → Contains (ways_of net flow) way → IsOnArc net way
on_arc net flow way inside =
    let on = way-on net flow way inside in
    (on.arc, on.there, ⊎_elim {C = (way ≡ adding on.arc) ⊎ (way ≡ taking on.arc)} (λ adds. inl adds) (λ takes. inr takes.0) on.is)

kept-sent_on : (P : Way → Type 0) (net : Net) (flow : Flow) (path : List Way) → HasUnits net flow → All P (ways_of net flow) → All (IsOnArc net) path → All (λ way. (arc : Arc) → way ≡ adding arc → P (taking arc)) path → All P (ways_of net (sent_along path flow))
kept-sent_on P net flow [] pins holds on reverses = holds
kept-sent_on P net flow (way ∷ path) pins holds on reverses =
    let (arc, there, of) = All-head (IsOnArc net) way path on in
    kept-sent_on P net (along way flow) path (has_units-along net flow way pins)
    (kept-along P net flow way pins holds arc there of (All-head (λ one. (a : Arc) → one ≡ adding a → P (taking a)) way path reverses arc))
    (All-tail (IsOnArc net) way path on) (All-tail (λ one. (a : Arc) → one ≡ adding a → P (taking a)) way path reverses)

pub walk-inside : (ways : List Way) (from to : ℕ) (walk : List Way) → IsWalk ways from to walk → All (Contains ways) walk
walk-inside ways from to [] here = All-nil (Contains ways)
walk-inside ways from to (way ∷ walk) (there, begins, goes) = All-cons (Contains ways) way walk there (walk-inside ways way.head to walk goes)

-- What holds of all residual arcs, and of the reverses of the arcs of a walk, holds of all that are residual when a unit went along it.
pub kept-sent : (P : Way → Type 0) (net : Net) (flow : Flow) (from to : ℕ) (path : List Way) → HasUnits net flow → All P (ways_of net flow) → IsWalk (ways_of net flow) from to path → All (λ way. (arc : Arc) → way ≡ adding arc → P (taking arc)) path → All P (ways_of net (sent_along path flow))
kept-sent P net flow from to path pins holds goes reverses =
    kept-sent_on P net flow path pins holds
    (All-weaker (Contains (ways_of net flow)) (IsOnArc net) (on_arc net flow) path (walk-inside (ways_of net flow) from to path goes))
    reverses

-- Potentials from before a round fit the residual arcs of the flow after it: those of arcs that gained a unit go down by what the
-- path went up.
pub potentials-sent : (net : Net) (flow : Flow) (p : ℕ → ℤ) (from to : ℕ) (path : List Way) → HasUnits net flow → All (FitsWay p) (ways_of net flow) → IsWalk (ways_of net flow) from to path → All (IsLevel p) path → All (FitsWay p) (ways_of net (sent_along path flow))
potentials-sent net flow p from to path pins fits goes level =
    kept-sent (FitsWay p) net flow from to path pins fits goes
    (All-weaker (IsLevel p) (λ way. (arc : Arc) → way ≡ adding arc → FitsWay p (taking arc))
    (λ way own arc adds. let up : p arc.tail +ℤ arc.length ≡ p arc.head = subst (IsLevel p) adds own in omega (arith, ints, up)) path level)

-- Labels from before it fit too, since the reverse of a tight arc leads to a vertex that has one arc more to go.
pub labels-sent : (net : Net) (flow : Flow) (far : ℕ → ℤ) (hops : ℕ → ℕ) (from to : ℕ) (path : List Way) → HasUnits net flow → All (IsFitting far hops) (ways_of net flow) → IsTightWalk far hops (ways_of net flow) from to path → All (IsFitting far hops) (ways_of net (sent_along path flow))
labels-sent net flow far hops from to path pins fits tight =
    kept-sent (IsFitting far hops) net flow from to path pins fits tight.goes
    (All-weaker (IsTight far hops) (λ way. (arc : Arc) → way ≡ adding arc → IsFitting far hops (taking arc))
    (λ way own arc adds.
    let close : led_by (adding arc) (label far hops arc.head) ≡ label far hops arc.tail = subst (IsTight far hops) adds own in
    let long = ap (λ (r : Reach). r.length) close in
    let many = ap (λ (r : Reach). r.hops) close in
    test-no_better (led_by (taking arc) (label far hops arc.tail)) (label far hops arc.head) (record {
      no_longer = omega (arith, ints, long);
      no_fewer = λ same. omega (arith, many);
    }))
    path tight.tight)
