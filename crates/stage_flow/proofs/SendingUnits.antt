-- One unit along a path of tight arcs: no two of its arcs have one number, so each has room when the path comes to it.
use Rattle.std.proofs.Common.{◌≡◌, ◌<◌, ◌-◌, ◌/◌, ◌∙◌, ◌^◌, ℕ, zero, suc, ℤ, List, [], ◌∷◌, length, get_or, map, drop, All, ap, sym, subst, arith}
use Rattle.std.specs.List.{flat_map}
use Rattle.std.proofs.Math.Seq.{drop-cons}
use Rattle.std.proofs.lemmas.List.Elements.{All-nil, All-cons, All-head, All-tail}
use Rattle.flow_net.specs.declared.net.Net.{Net}
use Rattle.flow_net.specs.declared.net.Units.{Units}
use Rattle.flow_net.specs.declared.net.Flow.{Flow}
use Rattle.flow_net.specs.Arcs.{arcs_of}
use Rattle.flow_net.specs.Flows.{pin_units}
use Rattle.stage_flow.specs.Residual.{Way, ways_of}
use Rattle.stage_flow.specs.Rounds.{along}
use Rattle.stage_flow.specs.LawsOfWalks.{IsWalk, IsTightWalk, HasUnits}
use Rattle.stage_flow.specs.Sending.{way_of, side, HasRoom}
use Rattle.stage_flow.specs.declared.ways.Step.{Step}
use Rattle.stage_flow.proofs.Units.{units-at, arc-low, units_on-others}
use Rattle.stage_flow.proofs.Along.{way-on, way-number, has_units-along}
use Rattle.stage_flow.proofs.Ends.{HasNone, numbers-apart, tight-kept}

-- the units on the arc of a residual arc are fewer than fit
abbrev pub IsSmall : Flow → Way → Type 0
IsSmall flow way = get_or (flat_map pin_units flow.pins) way.number 0 < 2 ^ 32 - 1

small-kept : (net : Net) (flow : Flow) (way : Way) (at to : ℕ) (others : List Way) → HasUnits net flow → IsWalk (ways_of net flow) at to others → HasNone way.number others → All (IsSmall flow) others → All (IsSmall (along way flow)) others
small-kept net flow way at to [] units goes none small = All-nil (IsSmall (along way flow))
small-kept net flow way at to (other ∷ others) units (there, begins, goes) none small =
    let on = way-on net flow other there in
    let number = way-number flow (arcs_of net) other on in
    let within : on.arc.number / 2 < length flow.pins = omega (arith, arc-low net on.arc on.there, units.each) in
    let differs = All-head (λ one. one.number ≡ way.number → ⊥) other others none in
    let same = units_on-others way flow on.arc within (λ equal. differs (number ∙ equal)) in
    let own : get_or (flat_map pin_units (along way flow).pins) other.number 0 ≡ get_or (flat_map pin_units flow.pins) other.number 0 =
    ap (λ n. get_or (flat_map pin_units (along way flow).pins) n 0) number ∙ same ∙ ap (λ n. get_or (flat_map pin_units flow.pins) n 0) (sym number) in
    All-cons (IsSmall (along way flow)) other others
    (subst (λ n. n < 2 ^ 32 - 1) (sym own) (All-head (IsSmall flow) other others small))
    (small-kept net flow way other.head to others units goes (All-tail (λ one. one.number ≡ way.number → ⊥) other others none) (All-tail (IsSmall flow) other others small))

room-for : (net : Net) (far : ℕ → ℤ) (hops : ℕ → ℕ) (flow : Flow) (from to : ℕ) (path : List Way) → HasUnits net flow → IsTightWalk far hops (ways_of net flow) from to path → All (IsSmall flow) path → HasRoom path flow
room-for net far hops flow from to [] units tight small = tt
room-for net far hops flow from to (way ∷ path) units tight small =
    let (there, begins, goes) = tight.goes in
    let on = way-on net flow way there in
    let number = way-number flow (arcs_of net) way on in
    let half = ap (λ n. n / 2) number in (
      omega (arith, half, arc-low net on.arc on.there, units.each),
      All-head (IsSmall flow) way path small,
      room-for net far hops (along way flow) way.head to path (has_units-along net flow way units) (tight-kept net flow far hops from to way path units tight)
          (small-kept net flow way way.head to path units goes (numbers-apart net flow far hops from to way path tight) (All-tail (IsSmall flow) way path small)),
    )

-- Where all units are few enough, a tight path has room.
pub has_room : (net : Net) (far : ℕ → ℤ) (hops : ℕ → ℕ) (flow : Flow) (from to : ℕ) (path : List Way) → HasUnits net flow → All (λ (units : Units). (units.forward < 2 ^ 32 - 1) × (units.back < 2 ^ 32 - 1)) flow.pins → IsTightWalk far hops (ways_of net flow) from to path → HasRoom path flow
has_room net far hops flow from to path units room tight = room-for net far hops flow from to path units tight (each from path tight.goes)
  where
    one : (units : List Units) (number : ℕ) → All (λ (u : Units). (u.forward < 2 ^ 32 - 1) × (u.back < 2 ^ 32 - 1)) units → get_or (flat_map pin_units units) number 0 < 2 ^ 32 - 1
    one [] number all = omega arith
    one (u ∷ units) zero all = (All-head (λ (x : Units). (x.forward < 2 ^ 32 - 1) × (x.back < 2 ^ 32 - 1)) u units all).0
    one (u ∷ units) (suc zero) all = (All-head (λ (x : Units). (x.forward < 2 ^ 32 - 1) × (x.back < 2 ^ 32 - 1)) u units all).1
    one (u ∷ units) (suc (suc number)) all = one units number (All-tail (λ (x : Units). (x.forward < 2 ^ 32 - 1) × (x.back < 2 ^ 32 - 1)) u units all)

    each : (at : ℕ) (others : List Way) → IsWalk (ways_of net flow) at to others → All (IsSmall flow) others
    each at [] goes = All-nil (IsSmall flow)
    each at (way ∷ others) (there, begins, goes) = All-cons (IsSmall flow) way others (one flow.pins way.number room) (each way.head others goes)

-- What the path comes to next has room.
pub room-here : (path : List Step) (i : ℕ) (d : Step) (units : List Units) (e : Units) → i < length path → HasRoom (map way_of (drop i path)) (record { pins = units }) → side (get_or path i d).number (get_or units ((get_or path i d).number / 2) e) < 2 ^ 32 - 1
room-here path i d units e within has =
    let step = get_or path i d in
    let room = subst (λ (p : List Step). HasRoom (map way_of p) (record { pins = units })) (drop-cons path i d within) has in
    subst (λ n. n < 2 ^ 32 - 1) (units-at units step.number e room.0) room.1
