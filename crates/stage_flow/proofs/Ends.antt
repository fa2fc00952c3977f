-- What a unit along a walk of tight arcs changes: no two arcs of the walk have one number, since each leads nearer. So each arc of
-- the walk gains its unit, or its reverse loses one, and no other arc changes. Of what leaves a vertex less what enters it, one
-- arc changes its own two ends, and along the walk all but the two ends cancel.
use Rattle.std.proofs.Common.{◌≡◌, ◌<◌, ◌≤◌, ◌/◌, ◌∙◌, ◌⊎◌, ℕ, ℤ, List, [], ◌∷◌, length, get_or, All, Contains, refl, ap, sym, subst, inl, inr, arith, ⊎_elim}
use Rattle.std.proofs.lemmas.List.Elements.{All-nil, All-cons, All-head, All-tail, All-weaker}
use Rattle.flow_net.specs.declared.net.Net.{Net}
use Rattle.flow_net.specs.declared.net.Flow.{Flow}
use Rattle.flow_net.specs.Arcs.{Arc, arcs_of}
use Rattle.flow_net.specs.Flows.{units_on}
use Rattle.stage_flow.specs.Residual.{Way, ways_of}
use Rattle.stage_flow.specs.Rounds.{moved, along, sent_along}
use Rattle.stage_flow.specs.LawsOfWalks.{IsWalk, IsTight, IsTightWalk, HasUnits}
use Rattle.stage_flow.proofs.Labels.{tight-nearer, tight_walk-tail}
use Rattle.stage_flow.proofs.Units.{arc-same, arc-low, units_on-along, units_on-others}
use Rattle.stage_flow.proofs.Along.{IsWayOn, way-on, way-number, adding-in, taking-in, has_units-along}

-- ---- Numbers on a tight walk
walk-nearer : (far : ℕ → ℤ) (hops : ℕ → ℕ) (ways : List Way) (from to : ℕ) (walk : List Way) → IsTightWalk far hops ways from to walk → All (λ way. hops way.tail ≤ hops from) walk
walk-nearer far hops ways from to [] tight = All-nil (λ way. hops way.tail ≤ hops from)
walk-nearer far hops ways from to (way ∷ walk) tight =
    let (there, begins, goes) = tight.goes in
    let same = ap hops begins in
    let nearer = tight-nearer far hops way (All-head (IsTight far hops) way walk tight.tight) in
    All-cons (λ one. hops one.tail ≤ hops from) way walk (omega (arith, same))
    (All-weaker (λ one. hops one.tail ≤ hops way.head) (λ one. hops one.tail ≤ hops from) (λ one h. omega (arith, same, nearer, h)) walk
    (walk-nearer far hops ways way.head to walk (tight_walk-tail far hops ways from to way walk tight)))

-- the ends of two residual arcs on one arc are the same, or exchanged
record AreEnds (way other : Way) : Type 0 where
  ends : ((other.tail ≡ way.tail) × (other.head ≡ way.head)) ⊎ ((other.tail ≡ way.head) × (other.head ≡ way.tail))

ends-of : (net : Net) (flow : Flow) (way other : Way) → Contains (ways_of net flow) way → Contains (ways_of net flow) other → other.number ≡ way.number → AreEnds way other
ends-of net flow way other there also same =
    let first = way-on net flow way there in
    let second = way-on net flow other also in
    let one : second.arc ≡ first.arc =
    arc-same net second.arc first.arc second.there first.there
    (sym (way-number flow (arcs_of net) other second) ∙ same ∙ way-number flow (arcs_of net) way first) in
    ⊎_elim {C = AreEnds way other}
    (λ adds.
    ⊎_elim {C = AreEnds way other}
    (λ plus. record {
      ends =
          inl
          (ap (λ (w : Way). w.tail) plus ∙ ap (λ (a : Arc). a.tail) one ∙ sym (ap (λ (w : Way). w.tail) adds), ap (λ (w : Way). w.head) plus ∙ ap (λ (a : Arc). a.head) one ∙ sym (ap (λ (w : Way). w.head) adds));
    })
    (λ minus. record {
      ends =
          inr
          (ap (λ (w : Way). w.tail) minus.0 ∙ ap (λ (a : Arc). a.head) one ∙ sym (ap (λ (w : Way). w.head) adds), ap (λ (w : Way). w.head) minus.0 ∙ ap (λ (a : Arc). a.tail) one ∙ sym (ap (λ (w : Way). w.tail) adds));
    })
    second.is)
    (λ takes.
    ⊎_elim {C = AreEnds way other}
    (λ plus. record {
      ends =
          inr
          (ap (λ (w : Way). w.tail) plus ∙ ap (λ (a : Arc). a.tail) one ∙ sym (ap (λ (w : Way). w.head) takes.0), ap (λ (w : Way). w.head) plus ∙ ap (λ (a : Arc). a.head) one ∙ sym (ap (λ (w : Way). w.tail) takes.0));
    })
    (λ minus. record {
      ends =
          inl
          (ap (λ (w : Way). w.tail) minus.0 ∙ ap (λ (a : Arc). a.head) one ∙ sym (ap (λ (w : Way). w.tail) takes.0), ap (λ (w : Way). w.head) minus.0 ∙ ap (λ (a : Arc). a.tail) one ∙ sym (ap (λ (w : Way). w.head) takes.0));
    })
    second.is)
    first.is

-- a residual arc that comes later on a tight walk has another number
apart : (net : Net) (flow : Flow) (far : ℕ → ℤ) (hops : ℕ → ℕ) (way other : Way) → Contains (ways_of net flow) way → Contains (ways_of net flow) other → IsTight far hops way → IsTight far hops other → hops other.tail ≤ hops way.head → other.number ≡ way.number → ⊥
apart net flow far hops way other there also own its later same =
    let ends = ends-of net flow way other there also same in
    let nearer = tight-nearer far hops way own in
    let closer = tight-nearer far hops other its in
    ⊎_elim {C = ⊥} (λ one. let t = ap hops one.0 in omega (arith, t, nearer, later))
    (λ turned. let t = ap hops turned.0 in let h = ap hops turned.1 in omega (arith, t, h, nearer, closer)) ends.ends

-- the numbers of the arcs of a walk are not this one's
abbrev pub HasNone : ℕ → List Way → Type 0
HasNone number walk = All (λ other. other.number ≡ number → ⊥) walk

pub numbers-apart : (net : Net) (flow : Flow) (far : ℕ → ℤ) (hops : ℕ → ℕ) (from to : ℕ) (way : Way) (walk : List Way) → IsTightWalk far hops (ways_of net flow) from to (way ∷ walk) → HasNone way.number walk
numbers-apart net flow far hops from to way walk tight =
    let (there, begins, goes) = tight.goes in
    let rest = tight_walk-tail far hops (ways_of net flow) from to way walk tight in
    let own = All-head (IsTight far hops) way walk tight.tight in
    each way.head walk goes (All-tail (IsTight far hops) way walk tight.tight) (walk-nearer far hops (ways_of net flow) way.head to walk rest) there own
  where
    each : (at : ℕ) (others : List Way) → IsWalk (ways_of net flow) at to others → All (IsTight far hops) others → All (λ one. hops one.tail ≤ hops way.head) others → Contains (ways_of net flow) way → IsTight far hops way → HasNone way.number others
    each at [] here tights later there own = All-nil (λ other. other.number ≡ way.number → ⊥)
    each at (other ∷ others) (also, begins, goes) tights later there own =
        All-cons (λ one. one.number ≡ way.number → ⊥) other others
        (apart net flow far hops way other there also own (All-head (IsTight far hops) other others tights) (All-head (λ one. hops one.tail ≤ hops way.head) other others later))
        (each other.head others goes (All-tail (IsTight far hops) other others tights) (All-tail (λ one. hops one.tail ≤ hops way.head) other others later) there own)

-- What comes later stays residual.
walk-kept : (net : Net) (flow : Flow) (way : Way) (from to : ℕ) (walk : List Way) → HasUnits net flow → IsWalk (ways_of net flow) from to walk → HasNone way.number walk → IsWalk (ways_of net (along way flow)) from to walk
walk-kept net flow way from to [] pins here none = here
walk-kept net flow way from to (other ∷ walk) pins (there, begins, goes) none = (
  kept (way-on net flow other there) (All-head (λ one. one.number ≡ way.number → ⊥) other walk none),
  begins,
  walk-kept net flow way other.head to walk pins goes (All-tail (λ one. one.number ≡ way.number → ⊥) other walk none),
)
  where
    kept : IsWayOn flow (arcs_of net) other → (other.number ≡ way.number → ⊥) → Contains (ways_of net (along way flow)) other
    kept on differs =
        let within : on.arc.number / 2 < length flow.pins = omega (arith, arc-low net on.arc on.there, pins.each) in
        let same = units_on-others way flow on.arc within (λ equal. differs (way-number flow (arcs_of net) other on ∙ equal)) in
        ⊎_elim {C = Contains (ways_of net (along way flow)) other}
        (λ adds. subst (Contains (ways_of net (along way flow))) (sym adds) (adding-in net (along way flow) on.arc on.there))
        (λ takes.
        subst (Contains (ways_of net (along way flow))) (sym takes.0)
        (taking-in net (along way flow) on.arc on.there (let some = takes.1 in omega (arith, same, some))))
        on.is

pub tight-kept : (net : Net) (flow : Flow) (far : ℕ → ℤ) (hops : ℕ → ℕ) (from to : ℕ) (way : Way) (walk : List Way) → HasUnits net flow → IsTightWalk far hops (ways_of net flow) from to (way ∷ walk) → IsTightWalk far hops (ways_of net (along way flow)) way.head to walk
tight-kept net flow far hops from to way walk pins tight =
    let rest = tight_walk-tail far hops (ways_of net flow) from to way walk tight in record {
      goes = walk-kept net flow way way.head to walk pins rest.goes (numbers-apart net flow far hops from to way walk tight);
      tight = rest.tight;
    }

-- ---- Each arc of the path gains a unit, or its reverse loses one
pub units_on-unsent : (net : Net) (flow : Flow) (path : List Way) (arc : Arc) → HasUnits net flow → Contains (arcs_of net) arc → HasNone arc.number path → units_on (sent_along path flow) arc ≡ units_on flow arc
units_on-unsent net flow [] arc pins there none = refl
units_on-unsent net flow (way ∷ path) arc pins there none =
    let within : arc.number / 2 < length flow.pins = omega (arith, arc-low net arc there, pins.each) in
    units_on-unsent net (along way flow) path arc (has_units-along net flow way pins) there (All-tail (λ one. one.number ≡ arc.number → ⊥) way path none)
    ∙ units_on-others way flow arc within (λ same. All-head (λ one. one.number ≡ arc.number → ⊥) way path none (sym same))

pub units_on-sent : (net : Net) (flow : Flow) (far : ℕ → ℤ) (hops : ℕ → ℕ) (from to : ℕ) (path : List Way) → HasUnits net flow → IsTightWalk far hops (ways_of net flow) from to path → All (λ way. (arc : Arc) → Contains (arcs_of net) arc → arc.number ≡ way.number → units_on (sent_along path flow) arc ≡ moved way.takes (units_on flow arc)) path
units_on-sent net flow far hops from to [] pins tight = All-nil (λ way. (arc : Arc) → Contains (arcs_of net) arc → arc.number ≡ way.number → units_on flow arc ≡ moved way.takes (units_on flow arc))
units_on-sent net flow far hops from to (way ∷ path) pins tight =
    let none = numbers-apart net flow far hops from to way path tight in
    let later = units_on-sent net (along way flow) far hops way.head to path (has_units-along net flow way pins) (tight-kept net flow far hops from to way path pins tight) in
    All-cons (λ one. (arc : Arc) → Contains (arcs_of net) arc → arc.number ≡ one.number → units_on (sent_along (way ∷ path) flow) arc ≡ moved one.takes (units_on flow arc)) way path
    (λ arc there same.
    let within : arc.number / 2 < length flow.pins = omega (arith, arc-low net arc there, pins.each) in
    units_on-unsent net (along way flow) path arc (has_units-along net flow way pins) there
    (All-weaker (λ one. one.number ≡ way.number → ⊥) (λ one. one.number ≡ arc.number → ⊥) (λ one differs equal. differs (equal ∙ same)) path none)
    ∙ units_on-along way flow arc within same)
    (λ k d inside arc there same.
    let within : arc.number / 2 < length flow.pins = omega (arith, arc-low net arc there, pins.each) in
    let one = get_or path k d in
    later k d inside arc there same
    ∙ ap (moved one.takes) (units_on-others way flow arc within (λ equal. none k d inside (sym same ∙ equal))))
