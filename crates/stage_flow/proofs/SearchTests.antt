-- Tests of labels: what they say of residual arcs.
use Rattle.std.proofs.Common.{◌≡◌, ◌<◌, ◌≤◌, ◌+◌, ◌-◌, ◌*◌, ◌∙◌, ◌==◌, ◌&&◌, ◌⊎◌, inl, inr, ℕ, zero, suc, ℤ, pos, ◌-ℤ◌, Bool, true, false, cond, not, nat_le, List, [], ◌∷◌, length, get_or, All, Any, Contains, refl, sym, ap, subst, arith, ⊎_elim}
use Rattle.std.specs.List.{flat_map, sum_by}
use Rattle.std.proofs.lemmas.Bool.{cases_lt, eqb-true}
use Rattle.std.proofs.lemmas.Bool.Decides.{nat_tests}
use Rattle.std.proofs.lemmas.List.Elements.{All-head, All-tail, Contains-get_or}
use Rattle.std.proofs.lemmas.List.Recursion.{is_sum_by}
use Rattle.flow_net.proofs.CallerLemmas.{total}
use Rattle.flow_net.specs.declared.net.Pin.{Pin}
use Rattle.flow_net.specs.declared.net.Units.{Units}
use Rattle.flow_net.specs.declared.net.Net.{Net}
use Rattle.flow_net.specs.declared.net.Flow.{Flow}
use Rattle.flow_net.specs.Arcs.{Arc, forward_arc, back_arc, arcs_from, arcs_of, mirror_of}
use Rattle.flow_net.specs.Flows.{units_on, pin_units, units_out, units_in}
use Rattle.stage_flow.specs.Residual.{Way, adding, taking, ways_of, vertex_count}
use Rattle.stage_flow.specs.Rounds.{is_wanting}
use Rattle.stage_flow.specs.Given.{at_vertex, count_at}
use Rattle.stage_flow.specs.LawsOfEpochs.{Fits, IsLastArc, AreLabelsFromSource}
use Rattle.stage_flow.specs.Search.{way_by, no_pin, none_on, HoldsAtPin, HoldsBelow, HoldsOfOne, HoldsSomewhere, IsLastInto, SayWhoReceived, is_wanting_by}
use Rattle.stage_flow.proofs.Linked.{IsUpward}
use Rattle.stage_flow.proofs.Wants.{wanting-mirror, mirror-wanting}
use Rattle.stage_flow.proofs.Along.{IsWayOn, way-on, adding-in, taking-in}

-- ---- From pins to residual arcs
-- What holds of a pin's residual arcs, by equal lengths.
pub at-pin : (holds : Way → Type 0) (mirror : ℕ) (pin : Pin) (units : Units) (gain loss back : ℤ) → gain ≡ pos pin.weight → loss ≡ pos 0 -ℤ pos pin.weight → back ≡ pos 0 -ℤ (pos 0 -ℤ pos pin.weight)
    → holds (way_by pin.from pin.to gain) → (not (units.forward == 0) ≡ true → holds (way_by pin.to pin.from loss)) → holds (way_by pin.to mirror loss) → (not (units.back == 0) ≡ true → holds (way_by mirror pin.to back))
    → HoldsAtPin holds mirror pin units
at-pin holds mirror pin units gain loss back first second third on taken off returned = record {
  forward = subst (λ length. holds (way_by pin.from pin.to length)) first on;
  taken = λ some. subst (λ length. holds (way_by pin.to pin.from length)) second (taken some);
  back = subst (λ length. holds (way_by pin.to mirror length)) second off;
  returned = λ some. subst (λ length. holds (way_by mirror pin.to length)) third (returned some);
}

pub holds-more : (holds : Way → Type 0) (net : Net) (flow : Flow) (places mirror : ℕ) (items : List Pin) (units : List Units) → items ≡ net.pins → units ≡ flow.pins → mirror ≡ mirror_of net (get_or items places no_pin).driver
    → HoldsBelow holds net flow places → HoldsAtPin holds mirror (get_or items places no_pin) (get_or units places none_on) → HoldsBelow holds net flow (places + 1)
holds-more holds net flow places mirror items units first second home before here place low =
    ⊎_elim {C = HoldsAtPin holds (mirror_of net (get_or net.pins place no_pin).driver) (get_or net.pins place no_pin) (get_or flow.pins place none_on)}
    (λ less. before place less)
    (λ past.
    let e : places ≡ place = omega arith in
    let pin : get_or items places no_pin ≡ get_or net.pins place no_pin = ap (λ xs. get_or xs places no_pin) first ∙ ap (λ k. get_or net.pins k no_pin) e in
    let unit : get_or units places none_on ≡ get_or flow.pins place none_on = ap (λ xs. get_or xs places none_on) second ∙ ap (λ k. get_or flow.pins k none_on) e in
    let there : mirror ≡ mirror_of net (get_or net.pins place no_pin).driver = home ∙ ap (λ (one : Pin). mirror_of net one.driver) pin in
    subst (λ m. HoldsAtPin holds m (get_or net.pins place no_pin) (get_or flow.pins place none_on)) there
    (subst (λ one. HoldsAtPin holds mirror one (get_or flow.pins place none_on)) pin
    (subst (λ one. HoldsAtPin holds mirror (get_or items places no_pin) one) unit here)))
    (cases_lt place places)

-- An arc is one of a pin's two.
pub record IsOfPin (net : Net) (start : ℕ) (pins : List Pin) (arc : Arc) : Type 0 where
  pub place : ℕ
  pub within : place < length pins
  pub is : (arc ≡ forward_arc (start + place) (get_or pins place no_pin)) ⊎ (arc ≡ back_arc net (start + place) (get_or pins place no_pin))

of-pin : (net : Net) (start : ℕ) (pins : List Pin) (arc : Arc) → Contains (arcs_from net start pins) arc → IsOfPin net start pins arc
of-pin net start [] arc (k, within, is) = absurd (omega arith)
of-pin net start (pin ∷ pins) arc (zero, within, is) =
    let e : start ≡ start + 0 = omega arith in
    record { place = 0; within = omega arith; is = inl (sym is ∙ ap (λ at. forward_arc at pin) e) }
of-pin net start (pin ∷ pins) arc (suc zero, within, is) =
    let e : start ≡ start + 0 = omega arith in
    record { place = 0; within = omega arith; is = inr (sym is ∙ ap (λ at. back_arc net at pin) e) }
of-pin net start (pin ∷ pins) arc (suc (suc k), within, is) =
    let rest = of-pin net (start + 1) pins arc (k, omega arith, is) in
    let e : start + 1 + rest.place ≡ start + suc rest.place = omega arith in
    let low = rest.within in
    record {
      place = suc rest.place;
      within = omega (arith, low);
      is = ⊎_elim {C = (arc ≡ forward_arc (start + suc rest.place) (get_or pins rest.place no_pin)) ⊎ (arc ≡ back_arc net (start + suc rest.place) (get_or pins rest.place no_pin))}
          (λ on. inl (on ∙ ap (λ at. forward_arc at (get_or pins rest.place no_pin)) e))
          (λ off. inr (off ∙ ap (λ at. back_arc net at (get_or pins rest.place no_pin)) e))
          rest.is;
    }

-- And both of a pin's arcs are there.
forward-there : (net : Net) (start : ℕ) (pins : List Pin) (place : ℕ) → place < length pins → Contains (arcs_from net start pins) (forward_arc (start + place) (get_or pins place no_pin))
forward-there net start [] place within = absurd (omega arith)
forward-there net start (pin ∷ pins) zero within = (0, omega arith, (let e : start ≡ start + 0 = omega arith in ap (λ at. forward_arc at pin) e))
forward-there net start (pin ∷ pins) (suc place) within =
    let e : start + 1 + place ≡ start + suc place = omega arith in
    let (k, low, is) = subst (λ at. Contains (arcs_from net (start + 1) pins) (forward_arc at (get_or pins place no_pin))) e (forward-there net (start + 1) pins place (omega arith)) in
    (suc (suc k), omega (arith, low), is)

back-there : (net : Net) (start : ℕ) (pins : List Pin) (place : ℕ) → place < length pins → Contains (arcs_from net start pins) (back_arc net (start + place) (get_or pins place no_pin))
back-there net start [] place within = absurd (omega arith)
back-there net start (pin ∷ pins) zero within = (1, omega arith, (let e : start ≡ start + 0 = omega arith in ap (λ at. back_arc net at pin) e))
back-there net start (pin ∷ pins) (suc place) within =
    let e : start + 1 + place ≡ start + suc place = omega arith in
    let (k, low, is) = subst (λ at. Contains (arcs_from net (start + 1) pins) (back_arc net at (get_or pins place no_pin))) e (back-there net (start + 1) pins place (omega arith)) in
    (suc (suc k), omega (arith, low), is)

-- Units by the places of pins.
forward-units : (pins : List Units) (place : ℕ) → place < length pins → get_or (flat_map pin_units pins) (2 * place) 0 ≡ (get_or pins place none_on).forward
forward-units [] place within = absurd (omega arith)
forward-units (units ∷ pins) zero within = refl
forward-units (units ∷ pins) (suc place) within =
    let e : 2 * suc place ≡ suc (suc (2 * place)) = omega arith in
    ap (λ k. get_or (flat_map pin_units (units ∷ pins)) k 0) e ∙ forward-units pins place (omega arith)

back-units : (pins : List Units) (place : ℕ) → place < length pins → get_or (flat_map pin_units pins) (2 * place + 1) 0 ≡ (get_or pins place none_on).back
back-units [] place within = absurd (omega arith)
back-units (units ∷ pins) zero within = refl
back-units (units ∷ pins) (suc place) within =
    let e : 2 * suc place + 1 ≡ suc (suc (2 * place + 1)) = omega arith in
    ap (λ k. get_or (flat_map pin_units (units ∷ pins)) k 0) e ∙ back-units pins place (omega arith)

some_units : (units : ℕ) → 0 < units → not (units == 0) ≡ true
some_units units some = grind (arith, nat_tests)

units_some : (units : ℕ) → not (units == 0) ≡ true → 0 < units
units_some units some = grind (arith, nat_tests)

-- What holds at each pin holds of all residual arcs, where it depends on ends and length alone.
pub holds-of_all : (Q : ℕ → ℕ → ℤ → Type 0) (net : Net) (flow : Flow) → length flow.pins ≡ length net.pins → HoldsBelow (λ way. Q way.tail way.head way.length) net flow (length net.pins) → All (λ way. Q way.tail way.head way.length) (ways_of net flow)
holds-of_all Q net flow long each k d within =
    let way : Way = get_or (ways_of net flow) k d in
    let on : IsWayOn flow (arcs_of net) way = way-on net flow way (Contains-get_or (ways_of net flow) k d within) in
    let of : IsOfPin net 0 net.pins on.arc = of-pin net 0 net.pins on.arc on.there in
    let place : ℕ = of.place in
    let low = of.within in
    let pin : Pin = get_or net.pins place no_pin in
    let here : HoldsAtPin (λ way. Q way.tail way.head way.length) (mirror_of net pin.driver) pin (get_or flow.pins place none_on) = each place low in
    let e : 0 + place ≡ place = omega arith in
    ⊎_elim {C = Q way.tail way.head way.length}
    (λ adds.
    subst (λ (one : Way). Q one.tail one.head one.length) (sym adds)
    (⊎_elim {C = Q on.arc.tail on.arc.head on.arc.length}
    (λ first. subst (λ (one : Arc). Q one.tail one.head one.length) (sym first) here.forward)
    (λ second. subst (λ (one : Arc). Q one.tail one.head one.length) (sym second) here.back)
    of.is))
    (λ takes.
    subst (λ (one : Way). Q one.tail one.head one.length) (sym takes.0)
    (⊎_elim {C = Q on.arc.head on.arc.tail (pos 0 -ℤ on.arc.length)}
    (λ first.
    let units = ap (λ (one : Arc). units_on flow one) first ∙ ap (λ at. get_or (flat_map pin_units flow.pins) (2 * at) 0) e ∙ forward-units flow.pins place (omega (arith, low, long)) in
    let some = takes.1 in
    subst (λ (one : Arc). Q one.head one.tail (pos 0 -ℤ one.length)) (sym first) (here.taken (some_units (get_or flow.pins place none_on).forward (omega (arith, units, some)))))
    (λ second.
    let units = ap (λ (one : Arc). units_on flow one) second ∙ ap (λ at. get_or (flat_map pin_units flow.pins) (2 * at + 1) 0) e ∙ back-units flow.pins place (omega (arith, low, long)) in
    let some = takes.1 in
    subst (λ (one : Arc). Q one.head one.tail (pos 0 -ℤ one.length)) (sym second) (here.returned (some_units (get_or flow.pins place none_on).back (omega (arith, units, some)))))
    of.is))
    on.is

-- What holds of one of a pin's residual arcs holds of some residual arc.
pub somewhere-any : (Q : ℕ → ℕ → ℤ → Type 0) (net : Net) (flow : Flow) → length flow.pins ≡ length net.pins → HoldsSomewhere (λ way. Q way.tail way.head way.length) net flow (length net.pins) → Any (λ way. Q way.tail way.head way.length) (ways_of net flow)
somewhere-any Q net flow long (place, low, one) = by one
  where
    any : (way : Way) → Contains (ways_of net flow) way → Q way.tail way.head way.length → Any (λ way. Q way.tail way.head way.length) (ways_of net flow)
    any way (k, within, is) here = (k, way, within, is, here)

    on : Contains (arcs_of net) (forward_arc (0 + place) (get_or net.pins place no_pin))
    on = forward-there net 0 net.pins place low

    off : Contains (arcs_of net) (back_arc net (0 + place) (get_or net.pins place no_pin))
    off = back-there net 0 net.pins place low

    by : HoldsOfOne (λ way. Q way.tail way.head way.length) (mirror_of net (get_or net.pins place no_pin).driver) (get_or net.pins place no_pin) (get_or flow.pins place none_on) → Any (λ way. Q way.tail way.head way.length) (ways_of net flow)
    by (inl here) = any (adding (forward_arc (0 + place) (get_or net.pins place no_pin))) (adding-in net flow (forward_arc (0 + place) (get_or net.pins place no_pin)) on) here
    by (inr (inl (some, here))) =
        let e : 0 + place ≡ place = omega arith in
        let units = ap (λ at. get_or (flat_map pin_units flow.pins) (2 * at) 0) e ∙ forward-units flow.pins place (omega (arith, low, long)) in
        let more = units_some (get_or flow.pins place none_on).forward some in
        any (taking (forward_arc (0 + place) (get_or net.pins place no_pin)))
        (taking-in net flow (forward_arc (0 + place) (get_or net.pins place no_pin)) on (omega (arith, units, more))) here
    by (inr (inr (inl here))) = any (adding (back_arc net (0 + place) (get_or net.pins place no_pin))) (adding-in net flow (back_arc net (0 + place) (get_or net.pins place no_pin)) off) here
    by (inr (inr (inr (some, here)))) =
        let e : 0 + place ≡ place = omega arith in
        let units = ap (λ at. get_or (flat_map pin_units flow.pins) (2 * at + 1) 0) e ∙ back-units flow.pins place (omega (arith, low, long)) in
        let more = units_some (get_or flow.pins place none_on).back some in
        any (taking (back_arc net (0 + place) (get_or net.pins place no_pin)))
        (taking-in net flow (back_arc net (0 + place) (get_or net.pins place no_pin)) off (omega (arith, units, more))) here

-- ---- Which mirrors want
total-none : {X : Type 0} (f : X → ℕ) (xs : List X) → All (λ x. f x ≡ 0) xs → total f xs ≡ 0
total-none f [] none = refl
total-none f (x ∷ xs) none = omega (arith, All-head (λ x. f x ≡ 0) x xs none, total-none f xs (All-tail (λ x. f x ≡ 0) x xs none))

total-some : {X : Type 0} (f : X → ℕ) (xs : List X) (x : X) → Contains xs x → f x ≤ total f xs
total-some f [] x (k, within, is) = absurd (omega arith)
total-some f (y ∷ xs) x (zero, within, is) = let e = ap f is in omega (arith, e)
total-some f (y ∷ xs) x (suc k, within, is) = omega (arith, total-some f xs x (k, omega arith, is))

sum-total : {X : Type 0} (f : X → ℕ) (xs : List X) → total f xs ≡ sum_by f xs
sum-total f xs = is_sum_by (total f) f refl (λ x xs. refl) xs

module _ (net : Net) (flow : Flow) (marks : List Bool) (pins : All (IsUpward net) net.pins) (long : length flow.pins ≡ length net.pins) (says : SayWhoReceived net flow (length net.pins) marks) where
  elsewhere : (a b units : ℕ) → a < b → cond (a == b) units 0 ≡ 0
  elsewhere a b units less = let test : (a == b) ≡ false = grind (arith, nat_tests) in ap (λ t. cond t units 0) test

  -- No arc leaves a mirror.
  none-out : (vertex : ℕ) → net.gates + 2 ≤ vertex → units_out net flow vertex ≡ 0
  none-out vertex high =
      sym (sum-total (λ arc. cond (arc.tail == vertex) (units_on flow arc) 0) (arcs_of net))
      ∙ total-none (λ arc. cond (arc.tail == vertex) (units_on flow arc) 0) (arcs_of net)
      (λ k d within.
      let arc : Arc = get_or (arcs_of net) k d in
      let of = of-pin net 0 net.pins arc (Contains-get_or (arcs_of net) k d within) in
      let up = pins of.place no_pin of.within in
      let ends = up.laid.ends in
      let above = up.upward in
      ⊎_elim {C = cond (arc.tail == vertex) (units_on flow arc) 0 ≡ 0}
      (λ first. let e = ap (λ (one : Arc). one.tail) first in elsewhere arc.tail vertex (units_on flow arc) (omega (arith, e, ends, above)))
      (λ second. let e = ap (λ (one : Arc). one.tail) second in elsewhere arc.tail vertex (units_on flow arc) (omega (arith, e, ends)))
      of.is)

  at_once : (a b units : ℕ) → a ≡ b → cond (a == b) units 0 ≡ units
  at_once a b units same = let test : (a == b) ≡ true = grind (arith, nat_tests) in ap (λ t. cond t units 0) test

  -- A marked driver's mirror has received,
  marked-in : (driver : ℕ) → get_or marks driver false ≡ true → 0 < units_in net flow (mirror_of net driver)
  marked-in driver marked =
      let some = says.some driver marked in
      let place : ℕ = some.0 in
      let low = some.1 in
      let pin : Pin = get_or net.pins place no_pin in
      let arc : Arc = back_arc net (0 + place) pin in
      let e : 0 + place ≡ place = omega arith in
      let units : units_on flow arc ≡ (get_or flow.pins place none_on).back = ap (λ at. get_or (flat_map pin_units flow.pins) (2 * at + 1) 0) e ∙ back-units flow.pins place (omega (arith, low, long)) in
      let own = total-some (λ arc. cond (arc.head == mirror_of net driver) (units_on flow arc) 0) (arcs_of net) arc (back-there net 0 net.pins place low) in
      let here = at_once arc.head (mirror_of net driver) (units_on flow arc) (ap (mirror_of net) some.2) in
      let whole = sum-total (λ arc. cond (arc.head == mirror_of net driver) (units_on flow arc) 0) (arcs_of net) in
      omega (arith, units, own, here, whole, some.3)

  -- and another's has not.
  unmarked-in : (driver : ℕ) → driver < net.drivers → get_or marks driver false ≡ false → units_in net flow (mirror_of net driver) ≡ 0
  unmarked-in driver few unmarked =
      sym (sum-total (λ arc. cond (arc.head == mirror_of net driver) (units_on flow arc) 0) (arcs_of net))
      ∙ total-none (λ arc. cond (arc.head == mirror_of net driver) (units_on flow arc) 0) (arcs_of net)
      (λ k d within.
      let arc : Arc = get_or (arcs_of net) k d in
      let of = of-pin net 0 net.pins arc (Contains-get_or (arcs_of net) k d within) in
      let place : ℕ = of.place in
      let low = of.within in
      let pin : Pin = get_or net.pins place no_pin in
      let e : 0 + place ≡ place = omega arith in
      let up = pins place no_pin of.within in
      let ends = up.laid.ends in
      let numbered = up.laid.numbered in
      ⊎_elim {C = cond (arc.head == mirror_of net driver) (units_on flow arc) 0 ≡ 0}
      (λ first. let e = ap (λ (one : Arc). one.head) first in elsewhere arc.head (mirror_of net driver) (units_on flow arc) (omega (arith, e, ends)))
      (λ second.
      let head : arc.head ≡ mirror_of net pin.driver = ap (λ (one : Arc). one.head) second in
      let units : units_on flow arc ≡ (get_or flow.pins place none_on).back =
      ap (units_on flow) second ∙ ap (λ at. get_or (flat_map pin_units flow.pins) (2 * at + 1) 0) e ∙ back-units flow.pins place (omega (arith, low, long)) in
      none_there pin.driver driver arc.head (units_on flow arc) head
      (λ same. nothing (units_on flow arc)
      (λ some.
      let marked = says.all place low numbered (omega (arith, some, units)) in
      let other = ap (λ d. get_or marks d false) same in
      absurd (cc))))
      of.is)
    where
      nothing : (units : ℕ) → (0 < units → ⊥) → units ≡ 0
      nothing zero none = refl
      nothing (suc units) none = absurd (none (omega arith))

      none_there : (own driver head units : ℕ) → head ≡ mirror_of net own → (own ≡ driver → units ≡ 0) → cond (head == mirror_of net driver) units 0 ≡ 0
      none_there own driver head units is none = at (head == mirror_of net driver) refl
        where
          at : (test : Bool) → (head == mirror_of net driver) ≡ test → cond test units 0 ≡ 0
          at true e = let same = eqb-true head (mirror_of net driver) e in none (omega (arith, same, is))
          at false e = refl

  -- So the marks say which vertices want.
  pub wanting-by : (vertex : ℕ) → vertex < vertex_count net → is_wanting_by net.gates marks vertex ≡ is_wanting net flow vertex
  wanting-by vertex within =
      ⊎_elim {C = is_wanting_by net.gates marks vertex ≡ is_wanting net flow vertex}
      (λ less. let test : nat_le (net.gates + 2) vertex ≡ false = grind (arith, nat_tests) in rw test refl)
      (λ high.
      let driver : ℕ = vertex - (net.gates + 2) in
      let here : vertex ≡ mirror_of net driver = omega arith in
      let test : nat_le (net.gates + 2) vertex ≡ true = grind (arith, nat_tests) in
      ap (λ t. t && not (get_or marks driver false)) test
      ∙ by driver (omega arith) (get_or marks driver false) refl
      ∙ ap (is_wanting net flow) (sym here))
      (cases_lt vertex (net.gates + 2))
    where
      never : (b : Bool) → (b ≡ true → ⊥) → false ≡ b
      never true h = absurd (h refl)
      never false h = refl

      by : (driver : ℕ) → driver < net.drivers → (mark : Bool) → get_or marks driver false ≡ mark → (true && not mark) ≡ is_wanting net flow (mirror_of net driver)
      by driver few true e =
          never (is_wanting net flow (mirror_of net driver))
          (λ wants.
          let found = wanting-mirror net flow (mirror_of net driver) wants in
          omega (arith, found.3, marked-in driver e, none-out (mirror_of net driver) (omega arith)))
      by driver few false e = sym (mirror-wanting net flow driver few (omega (arith, unmarked-in driver few e)))

-- ---- Lengths from the source
pub lengths-tested : (net : Net) (flow : Flow) (far : List ℤ) (hops : List ℕ) (marks : List Bool) → length flow.pins ≡ length net.pins → length far ≡ vertex_count net
    → at_vertex far 0 ≡ pos 0 → count_at hops 0 ≡ 0
    → HoldsBelow (Fits (at_vertex far)) net flow (length net.pins)
    → ((vertex : ℕ) → get_or marks vertex false ≡ true → HoldsSomewhere (IsLastInto (at_vertex far) (count_at hops) (length far) vertex) net flow (length net.pins))
    → ((vertex : ℕ) → vertex < vertex_count net → count_at hops vertex < vertex_count net)
    → ((vertex : ℕ) → suc vertex < vertex_count net → get_or marks (suc vertex) false ≡ true)
    → AreLabelsFromSource net flow (at_vertex far) (count_at hops)
lengths-tested net flow far hops marks long many origin starts each last few marked = record {
  origin = origin;
  starts = starts;
  fits = holds-of_all (λ tail head span. Fits (at_vertex far) (way_by tail head span)) net flow long each;
  few = few;
  comes = λ vertex low.
      let (k, way, within, is, found) = somewhere-any (λ tail head span. IsLastArc (at_vertex far) (count_at hops) (suc vertex) (way_by tail head span) × (tail < length far)) net flow long
      (last (suc vertex) (marked vertex low)) in
      let own = found.0 in
      let inside = found.1 in
      (k, way, within, is, (record { ends = own.ends; reaches = own.reaches; counts = own.counts }, omega (arith, inside, many)));
}

-- Marks that came with one pin more.
pub marked-more : (holds : ℕ → Way → Type 0) (net : Net) (flow : Flow) (places mirror : ℕ) (items : List Pin) (units : List Units) (before after : List Bool) → items ≡ net.pins → units ≡ flow.pins → mirror ≡ mirror_of net (get_or items places no_pin).driver
    → ((vertex : ℕ) → get_or before vertex false ≡ true → HoldsSomewhere (holds vertex) net flow places)
    → ((vertex : ℕ) → get_or after vertex false ≡ true → get_or before vertex false ≡ false → HoldsOfOne (holds vertex) mirror (get_or items places no_pin) (get_or units places none_on))
    → (vertex : ℕ) → get_or after vertex false ≡ true → HoldsSomewhere (holds vertex) net flow (places + 1)
marked-more holds net flow places mirror items units before after first second home known new vertex marked = by (get_or before vertex false) refl
  where
    by : (mark : Bool) → get_or before vertex false ≡ mark → HoldsSomewhere (holds vertex) net flow (places + 1)
    by true e = let (place, low, one) = known vertex e in (place, omega (arith, low), one)
    by false e =
        let pin : get_or items places no_pin ≡ get_or net.pins places no_pin = ap (λ xs. get_or xs places no_pin) first in
        let unit : get_or units places none_on ≡ get_or flow.pins places none_on = ap (λ xs. get_or xs places none_on) second in
        let there : mirror ≡ mirror_of net (get_or net.pins places no_pin).driver = home ∙ ap (λ (one : Pin). mirror_of net one.driver) pin in (
          places,
          omega arith,
          subst (λ m. HoldsOfOne (holds vertex) m (get_or net.pins places no_pin) (get_or flow.pins places none_on)) there
              (subst (λ one. HoldsOfOne (holds vertex) mirror one (get_or flow.pins places none_on)) pin
              (subst (λ one. HoldsOfOne (holds vertex) mirror (get_or items places no_pin) one) unit (new vertex marked e))),
        )
