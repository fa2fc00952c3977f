-- What each step of the rules says where it breaks none.
use Rattle.std.proofs.Common.{◌≡◌, ℕ, ◌+◌, Bool, true, false, List, [], ◌∷◌, ◌++◌, refl, sym, ap, subst, ◌∙◌, append_assoc, nat_eq}
use Rattle.std.proofs.lemmas.List.{append-nil, map-append}
use Rattle.std.proofs.lemmas.Map.Keys.{IsDistinct-push}
use Rattle.std.proofs.lemmas.Map.Made.{is_some-lookup}
use Rattle.std.specs.List.{IsDistinct}
use Rattle.std.specs.Map.{keys_of}
use Rattle.std.specs.Cmp.{nat_eq_equiv}
use Rattle.std.specs.Prelude.{◌*◌, Option, Some, None, Result, Ok, Err, nat_eq, nat_lt, nat_le, is_some, unwrap_or, flat_map}
use Rattle.std.proofs.lemmas.Bool.{and_parts, ltb-true, leb-true}
use Rattle.net_base.specs.Answers.{◌>>=◌}
use Rattle.net_base.proofs.CallerLemmas.{bind-Ok}
use Rattle.pulse_net.specs.declared.net.Element.{Element}
use Rattle.pulse_net.specs.declared.net.Element.TheVariants.{Clocked, Split}
use Rattle.pulse_net.specs.declared.net.Outlet.{Outlet}
use Rattle.pulse_net.specs.declared.net.Outlet.TheVariants.{Zero, One, Wire}
use Rattle.pulse_net.specs.declared.fault.Place.{Place}
use Rattle.pulse_net.specs.declared.fault.Place.TheVariants.{Input, Element as AtElement, Output}
use Rattle.pulse_net.specs.declared.fault.Wrong.{Wrong}
use Rattle.pulse_net.specs.Wires.{found, carried, input_entries, element_wires, after_elements, input_stage, cell_stage, element_uses, outlet_uses}
use Rattle.pulse_net.specs.Wired.{IsInTime, ArriveInTime, ElementInTime, ElementsInTime, OutletInTime, OutletsInTime}
use Rattle.net_base.specs.Keys.{is_among}
use Rattle.pulse_net.specs.Validity.{Wiring, at, made_once, make_wire, used_once, source_stage, is_gap, with_used, used_in_time, use_wire, use_pins, wire_element, wire_elements, wire_output, wire_outputs, wire_inputs}

-- a step at a place
at-ok : {A : Type 0} (place : Place) (r : Result A Wrong) (a : A) → at place r ≡ Ok a → r ≡ Ok a
at-ok place (Ok x) a h = cc
at-ok place (Err e) a h = cc

-- so far no wire is made twice, and none is used twice
pub record IsOnce (wiring : Wiring) : Type 0 where
  pub made : IsDistinct nat_eq (keys_of wiring.made)
  pub used : IsDistinct nat_eq wiring.used

abbrev same_result : Type 0 → Wiring → Wiring → Type 0
same_result E wiring after = let before : Result Wiring E = Ok wiring in before ≡ Ok after

-- nothing changes where there is nothing to do
ok_made : {E : Type 0} {wiring after : Wiring} → same_result E wiring after → after.made ≡ wiring.made
ok_made h = cc

ok_once : {E : Type 0} {wiring after : Wiring} → same_result E wiring after → IsOnce wiring → IsOnce after
ok_once {E} {wiring} {after} h once = let same : wiring ≡ after = cc in subst IsOnce same once

ok_used : {E : Type 0} {wiring after : Wiring} → same_result E wiring after → after.used ≡ wiring.used
ok_used h = cc

-- a wiring in which one more wire is made
abbrev pub with_made : Wiring → ℕ → ℕ → Wiring
with_made wiring wire stage = record { made = wiring.made ++ (wire, stage) ∷ []; used = wiring.used }

is_gap-true : (n stage user : ℕ) → is_gap n stage user ≡ true → IsInTime n stage user
is_gap-true n stage user h =
    let parts = and_parts (nat_lt stage user) (nat_le user (stage + n)) h in
    record { after = ltb-true stage user parts.0; within = leb-true user (stage + n) parts.1 }

once-made : (wiring : Wiring) (wire stage : ℕ) → found wiring.made wire ≡ None → IsOnce wiring → IsOnce (with_made wiring wire stage)
once-made wiring wire stage new once =
    record {
      made = subst (IsDistinct nat_eq) (sym (map-append (λ (e : ℕ × ℕ). e.0) wiring.made ((wire, stage) ∷ []))) (IsDistinct-push nat_eq_equiv (keys_of wiring.made) wire once.made (sym (is_some-lookup (nat_eq wire) wiring.made) ∙ ap is_some new));
      used = once.used;
    }

once-used : (wiring : Wiring) (wire : ℕ) → is_among nat_eq wire wiring.used ≡ false → IsOnce wiring → IsOnce (with_used wiring wire)
once-used wiring wire unused once =
    record { made = once.made; used = IsDistinct-push nat_eq_equiv wiring.used wire once.used unused }

-- a wire is made that was not made before
record Makes (wiring : Wiring) (wire stage : ℕ) (after : Wiring) : Type 0 where
  new : found wiring.made wire ≡ None
  gives : after ≡ with_made wiring wire stage
  once : IsOnce wiring → IsOnce after

made_once-ok : (wiring : Wiring) (wire stage : ℕ) (before : Option ℕ) (after : Wiring) → found wiring.made wire ≡ before → made_once wiring wire stage before ≡ Ok after → Makes wiring wire stage after
made_once-ok wiring wire stage (Some x) after e h = cc
made_once-ok wiring wire stage None after e h =
    let gives : after ≡ with_made wiring wire stage = cc in
    record { new = e; gives = gives; once = λ o. subst IsOnce (sym gives) (once-made wiring wire stage e o) }

make_wire-ok : (wiring : Wiring) (wire stage : ℕ) (after : Wiring) → make_wire wire stage wiring ≡ Ok after → Makes wiring wire stage after
make_wire-ok wiring wire stage after h = made_once-ok wiring wire stage (found wiring.made wire) after refl h

-- a wire at this stage was made, and isn't used
record IsFree (wiring : Wiring) (wire stage : ℕ) : Type 0 where
  made : found wiring.made wire ≡ Some stage
  unused : is_among nat_eq wire wiring.used ≡ false

used_once-ok : (wiring : Wiring) (wire stage : ℕ) (before : Option ℕ) (used : Bool) → found wiring.made wire ≡ before → is_among nat_eq wire wiring.used ≡ used → used_once wire before used ≡ Ok stage → IsFree wiring wire stage
used_once-ok wiring wire stage None used e u h = cc
used_once-ok wiring wire stage (Some x) true e u h = cc
used_once-ok wiring wire stage (Some x) false e u h = record { made = cc; unused = u }

source_stage-ok : (wiring : Wiring) (wire stage : ℕ) → source_stage wiring wire ≡ Ok stage → IsFree wiring wire stage
source_stage-ok wiring wire stage h = used_once-ok wiring wire stage (found wiring.made wire) (is_among nat_eq wire wiring.used) refl refl h

-- a free wire is used in time
record Uses (n user : ℕ) (wiring : Wiring) (wire : ℕ) (after : Wiring) : Type 0 where
  stage : ℕ
  free : IsFree wiring wire stage
  in_time : IsInTime n stage user
  gives : after ≡ with_used wiring wire
  once : IsOnce wiring → IsOnce after

used_in_time-ok : (n : ℕ) (wiring : Wiring) (wire stage user : ℕ) (ok : Bool) (after : Wiring) → is_gap n stage user ≡ ok → IsFree wiring wire stage → used_in_time wiring wire stage user ok ≡ Ok after → Uses n user wiring wire after
used_in_time-ok n wiring wire stage user true after e free h =
    let gives : after ≡ with_used wiring wire = cc in
    record { stage = stage; free = free; in_time = is_gap-true n stage user e; gives = gives; once = λ o. subst IsOnce (sym gives) (once-used wiring wire free.unused o) }
used_in_time-ok n wiring wire stage user false after e free h = cc

use_wire-ok : (n user wire : ℕ) (wiring after : Wiring) → use_wire n user wire wiring ≡ Ok after → Uses n user wiring wire after
use_wire-ok n user wire wiring after h =
    let s = bind-Ok (source_stage wiring wire) (λ stage. used_in_time wiring wire stage user (is_gap n stage user)) after h in
    used_in_time-ok n wiring wire s.0 user (is_gap n s.0 user) after refl (source_stage-ok wiring wire s.0 s.1) s.2

-- the pins of a cell are used
record UsesAll (n user : ℕ) (wiring : Wiring) (pins : List ℕ) (after : Wiring) : Type 0 where
  in_time : ArriveInTime n wiring.made user pins
  made : after.made ≡ wiring.made
  used : after.used ≡ wiring.used ++ pins
  once : IsOnce wiring → IsOnce after

use_pins-ok : (n user : ℕ) (pins : List ℕ) (wiring after : Wiring) → use_pins n user pins wiring ≡ Ok after → UsesAll n user wiring pins after
use_pins-ok n user [] wiring after h = record { in_time = tt; made = ok_made h; used = ok_used h ∙ sym (append-nil wiring.used); once = ok_once h }
use_pins-ok n user (pin ∷ pins) wiring after h =
    let s = bind-Ok (use_wire n user pin wiring) (use_pins n user pins) after h in
    let one = use_wire-ok n user pin wiring s.0 s.1 in
    let rest = use_pins-ok n user pins s.0 after s.2 in
    let same : s.0.made ≡ wiring.made = ap (λ (w : Wiring). w.made) one.gives in
    record {
      in_time = ((one.stage, one.free.made, one.in_time), subst (λ m. ArriveInTime n m user pins) same rest.in_time);
      made = rest.made ∙ same;
      used = rest.used ∙ ap (λ (w : Wiring). w.used ++ pins) one.gives ∙ append_assoc wiring.used (pin ∷ []) pins;
      once = λ o. rest.once (one.once o);
    }

-- an element uses its sources and makes its wires
record WiresElement (n : ℕ) (wiring : Wiring) (element : Element) (after : Wiring) : Type 0 where
  in_time : ElementInTime n wiring.made element
  made : after.made ≡ wiring.made ++ element_wires 0 cell_stage wiring.made element
  used : after.used ≡ wiring.used ++ element_uses element
  once : IsOnce wiring → IsOnce after

wire_element-ok : (n : ℕ) (element : Element) (wiring after : Wiring) → wire_element n element wiring ≡ Ok after → WiresElement n wiring element after
wire_element-ok n (Clocked cell stage pins out) wiring after h =
    let s = bind-Ok (use_pins n stage pins wiring) (make_wire out stage) after h in
    let all = use_pins-ok n stage pins wiring s.0 s.1 in
    let makes = make_wire-ok s.0 out stage after s.2 in
    record {
      in_time = all.in_time;
      made = ap (λ (w : Wiring). w.made) makes.gives ∙ ap (λ m. m ++ (out, stage) ∷ []) all.made;
      used = ap (λ (w : Wiring). w.used) makes.gives ∙ all.used;
      once = λ o. makes.once (all.once o);
    }
wire_element-ok n (Split from left right) wiring after h =
    let s = bind-Ok (source_stage wiring from) (λ stage. make_wire left stage (with_used wiring from) >>= make_wire right stage) after h in
    let free = source_stage-ok wiring from s.0 s.1 in
    let t = bind-Ok (make_wire left s.0 (with_used wiring from)) (make_wire right s.0) after s.2 in
    let one = make_wire-ok (with_used wiring from) left s.0 t.0 t.1 in
    let two = make_wire-ok t.0 right s.0 after t.2 in
    let stage : carried 0 wiring.made from ≡ s.0 = ap (λ o. unwrap_or o 0) free.made in
    record {
      in_time = (s.0, free.made);
      made = ap (λ (w : Wiring). w.made) two.gives ∙ ap (λ (w : Wiring). w.made ++ (right, s.0) ∷ []) one.gives ∙ append_assoc wiring.made ((left, s.0) ∷ []) ((right, s.0) ∷ []) ∙ ap (λ x. wiring.made ++ (left, x) ∷ ((right, x) ∷ [])) (sym stage);
      used = ap (λ (w : Wiring). w.used) two.gives ∙ ap (λ (w : Wiring). w.used) one.gives;
      once = λ o. two.once (one.once (once-used wiring from free.unused o));
    }

pub record WiresElements (n : ℕ) (wiring : Wiring) (elements : List Element) (after : Wiring) : Type 0 where
  pub in_time : ElementsInTime n wiring.made elements
  pub made : after.made ≡ after_elements 0 cell_stage wiring.made elements
  pub used : after.used ≡ wiring.used ++ flat_map element_uses elements
  pub once : IsOnce wiring → IsOnce after

pub wire_elements-ok : (n place : ℕ) (elements : List Element) (wiring after : Wiring) → wire_elements n place elements wiring ≡ Ok after → WiresElements n wiring elements after
wire_elements-ok n place [] wiring after h =
    record { in_time = tt; made = ok_made h; used = ok_used h ∙ sym (append-nil wiring.used); once = ok_once h }
wire_elements-ok n place (element ∷ elements) wiring after h =
    let s = bind-Ok (at (AtElement place) (wire_element n element wiring)) (wire_elements n (place + 1) elements) after h in
    let one = wire_element-ok n element wiring s.0 (at-ok (AtElement place) (wire_element n element wiring) s.0 s.1) in
    let rest = wire_elements-ok n (place + 1) elements s.0 after s.2 in
    record {
      in_time = (one.in_time, subst (λ m. ElementsInTime n m elements) one.made rest.in_time);
      made = rest.made ∙ ap (λ m. after_elements 0 cell_stage m elements) one.made;
      used = rest.used ∙ ap (λ u. u ++ flat_map element_uses elements) one.used ∙ append_assoc wiring.used (element_uses element) (flat_map element_uses elements);
      once = λ o. rest.once (one.once o);
    }

record WiresOutlet (n user : ℕ) (wiring : Wiring) (outlet : Outlet) (after : Wiring) : Type 0 where
  in_time : OutletInTime n user wiring.made outlet
  made : after.made ≡ wiring.made
  used : after.used ≡ wiring.used ++ outlet_uses outlet
  once : IsOnce wiring → IsOnce after

wire_output-ok : (n latency : ℕ) (outlet : Outlet) (wiring after : Wiring) → wire_output n latency outlet wiring ≡ Ok after → WiresOutlet n (n * latency) wiring outlet after
wire_output-ok n latency Zero wiring after h =
    record { in_time = tt; made = ok_made h; used = ok_used h ∙ sym (append-nil wiring.used); once = ok_once h }
wire_output-ok n latency One wiring after h =
    record { in_time = tt; made = ok_made h; used = ok_used h ∙ sym (append-nil wiring.used); once = ok_once h }
wire_output-ok n latency (Wire wire) wiring after h =
    let one = use_wire-ok n (n * latency) wire wiring after h in
    record {
      in_time = (one.stage, one.free.made, one.in_time);
      made = ap (λ (w : Wiring). w.made) one.gives;
      used = ap (λ (w : Wiring). w.used) one.gives;
      once = one.once;
    }

pub record WiresOutlets (n user : ℕ) (wiring : Wiring) (outlets : List Outlet) (after : Wiring) : Type 0 where
  pub in_time : OutletsInTime n user wiring.made outlets
  pub made : after.made ≡ wiring.made
  pub used : after.used ≡ wiring.used ++ flat_map outlet_uses outlets
  pub once : IsOnce wiring → IsOnce after

pub wire_outputs-ok : (n latency place : ℕ) (outlets : List Outlet) (wiring after : Wiring) → wire_outputs n latency place outlets wiring ≡ Ok after → WiresOutlets n (n * latency) wiring outlets after
wire_outputs-ok n latency place [] wiring after h =
    record { in_time = tt; made = ok_made h; used = ok_used h ∙ sym (append-nil wiring.used); once = ok_once h }
wire_outputs-ok n latency place (outlet ∷ outlets) wiring after h =
    let s = bind-Ok (at (Output place) (wire_output n latency outlet wiring)) (wire_outputs n latency (place + 1) outlets) after h in
    let one = wire_output-ok n latency outlet wiring s.0 (at-ok (Output place) (wire_output n latency outlet wiring) s.0 s.1) in
    let rest = wire_outputs-ok n latency (place + 1) outlets s.0 after s.2 in
    record {
      in_time = (one.in_time, subst (λ m. OutletsInTime n (n * latency) m outlets) one.made rest.in_time);
      made = rest.made ∙ one.made;
      used = rest.used ∙ ap (λ u. u ++ flat_map outlet_uses outlets) one.used ∙ append_assoc wiring.used (outlet_uses outlet) (flat_map outlet_uses outlets);
      once = λ o. rest.once (one.once o);
    }

pub record WiresInputs (place : ℕ) (inputs : List (Option ℕ)) (wiring after : Wiring) : Type 0 where
  pub made : after.made ≡ wiring.made ++ input_entries input_stage place inputs
  pub used : after.used ≡ wiring.used
  pub once : IsOnce wiring → IsOnce after

pub wire_inputs-ok : (place : ℕ) (inputs : List (Option ℕ)) (wiring after : Wiring) → wire_inputs place inputs wiring ≡ Ok after → WiresInputs place inputs wiring after
wire_inputs-ok place [] wiring after h =
    record { made = ok_made h ∙ sym (append-nil wiring.made); used = ok_used h; once = ok_once h }
wire_inputs-ok place (None ∷ inputs) wiring after h =
    let rest = wire_inputs-ok (place + 1) inputs wiring after h in record { made = rest.made; used = rest.used; once = rest.once }
wire_inputs-ok place (Some wire ∷ inputs) wiring after h =
    let s = bind-Ok (at (Input place) (make_wire wire 0 wiring)) (wire_inputs (place + 1) inputs) after h in
    let makes = make_wire-ok wiring wire 0 s.0 (at-ok (Input place) (make_wire wire 0 wiring) s.0 s.1) in
    let rest = wire_inputs-ok (place + 1) inputs s.0 after s.2 in
    record {
      made = rest.made ∙ ap (λ (w : Wiring). w.made ++ input_entries input_stage (place + 1) inputs) makes.gives ∙ append_assoc wiring.made ((wire, 0) ∷ []) (input_entries input_stage (place + 1) inputs);
      used = rest.used ∙ ap (λ (w : Wiring). w.used) makes.gives;
      once = λ o. rest.once (makes.once o);
    }
