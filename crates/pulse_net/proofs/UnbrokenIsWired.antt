-- The fold of the rules against the rules said of the netlist as it stands: no rule is broken exactly where it is wired.
-- From the fold: each step says what it used and made, and that nothing was made or used twice. To the fold: each step
-- finds its sources free, since they are made so far, and stand once in the list of all uses.
mod RuleSteps
mod AllUsed
use Rattle.std.proofs.Common.{◌≡◌, ℕ, ◌+◌, ◌*◌, Bool, true, false, nat_eq, ◌||◌, List, [], ◌∷◌, ◌++◌, refl, sym, ap, subst, ◌∙◌, append_assoc, arith}
use Rattle.std.specs.Prelude.{Option, Some, None, Result, Ok, Err, IsOk, nat_lt, nat_le, ◌==◌, unwrap_or, flat_map, option_to_list}
use Rattle.std.specs.List.{IsDistinct, list_any}
use Rattle.std.specs.Map.{keys_of}
use Rattle.std.proofs.lemmas.Bool.{true≢false, and_from, lt-ltb, le-leb}
use Rattle.std.proofs.lemmas.Map.Keys.{IsDistinct-from_apart}
use Rattle.std.proofs.lemmas.List.{append-nil, map-append}
use Rattle.net_base.specs.Answers.{◌>>=◌}
use Rattle.net_base.proofs.CallerLemmas.{bind-Ok, lookup-absent, is_among-next}
use Rattle.pulse_net.specs.declared.net.Element.{Element}
use Rattle.pulse_net.specs.declared.net.Element.TheVariants.{Clocked, Split}
use Rattle.pulse_net.specs.declared.net.Outlet.{Outlet}
use Rattle.pulse_net.specs.declared.net.Outlet.TheVariants.{Zero, One, Wire}
use Rattle.pulse_net.specs.declared.net.PulseNet.{PulseNet}
use Rattle.pulse_net.specs.declared.fault.Place.TheVariants.{Input, Element as AtElement, Output}
use Rattle.pulse_net.specs.Wires.{Wires, found, carried, input_entries, element_wires, after_elements, input_stage, cell_stage, stages_of, used_wires, element_uses, outlet_uses}
use Rattle.net_base.specs.Keys.{is_among}
use Rattle.pulse_net.specs.Validity.{Wiring, at, made_once, make_wire, used_once, source_stage, is_gap, with_used, used_in_time, use_wire, use_pins, wire_element, wire_output, wire_inputs, wire_elements, wire_outputs, unwired, check_latency, has_wire, least_unused, close_at, close_wires, wiring_of}
use Rattle.pulse_net.specs.Wired.{element_makes, makes_of, ArrivesInTime, ArriveInTime, ElementInTime, ElementsInTime, OutletInTime, OutletsInTime, IsWired}
use Rattle.pulse_net.specs.Laws.{UnbrokenIsWired}
use Rattle.pulse_net.proofs.WiresMadeOnce.{keys-stages, keys-element, keys-inputs}
use Rattle.pulse_net.proofs.UnbrokenIsWired.AllUsed.{least_unused-none, least_unused-used}
use Rattle.pulse_net.proofs.UnbrokenIsWired.RuleSteps.{with_made, IsOnce, WiresInputs, WiresElements, WiresOutlets, wire_inputs-ok, wire_elements-ok, wire_outputs-ok}

-- ---- from the fold

none-twice : IsDistinct nat_eq []
none-twice = IsDistinct-from_apart nat_eq [] (λ i j d before within. absurd (omega arith))

latency-kept : (latency : ℕ) (fine : Bool) (wiring after : Wiring) → check_latency latency fine wiring ≡ Ok after → (fine ≡ true) × (wiring ≡ after)
latency-kept latency true wiring after h = (refl, cc)
latency-kept latency false wiring after h = cc

closed : (wiring : Wiring) (unused : Option ℕ) (after : Wiring) → close_at wiring unused ≡ Ok after → (unused ≡ None) × (wiring ≡ after)
closed wiring None after h = (refl, cc)
closed wiring (Some wire) after h = cc

-- what the fold went through on its way to a wiring
record Passes (net : PulseNet) : Type 0 where
  inputs : Wiring
  elements : Wiring
  outputs : Wiring
  by_inputs : WiresInputs 0 net.inputs unwired inputs
  by_elements : WiresElements net.phases inputs net.elements elements
  by_outputs : WiresOutlets net.phases (net.phases * net.latency) elements net.outputs outputs
  latency : (net.latency == 1 || list_any has_wire net.outputs) ≡ true
  all_used : least_unused outputs.used None (keys_of outputs.made) ≡ None

passes : (net : PulseNet) (wiring : Wiring) → wiring_of net ≡ Ok wiring → Passes net
passes net wiring h =
    let n = net.phases in
    let inputs = wire_inputs 0 net.inputs unwired in
    let elements = inputs >>= wire_elements n 0 net.elements in
    let outputs = elements >>= wire_outputs n net.latency 0 net.outputs in
    let fine = net.latency == 1 || list_any has_wire net.outputs in
    let e = bind-Ok (outputs >>= check_latency net.latency fine) close_wires wiring h in
    let d = bind-Ok outputs (check_latency net.latency fine) e.0 e.1 in
    let c = bind-Ok elements (wire_outputs n net.latency 0 net.outputs) d.0 d.1 in
    let b = bind-Ok inputs (wire_elements n 0 net.elements) c.0 c.1 in
    let kept = latency-kept net.latency fine d.0 e.0 d.2 in
    let close = closed e.0 (least_unused e.0.used None (keys_of e.0.made)) wiring e.2 in
    record {
      inputs = b.0;
      elements = c.0;
      outputs = d.0;
      by_inputs = wire_inputs-ok 0 net.inputs unwired b.0 b.1;
      by_elements = wire_elements-ok n 0 net.elements b.0 c.0 b.2;
      by_outputs = wire_outputs-ok n net.latency 0 net.outputs c.0 d.0 c.2;
      latency = kept.0;
      all_used = subst (λ (w : Wiring). least_unused w.used None (keys_of w.made) ≡ None) (sym kept.1) close.0;
    }

module _ (net : PulseNet) (p : Passes net) where
  elements-made : p.elements.made ≡ stages_of net
  elements-made = p.by_elements.made ∙ ap (λ m. after_elements 0 cell_stage m net.elements) p.by_inputs.made

  all-made : keys_of p.outputs.made ≡ makes_of net
  all-made = ap keys_of (p.by_outputs.made ∙ elements-made) ∙ keys-stages net

  elements-used : p.elements.used ≡ flat_map element_uses net.elements
  elements-used = p.by_elements.used ∙ ap (λ u. u ++ flat_map element_uses net.elements) p.by_inputs.used

  all-used : p.outputs.used ≡ used_wires net
  all-used = p.by_outputs.used ∙ ap (λ u. u ++ flat_map outlet_uses net.outputs) elements-used

  all-once : IsOnce p.outputs
  all-once = p.by_outputs.once (p.by_elements.once (p.by_inputs.once (record { made = none-twice; used = none-twice })))

  -- all rules hold of the netlist as it stands
  is_wired : IsWired net
  is_wired =
      let used = (least_unused-none p.outputs.used (keys_of p.outputs.made) None p.all_used).each in
      record {
        elements = subst (λ m. ElementsInTime net.phases m net.elements) p.by_inputs.made p.by_elements.in_time;
        outputs = subst (λ m. OutletsInTime net.phases (net.phases * net.latency) m net.outputs) elements-made p.by_outputs.in_time;
        made_once = subst (IsDistinct nat_eq) all-made all-once.made;
        used_once = subst (IsDistinct nat_eq) all-used all-once.used;
        all_used = λ wire made. ap (λ u. is_among nat_eq wire u) (sym all-used) ∙ used wire (ap (λ m. is_among nat_eq wire m) all-made ∙ made);
        latency = p.latency;
      }

ok_value : {A E : Type 0} (r : Result A E) → IsOk r → (a : A) × (r ≡ Ok a)
ok_value (Ok a) h = (a, refl)
ok_value (Err e) h = absurd (true≢false (sym h))

pub wired : (net : PulseNet) → IsOk (wiring_of net) → IsWired net
wired net h = let w = ok_value (wiring_of net) h in is_wired net (passes net w.0 w.1)

-- ---- to the fold

make_wire-fine : (wiring : Wiring) (wire stage : ℕ) → is_among nat_eq wire (keys_of wiring.made) ≡ false → make_wire wire stage wiring ≡ Ok (with_made wiring wire stage)
make_wire-fine wiring wire stage new = ap (made_once wiring wire stage) (lookup-absent (nat_eq wire) wiring.made new)

source_stage-fine : (wiring : Wiring) (wire stage : ℕ) → found wiring.made wire ≡ Some stage → is_among nat_eq wire wiring.used ≡ false → source_stage wiring wire ≡ Ok stage
source_stage-fine wiring wire stage made unused =
    ap (λ o. used_once wire o (is_among nat_eq wire wiring.used)) made ∙ ap (used_once wire (Some stage)) unused

use_wire-fine : (n user : ℕ) (wiring : Wiring) (wire : ℕ) → ArrivesInTime n wiring.made user wire → is_among nat_eq wire wiring.used ≡ false → use_wire n user wire wiring ≡ Ok (with_used wiring wire)
use_wire-fine n user wiring wire h unused =
    let time = h.2 in
    let gap : is_gap n h.0 user ≡ true = and_from (nat_lt h.0 user) (nat_le user (h.0 + n)) (lt-ltb h.0 user time.after) (le-leb user (h.0 + n) time.within) in
    ap (λ r. r >>= λ stage. used_in_time wiring wire stage user (is_gap n stage user)) (source_stage-fine wiring wire h.0 h.1 unused) ∙ ap (used_in_time wiring wire h.0 user) gap

-- one wire more is done of those that are to be done
one-more : (done : List ℕ) (wire : ℕ) (todo : List ℕ) → IsDistinct nat_eq (done ++ wire ∷ todo) → IsDistinct nat_eq ((done ++ wire ∷ []) ++ todo)
one-more done wire todo h = subst (IsDistinct nat_eq) (sym (append_assoc done (wire ∷ []) todo)) h

-- a wiring after more wires are made and used
abbrev and_then : Wiring → Wires ℕ → List ℕ → Wiring
and_then wiring made used = record { made = wiring.made ++ made; used = wiring.used ++ used }

use_pins-fine : (n user : ℕ) (pins todo : List ℕ) (wiring : Wiring) → ArriveInTime n wiring.made user pins → IsDistinct nat_eq (wiring.used ++ (pins ++ todo)) → use_pins n user pins wiring ≡ Ok (record { made = wiring.made; used = wiring.used ++ pins })
use_pins-fine n user [] todo wiring h d =
    ap (λ u. Ok (record { made = wiring.made; used = u })) (sym (append-nil wiring.used))
use_pins-fine n user (pin ∷ pins) todo wiring h d =
    ap (λ r. r >>= use_pins n user pins) (use_wire-fine n user wiring pin h.0 (is_among-next wiring.used (pins ++ todo) pin d))
    ∙ use_pins-fine n user pins todo (with_used wiring pin) h.1 (one-more wiring.used pin (pins ++ todo) d)
    ∙ ap (λ u. Ok (record { made = wiring.made; used = u })) (append_assoc wiring.used (pin ∷ []) pins)

keys-made : (made : Wires ℕ) (wire stage : ℕ) → keys_of (made ++ (wire, stage) ∷ []) ≡ keys_of made ++ wire ∷ []
keys-made made wire stage = map-append (λ (e : ℕ × ℕ). e.0) made ((wire, stage) ∷ [])

wire_element-fine : (n : ℕ) (element : Element) (to_make to_use : List ℕ) (wiring : Wiring) → ElementInTime n wiring.made element → IsDistinct nat_eq (keys_of wiring.made ++ (element_makes element ++ to_make)) → IsDistinct nat_eq (wiring.used ++ (element_uses element ++ to_use)) → wire_element n element wiring ≡ Ok (and_then wiring (element_wires 0 cell_stage wiring.made element) (element_uses element))
wire_element-fine n (Clocked cell stage pins out) to_make to_use wiring h m u =
    ap (λ r. r >>= make_wire out stage) (use_pins-fine n stage pins to_use wiring h u)
    ∙ make_wire-fine (record { made = wiring.made; used = wiring.used ++ pins }) out stage (is_among-next (keys_of wiring.made) to_make out m)
wire_element-fine n (Split from left right) to_make to_use wiring h m u =
    let s = h.0 in
    let stage : s ≡ carried 0 wiring.made from = ap (λ o. unwrap_or o 0) (sym h.1) in
    let free = is_among-next wiring.used to_use from u in
    let one = with_made (with_used wiring from) left s in
    let second : is_among nat_eq right (keys_of one.made) ≡ false = ap (λ k. is_among nat_eq right k) (keys-made wiring.made left s) ∙ is_among-next (keys_of wiring.made ++ left ∷ []) to_make right (one-more (keys_of wiring.made) left (right ∷ to_make) m) in
    ap (λ r. r >>= λ stage. make_wire left stage (with_used wiring from) >>= make_wire right stage) (source_stage-fine wiring from s h.1 free)
    ∙ ap (λ r. r >>= make_wire right s) (make_wire-fine (with_used wiring from) left s (is_among-next (keys_of wiring.made) (right ∷ to_make) left m))
    ∙ make_wire-fine one right s second
    ∙ ap (λ made. Ok (record { made = made; used = wiring.used ++ from ∷ [] })) (append_assoc wiring.made ((left, s) ∷ []) ((right, s) ∷ []) ∙ ap (λ x. wiring.made ++ (left, x) ∷ ((right, x) ∷ [])) stage)

wire_elements-fine : (n place : ℕ) (elements : List Element) (to_use : List ℕ) (wiring : Wiring) → ElementsInTime n wiring.made elements → IsDistinct nat_eq (keys_of wiring.made ++ flat_map element_makes elements) → IsDistinct nat_eq (wiring.used ++ (flat_map element_uses elements ++ to_use)) → wire_elements n place elements wiring ≡ Ok (record { made = after_elements 0 cell_stage wiring.made elements; used = wiring.used ++ flat_map element_uses elements })
wire_elements-fine n place [] to_use wiring h m u =
    ap (λ u. Ok (record { made = wiring.made; used = u })) (sym (append-nil wiring.used))
wire_elements-fine n place (element ∷ elements) to_use wiring h m u =
    let new = element_wires 0 cell_stage wiring.made element in
    let makes = flat_map element_makes elements in
    let uses = flat_map element_uses elements in
    let next = and_then wiring new (element_uses element) in
    let keys : keys_of wiring.made ++ (element_makes element ++ makes) ≡ keys_of next.made ++ makes = sym (append_assoc (keys_of wiring.made) (element_makes element) makes) ∙ ap (λ k. k ++ makes) (ap (λ k. keys_of wiring.made ++ k) (sym (keys-element wiring.made element)) ∙ sym (map-append (λ (e : ℕ × ℕ). e.0) wiring.made new)) in
    let u' : IsDistinct nat_eq (wiring.used ++ (element_uses element ++ (uses ++ to_use))) = subst (λ l. IsDistinct nat_eq (wiring.used ++ l)) (append_assoc (element_uses element) uses to_use) u in
    ap (λ r. at (AtElement place) r >>= wire_elements n (place + 1) elements) (wire_element-fine n element makes (uses ++ to_use) wiring h.0 m u')
    ∙ wire_elements-fine n (place + 1) elements to_use next h.1 (subst (IsDistinct nat_eq) keys m) (subst (IsDistinct nat_eq) (sym (append_assoc wiring.used (element_uses element) (uses ++ to_use))) u')
    ∙ ap (λ u. Ok (record { made = after_elements 0 cell_stage next.made elements; used = u })) (append_assoc wiring.used (element_uses element) uses)

wire_output-fine : (n latency : ℕ) (outlet : Outlet) (to_use : List ℕ) (wiring : Wiring) → OutletInTime n (n * latency) wiring.made outlet → IsDistinct nat_eq (wiring.used ++ (outlet_uses outlet ++ to_use)) → wire_output n latency outlet wiring ≡ Ok (record { made = wiring.made; used = wiring.used ++ outlet_uses outlet })
wire_output-fine n latency Zero to_use wiring h u =
    ap (λ u. Ok (record { made = wiring.made; used = u })) (sym (append-nil wiring.used))
wire_output-fine n latency One to_use wiring h u =
    ap (λ u. Ok (record { made = wiring.made; used = u })) (sym (append-nil wiring.used))
wire_output-fine n latency (Wire wire) to_use wiring h u =
    use_wire-fine n (n * latency) wiring wire h (is_among-next wiring.used to_use wire u)

wire_outputs-fine : (n latency place : ℕ) (outlets : List Outlet) (wiring : Wiring) → OutletsInTime n (n * latency) wiring.made outlets → IsDistinct nat_eq (wiring.used ++ flat_map outlet_uses outlets) → wire_outputs n latency place outlets wiring ≡ Ok (record { made = wiring.made; used = wiring.used ++ flat_map outlet_uses outlets })
wire_outputs-fine n latency place [] wiring h u =
    ap (λ u. Ok (record { made = wiring.made; used = u })) (sym (append-nil wiring.used))
wire_outputs-fine n latency place (outlet ∷ outlets) wiring h u =
    let uses = flat_map outlet_uses outlets in
    let next : Wiring = record { made = wiring.made; used = wiring.used ++ outlet_uses outlet } in
    ap (λ r. at (Output place) r >>= wire_outputs n latency (place + 1) outlets) (wire_output-fine n latency outlet uses wiring h.0 u)
    ∙ wire_outputs-fine n latency (place + 1) outlets next h.1 (subst (IsDistinct nat_eq) (sym (append_assoc wiring.used (outlet_uses outlet) uses)) u)
    ∙ ap (λ u. Ok (record { made = wiring.made; used = u })) (append_assoc wiring.used (outlet_uses outlet) uses)

wire_inputs-fine : (place : ℕ) (inputs : List (Option ℕ)) (to_make : List ℕ) (wiring : Wiring) → IsDistinct nat_eq (keys_of wiring.made ++ (flat_map option_to_list inputs ++ to_make)) → wire_inputs place inputs wiring ≡ Ok (record { made = wiring.made ++ input_entries input_stage place inputs; used = wiring.used })
wire_inputs-fine place [] to_make wiring m =
    ap (λ made. Ok (record { made = made; used = wiring.used })) (sym (append-nil wiring.made))
wire_inputs-fine place (None ∷ inputs) to_make wiring m = wire_inputs-fine (place + 1) inputs to_make wiring m
wire_inputs-fine place (Some wire ∷ inputs) to_make wiring m =
    let rest = flat_map option_to_list inputs ++ to_make in
    let m' = subst (λ k. IsDistinct nat_eq (k ++ rest)) (sym (keys-made wiring.made wire 0)) (one-more (keys_of wiring.made) wire rest m) in
    ap (λ r. at (Input place) r >>= wire_inputs (place + 1) inputs) (make_wire-fine wiring wire 0 (is_among-next (keys_of wiring.made) rest wire m))
    ∙ wire_inputs-fine (place + 1) inputs to_make (with_made wiring wire 0) m'
    ∙ ap (λ made. Ok (record { made = made; used = wiring.used })) (append_assoc wiring.made ((wire, 0) ∷ []) (input_entries input_stage (place + 1) inputs))

module _ (net : PulseNet) (h : IsWired net) where
  -- the wirings that the fold goes through
  with_inputs : Wiring
  with_inputs = record { made = input_entries input_stage 0 net.inputs; used = [] }

  with_elements : Wiring
  with_elements = record { made = stages_of net; used = flat_map element_uses net.elements }

  with_outputs : Wiring
  with_outputs = record { made = stages_of net; used = used_wires net }

  inputs-fine : wire_inputs 0 net.inputs unwired ≡ Ok with_inputs
  unfolding with_inputs
  inputs-fine = wire_inputs-fine 0 net.inputs (flat_map element_makes net.elements) unwired h.made_once

  elements-fine : wire_elements net.phases 0 net.elements with_inputs ≡ Ok with_elements
  unfolding with_inputs with_elements
  elements-fine =
      let made = subst (λ k. IsDistinct nat_eq (k ++ flat_map element_makes net.elements)) (sym (keys-inputs net.inputs 0)) h.made_once in
      wire_elements-fine net.phases 0 net.elements (flat_map outlet_uses net.outputs) with_inputs h.elements made h.used_once

  outputs-fine : wire_outputs net.phases net.latency 0 net.outputs with_elements ≡ Ok with_outputs
  unfolding with_elements with_outputs
  outputs-fine = wire_outputs-fine net.phases net.latency 0 net.outputs with_elements h.outputs h.used_once

  close-fine : close_wires with_outputs ≡ Ok with_outputs
  unfolding with_outputs
  close-fine =
      ap (close_at with_outputs) (least_unused-used (used_wires net) (keys_of (stages_of net)) (λ wire among. h.all_used wire (ap (λ m. is_among nat_eq wire m) (sym (keys-stages net)) ∙ among)))

  wiring_of-wired : wiring_of net ≡ Ok with_outputs
  wiring_of-wired =
      let elements = wire_elements net.phases 0 net.elements in
      let outputs = wire_outputs net.phases net.latency 0 net.outputs in
      let fine = net.latency == 1 || list_any has_wire net.outputs in
      let latency = check_latency net.latency fine in
      ap (λ r. r >>= elements >>= outputs >>= latency >>= close_wires) inputs-fine
      ∙ ap (λ r. r >>= outputs >>= latency >>= close_wires) elements-fine
      ∙ ap (λ r. r >>= latency >>= close_wires) outputs-fine
      ∙ ap (λ b. check_latency net.latency b with_outputs >>= close_wires) h.latency
      ∙ close-fine

pub unbroken : (net : PulseNet) → IsWired net → IsOk (wiring_of net)
unbroken net h = subst IsOk (sym (wiring_of-wired net h)) refl

pub unbroken_is_wired : UnbrokenIsWired
unbroken_is_wired net = (wired net, unbroken net)
