-- Stages, depths and drivers of the same wires: each stands at its driver's stage or behind it, by n ticks a DRO at most,
-- and it is no deeper than its driver has DROs.
use Rattle.std.proofs.Common.{◌≡◌, ◌<◌, ◌≤◌, ◌+◌, ◌*◌, ℕ, nat_eq, List, [], ◌∷◌, ◌++◌, cond, length, map, get_or, refl, sym, ap, subst, ◌∙◌, arith, append_assoc}
use Rattle.std.specs.Prelude.{Option, Some, None, unwrap_or, flat_map, option_to_list, ⊤}
use Rattle.std.specs.List.{IsDistinct, AllByRecursion}
use Rattle.std.specs.Map.{keys_of}
use Rattle.std.proofs.lemmas.List.{append-nil, length_push, get_or_append_left, get_or_push}
use Rattle.std.proofs.lemmas.List.Elements.{recursion_from_All}
use Rattle.std.proofs.lemmas.List.Sums.{sum_by_push}
use Rattle.cell_lib.specs.declared.cell.Cell.{Cell}
use Rattle.cell_lib.specs.declared.cell.Cell.TheVariants.{Dro}
use Rattle.gate_net.specs.declared.row.Driver.{Driver}
use Rattle.gate_net.specs.declared.row.Driver.TheVariants.{Input, Gate}
use Rattle.gate_net.specs.declared.row.GateRow.{GateRow}
use Rattle.gate_net.specs.Rows.{same_driver}
use Rattle.gate_net.specs.Entries.{entry_of}
use Rattle.gate_net.proofs.CallerLemmas.{same_driver-decides}
use Rattle.pulse_net.specs.declared.net.Element.{Element}
use Rattle.pulse_net.specs.declared.net.Element.TheVariants.{Clocked, Split}
use Rattle.pulse_net.specs.declared.net.PulseNet.{PulseNet}
use Rattle.pulse_net.specs.Formed.{HasItsPins}
use Rattle.pulse_net.specs.Wires.{Wires, found, carried, input_entries, element_wires, after_elements, input_stage, cell_stage, stages_of}
use Rattle.pulse_net.specs.Validity.{IsValid}
use Rattle.pulse_net.specs.Wired.{element_makes, ArriveInTime, ElementInTime, ElementsInTime}
use Rattle.pulse_net.specs.Unfolding.{Unfolding, driver_of, make_driven, add_gate, pass_dro, dro_driver, nothing_unfolded, unfold_element, unfold_elements, unfold_inputs, unfolding_of}
use Rattle.pulse_net.specs.Depths.{input_depth, cell_depth, depths_of, dros_behind, StagesFollowDepths, DrosFollowDepths}
use Rattle.pulse_net.proofs.RelatedWires.{Related, none, related-weaker, related-found, related-absent, related-make}
use Rattle.pulse_net.proofs.WiresMadeOnce.{new_wire, behind_wire, behind_element, keys-inputs}
use Rattle.pulse_net.proofs.UnbrokenIsWired.{wired}

-- a driver is an input or a gate that has its stage so far
abbrev pub HasStage : List ℕ → Driver → Type 0
HasStage stages (Input i) = ⊤
HasStage stages (Gate k) = k < length stages

-- with n phases a wire stands at its driver's stage or behind it, by n ticks a DRO at most, and its driver has these DROs
pub record IsBehind (n : ℕ) (gates : List ℕ) (dros : List Driver) (stage depth : ℕ) (driver : Driver) : Type 0 where
  pub there : HasStage gates driver
  pub after : entry_of gates driver ≤ stage
  pub within : stage ≤ entry_of gates driver + n * depth
  pub counted : depth ≤ dros_behind dros driver

-- stages, depths and drivers of the same wires, in one order, where the gates so far have these stages, and the DROs these
-- drivers
abbrev pub Follow : ℕ → List ℕ → List Driver → Wires ℕ → Wires ℕ → Wires Driver → Type 0
Follow n gates dros = Related (IsBehind n gates dros)

-- what is known of the wires as far as a netlist is unfolded
pub record Followed (n : ℕ) (stages depths : Wires ℕ) (so : Unfolding) : Type 0 where
  pub wires : Follow n so.stages so.dros stages depths so.wires
  pub each_stage : length so.stages ≡ length so.gates

-- one DRO more is one more behind its driver, and behind no other one less
counted-more : (dros : List Driver) (last driver : Driver) → dros_behind dros driver ≤ dros_behind (dros ++ last ∷ []) driver
counted-more dros last driver = omega (arith, sum_by_push (λ d. cond (same_driver driver d) 1 0) dros last)

counted-last : (dros : List Driver) (driver : Driver) → dros_behind (dros ++ driver ∷ []) driver ≡ dros_behind dros driver + 1
counted-last dros driver =
    sum_by_push (λ d. cond (same_driver driver d) 1 0) dros driver
    ∙ ap (λ b. dros_behind dros driver + cond b 1 0) ((same_driver-decides driver driver).1 refl)

module _ (n : ℕ) where
  -- a wire is no deeper than its driver has DROs; one that isn't made has depth 0
  follow-counted : (gates : List ℕ) (dros : List Driver) (a b : Wires ℕ) (d : Wires Driver) (wire : ℕ) → Follow n gates dros a b d → carried 0 b wire ≤ dros_behind dros (driver_of d wire)
  follow-counted gates dros a b d wire p = by (found a wire) refl
    where
      by : (made : Option ℕ) → found a wire ≡ made → carried 0 b wire ≤ dros_behind dros (driver_of d wire)
      by None e = let none : carried 0 b wire ≡ 0 = ap (λ o. unwrap_or o 0) (related-absent wire p e).0 in omega arith
      by (Some stage) e = (related-found 0 (Input 0) wire stage p e).counted

  -- one gate more leaves the stages of those before
  behind-more : (gates : List ℕ) (dros : List Driver) (last stage depth : ℕ) (driver : Driver) → IsBehind n gates dros stage depth driver → IsBehind n (gates ++ last ∷ []) dros stage depth driver
  behind-more gates dros last stage depth (Input i) h = record { there = tt; after = h.after; within = h.within; counted = h.counted }
  behind-more gates dros last stage depth (Gate k) h =
      let before : k < length gates = h.there in
      let same : get_or (gates ++ last ∷ []) k 0 ≡ get_or gates k 0 = get_or_append_left gates (last ∷ []) 0 k before in
      record {
        there = omega (arith, length_push gates last);
        after = subst (λ s. s ≤ stage) (sym same) h.after;
        within = subst (λ s. stage ≤ s + n * depth) (sym same) h.within;
        counted = h.counted;
      }

  -- a gate's wire has the gate's stage
  behind-new : (gates : List ℕ) (dros : List Driver) (stage k : ℕ) → length gates ≡ k → IsBehind n (gates ++ stage ∷ []) dros stage 0 (Gate k)
  behind-new gates dros stage k last =
      let same : get_or (gates ++ stage ∷ []) k 0 ≡ stage = get_or_push gates stage 0 k last in
      record {
        there = omega (arith, length_push gates stage, last);
        after = omega (arith, same);
        within = omega (arith, same);
        counted = omega arith;
      }

  -- one DRO more takes none away,
  behind-passed : (gates : List ℕ) (dros : List Driver) (last : Driver) (stage depth : ℕ) (driver : Driver) → IsBehind n gates dros stage depth driver → IsBehind n gates (dros ++ last ∷ []) stage depth driver
  behind-passed gates dros last stage depth driver h =
      record { there = h.there; after = h.after; within = h.within; counted = omega (arith, h.counted, counted-more dros last driver) }

  -- and it reads its pin 1 to n ticks after the pin's stage
  behind-dro : (gates : List ℕ) (dros : List Driver) (source stage depth : ℕ) (driver : Driver) → IsBehind n gates dros source depth driver → source < stage → stage ≤ source + n → IsBehind n gates (dros ++ driver ∷ []) stage (depth + 1) driver
  behind-dro gates dros source stage depth driver h after within =
      let e : n * (depth + 1) ≡ n * depth + n = grind arith in
      record {
        there = h.there;
        after = omega (arith, h.after, after);
        within = omega (arith, h.within, within, e);
        counted = omega (arith, h.counted, counted-last dros driver);
      }

  -- a new wire with its driver
  pub make_followed : (a b : Wires ℕ) (so : Unfolding) → Followed n a b so → (wire stage depth : ℕ) (driver : Driver) → found a wire ≡ None → IsBehind n so.stages so.dros stage depth driver → Followed n (a ++ (wire, stage) ∷ []) (b ++ (wire, depth) ∷ []) (make_driven wire driver so)
  make_followed a b so t wire stage depth driver new h =
      record { wires = related-make wire stage depth driver t.wires new h; each_stage = t.each_stage }

  -- a DRO
  dro_followed : (a b : Wires ℕ) (so : Unfolding) → Followed n a b so → (stage out : ℕ) (pins : List ℕ) → length pins ≡ 1 → ArriveInTime n a stage pins → found a out ≡ None → Followed n (a ++ (out, stage) ∷ []) (b ++ (out, cell_depth Dro stage (map (carried 0 b) pins)) ∷ []) (pass_dro out (dro_driver (map (driver_of so.wires) pins)) so)
  dro_followed a b so t stage out [] one h new = absurd (omega arith)
  dro_followed a b so t stage out (pin ∷ []) one h new =
      let time = h.0.2 in
      let driver = driver_of so.wires pin in
      let source = related-found 0 (Input 0) pin h.0.0 t.wires h.0.1 in
      let passed = behind-dro so.stages so.dros h.0.0 stage (carried 0 b pin) driver source time.after time.within in
      let later : Follow n so.stages (so.dros ++ driver ∷ []) a b so.wires = related-weaker (behind-passed so.stages so.dros driver) t.wires in
      record { wires = related-make out stage (carried 0 b pin + 1) driver later new passed; each_stage = t.each_stage }
  dro_followed a b so t stage out (pin ∷ (other ∷ pins)) one h new = absurd (omega arith)

  -- a gate
  gate_followed : (a b : Wires ℕ) (so : Unfolding) → Followed n a b so → (cell : Cell) (stage out : ℕ) (pins : List Driver) → found a out ≡ None → Followed n (a ++ (out, stage) ∷ []) (b ++ (out, 0) ∷ []) (add_gate cell stage out pins so)
  gate_followed a b so t cell stage out pins new =
      let row : GateRow = record { cell = cell; pins = pins } in
      record {
        wires = related-make out stage 0 (Gate (length so.gates)) (related-weaker (behind-more so.stages so.dros stage) t.wires) new (behind-new so.stages so.dros stage (length so.gates) t.each_stage);
        each_stage = omega (arith, t.each_stage, length_push so.stages stage, length_push so.gates row);
      }

  split_followed : (a b : Wires ℕ) (so : Unfolding) → Followed n a b so → (from left right : ℕ) → ElementInTime n a (Split from left right) → (rest : List ℕ) → IsDistinct nat_eq (keys_of a ++ left ∷ (right ∷ rest)) → Followed n (a ++ element_wires 0 cell_stage a (Split from left right)) (b ++ element_wires 0 cell_depth b (Split from left right)) (unfold_element (Split from left right) so)
  split_followed a b so t from left right h rest distinct =
      let s = carried 0 a from in
      let v = carried 0 b from in
      let d = driver_of so.wires from in
      let stage : h.0 ≡ s = ap (λ o. unwrap_or o 0) (sym h.1) in
      let source : IsBehind n so.stages so.dros s v d = subst (λ x. IsBehind n so.stages so.dros x v d) stage (related-found 0 (Input 0) from h.0 t.wires h.1) in
      let one = make_followed a b so t left s v d (new_wire a left (right ∷ rest) distinct) source in
      let new = new_wire (a ++ (left, s) ∷ []) right rest (behind_wire a left s (right ∷ rest) distinct) in
      let two = make_followed (a ++ (left, s) ∷ []) (b ++ (left, v) ∷ []) (make_driven left d so) one right s v d new source in
      let so' : Unfolding = make_driven right d (make_driven left d so) in
      let grouped = subst (λ (x : Wires ℕ). Followed n x ((b ++ (left, v) ∷ []) ++ (right, v) ∷ []) so') (append_assoc a ((left, s) ∷ []) ((right, s) ∷ [])) two in
      subst (λ (y : Wires ℕ). Followed n (a ++ (left, s) ∷ ((right, s) ∷ [])) y so') (append_assoc b ((left, v) ∷ []) ((right, v) ∷ [])) grouped

  pub element_followed : (a b : Wires ℕ) (so : Unfolding) → Followed n a b so → (element : Element) → ElementInTime n a element → HasItsPins element → (rest : List ℕ) → IsDistinct nat_eq (keys_of a ++ (element_makes element ++ rest)) → Followed n (a ++ element_wires 0 cell_stage a element) (b ++ element_wires 0 cell_depth b element) (unfold_element element so)
  element_followed a b so t (Clocked Dro stage pins out) h pinned rest distinct = dro_followed a b so t stage out pins pinned h (new_wire a out rest distinct)
  element_followed a b so t (Clocked cell stage pins out) h pinned rest distinct = gate_followed a b so t cell stage out _ (new_wire a out rest distinct)
  element_followed a b so t (Split from left right) h pinned rest distinct = split_followed a b so t from left right h rest distinct

  -- Elements in order.
  elements_followed : (a b : Wires ℕ) (so : Unfolding) → Followed n a b so → (elements : List Element) → ElementsInTime n a elements → AllByRecursion HasItsPins elements → IsDistinct nat_eq (keys_of a ++ flat_map element_makes elements) → Followed n (after_elements 0 cell_stage a elements) (after_elements 0 cell_depth b elements) (unfold_elements elements so)
  elements_followed a b so t [] h pinned distinct = t
  elements_followed a b so t (element ∷ elements) h pinned distinct =
      let rest = flat_map element_makes elements in
      let one = element_followed a b so t element h.0 pinned.0 rest distinct in
      elements_followed (a ++ element_wires 0 cell_stage a element) (b ++ element_wires 0 cell_depth b element) (unfold_element element so) one elements h.1 pinned.1 (behind_element a element rest distinct)

  -- Inputs in order: each stands at stage 0, and so does its wire.
  inputs_followed : (a b : Wires ℕ) (so : Unfolding) → Followed n a b so → (used : List (Option ℕ)) (place : ℕ) (rest : List ℕ) → IsDistinct nat_eq (keys_of a ++ (flat_map option_to_list used ++ rest)) → Followed n (a ++ input_entries input_stage place used) (b ++ input_entries input_depth place used) (unfold_inputs place used so)
  inputs_followed a b so t [] place rest distinct =
      let first = subst (λ (x : Wires ℕ). Followed n x b so) (sym (append-nil a)) t in
      subst (λ (y : Wires ℕ). Followed n (a ++ []) y so) (sym (append-nil b)) first
  inputs_followed a b so t (None ∷ used) place rest distinct = inputs_followed a b so t used (place + 1) rest distinct
  inputs_followed a b so t (Some wire ∷ used) place rest distinct =
      let more = flat_map option_to_list used ++ rest in
      let source : IsBehind n so.stages so.dros 0 0 (Input place) = record { there = tt; after = omega arith; within = omega arith; counted = omega arith } in
      let one = make_followed a b so t wire 0 0 (Input place) (new_wire a wire more distinct) source in
      let so' : Unfolding = unfold_inputs (place + 1) used (make_driven wire (Input place) so) in
      let all = inputs_followed (a ++ (wire, 0) ∷ []) (b ++ (wire, 0) ∷ []) (make_driven wire (Input place) so) one used (place + 1) rest (behind_wire a wire 0 more distinct) in
      let grouped = subst (λ (x : Wires ℕ). Followed n x ((b ++ (wire, 0) ∷ []) ++ input_entries input_depth (place + 1) used) so') (append_assoc a ((wire, 0) ∷ []) (input_entries input_stage (place + 1) used)) all in
      subst (λ (y : Wires ℕ). Followed n (a ++ (wire, 0) ∷ input_entries input_stage (place + 1) used) y so') (append_assoc b ((wire, 0) ∷ []) (input_entries input_depth (place + 1) used)) grouped

-- a valid netlist: its inputs unfolded, where no element makes a wire again,
pub followed-inputs : (net : PulseNet) → IsValid net → Followed net.phases (input_entries input_stage 0 net.inputs) (input_entries input_depth 0 net.inputs) (unfold_inputs 0 net.inputs nothing_unfolded)
followed-inputs net valid =
    let nothing : Followed net.phases [] [] nothing_unfolded = record { wires = none; each_stage = refl } in
    inputs_followed net.phases [] [] nothing_unfolded nothing net.inputs 0 (flat_map element_makes net.elements) (wired net valid.unbroken).made_once

pub made_once-inputs : (net : PulseNet) → IsValid net → IsDistinct nat_eq (keys_of (input_entries input_stage 0 net.inputs) ++ flat_map element_makes net.elements)
made_once-inputs net valid =
    subst (λ (k : List ℕ). IsDistinct nat_eq (k ++ flat_map element_makes net.elements)) (sym (keys-inputs net.inputs 0)) (wired net valid.unbroken).made_once

-- and then all of it
pub followed : (net : PulseNet) → IsValid net → Followed net.phases (stages_of net) (depths_of net) (unfolding_of net)
followed net valid =
    elements_followed net.phases _ _ _ (followed-inputs net valid) net.elements (wired net valid.unbroken).elements
    (recursion_from_All HasItsPins net.elements valid.formed.pins) (made_once-inputs net valid)

pub stages_follow_depths : StagesFollowDepths
stages_follow_depths net wire stage valid made =
    let t = followed net valid in
    let behind = related-found 0 (Input 0) wire stage t.wires made in
    (behind.after, behind.within)

pub dros_follow_depths : DrosFollowDepths
dros_follow_depths net wire valid =
    let so = unfolding_of net in
    follow-counted net.phases so.stages so.dros (stages_of net) (depths_of net) so.wires wire (followed net valid).wires
