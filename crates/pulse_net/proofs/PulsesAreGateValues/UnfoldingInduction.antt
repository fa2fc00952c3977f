-- The joint induction: over inputs and elements in order, each wire keeps its driver's value and each gate its wire.
use Rattle.std.proofs.Common.{◌≡◌, ◌≢◌, ◌≤◌, ◌+◌, ℕ, Bool, true, false, nat_eq, List, [], ◌∷◌, ◌++◌, length, map, refl, sym, ap, subst, ◌∙◌, arith, append_assoc}
use Rattle.std.specs.Prelude.{Option, Some, None, flat_map, option_to_list, ◌&&◌}
use Rattle.std.specs.List.{IsDistinct, AllByRecursion}
use Rattle.std.specs.Map.{keys_of}
use Rattle.std.proofs.Math.Bool.{and-true}
use Rattle.std.proofs.lemmas.List.{append-nil, length-map}
use Rattle.std.proofs.lemmas.List.Elements.{All-from_recursion}
use Rattle.cell_lib.specs.declared.cell.Cell.{Cell}
use Rattle.cell_lib.specs.declared.cell.Cell.TheVariants.{Dro}
use Rattle.cell_lib.specs.Cell.{cell_value, arity_of}
use Rattle.gate_net.specs.declared.row.Driver.{Driver}
use Rattle.gate_net.specs.declared.row.Driver.TheVariants.{Input, Gate}
use Rattle.gate_net.specs.declared.row.GateRow.{GateRow}
use Rattle.gate_net.specs.Net.{IsThere, IsGate}
use Rattle.gate_net.specs.Values.{gate_value, values_by}
use Rattle.pulse_net.specs.declared.net.Element.{Element}
use Rattle.pulse_net.specs.declared.net.Element.TheVariants.{Clocked, Split}
use Rattle.pulse_net.specs.Formed.{HasItsPins}
use Rattle.pulse_net.specs.Wires.{Wires, found, carried, input_entries, element_wires, after_elements, input_stage, cell_stage}
use Rattle.pulse_net.specs.Wired.{element_makes, ArriveInTime, ElementInTime, ElementsInTime}
use Rattle.pulse_net.specs.RowValues.{input_value, stageless_value}
use Rattle.pulse_net.specs.Unfolding.{Unfolding, driver_of, make_driven, add_gate, pass_dro, dro_driver, unfold_element, unfold_elements, unfold_inputs, gate_wire}
use Rattle.pulse_net.proofs.WiresMadeOnce.{new_wire, behind_wire, behind_element}
use Rattle.pulse_net.proofs.RelatedWires.{related-found, related-absent, related-make}
use Rattle.pulse_net.proofs.PulsesAreGateValues.DriverValues.{IsDriven, agree-more, driven-new, pins-there, pins-worth}
use Rattle.pulse_net.proofs.PulsesAreGateValues.GatesSoFar.{Traced, gates_known-wires, gates_known-push}

module _ (inputs : ℕ) (bits : List Bool) where
  -- a new wire with its driver
  make_traced : (a : Wires ℕ) (b : Wires Bool) (so : Unfolding) (outs : List ℕ) → Traced inputs bits a b so outs → (wire stage : ℕ) (value : Bool) (driver : Driver) → found a wire ≡ None → IsDriven inputs bits so.gates value driver → Traced inputs bits (a ++ (wire, stage) ∷ []) (b ++ (wire, value) ∷ []) (make_driven wire driver so) outs
  make_traced a b so outs t wire stage value driver new h = record {
    wires = related-make wire stage value driver t.wires new h;
    known = gates_known-wires inputs bits so.gates so.stages outs a ((wire, stage) ∷ []) b ((wire, value) ∷ []) t.known;
  }

  -- a DRO
  dro_traced : (a : Wires ℕ) (b : Wires Bool) (so : Unfolding) (outs : List ℕ) → Traced inputs bits a b so outs → (n stage out : ℕ) (pins : List ℕ) → length pins ≡ 1 → ArriveInTime n a stage pins → found a out ≡ None → Traced inputs bits (a ++ (out, stage) ∷ []) (b ++ (out, stageless_value Dro stage (map (carried false b) pins)) ∷ []) (pass_dro out (dro_driver (map (driver_of so.wires) pins)) so) outs
  dro_traced a b so outs t n stage out [] one h new = absurd (omega arith)
  dro_traced a b so outs t n stage out (pin ∷ []) one h new =
      let source = related-found false (Input 0) pin h.0.0 t.wires h.0.1 in
      let passed : IsDriven inputs bits so.gates (carried false b pin && true) (driver_of so.wires pin) = record { there = source.there; worth = and-true (carried false b pin) ∙ source.worth } in
      record {
        wires = related-make out stage (carried false b pin && true) (driver_of so.wires pin) t.wires new passed;
        known = gates_known-wires inputs bits so.gates so.stages outs a ((out, stage) ∷ []) b ((out, carried false b pin && true) ∷ []) t.known;
      }
  dro_traced a b so outs t n stage out (pin ∷ (other ∷ pins)) one h new = absurd (omega arith)

  -- a gate
  gate_traced : (a : Wires ℕ) (b : Wires Bool) (so : Unfolding) (outs : List ℕ) → Traced inputs bits a b so outs → (n : ℕ) (cell : Cell) (stage out : ℕ) (pins : List ℕ) → cell ≢ Dro → length pins ≡ arity_of cell → ArriveInTime n a stage pins → found a out ≡ None → Traced inputs bits (a ++ (out, stage) ∷ []) (b ++ (out, stageless_value cell stage (map (carried false b) pins)) ∷ []) (add_gate cell stage out (map (driver_of so.wires) pins) so) (outs ++ out ∷ [])
  gate_traced a b so outs t n cell stage out pins other arity h new =
      let row : GateRow = record { cell = cell; pins = map (driver_of so.wires) pins } in
      let value = gate_value bits (values_by bits so.gates) row in
      let worth : value ≡ stageless_value cell stage (map (carried false b) pins) = sym (ap (cell_value cell) (pins-worth inputs bits so.gates a b so.wires t.wires n stage pins h)) in
      let gate : IsGate inputs (length so.gates) row = record {
        not_dro = other;
        arity = length-map pins (driver_of so.wires) ∙ arity;
        drivers = All-from_recursion (IsThere inputs (length so.gates)) (map (driver_of so.wires) pins) (pins-there inputs bits so.gates a b so.wires t.wires n stage pins h);
      } in
      let made : Traced inputs bits (a ++ (out, stage) ∷ []) (b ++ (out, value) ∷ []) (add_gate cell stage out (map (driver_of so.wires) pins) so) (outs ++ out ∷ []) = record {
        wires = related-make out stage value (Gate (length so.gates)) (agree-more inputs bits so.gates row a b so.wires t.wires) new (driven-new inputs bits so.gates row);
        known = gates_known-push inputs bits so.gates row so.stages outs stage out a b t.known gate new (related-absent out t.wires new).0;
      } in
      subst (λ (v : Bool). Traced inputs bits (a ++ (out, stage) ∷ []) (b ++ (out, v) ∷ []) (add_gate cell stage out (map (driver_of so.wires) pins) so) (outs ++ out ∷ [])) worth made

  -- no gate more
  no_gate : (a : Wires ℕ) (b : Wires Bool) (so : Unfolding) (outs : List ℕ) → Traced inputs bits a b so outs → Traced inputs bits a b so (outs ++ [])
  no_gate a b so outs t = subst (λ (o : List ℕ). Traced inputs bits a b so o) (sym (append-nil outs)) t

  split_traced : (a : Wires ℕ) (b : Wires Bool) (so : Unfolding) (outs : List ℕ) → Traced inputs bits a b so outs → (n from left right : ℕ) → ElementInTime n a (Split from left right) → (rest : List ℕ) → IsDistinct nat_eq (keys_of a ++ left ∷ (right ∷ rest)) → Traced inputs bits (a ++ element_wires 0 cell_stage a (Split from left right)) (b ++ element_wires false stageless_value b (Split from left right)) (unfold_element (Split from left right) so) outs
  split_traced a b so outs t n from left right h rest distinct =
      let s = carried 0 a from in
      let v = carried false b from in
      let d = driver_of so.wires from in
      let source : IsDriven inputs bits so.gates v d = related-found false (Input 0) from h.0 t.wires h.1 in
      let one = make_traced a b so outs t left s v d (new_wire a left (right ∷ rest) distinct) source in
      let new = new_wire (a ++ (left, s) ∷ []) right rest (behind_wire a left s (right ∷ rest) distinct) in
      let two = make_traced (a ++ (left, s) ∷ []) (b ++ (left, v) ∷ []) (make_driven left d so) outs one right s v d new source in
      let so' : Unfolding = make_driven right d (make_driven left d so) in
      let grouped = subst (λ (x : Wires ℕ). Traced inputs bits x ((b ++ (left, v) ∷ []) ++ (right, v) ∷ []) so' outs) (append_assoc a ((left, s) ∷ []) ((right, s) ∷ [])) two in
      subst (λ (y : Wires Bool). Traced inputs bits (a ++ (left, s) ∷ ((right, s) ∷ [])) y so' outs) (append_assoc b ((left, v) ∷ []) ((right, v) ∷ [])) grouped

  element_traced : (a : Wires ℕ) (b : Wires Bool) (so : Unfolding) (outs : List ℕ) → Traced inputs bits a b so outs → (n : ℕ) (element : Element) → ElementInTime n a element → HasItsPins element → (rest : List ℕ) → IsDistinct nat_eq (keys_of a ++ (element_makes element ++ rest)) → Traced inputs bits (a ++ element_wires 0 cell_stage a element) (b ++ element_wires false stageless_value b element) (unfold_element element so) (outs ++ gate_wire element)
  element_traced a b so outs t n (Clocked Dro stage pins out) h pinned rest distinct = no_gate _ _ _ outs (dro_traced a b so outs t n stage out pins pinned h (new_wire a out rest distinct))
  element_traced a b so outs t n (Clocked cell stage pins out) h pinned rest distinct = gate_traced a b so outs t n cell stage out pins (λ e. cc) pinned h (new_wire a out rest distinct)
  element_traced a b so outs t n (Split from left right) h pinned rest distinct = no_gate _ _ _ outs (split_traced a b so outs t n from left right h rest distinct)

  -- Elements in order. Later gates leave the values of those before as they were, and later wires are other wires.
  pub elements_traced : (a : Wires ℕ) (b : Wires Bool) (so : Unfolding) (outs : List ℕ) → Traced inputs bits a b so outs → (n : ℕ) (elements : List Element) → ElementsInTime n a elements → AllByRecursion HasItsPins elements → IsDistinct nat_eq (keys_of a ++ flat_map element_makes elements) → Traced inputs bits (after_elements 0 cell_stage a elements) (after_elements false stageless_value b elements) (unfold_elements elements so) (outs ++ flat_map gate_wire elements)
  elements_traced a b so outs t n [] h pinned distinct = no_gate a b so outs t
  elements_traced a b so outs t n (element ∷ elements) h pinned distinct =
      let rest = flat_map element_makes elements in
      let a' = a ++ element_wires 0 cell_stage a element in
      let b' = b ++ element_wires false stageless_value b element in
      let one = element_traced a b so outs t n element h.0 pinned.0 rest distinct in
      let all = elements_traced a' b' (unfold_element element so) (outs ++ gate_wire element) one n elements h.1 pinned.1 (behind_element a element rest distinct) in
      subst (λ (o : List ℕ). Traced inputs bits (after_elements 0 cell_stage a' elements) (after_elements false stageless_value b' elements) (unfold_elements elements (unfold_element element so)) o) (append_assoc outs (gate_wire element) (flat_map gate_wire elements)) all

  -- Inputs in order.
  pub inputs_traced : (a : Wires ℕ) (b : Wires Bool) (so : Unfolding) (outs : List ℕ) → Traced inputs bits a b so outs → (used : List (Option ℕ)) (place : ℕ) → place + length used ≤ inputs → (rest : List ℕ) → IsDistinct nat_eq (keys_of a ++ (flat_map option_to_list used ++ rest)) → Traced inputs bits (a ++ input_entries input_stage place used) (b ++ input_entries (input_value bits) place used) (unfold_inputs place used so) outs
  inputs_traced a b so outs t [] place few rest distinct =
      let first = subst (λ (x : Wires ℕ). Traced inputs bits x b so outs) (sym (append-nil a)) t in
      subst (λ (y : Wires Bool). Traced inputs bits (a ++ []) y so outs) (sym (append-nil b)) first
  inputs_traced a b so outs t (None ∷ used) place few rest distinct = inputs_traced a b so outs t used (place + 1) (omega arith) rest distinct
  inputs_traced a b so outs t (Some wire ∷ used) place few rest distinct =
      let v = input_value bits place in
      let more = flat_map option_to_list used ++ rest in
      let source : IsDriven inputs bits so.gates v (Input place) = record { there = omega arith; worth = refl } in
      let one = make_traced a b so outs t wire 0 v (Input place) (new_wire a wire more distinct) source in
      let so' : Unfolding = unfold_inputs (place + 1) used (make_driven wire (Input place) so) in
      let all = inputs_traced (a ++ (wire, 0) ∷ []) (b ++ (wire, v) ∷ []) (make_driven wire (Input place) so) outs one used (place + 1) (omega arith) rest (behind_wire a wire 0 more distinct) in
      let grouped = subst (λ (x : Wires ℕ). Traced inputs bits x ((b ++ (wire, v) ∷ []) ++ input_entries (input_value bits) (place + 1) used) so' outs) (append_assoc a ((wire, 0) ∷ []) (input_entries input_stage (place + 1) used)) all in
      subst (λ (y : Wires Bool). Traced inputs bits (a ++ (wire, 0) ∷ input_entries input_stage (place + 1) used) y so' outs) (append_assoc b ((wire, v) ∷ []) (input_entries (input_value bits) (place + 1) used)) grouped
