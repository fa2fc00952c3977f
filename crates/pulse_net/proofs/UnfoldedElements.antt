-- What a netlist unfolds to, said of its elements as they stand, with the drivers that the wires have in the end. The gates
-- are the clocked elements that are no DROs, in order, each pin with its wire's driver; a gate's wire is driven by the gate,
-- and the wires of DROs and splitters by what drives their sources. A wire keeps its driver once it is made, so the drivers
-- in the end are those that the pins had when the gates were added.
use Rattle.std.proofs.Common.{◌≡◌, ◌+◌, ℕ, nat_eq, List, [], ◌∷◌, ◌++◌, length, map, refl, sym, ap, subst, ◌∙◌, append_assoc}
use Rattle.std.specs.Prelude.{Option, Some, None, unwrap_or, flat_map, ⊤}
use Rattle.std.specs.List.{IsDistinct, AllByRecursion}
use Rattle.std.specs.Map.{keys_of}
use Rattle.std.proofs.lemmas.List.{append-nil, length_push}
use Rattle.std.proofs.lemmas.List.Elements.{recursion_from_All}
use Rattle.cell_lib.specs.declared.cell.Cell.{Cell}
use Rattle.cell_lib.specs.declared.cell.Cell.TheVariants.{Dro}
use Rattle.gate_net.specs.declared.row.Driver.{Driver}
use Rattle.gate_net.specs.declared.row.Driver.TheVariants.{Input, Gate}
use Rattle.gate_net.specs.declared.row.GateRow.{GateRow}
use Rattle.pulse_net.specs.declared.net.Element.{Element}
use Rattle.pulse_net.specs.declared.net.Element.TheVariants.{Clocked, Split}
use Rattle.pulse_net.specs.declared.net.PulseNet.{PulseNet}
use Rattle.pulse_net.specs.Formed.{HasItsPins}
use Rattle.pulse_net.specs.Wires.{Wires, found, carried, element_wires, cell_stage}
use Rattle.pulse_net.specs.Validity.{IsValid}
use Rattle.pulse_net.specs.Wired.{element_makes, ArriveInTime, ElementInTime, ElementsInTime}
use Rattle.pulse_net.specs.Unfolding.{Unfolding, driver_of, with_wire, dro_driver, nothing_unfolded, unfold_element, unfold_elements, unfold_inputs, unfolding_of}
use Rattle.pulse_net.specs.Depths.{cell_depth}
use Rattle.pulse_net.proofs.CallerLemmas.{carried-found, with_wire-keeps, with_wire-found}
use Rattle.pulse_net.proofs.RelatedWires.{related-found, related-made, related-absent}
use Rattle.pulse_net.proofs.WiresMadeOnce.{new_wire, behind_wire, behind_element}
use Rattle.pulse_net.proofs.UnbrokenIsWired.{wired}
use Rattle.pulse_net.proofs.UnfoldedGateCount.{gates-inputs}
use Rattle.pulse_net.proofs.StagesAndDrosFollowDepths.{IsBehind, Followed, make_followed, element_followed, followed-inputs, made_once-inputs}

-- the row of an element that is a gate, where wires have these drivers, and its stage
abbrev pub gate_row : (ℕ → Driver) → Element → List GateRow
gate_row driver (Clocked Dro stage pins out) = []
gate_row driver (Clocked cell stage pins out) = record { cell = cell; pins = map driver pins } ∷ []
gate_row driver (Split from left right) = []

abbrev pub gate_stage : Element → List ℕ
gate_stage (Clocked Dro stage pins out) = []
gate_stage (Clocked cell stage pins out) = stage ∷ []
gate_stage (Split from left right) = []

-- how many gates there are once an element has come behind so many
abbrev pub gates_behind : ℕ → Element → ℕ
gates_behind gates (Clocked Dro stage pins out) = gates
gates_behind gates (Clocked cell stage pins out) = gates + 1
gates_behind gates (Split from left right) = gates

-- a gate behind so many gates drives its own wire; a DRO and a splitter hand on the driver of their source
abbrev pub PassesOn : (ℕ → Driver) → ℕ → Element → Type 0
PassesOn driver gates (Clocked Dro stage pins out) = driver out ≡ dro_driver (map driver pins)
PassesOn driver gates (Clocked cell stage pins out) = driver out ≡ Gate gates
PassesOn driver gates (Split from left right) = (driver left ≡ driver from) × (driver right ≡ driver from)

abbrev pub PassOn : (ℕ → Driver) → ℕ → List Element → Type 0
PassOn driver gates [] = ⊤
PassOn driver gates (element ∷ elements) = PassesOn driver gates element × PassOn driver (gates_behind gates element) elements

-- what elements add to what was known before them, with the drivers of wires as they are behind them
pub record Stands (before : Unfolding) (elements : List Element) (after : Unfolding) : Type 0 where
  pub gates : after.gates ≡ before.gates ++ flat_map (gate_row (driver_of after.wires)) elements
  pub stages : after.stages ≡ before.stages ++ flat_map gate_stage elements
  pub drivers : PassOn (driver_of after.wires) (length before.gates) elements

-- A wire keeps its driver.
element-keeps : (element : Element) (so : Unfolding) (wire : ℕ) (its : Driver) → found so.wires wire ≡ Some its → found (unfold_element element so).wires wire ≡ Some its
element-keeps (Clocked Dro stage pins out) so wire its h = with_wire-keeps so.wires out (dro_driver (map (driver_of so.wires) pins)) wire its h
element-keeps (Clocked cell stage pins out) so wire its h = with_wire-keeps so.wires out (Gate (length so.gates)) wire its h
element-keeps (Split from left right) so wire its h =
    let driver = driver_of so.wires from in
    with_wire-keeps (with_wire so.wires left driver) right driver wire its (with_wire-keeps so.wires left driver wire its h)

elements-keep : (elements : List Element) (so : Unfolding) (wire : ℕ) (its : Driver) → found so.wires wire ≡ Some its → found (unfold_elements elements so).wires wire ≡ Some its
elements-keep [] so wire its h = h
elements-keep (element ∷ elements) so wire its h = elements-keep elements (unfold_element element so) wire its (element-keeps element so wire its h)

-- the driver behind elements of a wire that has one before them
kept : (elements : List Element) (so : Unfolding) (wire : ℕ) (its : Driver) → found so.wires wire ≡ Some its → driver_of (unfold_elements elements so).wires wire ≡ its
kept elements so wire its h = carried-found (Input 0) (unfold_elements elements so).wires wire its (elements-keep elements so wire its h)

module _ (n : ℕ) where
  -- Pins that are made keep their drivers too.
  pins-kept : (a b : Wires ℕ) (so : Unfolding) → Followed n a b so → (after : ℕ → Driver) → ((wire : ℕ) (its : Driver) → found so.wires wire ≡ Some its → after wire ≡ its) → (user : ℕ) (pins : List ℕ) → ArriveInTime n a user pins → map (driver_of so.wires) pins ≡ map after pins
  pins-kept a b so t after keep user [] h = refl
  pins-kept a b so t after keep user (pin ∷ pins) h =
      let same = keep pin (driver_of so.wires pin) (related-made (Input 0) pin h.0.0 t.wires h.0.1) in
      ap (λ (d : Driver). d ∷ map (driver_of so.wires) pins) (sym same)
      ∙ ap (λ (ds : List Driver). after pin ∷ ds) (pins-kept a b so t after keep user pins h.1)

  -- a DRO before elements that stand
  dro_stands : (a b : Wires ℕ) (so : Unfolding) → Followed n a b so → (stage out : ℕ) (pins : List ℕ) → ArriveInTime n a stage pins → found a out ≡ None → (elements : List Element) → Stands (unfold_element (Clocked Dro stage pins out) so) elements (unfold_elements (Clocked Dro stage pins out ∷ elements) so) → Stands so (Clocked Dro stage pins out ∷ elements) (unfold_elements (Clocked Dro stage pins out ∷ elements) so)
  dro_stands a b so t stage out pins h new elements all =
      let element : Element = Clocked Dro stage pins out in
      let driver = dro_driver (map (driver_of so.wires) pins) in
      let own = kept elements (unfold_element element so) out driver (with_wire-found so.wires out driver (related-absent out t.wires new).1) in
      let same = pins-kept a b so t (driver_of (unfold_elements (element ∷ elements) so).wires) (kept (element ∷ elements) so) stage pins h in
      record { gates = all.gates; stages = all.stages; drivers = (own ∙ ap dro_driver same, all.drivers) }

  -- a gate before them
  gate_stands : (a b : Wires ℕ) (so : Unfolding) → Followed n a b so → (cell : Cell) (stage out : ℕ) (pins : List ℕ) → ArriveInTime n a stage pins → found a out ≡ None → (after : Unfolding) → ((wire : ℕ) (its : Driver) → found so.wires wire ≡ Some its → driver_of after.wires wire ≡ its) → ((wire : ℕ) (its : Driver) → found (with_wire so.wires out (Gate (length so.gates))) wire ≡ Some its → driver_of after.wires wire ≡ its) →
      (rows : List GateRow) (stages : List ℕ) → after.gates ≡ (so.gates ++ record { cell = cell; pins = map (driver_of so.wires) pins } ∷ []) ++ rows → after.stages ≡ (so.stages ++ stage ∷ []) ++ stages →
      (after.gates ≡ so.gates ++ (record { cell = cell; pins = map (driver_of after.wires) pins } ∷ rows)) × (after.stages ≡ so.stages ++ (stage ∷ stages)) × (driver_of after.wires out ≡ Gate (length so.gates))
  gate_stands a b so t cell stage out pins h new after keep next rows stages gates staged =
      let row : List Driver → GateRow = λ ds. record { cell = cell; pins = ds } in
      let same = pins-kept a b so t (driver_of after.wires) keep stage pins h in (
        gates ∙ append_assoc so.gates (row (map (driver_of so.wires) pins) ∷ []) rows ∙ ap (λ (ds : List Driver). so.gates ++ (row ds ∷ rows)) same,
        staged ∙ append_assoc so.stages (stage ∷ []) stages,
        next out (Gate (length so.gates)) (with_wire-found so.wires out (Gate (length so.gates)) (related-absent out t.wires new).1),
      )

  -- and a splitter before them
  split_stands : (a b : Wires ℕ) (so : Unfolding) → Followed n a b so → (from left right : ℕ) → ElementInTime n a (Split from left right) → (rest : List ℕ) → IsDistinct nat_eq (keys_of a ++ left ∷ (right ∷ rest)) → (elements : List Element) → Stands (unfold_element (Split from left right) so) elements (unfold_elements (Split from left right ∷ elements) so) → Stands so (Split from left right ∷ elements) (unfold_elements (Split from left right ∷ elements) so)
  split_stands a b so t from left right h rest distinct elements all =
      let s = carried 0 a from in
      let v = carried 0 b from in
      let driver = driver_of so.wires from in
      let next = unfold_element (Split from left right) so in
      let stage : h.0 ≡ s = ap (λ o. unwrap_or o 0) (sym h.1) in
      let source : IsBehind n so.stages so.dros s v driver = subst (λ x. IsBehind n so.stages so.dros x v driver) stage (related-found 0 (Input 0) from h.0 t.wires h.1) in
      let new_left = new_wire a left (right ∷ rest) distinct in
      let one = make_followed n a b so t left s v driver new_left source in
      let new_right = new_wire (a ++ (left, s) ∷ []) right rest (behind_wire a left s (right ∷ rest) distinct) in
      let made = with_wire so.wires left driver in
      let own = kept (Split from left right ∷ elements) so from driver (related-made (Input 0) from h.0 t.wires h.1) in
      let to_left = kept elements next left driver (with_wire-keeps made right driver left driver (with_wire-found so.wires left driver (related-absent left t.wires new_left).1)) in
      let to_right = kept elements next right driver (with_wire-found made right driver (related-absent right one.wires new_right).1) in
      record { gates = all.gates; stages = all.stages; drivers = ((to_left ∙ sym own, to_right ∙ sym own), all.drivers) }

  element_stands : (a b : Wires ℕ) (so : Unfolding) → Followed n a b so → (element : Element) → ElementInTime n a element → (rest : List ℕ) → IsDistinct nat_eq (keys_of a ++ (element_makes element ++ rest)) → (elements : List Element) → Stands (unfold_element element so) elements (unfold_elements (element ∷ elements) so) → Stands so (element ∷ elements) (unfold_elements (element ∷ elements) so)
  element_stands a b so t (Clocked Dro stage pins out) h rest distinct elements all = dro_stands a b so t stage out pins h (new_wire a out rest distinct) elements all
  element_stands a b so t (Clocked cell stage pins out) h rest distinct elements all =
      let element : Element = Clocked cell stage pins out in
      let after = unfold_elements (element ∷ elements) so in
      let row : GateRow = record { cell = cell; pins = map (driver_of so.wires) pins } in
      let own = gate_stands a b so t cell stage out pins h (new_wire a out rest distinct) after (kept (element ∷ elements) so) (kept elements (unfold_element element so)) (flat_map (gate_row (driver_of after.wires)) elements) (flat_map gate_stage elements) all.gates all.stages in
      record { gates = own.0; stages = own.1; drivers = (own.2, subst (λ k. PassOn (driver_of after.wires) k elements) (length_push so.gates row) all.drivers) }
  element_stands a b so t (Split from left right) h rest distinct elements all = split_stands a b so t from left right h rest distinct elements all

  -- Elements in order, by what those behind the first add.
  elements_stand : (a b : Wires ℕ) (so : Unfolding) → Followed n a b so → (elements : List Element) → ElementsInTime n a elements → AllByRecursion HasItsPins elements → IsDistinct nat_eq (keys_of a ++ flat_map element_makes elements) → Stands so elements (unfold_elements elements so)
  elements_stand a b so t [] h pinned distinct = record { gates = sym (append-nil so.gates); stages = sym (append-nil so.stages); drivers = tt }
  elements_stand a b so t (element ∷ elements) h pinned distinct =
      let rest = flat_map element_makes elements in
      let one = element_followed n a b so t element h.0 pinned.0 rest distinct in
      element_stands a b so t element h.0 rest distinct elements
      (elements_stand (a ++ element_wires 0 cell_stage a element) (b ++ element_wires 0 cell_depth b element) (unfold_element element so) one elements h.1 pinned.1 (behind_element a element rest distinct))

stages-inputs : (inputs : List (Option ℕ)) (place : ℕ) (so : Unfolding) → (unfold_inputs place inputs so).stages ≡ so.stages
stages-inputs [] place so = refl
stages-inputs (None ∷ inputs) place so = stages-inputs inputs (place + 1) so
stages-inputs (Some wire ∷ inputs) place so = stages-inputs inputs (place + 1) _

-- A valid netlist adds to nothing.
pub stands : (net : PulseNet) → IsValid net → Stands nothing_unfolded net.elements (unfolding_of net)
stands net valid =
    let start = unfold_inputs 0 net.inputs nothing_unfolded in
    let driver = driver_of (unfolding_of net).wires in
    let all = elements_stand net.phases _ _ start (followed-inputs net valid) net.elements (wired net valid.unbroken).elements (recursion_from_All HasItsPins net.elements valid.formed.pins) (made_once-inputs net valid) in
    let none : start.gates ≡ [] = gates-inputs net.inputs 0 nothing_unfolded in
    let no_stage : start.stages ≡ [] = stages-inputs net.inputs 0 nothing_unfolded in
    record {
      gates = all.gates ∙ ap (λ (g : List GateRow). g ++ flat_map (gate_row driver) net.elements) none;
      stages = all.stages ∙ ap (λ (s : List ℕ). s ++ flat_map gate_stage net.elements) no_stage;
      drivers = subst (λ k. PassOn driver k net.elements) (ap length none) all.drivers;
    }
