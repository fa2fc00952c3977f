-- In a valid netlist each unfolded gate has a use. From the last element to the first: a wire that is used by elements from
-- here on, or by an output, has a driver that drives a pin of a gate, or an output. A gate's pin is one. A DRO or a splitter
-- makes a wire with the same driver; that wire is used, and not before it is made, so by a later element or an output, of
-- which this is known. And the wire of each gate is used.
use Rattle.std.proofs.Common.{◌≡◌, ◌<◌, ◌≤◌, ◌+◌, ◌⊎◌, ℕ, true, nat_eq, List, [], ◌∷◌, ◌++◌, length, map, refl, sym, ap, subst, ◌∙◌, arith, append_assoc, Contains, ⊎_elim}
use Rattle.std.specs.Prelude.{Option, Some, None, flat_map, option_to_list}
use Rattle.std.specs.Cmp.{nat_eq_equiv}
use Rattle.std.specs.List.{IsDistinct, AllByRecursion}
use Rattle.std.specs.Map.{keys_of}
use Rattle.std.proofs.lemmas.Bool.{cases_lt, eqb-true}
use Rattle.std.proofs.lemmas.List.Elements.{Contains-append_left, Contains-append_right, Contains-append_cases, recursion_from_All}
use Rattle.std.proofs.lemmas.Map.Views.{Contains-from_any, list_any-from_Contains}
use Rattle.net_base.specs.Keys.{is_among}
use Rattle.net_base.proofs.CallerLemmas.{lookup-found, Contains-one, Contains-map}
use Rattle.cell_lib.specs.declared.cell.Cell.TheVariants.{Dro}
use Rattle.gate_net.specs.declared.row.Driver.{Driver}
use Rattle.gate_net.specs.declared.row.Driver.TheVariants.{Gate}
use Rattle.gate_net.specs.declared.row.GateRow.{GateRow}
use Rattle.gate_net.specs.Net.{end_drivers}
use Rattle.pulse_net.specs.declared.net.Element.{Element}
use Rattle.pulse_net.specs.declared.net.Element.TheVariants.{Clocked, Split}
use Rattle.pulse_net.specs.declared.net.Outlet.{Outlet}
use Rattle.pulse_net.specs.declared.net.Outlet.TheVariants.{Zero, One, Wire}
use Rattle.pulse_net.specs.Formed.{HasItsPins}
use Rattle.pulse_net.specs.Wires.{Wires, found, input_entries, element_wires, element_uses, outlet_uses, used_wires, input_stage, cell_stage}
use Rattle.pulse_net.specs.Wired.{element_makes, makes_of, ArriveInTime, ElementInTime, ElementsInTime}
use Rattle.pulse_net.specs.Unfolding.{driver_of, end_of, unfolding_of}
use Rattle.pulse_net.specs.Balance.{UnfoldedGatesAreUsed}
use Rattle.pulse_net.proofs.WiresMadeOnce.{new_wire, behind_wire, behind_element}
use Rattle.pulse_net.proofs.UnbrokenIsWired.{wired}
use Rattle.pulse_net.proofs.StagesAndDrosFollowDepths.{made_once-inputs}
use Rattle.pulse_net.proofs.UnfoldedElements.{gate_row, gates_behind, PassesOn, PassOn, stands}

-- ---- what lists contain

none : {X : Type 0} (x : X) → Contains [] x → ⊥
none x (k, within, is) = omega arith

alone : {X : Type 0} (x : X) → Contains (x ∷ []) x
alone x = (0, omega arith, refl)

-- ---- wires that aren't made yet

-- what isn't made with more wires isn't made without them
earlier : (a more : Wires ℕ) (wire : ℕ) → found (a ++ more) wire ≡ None → found a wire ≡ None
earlier a more wire new = by (found a wire) refl
  where
    by : (made : Option ℕ) → found a wire ≡ made → found a wire ≡ None
    by None e = e
    by (Some stage) e = let later = lookup-found (nat_eq wire) a more stage e in absurd (cc)

-- an element uses wires that are made
pins-made : (n : ℕ) (a : Wires ℕ) (user : ℕ) (pins : List ℕ) → ArriveInTime n a user pins → (wire : ℕ) → found a wire ≡ None → Contains pins wire → ⊥
pins-made n a user [] h wire new has = none wire has
pins-made n a user (pin ∷ pins) h wire new has =
    ⊎_elim {C = ⊥}
    (λ here. let made : found a wire ≡ Some h.0.0 = subst (λ w. found a w ≡ Some h.0.0) (Contains-one pin wire here) h.0.1 in cc)
    (λ there. pins-made n a user pins h.1 wire new there)
    (Contains-append_cases (pin ∷ []) pins wire has)

uses-made : (n : ℕ) (a : Wires ℕ) (element : Element) → ElementInTime n a element → (wire : ℕ) → found a wire ≡ None → Contains (element_uses element) wire → ⊥
uses-made n a (Clocked cell stage pins out) h wire new has = pins-made n a stage pins h wire new has
uses-made n a (Split from left right) h wire new has =
    let made : found a wire ≡ Some h.0 = subst (λ w. found a w ≡ Some h.0) (Contains-one from wire has) h.1 in cc

-- what an element makes isn't made before it
makes-new : (a : Wires ℕ) (element : Element) (rest : List ℕ) → IsDistinct nat_eq (keys_of a ++ (element_makes element ++ rest)) → (wire : ℕ) → Contains (element_makes element) wire → found a wire ≡ None
makes-new a (Clocked cell stage pins out) rest distinct wire made = subst (λ w. found a w ≡ None) (Contains-one out wire made) (new_wire a out rest distinct)
makes-new a (Split from left right) rest distinct wire made =
    let behind = new_wire (a ++ (left, 0) ∷ []) right rest (behind_wire a left 0 (right ∷ rest) distinct) in
    ⊎_elim {C = found a wire ≡ None}
    (λ first. subst (λ w. found a w ≡ None) (Contains-one left wire first) (new_wire a left (right ∷ rest) distinct))
    (λ second. subst (λ w. found a w ≡ None) (Contains-one right wire second) (earlier a ((left, 0) ∷ []) right behind))
    (Contains-append_cases (left ∷ []) (right ∷ []) wire made)

-- ---- each wire that is used leads to a gate's pin or an output

module _ (n : ℕ) (wires : Wires Driver) (outlets : List Outlet) where
  -- the wires that these elements and the outputs use
  abbrev used_from : List Element → List ℕ
  used_from elements = flat_map element_uses elements ++ flat_map outlet_uses outlets

  -- what drives the pins of the gates among these elements, and the outputs
  abbrev driven_from : List Element → List Driver
  driven_from elements = flat_map (λ (row : GateRow). row.pins) (flat_map (gate_row (driver_of wires)) elements) ++ flat_map end_drivers (map (end_of wires) outlets)

  -- wires that these elements make are used by them or by an output, where they aren't made yet
  abbrev UsedLater : Wires ℕ → List Element → Type 0
  UsedLater a elements = (wire : ℕ) → found a wire ≡ None → Contains (flat_map element_makes elements) wire → Contains (used_from elements) wire

  outlets-driven : (outlets : List Outlet) (wire : ℕ) → Contains (flat_map outlet_uses outlets) wire → Contains (flat_map end_drivers (map (end_of wires) outlets)) (driver_of wires wire)
  outlets-driven [] wire has = absurd (none wire has)
  outlets-driven (Zero ∷ outlets) wire has = outlets-driven outlets wire has
  outlets-driven (One ∷ outlets) wire has = outlets-driven outlets wire has
  outlets-driven (Wire other ∷ outlets) wire has =
      let driver = driver_of wires wire in
      let ends = flat_map end_drivers (map (end_of wires) outlets) in
      ⊎_elim {C = Contains (driver_of wires other ∷ ends) driver}
      (λ here. subst (λ w. Contains (driver_of wires w ∷ ends) driver) (sym (Contains-one other wire here)) (Contains-append_left (driver ∷ []) ends driver (alone driver)))
      (λ there. Contains-append_right (driver_of wires other ∷ []) ends driver (outlets-driven outlets wire there))
      (Contains-append_cases (other ∷ []) (flat_map outlet_uses outlets) wire has)

  -- what an element and those behind it use
  used-cases : (element : Element) (elements : List Element) (wire : ℕ) → Contains (used_from (element ∷ elements)) wire → Contains (element_uses element) wire ⊎ Contains (used_from elements) wire
  used-cases element elements wire has =
      Contains-append_cases (element_uses element) (used_from elements) wire
      (subst (λ l. Contains l wire) (append_assoc (element_uses element) (flat_map element_uses elements) (flat_map outlet_uses outlets)) has)

  -- What an element or one behind it makes is used behind it.
  used-behind : (a : Wires ℕ) (element : Element) (elements : List Element) → ElementInTime n a element → UsedLater a (element ∷ elements) → (wire : ℕ) → found a wire ≡ None → Contains (element_makes element ++ flat_map element_makes elements) wire → Contains (used_from elements) wire
  used-behind a element elements h later wire new made =
      ⊎_elim {C = Contains (used_from elements) wire}
      (λ own. absurd (uses-made n a element h wire new own))
      (λ behind. behind)
      (used-cases element elements wire (later wire new made))

  -- what is known of elements behind so many gates
  record Reaches (elements : List Element) (gates : ℕ) : Type 0 where
    by_wire : (wire : ℕ) → Contains (used_from elements) wire → Contains (driven_from elements) (driver_of wires wire)
    by_gate : (k : ℕ) → gates ≤ k → k < gates + length (flat_map (gate_row (driver_of wires)) elements) → Contains (driven_from elements) (Gate k)

  dro_reaches : (stage out : ℕ) (pins : List ℕ) (elements : List Element) (gates : ℕ) → length pins ≡ 1 → PassesOn (driver_of wires) gates (Clocked Dro stage pins out) → Contains (used_from elements) out → Reaches elements gates → Reaches (Clocked Dro stage pins out ∷ elements) gates
  dro_reaches stage out [] elements gates one pass used rest = absurd (omega arith)
  dro_reaches stage out (pin ∷ []) elements gates one pass used rest = record {
    by_wire = λ wire has.
        ⊎_elim {C = Contains (driven_from elements) (driver_of wires wire)}
        (λ own. subst (Contains (driven_from elements)) (pass ∙ ap (driver_of wires) (Contains-one pin wire own)) (rest.by_wire out used))
        (λ behind. rest.by_wire wire behind)
        (used-cases (Clocked Dro stage (pin ∷ []) out) elements wire has);
    by_gate = rest.by_gate;
  }
  dro_reaches stage out (pin ∷ (other ∷ pins)) elements gates one pass used rest = absurd (omega arith)

  split_reaches : (from left right : ℕ) (elements : List Element) (gates : ℕ) → PassesOn (driver_of wires) gates (Split from left right) → Contains (used_from elements) left → Reaches elements gates → Reaches (Split from left right ∷ elements) gates
  split_reaches from left right elements gates pass used rest = record {
    by_wire = λ wire has.
        ⊎_elim {C = Contains (driven_from elements) (driver_of wires wire)}
        (λ own. subst (Contains (driven_from elements)) (pass.0 ∙ ap (driver_of wires) (Contains-one from wire own)) (rest.by_wire left used))
        (λ behind. rest.by_wire wire behind)
        (used-cases (Split from left right) elements wire has);
    by_gate = rest.by_gate;
  }

  -- a gate, where its pins come before what drives the elements behind it
  gate_reaches : (element : Element) (out : ℕ) (pins : List ℕ) (elements : List Element) (gates : ℕ) → element_uses element ≡ pins → driven_from (element ∷ elements) ≡ map (driver_of wires) pins ++ driven_from elements → length (flat_map (gate_row (driver_of wires)) (element ∷ elements)) ≡ 1 + length (flat_map (gate_row (driver_of wires)) elements) →
      driver_of wires out ≡ Gate gates → Contains (used_from elements) out → Reaches elements (gates + 1) → Reaches (element ∷ elements) gates
  gate_reaches element out pins elements gates uses driven more own used rest = record {
    by_wire = λ wire has.
        ⊎_elim {C = Contains (driven_from (element ∷ elements)) (driver_of wires wire)}
        (λ pin. subst (λ l. Contains l (driver_of wires wire)) (sym driven) (Contains-append_left (map (driver_of wires) pins) (driven_from elements) (driver_of wires wire) (Contains-map (driver_of wires) pins wire (subst (λ l. Contains l wire) uses pin))))
        (λ behind. further (driver_of wires wire) (rest.by_wire wire behind))
        (used-cases element elements wire has);
    by_gate = λ k low high.
        ⊎_elim {C = Contains (driven_from (element ∷ elements)) (Gate k)}
        (λ after. further (Gate k) (rest.by_gate k (omega arith) (omega (arith, more))))
        (λ least. let same : gates ≡ k = omega arith in further (Gate k) (subst (Contains (driven_from elements)) (own ∙ ap Gate same) (rest.by_wire out used)))
        (cases_lt gates k);
  }
    where
      further : (driver : Driver) → Contains (driven_from elements) driver → Contains (driven_from (element ∷ elements)) driver
      further driver has = subst (λ l. Contains l driver) (sym driven) (Contains-append_right (map (driver_of wires) pins) (driven_from elements) driver has)

  element_reaches : (element : Element) (elements : List Element) (gates : ℕ) → HasItsPins element → PassesOn (driver_of wires) gates element → ((wire : ℕ) → Contains (element_makes element) wire → Contains (used_from elements) wire) → Reaches elements (gates_behind gates element) → Reaches (element ∷ elements) gates
  element_reaches (Clocked Dro stage pins out) elements gates pinned pass used rest = dro_reaches stage out pins elements gates pinned pass (used out (alone out)) rest
  element_reaches (Clocked cell stage pins out) elements gates pinned pass used rest =
      let ends = flat_map end_drivers (map (end_of wires) outlets) in
      let rows = flat_map (gate_row (driver_of wires)) elements in
      gate_reaches (Clocked cell stage pins out) out pins elements gates refl (append_assoc (map (driver_of wires) pins) (flat_map (λ (row : GateRow). row.pins) rows) ends) (omega arith) pass (used out (alone out)) rest
  element_reaches (Split from left right) elements gates pinned pass used rest = split_reaches from left right elements gates pass (used left (Contains-append_left (left ∷ []) (right ∷ []) left (alone left))) rest

  -- Elements, from the last to the first.
  reaches : (a : Wires ℕ) (elements : List Element) (gates : ℕ) → ElementsInTime n a elements → AllByRecursion HasItsPins elements → IsDistinct nat_eq (keys_of a ++ flat_map element_makes elements) → PassOn (driver_of wires) gates elements → UsedLater a elements → Reaches elements gates
  reaches a [] gates h pinned distinct pass later = record { by_wire = outlets-driven outlets; by_gate = λ k low high. absurd (omega arith) }
  reaches a (element ∷ elements) gates h pinned distinct pass later =
      let makes = flat_map element_makes elements in
      let used = used-behind a element elements h.0 later in
      let more = element_wires 0 cell_stage a element in
      let behind : UsedLater (a ++ more) elements = λ wire new made. used wire (earlier a more wire new) (Contains-append_right (element_makes element) makes wire made) in
      let rest = reaches (a ++ more) elements (gates_behind gates element) h.1 pinned.1 (behind_element a element makes distinct) pass.1 behind in
      element_reaches element elements gates pinned.0 pass.0
      (λ wire made. used wire (makes-new a element makes distinct wire made) (Contains-append_left (element_makes element) makes wire made))
      rest

-- In a valid netlist each unfolded gate is used: it is one of those that the elements add.
pub each_gate_is_used : UnfoldedGatesAreUsed
each_gate_is_used net valid k within =
    let so = unfolding_of net in
    let w = wired net valid.unbroken in
    let all = stands net valid in
    let ends = flat_map end_drivers (map (end_of so.wires) net.outputs) in
    let makes = flat_map element_makes net.elements in
    let later = λ (wire : ℕ) (new : found (input_entries input_stage 0 net.inputs) wire ≡ None) (made : Contains makes wire).
    let among : is_among nat_eq wire (makes_of net) ≡ true = list_any-from_Contains nat_eq_equiv wire (makes_of net) (Contains-append_right (flat_map option_to_list net.inputs) makes wire made) in
    Contains-from_any {eq = nat_eq} eqb-true wire (used_wires net) (w.all_used wire among) in
    let reached = reaches net.phases so.wires net.outputs (input_entries input_stage 0 net.inputs) net.elements 0 w.elements (recursion_from_All HasItsPins net.elements valid.formed.pins) (made_once-inputs net valid) all.drivers later in
    subst (λ (rows : List GateRow). Contains (flat_map (λ (row : GateRow). row.pins) rows ++ ends) (Gate k)) (sym all.gates)
    (reached.by_gate k (omega arith) (omega (arith, ap length all.gates)))
