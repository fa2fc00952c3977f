-- The gates: each reads the drivers of its pins, so the gates that are unfolded are the rows, in order, with their stages.
use Rattle.std.proofs.Common.{◌≡◌, ◌≢◌, ◌≤◌, ◌<◌, ℕ, zero, suc, ◌+◌, Bool, List, [], ◌∷◌, ◌++◌, length, get_or, map, take, drop, refl, ap, sym, subst, ◌∙◌, arith, append_assoc, length-append}
use Rattle.std.proofs.lemmas.List.{append-nil, length_push}
use Rattle.std.specs.Prelude.{Some, None, slice_index, flat_map}
use Rattle.cell_lib.specs.declared.cell.Cell.TheVariants.{Dro}
use Rattle.gate_net.specs.declared.row.Driver.{Driver}
use Rattle.gate_net.specs.declared.row.Driver.TheVariants.{Input, Gate}
use Rattle.gate_net.specs.declared.row.GateRow.{GateRow}
use Rattle.gate_net.specs.Net.{pin_drivers}
use Rattle.pulse_net.specs.declared.net.Element.TheVariants.{Clocked}
use Rattle.pulse_net.specs.Wires.{Wires, found}
use Rattle.pulse_net.specs.Unfolding.{Unfolding, driver_of, add_gate}
use Rattle.pulse_net.proofs.CallerLemmas.{carried-found, unfold_elements-append, unfold_cell-gate, with_wire-keeps, with_wire-found}
use Rattle.dro_chains.specs.declared.chain.Chained.{Chained}
use Rattle.splitters.specs.Elements.{Layout, with_cell, with_chain, with_gate, with_gates, gate_pins}
use Rattle.splitters.specs.Taps.{tap_count, taps_at}
use Rattle.splitters.proofs.valid.Pins.{AreStaged, MarksAgree-all}
use Rattle.splitters.proofs.tapped.Takers.{DrivesNone}
use Rattle.splitters.proofs.valid.Chains.{by_driver, and_driver}
use Rattle.splitters.proofs.valid.Gates.{pin_wires, pin_wires-take, AreReached, AreStaged-behind, before_gate, before_gate-there, before_gate-next, before_gate-late, DrivesNone-there, DrivesNone-append, AreGatesFrom}
use Rattle.splitters.proofs.unfolds.Wires.{with_wire-fresh}
use Rattle.splitters.proofs.unfolds.Chains.{so_far, its_driver, Drives, AreStaged-keep, Step, Step-agree, Drives-chain}

-- the wires of pins whose drivers are reached have just these drivers
drivers-pins : (made : Wires Driver) (reached : Driver → Bool) (needs taken : List ℕ) (pin : ℕ) (mine rest : List Driver) → AreReached reached mine →
    AreStaged made its_driver (by_driver reached) needs taken pin (mine ++ rest) → map (driver_of made) (pin_wires taken pin mine) ≡ mine
drivers-pins made reached needs taken pin [] rest all h = refl
drivers-pins made reached needs taken pin (driver ∷ mine) rest all h =
    (λ i. carried-found (Input 0) made (get_or taken pin 0) driver (h.0 all.0) i ∷ drivers-pins made reached needs taken (pin + 1) mine rest all.1 h.1 i)

-- What a gate's step leaves: the later pins wait, and the gate stands behind those before.
pub record Adds (chained : Chained) (start : Unfolding) (pin : ℕ) (rest : List Driver) (gate : ℕ) (rows : List GateRow) (times : List ℕ) (layout : Layout) : Type 0 where
  pub drives : Drives start chained.needs pin rest (by_driver (before_gate gate)) layout
  pub gates : (so_far start layout).gates ≡ rows
  pub stages : (so_far start layout).stages ≡ times

-- A gate behind its pins' wires, of which the later pins stay driven.
gate-drives : (chained : Chained) (start : Unfolding) (gate pin : ℕ) (row : GateRow) (rest : List Driver) (layout : Layout) (user : ℕ) (wires : List ℕ) (gates : List GateRow) (stages : List ℕ) →
    row.cell ≢ Dro → length gates ≡ gate →
    map (driver_of (so_far start layout).wires) wires ≡ row.pins →
    Adds chained start pin rest gate gates stages layout →
    Adds chained start pin rest gate (gates ++ row ∷ []) (stages ++ user ∷ []) (with_cell row.cell user wires layout)
    × (found (so_far start (with_cell row.cell user wires layout)).wires layout.next ≡ Some (Gate gate))
gate-drives chained start gate pin row rest layout user wires gates stages other count pins h =
    let so = so_far start layout in
    let line = Clocked row.cell user wires layout.next in
    let made : so_far start (with_cell row.cell user wires layout) ≡ add_gate row.cell user layout.next row.pins so =
    unfold_elements-append layout.elements (line ∷ []) start ∙ unfold_cell-gate row.cell user layout.next (map (driver_of so.wires) wires) so other
    ∙ ap (λ (ds : List Driver). add_gate row.cell user layout.next ds so) pins in
    let place : length so.gates ≡ gate = ap length h.gates ∙ count in
    let its = Gate (length so.gates) in
    let more = add_gate row.cell user layout.next row.pins so in
    let drives = h.drives in
    let source : found more.wires layout.next ≡ Some (Gate gate) = with_wire-found so.wires layout.next its (drives.fresh layout.next (omega arith)) ∙ ap (λ k. Some (Gate k)) place in
    let whole : Adds chained start pin rest gate (gates ++ row ∷ []) (stages ++ user ∷ []) (with_cell row.cell user wires layout) = record {
      drives = record {
        fresh = subst (λ (u : Unfolding). (wire : ℕ) → layout.next + 1 ≤ wire → found u.wires wire ≡ None) (sym made) (with_wire-fresh so.wires layout.next its drives.fresh);
        driven = subst (λ (u : Unfolding). AreStaged u.wires its_driver (by_driver (before_gate gate)) chained.needs layout.taken pin rest) (sym made)
            (AreStaged-keep so.wires more.wires (by_driver (before_gate gate)) chained.needs layout.taken pin rest (with_wire-keeps so.wires layout.next its) drives.driven);
        room = drives.room;
      };
      gates = ap (λ (u : Unfolding). u.gates) made ∙ ap (λ (gs : List GateRow). gs ++ row ∷ []) h.gates;
      stages = ap (λ (u : Unfolding). u.stages) made ∙ ap (λ (ss : List ℕ). ss ++ user ∷ []) h.stages;
    } in
    (whole, subst (λ (u : Unfolding). found u.wires layout.next ≡ Some (Gate gate)) (sym made) source)

-- A gate whose pins are driven, and its chain.
Adds-gate : (chained : Chained) (start : Unfolding) (used rest : List Driver) (gate pin : ℕ) (row : GateRow) (layout : Layout) (gates : List GateRow) (stages : List ℕ) →
    pin ≡ length used →
    pin_drivers chained.gates ≡ (used ++ row.pins) ++ rest →
    row.cell ≢ Dro → length gates ≡ gate →
    AreReached (before_gate gate) row.pins →
    DrivesNone (Gate gate) (used ++ row.pins) →
    1 ≤ tap_count chained.needs (Gate gate) 0 (pin_drivers chained.gates) →
    Adds chained start pin (row.pins ++ rest) gate gates stages layout →
    Adds chained start (pin + length row.pins) rest (gate + 1) (gates ++ row ∷ []) (stages ++ slice_index chained.stages gate ∷ []) (with_gate chained gate pin row layout)
Adds-gate chained start used rest gate pin row layout gates stages here all other count reached none tapped h =
    let n = chained.n in
    let mine = row.pins in
    let user = slice_index chained.stages gate in
    let reach = before_gate gate in
    let marks = by_driver reach in
    let made = (so_far start layout).wires in
    let drives = h.drives in
    let room = drives.room in
    let joined = length-append mine rest in
    let wires = take (length mine) (drop pin layout.taken) in
    let taken_by : pin_wires layout.taken pin mine ≡ wires = pin_wires-take layout.taken pin mine (omega (arith, joined, room)) in
    let next = pin + length mine in
    let waiting : Adds chained start next rest gate gates stages layout = record {
      drives = record {
        fresh = drives.fresh;
        driven = AreStaged-behind made its_driver marks chained.needs layout.taken pin mine rest drives.driven;
        room = omega (arith, joined, room);
      };
      gates = h.gates;
      stages = h.stages;
    } in
    let cell = with_cell row.cell user wires layout in
    let begun = gate-drives chained start gate next row rest layout user wires gates stages other count
    (ap (map (driver_of made)) (sym taken_by) ∙ drivers-pins made reach chained.needs layout.taken pin mine rest reached drives.driven) waiting in
    let at : next ≡ length (used ++ mine) = omega (arith, here, length-append used mine) in
    let tapped_here : 1 ≤ tap_count chained.needs (Gate gate) 0 ((used ++ mine) ++ rest) = subst (λ (ds : List Driver). 1 ≤ tap_count chained.needs (Gate gate) 0 ds) all tapped in
    let done = Drives-chain start chained.needs (used ++ mine) rest reach (Gate gate) n user layout.next cell none (before_gate-late gate) tapped_here
    (subst (λ p. Drives start chained.needs p rest marks cell) at begun.0.drives) begun.1 in
    let last = with_gate chained gate pin row layout in
    let whole : Step start chained.needs next rest (by_driver (and_driver reach (Gate gate))) cell last =
    subst (λ (ds : List Driver). Step start chained.needs next rest (by_driver (and_driver reach (Gate gate))) cell (with_chain n user layout.next (taps_at chained.needs ds (Gate gate)) cell)) (sym all)
    (subst (λ p. Step start chained.needs p rest (by_driver (and_driver reach (Gate gate))) cell (with_chain n user layout.next (taps_at chained.needs ((used ++ mine) ++ rest) (Gate gate)) cell)) (sym at) done) in
    let agreed = Step-agree start chained.needs next rest (by_driver (and_driver reach (Gate gate))) (by_driver (before_gate (gate + 1))) cell last
    (MarksAgree-all (by_driver (and_driver reach (Gate gate))) (by_driver (before_gate (gate + 1))) chained.needs next rest (λ driver need. before_gate-next gate driver)) whole in
    record { drives = agreed.drives; gates = agreed.kept.gates ∙ begun.0.gates; stages = agreed.kept.stages ∙ begun.0.stages }

-- the stages of gates from one on, `more` of them
abbrev pub stages_from : List ℕ → ℕ → ℕ → List ℕ
stages_from stages gate zero = []
stages_from stages gate (suc more) = slice_index stages gate ∷ stages_from stages (gate + 1) more

-- All gates from one on: at the end the pins of the outputs wait, and the gates stand in order.
pub Adds-gates : (chained : Chained) (start : Unfolding) (used rest : List Driver) (gate pin : ℕ) (rows : List GateRow) (layout : Layout) (gates : List GateRow) (stages : List ℕ) →
    pin ≡ length used →
    pin_drivers chained.gates ≡ used ++ (flat_map (λ row. row.pins) rows ++ rest) →
    length gates ≡ gate →
    AreGatesFrom chained.gates.inputs gate rows →
    ((later : ℕ) → gate ≤ later → DrivesNone (Gate later) used) →
    ((k : ℕ) → gate ≤ k → k < gate + length rows → 1 ≤ tap_count chained.needs (Gate k) 0 (pin_drivers chained.gates)) →
    Adds chained start pin (flat_map (λ row. row.pins) rows ++ rest) gate gates stages layout →
    Adds chained start (pin + gate_pins rows) rest (gate + length rows) (gates ++ rows) (stages ++ stages_from chained.stages gate (length rows)) (with_gates chained gate pin rows layout)
Adds-gates chained start used rest gate pin [] layout gates stages here all count formed none tapped h =
    let p : pin ≡ pin + 0 = omega arith in
    let g : gate ≡ gate + 0 = omega arith in
    subst (λ (ss : List ℕ). Adds chained start (pin + 0) rest (gate + 0) (gates ++ []) ss layout) (sym (append-nil stages))
    (subst (λ (gs : List GateRow). Adds chained start (pin + 0) rest (gate + 0) gs stages layout) (sym (append-nil gates))
    (subst (λ k. Adds chained start (pin + 0) rest k gates stages layout) g
    (subst (λ k. Adds chained start k rest gate gates stages layout) p h)))
Adds-gates chained start used rest gate pin (row ∷ rows) layout gates stages here all count formed none tapped h =
    let mine = row.pins in
    let later = flat_map (λ (row : GateRow). row.pins) rows in
    let split : (mine ++ later) ++ rest ≡ mine ++ (later ++ rest) = append_assoc mine later rest in
    let whole : pin_drivers chained.gates ≡ (used ++ mine) ++ (later ++ rest) = all ∙ ap (λ (l : List Driver). used ++ l) split ∙ sym (append_assoc used mine (later ++ rest)) in
    let mine_none : (k : ℕ) → gate ≤ k → DrivesNone (Gate k) (used ++ mine) =
    λ k low. DrivesNone-append (Gate k) used mine (none k low) (DrivesNone-there chained.gates.inputs gate k mine low formed.0.drivers) in
    let user = slice_index chained.stages gate in
    let step = Adds-gate chained start used (later ++ rest) gate pin row layout gates stages here whole formed.0.not_dro count
    (before_gate-there chained.gates.inputs gate mine formed.0.drivers) (mine_none gate (omega arith)) (tapped gate (omega arith) (omega arith))
    (subst (λ (l : List Driver). Adds chained start pin l gate gates stages layout) split h) in
    let lay = with_gate chained gate pin row layout in
    let done = Adds-gates chained start (used ++ mine) rest (gate + 1) (pin + length mine) rows lay (gates ++ row ∷ []) (stages ++ user ∷ []) (omega (arith, here, length-append used mine)) whole
    (omega (arith, count, length_push gates row)) formed.1
    (λ k low. mine_none k (omega arith)) (λ k low high. tapped k (omega arith) (omega arith)) step in
    let p : (pin + length mine) + gate_pins rows ≡ pin + (length mine + gate_pins rows) = omega arith in
    let g : (gate + 1) + length rows ≡ gate + suc (length rows) = omega arith in
    let r : (gates ++ row ∷ []) ++ rows ≡ gates ++ (row ∷ rows) = append_assoc gates (row ∷ []) rows in
    let s : (stages ++ user ∷ []) ++ stages_from chained.stages (gate + 1) (length rows) ≡ stages ++ (user ∷ stages_from chained.stages (gate + 1) (length rows)) = append_assoc stages (user ∷ []) (stages_from chained.stages (gate + 1) (length rows)) in
    let last = with_gates chained (gate + 1) (pin + length mine) rows lay in
    record {
      drives = subst (λ k. Drives start chained.needs (pin + (length mine + gate_pins rows)) rest (by_driver (before_gate k)) last) g
          (subst (λ k. Drives start chained.needs k rest (by_driver (before_gate ((gate + 1) + length rows))) last) p done.drives);
      gates = done.gates ∙ r;
      stages = done.stages ∙ s;
    }
