-- The count of wires: a DRO and a gate make one each, and the splitters to each pin two at most.
use Rattle.std.proofs.Common.{◌≡◌, ◌≤◌, ◌<◌, ◌^◌, ℕ, zero, suc, ◌+◌, ◌-◌, ◌*◌, Bool, true, false, cond, List, [], ◌∷◌, length, get_or, take, drop, refl, sym, subst, arith}
use Rattle.std.specs.Prelude.{Some, None}
use Rattle.std.specs.List.{list_any}
use Rattle.gate_net.specs.declared.row.Driver.{Driver}
use Rattle.gate_net.specs.declared.row.Driver.TheVariants.{Input, Gate}
use Rattle.gate_net.specs.declared.row.GateRow.{GateRow}
use Rattle.gate_net.specs.Rows.{same_driver}
use Rattle.gate_net.specs.Net.{pin_drivers}
use Rattle.flow_net.specs.Uses.{uses_of, is_used}
use Rattle.flow_net.proofs.CallerLemmas.{is_used-uses_of}
use Rattle.dro_chains.specs.declared.chain.Chained.{Chained}
use Rattle.splitters.specs.Elements.{Layout, with_tap, with_dro, with_chain, input_wires, wire_count, with_inputs, with_cell, with_gate, with_gates, inputs_of, empty_layout, layout_of}
use Rattle.splitters.specs.Taps.{takers, tap_count, taps_from, taps_of, input_dros, gate_dros, CanSplit}
use Rattle.splitters.proofs.tapped.Taps.{tap_count-some, length-taps_from}
use Rattle.splitters.proofs.tapped.PinCount.{tap_pins, pins_of, input_pins, gate_pins_of, tap_pins-few, driver_pins-few}
use Rattle.splitters.proofs.tapped.Takers.{takers-last}

-- A chain makes a wire for each DRO, and two at most for each pin.
chain-wires : (n stage wire : ℕ) (taps : List (List ℕ)) (layout : Layout) → (with_chain n stage wire taps layout).next ≤ layout.next + (length taps - 1) + 2 * tap_pins taps
chain-wires n stage wire [] layout = omega arith
chain-wires n stage wire (pins ∷ []) layout = omega arith
chain-wires n stage wire (pins ∷ (more ∷ taps)) layout =
    omega (arith, chain-wires n (stage + n) (with_tap wire pins layout).next (more ∷ taps) (with_dro (stage + n) wire pins layout))

-- Where the last tap has a pin, it is one less at least: so is the wire of an input paid for.
chain-wires-ended : (n stage wire need count : ℕ) (needs : List ℕ) (drivers : List Driver) (driver : Driver) (layout : Layout) → 1 ≤ length (takers needs driver (need + count) 0 drivers) →
    (with_chain n stage wire (taps_from needs drivers driver need (suc count)) layout).next + 1 ≤ layout.next + count + 2 * tap_pins (taps_from needs drivers driver need (suc count))
chain-wires-ended n stage wire need zero needs drivers driver layout some =
    let here : need + 0 ≡ need = omega arith in
    omega (arith, subst (λ k. 1 ≤ length (takers needs driver k 0 drivers)) here some)
chain-wires-ended n stage wire need (suc count) needs drivers driver layout some =
    let pins = takers needs driver need 0 drivers in
    let moved : need + suc count ≡ (need + 1) + count = omega arith in
    let rest = chain-wires-ended n (stage + n) (with_tap wire pins layout).next (need + 1) count needs drivers driver (with_dro (stage + n) wire pins layout)
    (subst (λ k. 1 ≤ length (takers needs driver k 0 drivers)) moved some) in
    omega (arith, rest)

-- The chain of a driver makes a wire for each DRO, and two at most for each of its pins.
driver-wires : (chained : Chained) (driver : Driver) (stage wire : ℕ) (layout : Layout) →
    (with_chain chained.n stage wire (taps_of chained driver) layout).next ≤ layout.next + (length (taps_of chained driver) - 1) + 2 * pins_of driver (pin_drivers chained.gates)
driver-wires chained driver stage wire layout =
    let drivers = pin_drivers chained.gates in
    omega (arith, chain-wires chained.n stage wire (taps_of chained driver) layout, tap_pins-few chained.needs drivers driver 0 (tap_count chained.needs driver 0 drivers))

-- And one less at least where it drives a pin.
used-wires : (chained : Chained) (driver : Driver) (stage wire : ℕ) (layout : Layout) → list_any (same_driver driver) (pin_drivers chained.gates) ≡ true →
    (with_chain chained.n stage wire (taps_of chained driver) layout).next + 1 ≤ layout.next + (length (taps_of chained driver) - 1) + 2 * pins_of driver (pin_drivers chained.gates)
used-wires chained driver stage wire layout used = by (tap_count chained.needs driver 0 (pin_drivers chained.gates)) refl
  where
    by : (count : ℕ) → tap_count chained.needs driver 0 (pin_drivers chained.gates) ≡ count →
        (with_chain chained.n stage wire (taps_from chained.needs (pin_drivers chained.gates) driver 0 count) layout).next + 1
        ≤ layout.next + (length (taps_from chained.needs (pin_drivers chained.gates) driver 0 count) - 1) + 2 * pins_of driver (pin_drivers chained.gates)
    by zero none = let some = (tap_count-some chained.needs driver 0 (pin_drivers chained.gates)).0 used in absurd (omega (arith, none, some))
    by (suc more) many =
        let drivers = pin_drivers chained.gates in
        let same : more ≡ 0 + more = omega arith in
        let last = subst (λ k. 1 ≤ length (takers chained.needs driver k 0 drivers)) same (takers-last chained.needs driver more 0 drivers many) in
        omega (
          arith,
          chain-wires-ended chained.n stage wire 0 more chained.needs drivers driver layout last,
          tap_pins-few chained.needs drivers driver 0 (suc more),
          length-taps_from chained.needs drivers driver 0 (suc more),
        )

-- The inputs' wires and those of their chains.
input-wires : (chained : Chained) (input next more : ℕ) (layout : Layout) →
    (with_inputs chained input (input_wires chained input next more) layout).next + wire_count (input_wires chained input next more)
    ≤ layout.next + input_dros chained input more + 2 * input_pins (pin_drivers chained.gates) input more
input-wires chained input next zero layout = omega arith
input-wires chained input next (suc more) layout =
    by (is_used input (uses_of chained.gates)) (sym (is_used-uses_of chained.gates input)) (λ from lay. input-wires chained (input + 1) from more lay)
  where
    by : (used : Bool) → list_any (same_driver (Input input)) (pin_drivers chained.gates) ≡ used →
        ((from : ℕ) (lay : Layout) →
        (with_inputs chained (input + 1) (input_wires chained (input + 1) from more) lay).next + wire_count (input_wires chained (input + 1) from more)
        ≤ lay.next + input_dros chained (input + 1) more + 2 * input_pins (pin_drivers chained.gates) (input + 1) more) →
        (with_inputs chained input (cond used (Some next) None ∷ input_wires chained (input + 1) (next + cond used 1 0) more) layout).next + wire_count (cond used (Some next) None ∷ input_wires chained (input + 1) (next + cond used 1 0) more)
        ≤ layout.next + input_dros chained input (suc more) + 2 * input_pins (pin_drivers chained.gates) input (suc more)
    by true used rest =
        let chain = used-wires chained (Input input) 0 next layout used in
        let later = rest (next + 1) (with_chain chained.n 0 next (taps_of chained (Input input)) layout) in
        omega (arith, chain, later)
    by false unused rest = let later = rest (next + 0) layout in omega (arith, later)

-- The gates' wires and those of their chains.
gate-wires : (chained : Chained) (gate pin : ℕ) (rows : List GateRow) (layout : Layout) →
    (with_gates chained gate pin rows layout).next
    ≤ layout.next + gate_dros chained gate (length rows) + 2 * gate_pins_of (pin_drivers chained.gates) gate (length rows) + length rows
gate-wires chained gate pin [] layout = omega arith
gate-wires chained gate pin (row ∷ rows) layout =
    let stage = get_or chained.stages gate 0 in
    let chain = driver-wires chained (Gate gate) stage layout.next (with_cell row.cell stage (take (length row.pins) (drop pin layout.taken)) layout) in
    let later = gate-wires chained (gate + 1) (pin + length row.pins) rows (with_gate chained gate pin row layout) in
    omega (arith, chain, later)

-- Few wires are few in the layout: there is room for two more.
pub wires-fit : (chained : Chained) → CanSplit chained → (layout_of chained).next + 2 < 2 ^ 32
wires-fit chained can =
    let rows = chained.gates.gates in
    let drivers = pin_drivers chained.gates in
    let inputs = input-wires chained 0 0 chained.gates.inputs (empty_layout chained) in
    let gates = gate-wires chained 0 0 rows (with_inputs chained 0 (inputs_of chained) (empty_layout chained)) in
    let pins = driver_pins-few drivers 0 chained.gates.inputs 0 (length rows) in
    omega (arith, inputs, gates, pins, can.few_wires)
