-- Each step of a layout keeps the wires that there are, so there is room for a step where there is room for all behind it.
use Rattle.std.proofs.Common.{◌≡◌, ◌≤◌, ◌<◌, ℕ, suc, ◌+◌, List, [], ◌∷◌, length, get_or, take, drop, drop-cons, ap, ◌∙◌, arith}
use Rattle.std.proofs.lemmas.List.{get_or_default}
use Rattle.std.specs.Prelude.{Option, Some, None}
use Rattle.gate_net.specs.declared.row.Driver.TheVariants.{Input, Gate}
use Rattle.gate_net.specs.declared.row.GateRow.{GateRow}
use Rattle.dro_chains.specs.declared.chain.Chained.{Chained}
use Rattle.splitters.specs.Elements.{Layout, with_tap, with_dro, with_chain, with_inputs, with_cell, with_gate, with_gates, inputs_of, empty_layout, layout_of}
use Rattle.splitters.specs.Taps.{taps_of}
use Rattle.splitters.proofs.wires.Steps.{with_chain-goes_on}

chain-grows : (n stage wire : ℕ) (taps : List (List ℕ)) (layout : Layout) → layout.next ≤ (with_chain n stage wire taps layout).next
chain-grows n stage wire [] layout = omega arith
chain-grows n stage wire (pins ∷ []) layout = omega arith
chain-grows n stage wire (pins ∷ (more ∷ taps)) layout =
    omega (arith, chain-grows n (stage + n) (with_tap wire pins layout).next (more ∷ taps) (with_dro (stage + n) wire pins layout))

inputs-grow : (chained : Chained) (input : ℕ) (wires : List (Option ℕ)) (layout : Layout) → layout.next ≤ (with_inputs chained input wires layout).next
inputs-grow chained input [] layout = omega arith
inputs-grow chained input (None ∷ wires) layout = inputs-grow chained (input + 1) wires layout
inputs-grow chained input (Some wire ∷ wires) layout =
    let taps = taps_of chained (Input input) in
    omega (arith, chain-grows chained.n 0 wire taps layout, inputs-grow chained (input + 1) wires (with_chain chained.n 0 wire taps layout))

pub gate-grows : (chained : Chained) (gate pin : ℕ) (row : GateRow) (layout : Layout) → layout.next + 1 ≤ (with_gate chained gate pin row layout).next
gate-grows chained gate pin row layout =
    let stage = get_or chained.stages gate 0 in
    chain-grows chained.n stage layout.next (taps_of chained (Gate gate)) (with_cell row.cell stage (take (length row.pins) (drop pin layout.taken)) layout)

gates-grow : (chained : Chained) (gate pin : ℕ) (rows : List GateRow) (layout : Layout) → layout.next ≤ (with_gates chained gate pin rows layout).next
gates-grow chained gate pin [] layout = omega arith
gates-grow chained gate pin (row ∷ rows) layout =
    omega (arith, gate-grows chained gate pin row layout, gates-grow chained (gate + 1) (pin + length row.pins) rows (with_gate chained gate pin row layout))

-- There is room for the next DRO of a chain.
pub dro-room : (n stage wire : ℕ) (taps : List (List ℕ)) (layout whole : Layout) (k limit : ℕ) (d : List ℕ) → suc k < length taps →
    with_chain n stage wire (drop k taps) layout ≡ whole → whole.next + 2 < limit → (with_dro (stage + n) wire (get_or taps k d) layout).next + 2 < limit
dro-room n stage wire taps layout whole k limit d more is room =
    let all = ap (λ (l : Layout). l.next) (with_chain-goes_on n stage wire taps layout k more ∙ is) in
    let pins = get_or taps k [] in
    let same = ap length (get_or_default taps k d [] (omega (arith, more))) in
    omega (arith, room, all, same, chain-grows n (stage + n) (with_tap wire pins layout).next (drop (suc k) taps) (with_dro (stage + n) wire pins layout))

-- And there is room for the chain of the next used input, and for the next gate.
pub input-room : (chained : Chained) (input wire : ℕ) (wires : List (Option ℕ)) (layout whole : Layout) (d : Option ℕ) (limit : ℕ) → input < length wires → get_or wires input d ≡ Some wire →
    with_inputs chained input (drop input wires) layout ≡ whole → whole.next + 2 < limit → (with_chain chained.n 0 wire (taps_of chained (Input input)) layout).next + 2 < limit
input-room chained input wire wires layout whole d limit within used is room =
    let first = ap (λ (ws : List (Option ℕ)). (with_inputs chained input ws layout).next) (drop-cons wires input d within) in
    let here = ap (λ (w : Option ℕ). (with_inputs chained input (w ∷ drop (suc input) wires) layout).next) used in
    let all = ap (λ (l : Layout). l.next) is in
    let taps = taps_of chained (Input input) in
    omega (arith, room, first, here, all, inputs-grow chained (input + 1) (drop (suc input) wires) (with_chain chained.n 0 wire taps layout))

pub gate-room : (chained : Chained) (gate pin : ℕ) (rows : List GateRow) (layout whole : Layout) (d : GateRow) (limit : ℕ) → gate < length rows →
    with_gates chained gate pin (drop gate rows) layout ≡ whole → whole.next + 2 < limit → (with_gate chained gate pin (get_or rows gate d) layout).next + 2 < limit
gate-room chained gate pin rows layout whole d limit within is room =
    let row = get_or rows gate d in
    let first = ap (λ (rs : List GateRow). (with_gates chained gate pin rs layout).next) (drop-cons rows gate d within) in
    let all = ap (λ (l : Layout). l.next) is in
    omega (arith, room, first, all, gates-grow chained (gate + 1) (pin + length row.pins) (drop (suc gate) rows) (with_gate chained gate pin row layout))

-- And for the inputs before the gates.
pub inputs-room : (chained : Chained) (wires : List (Option ℕ)) (layout : Layout) (limit : ℕ) → wires ≡ inputs_of chained → layout ≡ empty_layout chained →
    (layout_of chained).next + 2 < limit → (with_inputs chained 0 wires layout).next + 2 < limit
inputs-room chained wires layout limit used empty room =
    let first : (with_inputs chained 0 wires layout).next ≡ (with_inputs chained 0 (inputs_of chained) (empty_layout chained)).next = λ i. (with_inputs chained 0 (used i) (empty i)).next in
    omega (arith, room, first, gates-grow chained 0 0 chained.gates.gates (with_inputs chained 0 (inputs_of chained) (empty_layout chained)))
