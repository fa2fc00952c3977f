-- Each line makes a wire at least, so there are no more elements than wires.
use Rattle.std.proofs.Common.{◌≡◌, ◌≤◌, ◌<◌, ◌^◌, ℕ, zero, suc, ◌+◌, ◌-◌, ◌*◌, List, [], ◌∷◌, ◌++◌, length, get_or, take, drop, arith, length-append}
use Rattle.std.specs.Prelude.{Option, Some, None}
use Rattle.cell_lib.specs.declared.cell.Cell.TheVariants.{Dro}
use Rattle.gate_net.specs.declared.row.Driver.TheVariants.{Input, Gate}
use Rattle.gate_net.specs.declared.row.GateRow.{GateRow}
use Rattle.pulse_net.specs.declared.net.Element.TheVariants.{Clocked}
use Rattle.pulse_net.specs.declared.net.Names.{Names}
use Rattle.dro_chains.specs.declared.chain.Chained.{Chained}
use Rattle.splitters.specs.Spread.{first_half, tree_lines, spread_lines}
use Rattle.splitters.specs.Elements.{Layout, tap_wires, with_spread, with_tap, with_dro, with_cell, with_chain, with_inputs, with_gate, with_gates, inputs_of, empty_layout, layout_of, elements_of}
use Rattle.splitters.specs.Taps.{CanSplit, taps_of}
use Rattle.splitters.proofs.wires.Count.{wires-fit}

-- A tree has two wires for each splitter.
tree-few : (depth wire next targets : ℕ) → length (tree_lines depth wire next targets) ≤ 2 * (targets - 1)
tree-few zero wire next targets = omega arith
tree-few (suc depth) wire next zero = omega arith
tree-few (suc depth) wire next (suc zero) = omega arith
tree-few (suc depth) wire next (suc (suc more)) =
    let half = first_half (suc (suc more)) in
    omega (
      arith,
      length-append (tree_lines depth next (next + 2) half) (tree_lines depth (next + 1) (next + 2 * half) (suc (suc more) - half)),
      tree-few depth next (next + 2) half,
      tree-few depth (next + 1) (next + 2 * half) (suc (suc more) - half),
    )

-- a layout has no more elements than wires
abbrev HasFew : Layout → Type 0
HasFew layout = length layout.elements ≤ layout.next

-- Each step keeps it.
spread-few : (wire targets : ℕ) (layout : Layout) → HasFew layout → HasFew (with_spread wire targets layout)
spread-few wire targets layout few =
    omega (arith, few, length-append layout.elements (spread_lines wire layout.next targets), tree-few targets wire layout.next targets)

dro-few : (stage wire : ℕ) (pins : List ℕ) (layout : Layout) → HasFew layout → HasFew (with_dro stage wire pins layout)
dro-few stage wire pins layout few =
    omega (
      arith,
      spread-few wire (length pins + 1) layout few,
      length-append (with_tap wire pins layout).elements (Clocked Dro stage (get_or (tap_wires wire pins layout) 0 0 ∷ []) (with_tap wire pins layout).next ∷ []),
    )

chain-few : (n stage wire : ℕ) (taps : List (List ℕ)) (layout : Layout) → HasFew layout → HasFew (with_chain n stage wire taps layout)
chain-few n stage wire [] layout few = few
chain-few n stage wire (pins ∷ []) layout few = spread-few wire (length pins) layout few
chain-few n stage wire (pins ∷ (more ∷ taps)) layout few =
    chain-few n (stage + n) (with_tap wire pins layout).next (more ∷ taps) (with_dro (stage + n) wire pins layout) (dro-few (stage + n) wire pins layout few)

inputs-few : (chained : Chained) (input : ℕ) (wires : List (Option ℕ)) (layout : Layout) → HasFew layout → HasFew (with_inputs chained input wires layout)
inputs-few chained input [] layout few = few
inputs-few chained input (None ∷ wires) layout few = inputs-few chained (input + 1) wires layout few
inputs-few chained input (Some wire ∷ wires) layout few =
    let taps = taps_of chained (Input input) in
    inputs-few chained (input + 1) wires (with_chain chained.n 0 wire taps layout) (chain-few chained.n 0 wire taps layout few)

gate-few : (chained : Chained) (gate pin : ℕ) (row : GateRow) (layout : Layout) → HasFew layout → HasFew (with_gate chained gate pin row layout)
gate-few chained gate pin row layout few =
    let stage = get_or chained.stages gate 0 in
    let pins = take (length row.pins) (drop pin layout.taken) in
    chain-few chained.n stage layout.next (taps_of chained (Gate gate)) (with_cell row.cell stage pins layout)
    (omega (arith, few, length-append layout.elements (Clocked row.cell stage pins layout.next ∷ [])))

gates-few : (chained : Chained) (gate pin : ℕ) (rows : List GateRow) (layout : Layout) → HasFew layout → HasFew (with_gates chained gate pin rows layout)
gates-few chained gate pin [] layout few = few
gates-few chained gate pin (row ∷ rows) layout few =
    gates-few chained (gate + 1) (pin + length row.pins) rows (with_gate chained gate pin row layout) (gate-few chained gate pin row layout few)

-- Where the wires have their numbers there are fewer than 2 ^ 32 elements.
pub elements-few : (chained : Chained) (names : Names) → CanSplit chained → length (elements_of chained names).elements < 2 ^ 32
elements-few chained names can =
    let inputs = inputs-few chained 0 (inputs_of chained) (empty_layout chained) (omega arith) in
    let all = gates-few chained 0 0 chained.gates.gates (with_inputs chained 0 (inputs_of chained) (empty_layout chained)) inputs in
    omega (arith, all, wires-fit chained can)
