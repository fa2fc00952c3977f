-- Steps of a layout: a tap where the chain goes on, and how many pins gates have.
use Rattle.std.proofs.Common.{◌≡◌, ◌≤◌, ◌<◌, ℕ, zero, suc, ◌+◌, List, [], ◌∷◌, length, get_or, drop, refl, arith, length-append}
use Rattle.std.specs.List.{flat_map}
use Rattle.gate_net.specs.declared.row.GateRow.{GateRow}
use Rattle.gate_net.specs.declared.net.GateNet.{GateNet}
use Rattle.gate_net.specs.Net.{pin_drivers, end_drivers}
use Rattle.splitters.specs.Elements.{Layout, with_tap, with_dro, with_chain, gate_pins}

-- A tap that is not the last of its chain.
pub with_chain-goes_on : (n stage wire : ℕ) (taps : List (List ℕ)) (layout : Layout) (k : ℕ) → suc k < length taps →
    with_chain n (stage + n) ((with_tap wire (get_or taps k []) layout).next) (drop (suc k) taps) (with_dro (stage + n) wire (get_or taps k []) layout)
    ≡ with_chain n stage wire (drop k taps) layout
with_chain-goes_on n stage wire [] layout k more = absurd (omega arith)
with_chain-goes_on n stage wire (pins ∷ []) layout k more = absurd (omega arith)
with_chain-goes_on n stage wire (pins ∷ (next ∷ taps)) layout zero more = refl
with_chain-goes_on n stage wire (pins ∷ (next ∷ taps)) layout (suc k) more = with_chain-goes_on n stage wire (next ∷ taps) layout k (omega arith)

-- The pins of gates come before those of outputs.
pub length-gate_drivers : (rows : List GateRow) → length (flat_map (λ (row : GateRow). row.pins) rows) ≡ gate_pins rows
length-gate_drivers [] = refl
length-gate_drivers (row ∷ rows) = omega (arith, length-append row.pins (flat_map (λ (row : GateRow). row.pins) rows), length-gate_drivers rows)

pub gate_pins-le : (net : GateNet) → gate_pins net.gates ≤ length (pin_drivers net)
gate_pins-le net = omega (arith, length-append (flat_map (λ (row : GateRow). row.pins) net.gates) (flat_map end_drivers net.outputs), length-gate_drivers net.gates)
