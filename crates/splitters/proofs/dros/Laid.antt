-- How many DROs are laid out: a chain has one for each tap behind its first, and neither splitters nor gates are DROs.
use Rattle.std.proofs.Common.{◌≡◌, ℕ, zero, suc, ◌+◌, ◌-◌, ◌*◌, Bool, true, false, cond, List, [], ◌∷◌, ◌++◌, length, take, drop, refl, ap, sym, ◌∙◌, arith}
use Rattle.std.specs.Prelude.{Some, None, slice_index}
use Rattle.std.specs.List.{list_any}
use Rattle.std.proofs.lemmas.Bool.Decides.{not_from_Decides}
use Rattle.cell_lib.specs.declared.cell.Cell.TheVariants.{Dro}
use Rattle.cell_lib.specs.Cell.{is_dro}
use Rattle.cell_lib.proofs.CallerLemmas.{is_dro-other}
use Rattle.gate_net.specs.declared.row.Driver.{Driver}
use Rattle.gate_net.specs.declared.row.Driver.TheVariants.{Input, Gate}
use Rattle.gate_net.specs.declared.row.GateRow.{GateRow}
use Rattle.gate_net.specs.Rows.{same_driver}
use Rattle.gate_net.specs.Net.{pin_drivers}
use Rattle.flow_net.specs.Uses.{uses_of, is_used}
use Rattle.flow_net.proofs.CallerLemmas.{is_used-uses_of}
use Rattle.pulse_net.specs.declared.net.Element.{Element}
use Rattle.pulse_net.specs.declared.net.Element.TheVariants.{Clocked}
use Rattle.pulse_net.specs.Dros.{dros}
use Rattle.pulse_net.proofs.CallerLemmas.{dros-append}
use Rattle.dro_chains.specs.declared.chain.Chained.{Chained}
use Rattle.splitters.specs.Spread.{first_half, tree_lines, spread_lines}
use Rattle.splitters.specs.Elements.{Layout, tap_wires, with_tap, with_dro, with_chain, input_wires, with_inputs, with_cell, with_gate, with_gates, inputs_of, empty_layout}
use Rattle.splitters.specs.Taps.{taps_of, input_dros, gate_dros}
use Rattle.splitters.specs.Laws.{DrosAreTheChains}
use Rattle.splitters.proofs.tapped.Taps.{tap_count-some, length-taps_at}
use Rattle.splitters.proofs.valid.Gates.{AreGatesFrom}
use Rattle.splitters.proofs.valid.Whole.{gates-all}

dros-tree : (depth wire next targets : ℕ) → dros (tree_lines depth wire next targets) ≡ 0
dros-tree zero wire next targets = refl
dros-tree (suc depth) wire next zero = refl
dros-tree (suc depth) wire next (suc zero) = refl
dros-tree (suc depth) wire next (suc (suc more)) =
    let h = first_half (suc (suc more)) in
    let left = tree_lines depth next (next + 2) h in
    let right = tree_lines depth (next + 1) (next + 2 * h) (suc (suc more) - h) in
    let a : dros left ≡ 0 = dros-tree depth next (next + 2) h in
    let b : dros right ≡ 0 = dros-tree depth (next + 1) (next + 2 * h) (suc (suc more) - h) in
    omega (arith, a, b, dros-append left right)

dros-spread : (old : List Element) (wire next targets : ℕ) → dros (old ++ spread_lines wire next targets) ≡ dros old
dros-spread old wire next targets = let a = dros-tree targets wire next targets in omega (arith, a, dros-append old (spread_lines wire next targets))

dros-chain : (n stage wire : ℕ) (taps : List (List ℕ)) (layout : Layout) → dros (with_chain n stage wire taps layout).elements ≡ dros layout.elements + (length taps - 1)
dros-chain n stage wire [] layout = omega arith
dros-chain n stage wire (pins ∷ []) layout = let e = dros-spread layout.elements wire layout.next (length pins) in omega (arith, e)
dros-chain n stage wire (pins ∷ (more ∷ taps)) layout =
    let tap = with_tap wire pins layout in
    let dro = with_dro (stage + n) wire pins layout in
    let rest = dros-chain n (stage + n) tap.next (more ∷ taps) dro in
    let spread = dros-spread layout.elements wire layout.next (length pins + 1) in
    let last : dros dro.elements ≡ dros tap.elements + 1 = dros-append tap.elements (Clocked Dro (stage + n) (slice_index (tap_wires wire pins layout) 0 ∷ []) tap.next ∷ []) in
    omega (arith, rest, spread, last)

-- a driver that drives no pin has no tap
pub no-taps : (chained : Chained) (driver : Driver) → list_any (same_driver driver) (pin_drivers chained.gates) ≡ false → length (taps_of chained driver) ≡ 0
no-taps chained driver unused =
    let drivers = pin_drivers chained.gates in
    let none = not_from_Decides (list_any (same_driver driver) drivers) (tap_count-some chained.needs driver 0 drivers) unused in
    omega (arith, none, length-taps_at chained.needs drivers driver)

dros-inputs : (chained : Chained) (input next more : ℕ) (layout : Layout) →
    dros (with_inputs chained input (input_wires chained input next more) layout).elements ≡ dros layout.elements + input_dros chained input more
dros-inputs chained input next zero layout = omega arith
dros-inputs chained input next (suc more) layout =
    by (is_used input (uses_of chained.gates)) (λ unused. no-taps chained (Input input) (sym (is_used-uses_of chained.gates input) ∙ unused)) (λ from lay. dros-inputs chained (input + 1) from more lay)
  where
    by : (used : Bool) → (used ≡ false → length (taps_of chained (Input input)) ≡ 0) →
        ((from : ℕ) (lay : Layout) → dros (with_inputs chained (input + 1) (input_wires chained (input + 1) from more) lay).elements ≡ dros lay.elements + input_dros chained (input + 1) more) →
        dros (with_inputs chained input (cond used (Some next) None ∷ input_wires chained (input + 1) (next + cond used 1 0) more) layout).elements ≡ dros layout.elements + input_dros chained input (suc more)
    by true none rest =
        let chain = dros-chain chained.n 0 next (taps_of chained (Input input)) layout in
        let r = rest (next + 1) (with_chain chained.n 0 next (taps_of chained (Input input)) layout) in omega (arith, chain, r)
    by false none rest = let r = rest (next + 0) layout in let z = none refl in omega (arith, r, z)

dros-gates : (chained : Chained) (gate pin : ℕ) (rows : List GateRow) (layout : Layout) → AreGatesFrom chained.gates.inputs gate rows →
    dros (with_gates chained gate pin rows layout).elements ≡ dros layout.elements + gate_dros chained gate (length rows)
dros-gates chained gate pin [] layout gates = omega arith
dros-gates chained gate pin (row ∷ rows) layout gates =
    let user = slice_index chained.stages gate in
    let wires = take (length row.pins) (drop pin layout.taken) in
    let begun = with_cell row.cell user wires layout in
    let cell = dros-append layout.elements (Clocked row.cell user wires layout.next ∷ []) in
    let none : cond {A = ℕ} (is_dro row.cell) 1 0 ≡ 0 = ap (λ b. cond b 1 0) (is_dro-other row.cell gates.0.not_dro) in
    let chain = dros-chain chained.n user layout.next (taps_of chained (Gate gate)) begun in
    let rest = dros-gates chained (gate + 1) (pin + length row.pins) rows (with_gate chained gate pin row layout) gates.1 in
    omega (arith, cell, none, chain, rest)

pub dros_are_the_chains : DrosAreTheChains
dros_are_the_chains chained names formed =
    let rows = chained.gates.gates in
    let inputs = chained.gates.inputs in
    let gates : AreGatesFrom inputs 0 rows = gates-all inputs rows formed.gates in
    let a = dros-inputs chained 0 0 inputs (empty_layout chained) in
    let b = dros-gates chained 0 0 rows (with_inputs chained 0 (inputs_of chained) (empty_layout chained)) gates in
    omega (arith, a, b)
