-- Gates only grow, whatever is walked.
use Rattle.std.proofs.Common.{◌≤◌, ℕ, zero, suc, Bool, true, false, cond, List, [], ◌∷◌, Option, Some, None, get_or, length, map, ap, arith, length-append}
use Rattle.cut_word.specs.Word.{leaves_in}
use Rattle.cell_lib.specs.declared.cell.Cell.{Cell}
use Rattle.cell_lib.specs.Cell.{is_dro}
use Rattle.pattern_table.specs.declared.formula.Formula.{Formula}
use Rattle.pattern_table.specs.Least.{least_formula, parts_of}
use Rattle.gate_net.specs.declared.row.Driver.{Driver}
use Rattle.gate_net.specs.declared.row.Driver.TheVariants.{Input, Gate}
use Rattle.gate_net.specs.declared.row.GateRow.{GateRow}
use Rattle.gate_net.specs.Rows.{gate_place, with_row}
use Rattle.gate_net.specs.Order.{ascending}
use Rattle.gate_net.proofs.CallerLemmas.{added, with_row-added}
use Rattle.balance_map.specs.declared.choice.Choice.{Choice}
use Rattle.balance_map.specs.Choices.{choice_at}
use Rattle.balance_map.specs.Cover.{Driven, with_cell, and_driver, with_parts, with_formula, walked, with_choice, with_driver, with_nodes}

row-grows : (row : GateRow) (rows : List GateRow) → length rows ≤ length (with_row row rows)
row-grows row rows = omega (arith, ap length (with_row-added row rows), length-append rows (added row rows))

cell-grows : (cell : Cell) (pins : Driven (List Driver)) → length pins.gates ≤ length (with_cell cell pins).gates
cell-grows cell pins = by (is_dro cell) (get_or pins.by 0 (Input 0)) (Gate (gate_place (record { cell = cell; pins = ascending pins.by }) pins.gates))
  where
    row : GateRow
    row = record { cell = cell; pins = ascending pins.by }

    by : (b : Bool) (driver other : Driver) → length pins.gates ≤ length (cond {A = Driven Driver} b (record { gates = pins.gates; by = driver }) (record { gates = with_row row pins.gates; by = other })).gates
    by true driver other = omega arith
    by false driver other = row-grows row pins.gates

-- a walk whose gates only grow
abbrev Grows : (List GateRow → ℕ → Driven Driver) → Type 0
Grows walk = (gates : List GateRow) (table : ℕ) → length gates ≤ length (walk gates table).gates

parts-grow : (walk : List GateRow → ℕ → Driven Driver) → Grows walk → (so : Driven (List Driver)) (tables : List ℕ) → length so.gates ≤ length (with_parts walk so tables).gates
parts-grow walk grows so [] = omega arith
parts-grow walk grows so (table ∷ tables) =
    omega (arith, grows so.gates table, parts-grow walk grows (and_driver so.by (walk so.gates table)) tables)

formula-grows : (walk : List GateRow → ℕ → Driven Driver) → Grows walk → (gates : List GateRow) (o : Option Formula) → length gates ≤ length (with_formula walk gates o).gates
formula-grows walk grows gates None = omega arith
formula-grows walk grows gates (Some head) =
    let so : Driven (List Driver) = with_parts walk (record { gates = gates; by = [] }) (parts_of head) in
    omega (arith, parts-grow walk grows (record { gates = gates; by = [] }) (parts_of head), cell-grows head.cell so)

walk-grows : (leaves : List Driver) (depth : ℕ) → Grows (walked leaves depth)
walk-grows leaves zero gates table = omega arith
walk-grows leaves (suc depth) gates table = formula-grows (walked leaves depth) (walk-grows leaves depth) gates (least_formula (length leaves) table (suc depth))

pub nodes-grow : (choices : List Choice) (so : Driven (List Driver)) (nodes : List ℕ) → length so.gates ≤ length (with_nodes choices so nodes).gates
nodes-grow choices so [] = omega arith
nodes-grow choices so (node ∷ nodes) =
    let next : Driven (List Driver) = with_driver so.by node (with_choice so.by so.gates (choice_at choices node)) in
    omega (arith, chosen so.by so.gates (choice_at choices node), nodes-grow choices next nodes)
  where
    chosen : (drivers : List Driver) (gates : List GateRow) (choice : Choice) → length gates ≤ length (with_choice drivers gates choice).gates
    chosen drivers gates choice = walk-grows (map (λ leaf. get_or drivers leaf (Input leaf)) (leaves_in choice.leaves)) choice.depth gates choice.table
