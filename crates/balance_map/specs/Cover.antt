-- The gates of a subject: those of the needed nodes' chosen formulas, equal ones once, without DROs.
use Rattle.std.specs.Prelude.{ℕ, zero, suc, true, false, cond, nat_lt, List, [], ◌∷◌, ◌++◌, length, map, slice_index_or, slice_set, Option, Some, None, unwrap_or}
use Rattle.std.specs.List.{range_with_len}
use Rattle.net_base.specs.declared.graph.Ref.{Ref}
use Rattle.net_base.specs.declared.graph.Ref.TheVariants.{Const, Node}
use Rattle.net_base.specs.declared.graph.Subject.{Subject}
use Rattle.cell_lib.specs.declared.cell.Cell.{Cell}
use Rattle.cell_lib.specs.Cell.{is_dro}
use Rattle.cut_word.specs.Word.{leaves_in}
use Rattle.pattern_table.specs.declared.formula.Formula.{Formula}
use Rattle.pattern_table.specs.Least.{least_formula, leaf_at, parts_of}
use Rattle.gate_net.specs.declared.row.Driver.{Driver}
use Rattle.gate_net.specs.declared.row.Driver.TheVariants.{Input, Gate}
use Rattle.gate_net.specs.declared.row.End.{End}
use Rattle.gate_net.specs.declared.row.End.TheVariants.{Zero, One, From}
use Rattle.gate_net.specs.declared.row.GateRow.{GateRow}
use Rattle.gate_net.specs.declared.net.GateNet.{GateNet}
use Rattle.gate_net.specs.Rows.{gate_place, with_row}
use Rattle.gate_net.specs.Order.{ascending}
use Rattle.balance_map.specs.declared.choice.Choice.{Choice}
use Rattle.balance_map.specs.declared.fault.MapFault.{MapFault}
use Rattle.balance_map.specs.declared.fault.MapFault.TheVariants.{TooManyGates, NoMemory}
use Rattle.balance_map.specs.Choices.{choice_at, choices_of}
use Rattle.balance_map.specs.Needed.{needed_nodes}

-- gates, and what drives something that was made of them
pub record Driven (A : Type 0) : Type 0 where
  pub gates : List GateRow
  pub by : A

-- ---- A formula over drivers
-- A cell over drivers: a DRO stands for what drives it; any other is a gate, with its pins in ascending order, found or added.
abbrev pub with_cell : Cell → Driven (List Driver) → Driven Driver
with_cell cell pins =
    let row : GateRow = record { cell = cell; pins = ascending pins.by } in
    cond (is_dro cell)
    (record { gates = pins.gates; by = slice_index_or pins.by 0 (Input 0) })
    (record { gates = with_row row pins.gates; by = Gate (gate_place row pins.gates) })

-- one driver more, behind those that are there
abbrev pub and_driver : List Driver → Driven Driver → Driven (List Driver)
and_driver drivers next = record { gates = next.gates; by = drivers ++ next.by ∷ [] }

-- parts, one after the other from the left
abbrev pub with_parts : (List GateRow → ℕ → Driven Driver) → Driven (List Driver) → List ℕ → Driven (List Driver)
with_parts walk so [] = so
with_parts walk so (table ∷ tables) = with_parts walk (and_driver so.by (walk so.gates table)) tables

-- a formula: its parts from the left, then its cell; where there is no formula there is nothing to walk
abbrev pub with_formula : (List GateRow → ℕ → Driven Driver) → List GateRow → Option Formula → Driven Driver
with_formula walk gates None = record { gates = gates; by = Input 0 }
with_formula walk gates (Some formula) = with_cell formula.cell (with_parts walk (record { gates = gates; by = [] }) (parts_of formula))

-- the least formula of a table, so deep, over leaves with these drivers; at depth 0 it is a leaf
abbrev pub walked : List Driver → ℕ → List GateRow → ℕ → Driven Driver
walked leaves zero gates table = record { gates = gates; by = slice_index_or leaves (unwrap_or (leaf_at (length leaves) table) 0) (Input 0) }
walked leaves (suc depth) gates table = with_formula (walked leaves depth) gates (least_formula (length leaves) table (suc depth))

-- ---- All needed nodes
-- the chosen formula of a node, over the drivers of its leaves
abbrev pub with_choice : List Driver → List GateRow → Choice → Driven Driver
with_choice drivers gates choice =
    walked (map (λ leaf. slice_index_or drivers leaf (Input leaf)) (leaves_in choice.leaves)) choice.depth gates choice.table

-- what drives a node from now on
abbrev pub with_driver : List Driver → ℕ → Driven Driver → Driven (List Driver)
with_driver drivers node next = record { gates = next.gates; by = slice_set drivers node next.by }

-- nodes, one after the other
abbrev pub with_nodes : List Choice → Driven (List Driver) → List ℕ → Driven (List Driver)
with_nodes choices so [] = so
with_nodes choices so (node ∷ nodes) =
    with_nodes choices (with_driver so.by node (with_choice so.by so.gates (choice_at choices node))) nodes

-- at first each input drives itself; what drives a node that isn't needed is never read, and is noted in the same way
abbrev pub own_drivers : Subject → List Driver
own_drivers subject = map Input (range_with_len 0 (length subject.graph.nodes))

-- the gates of all needed nodes, in ascending order, and what drives each node
unfoldable pub covered : Subject → Driven (List Driver)
covered subject = with_nodes (choices_of subject) (record { gates = []; by = own_drivers subject }) (needed_nodes subject)

-- an output: a constant, or what drives its node
abbrev pub end_of : List Driver → Ref → End
end_of drivers (Const false) = Zero
end_of drivers (Const true) = One
end_of drivers (Node node) = From (slice_index_or drivers node (Input node))

-- the gates of a subject, with an end for each output
abbrev pub gates_of : Subject → GateNet
gates_of subject = record {
  inputs = subject.graph.inputs;
  gates = (covered subject).gates;
  outputs = map (end_of (covered subject).by) subject.outputs;
}

-- ---- How many there may be
-- what `cover` answers: the gates, and none where there are more than the most
abbrev pub cover_of : ℕ → Subject → Option GateNet
cover_of most subject = cond (nat_lt most (length (covered subject).gates)) None (Some (gates_of subject))

-- the answer that a fault tells; want of memory tells none
abbrev pub told : MapFault → Option (Option GateNet)
told TooManyGates = Some None
told NoMemory = None
