-- The graph of a design: its tables in order, the rows of each, and the literals of each row.
use Rattle.std.specs.Prelude.{◌+◌, ℕ, Bool, false, List, [], ◌∷◌, ◌++◌, length, map, slice_index_or, slice_set, replicate, if◌then◌else◌}
use Rattle.net_base.specs.declared.graph.Ref.{Ref}
use Rattle.net_base.specs.declared.graph.Ref.TheVariants.{Const, Node}
use Rattle.net_base.specs.declared.graph.Graph.{Graph}
use Rattle.net_base.specs.declared.graph.Subject.{Subject}
use Rattle.blif_model.specs.declared.design.Bit.{Bit}
use Rattle.blif_model.specs.declared.design.Bit.TheVariants.{Zero, One, Any as Dash}
use Rattle.blif_model.specs.declared.design.Cube.{Cube}
use Rattle.blif_model.specs.declared.design.Table.{Table}
use Rattle.blif_model.specs.declared.design.Design.{Design}
use Rattle.blif_model.specs.declared.design.Ordered.{Ordered}
use Rattle.blif_model.specs.Values.{tables_at}
use Rattle.subject_graph.specs.declared.folds.Folding.TheVariants.{All, Any}
use Rattle.subject_graph.specs.Nodes.{input_graph}
use Rattle.subject_graph.specs.Steps.{Made, with_neg, folded}

-- one signal more behind those that were made
abbrev pub and_then : List Ref → Made Ref → Made (List Ref)
and_then signals made = record { graph = made.graph; answer = signals ++ made.answer ∷ [] }

-- one literal more: of `1` the pin, of `0` its complement, and of `-` none
abbrev pub with_literal : Made (List Ref) → Bit → Ref → Made (List Ref)
with_literal made One pin = and_then made.answer (record { graph = made.graph; answer = pin })
with_literal made Zero pin = and_then made.answer (with_neg made.graph pin)
with_literal made Dash pin = made

-- the literals of bits, from the left
abbrev pub with_literals : Made (List Ref) → List Bit → List Ref → Made (List Ref)
with_literals made (bit ∷ bits) (pin ∷ pins) = with_literals (with_literal made bit pin) bits pins
with_literals made bits pins = made

-- a row: the conjunction of its literals
abbrev pub with_row : List Ref → Graph → Cube → Made Ref
with_row pins graph row =
    let literals = with_literals (record { graph = graph; answer = [] }) row.bits pins in
    folded All literals.graph literals.answer

-- rows, one after the other
abbrev pub with_rows : List Ref → Made (List Ref) → List Cube → Made (List Ref)
with_rows pins made [] = made
with_rows pins made (row ∷ rows) = with_rows pins (and_then made.answer (with_row pins made.graph row)) rows

-- the complement, unless the table is on
abbrev pub with_output : Bool → Made Ref → Made Ref
with_output on made = if on then made else with_neg made.graph made.answer

-- the disjunction of rows, all of which are made first
abbrev pub with_any_row : List Ref → Graph → List Cube → Made Ref
with_any_row pins graph rows =
    let signals = with_rows pins (record { graph = graph; answer = [] }) rows in
    folded Any signals.graph signals.answer

-- a table over the signals of its pins
abbrev pub with_table : List Ref → Graph → Table → Made Ref
with_table pins graph table = with_output table.on (with_any_row pins graph table.rows)

-- what a signal of the design is; one that has nothing yet is false, which no table of an order reads
abbrev pub ref_at : List Ref → ℕ → Ref
ref_at refs signal = slice_index_or refs signal (Const false)

-- the target of a table is what the table gives
abbrev pub with_target : Made (List Ref) → Table → Made (List Ref)
with_target made table =
    let driven = with_table (map (ref_at made.answer) table.pins) made.graph table in
    record { graph = driven.graph; answer = slice_set made.answer table.target driven.answer }

-- the targets of tables, one table after the other
abbrev pub with_targets : Made (List Ref) → List Table → Made (List Ref)
with_targets made [] = made
with_targets made (table ∷ tables) = with_targets (with_target made table) tables

-- inputs are the nodes from a number on, in order, and every other signal stays what it is
abbrev pub input_refs : ℕ → List ℕ → List Ref → List Ref
input_refs number [] refs = refs
input_refs number (input ∷ inputs) refs = slice_set (input_refs (number + 1) inputs refs) input (Node number)

-- the graph of the inputs of a design, and what its signals are in it
abbrev pub with_inputs : Design → Made (List Ref)
with_inputs design = record { graph = input_graph (length design.inputs); answer = input_refs 0 design.inputs (replicate (length design.names) (Const false)) }

-- the graph of a design, and what its signals are in it
abbrev pub drawn : Ordered → Made (List Ref)
drawn ordered = with_targets (with_inputs ordered.design) (tables_at ordered.design.tables ordered.order)

-- the subject of a design: its graph, with what each output is in it
abbrev pub subject_of : Ordered → Subject
subject_of ordered = record { graph = (drawn ordered).graph; outputs = map (ref_at (drawn ordered).answer) ordered.design.outputs }
