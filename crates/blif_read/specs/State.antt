-- What was read so far, and what a line without a fault adds to it.
use Rattle.std.specs.Prelude.{ℕ, Bool, true, false, ◌-◌, List, [], ◌++◌, length, take, slice_index, slice_index_or, Option, Some, None, codes}
use Rattle.std.specs.Option.{option_map, option_to_list}
use Rattle.blif_model.specs.declared.design.Table.{Table}
use Rattle.blif_model.specs.declared.design.Design.{Design}
use Rattle.blif_read.specs.declared.word.Word.{Word}
use Rattle.blif_read.specs.declared.word.Word.TheVariants.{Model, Inputs, Outputs, Names, End, Unsupported, Unknown, Row}
use Rattle.blif_read.specs.Words.{Line, further_tokens}
use Rattle.blif_read.specs.Rows.{with_row}
use Rattle.blif_read.specs.Signals.{with_names, signals_of}

-- The design so far, without the current table, which is that of the last `.names` as long as no other dot word came since;
-- and whether a `.model` and an `.end` came.
pub record State : Type 0 where
  pub design : Design
  pub table : Option Table
  pub has_model : Bool
  pub has_end : Bool

-- before the first line: a model named `top`
abbrev pub start : State
start = record {
  design = record { name = codes "top"; names = []; inputs = []; outputs = []; tables = [] };
  table = None;
  has_model = false;
  has_end = false;
}

-- the tables so far, the current one last
abbrev pub tables_so_far : State → List Table
tables_so_far state = state.design.tables ++ option_to_list state.table

-- the design so far, with the current table
abbrev pub design_so_far : State → Design
design_so_far state = record state.design { tables = tables_so_far state }

-- a dot word came, so no table is current
abbrev pub closed : State → State
closed state = record state { design = design_so_far state; table = None }

-- the name that a `.model` line gives
abbrev pub model_name : List (List ℕ) → List ℕ
model_name tokens = slice_index_or tokens 1 (codes "top")

-- a state with another design
abbrev pub with_design : State → Design → State
with_design state design = record state { design = design }

-- the table of a `.names` line of a number: the last of its signals is the target, and those before are the pins
abbrev pub table_of : ℕ → List ℕ → Table
table_of number signals = record {
  line = number;
  pins = take (length signals - 1) signals;
  target = slice_index signals (length signals - 1);
  rows = [];
  on = true;
}

-- `.model`: the name
abbrev pub with_model : Line → State → State
with_model line state = record state { design = record state.design { name = model_name line.tokens }; has_model = true }

-- `.inputs`: each further token is one more input
abbrev pub with_inputs : Line → State → State
with_inputs line state =
    let tokens = further_tokens line.tokens in
    let names = state.design.names in
    with_design state (record state.design { names = with_names tokens names; inputs = state.design.inputs ++ signals_of tokens names })

-- `.outputs`: each further token is one more output
abbrev pub with_outputs : Line → State → State
with_outputs line state =
    let tokens = further_tokens line.tokens in
    let names = state.design.names in
    with_design state (record state.design { names = with_names tokens names; outputs = state.design.outputs ++ signals_of tokens names })

-- `.names`: a table, which is current from here on
abbrev pub with_table : Line → State → State
with_table line state =
    let tokens = further_tokens line.tokens in
    let names = state.design.names in
    record state { design = record state.design { names = with_names tokens names }; table = Some (table_of line.number (signals_of tokens names)) }

-- What a line without a fault adds: each dot word ends the current table; a row is one more of it.
unfoldable pub with_line : Word → Line → State → State
with_line Model line state = with_model line (closed state)
with_line Inputs line state = with_inputs line (closed state)
with_line Outputs line state = with_outputs line (closed state)
with_line Names line state = with_table line (closed state)
with_line End line state = record (closed state) { has_end = true }
with_line Unsupported line state = state
with_line Unknown line state = state
with_line Row line state = record state { table = option_map (with_row line.tokens) state.table }
