-- What the code holds while it reads: the state of the definition, and the lines that it hands to its steps.
use Rattle.std.specs.Prelude.{◌≡◌, ◌<◌, ◌≤◌, ◌+◌, ◌*◌, false, length, All}
use Rattle.blif_model.specs.declared.design.TheConstants.{MAX_INPUTS, MAX_OUTPUTS, MAX_TABLES, MAX_PINS}
use Rattle.blif_model.specs.Regular.{AreListed, IsTable}
use Rattle.blif_read.specs.declared.reader.Reader.{Reader}
use Rattle.blif_read.specs.Words.{Line}
use Rattle.blif_read.specs.State.{State, tables_so_far}

-- the state that a reader stands for
abbrev pub state_of : Reader → State
state_of reader = record {
  design = record { name = reader.name; names = reader.names; inputs = reader.inputs.keys; outputs = reader.outputs.keys; tables = reader.tables };
  table = reader.table;
  has_model = reader.has_model;
  has_end = reader.has_end;
}

-- A state from which a regular design comes. Each name is that of an input, of an output, or of one of the 257 signals of a
-- table at most; so there are far fewer than 2^31.
pub record IsSound (state : State) : Type 0 where
  pub inputs : AreListed (length state.design.names) MAX_INPUTS state.design.inputs
  pub outputs : AreListed (length state.design.names) MAX_OUTPUTS state.design.outputs
  pub tables : All (IsTable (length state.design.names)) (tables_so_far state)
  pub few_tables : length (tables_so_far state) ≤ MAX_TABLES
  pub few_names : length state.design.names ≤ length state.design.inputs + length state.design.outputs + (MAX_PINS + 1) * length (tables_so_far state)

-- a line that isn't bad, in such a state
pub record IsReady (line : Line) (state : State) : Type 0 where
  pub good : line.bad ≡ false
  pub some : 0 < length line.tokens
  pub sound : IsSound state
