-- Regular designs: every number is that of a name, nothing is listed twice, rows fit their pins, and the limits are kept.
use Rattle.std.specs.Prelude.{◌≡◌, ◌<◌, ◌≤◌, ℕ, List, length, All, nat_eq}
use Rattle.std.specs.List.{IsDistinct}
use Rattle.blif_model.specs.declared.design.Table.{Table}
use Rattle.blif_model.specs.declared.design.Design.{Design}
use Rattle.blif_model.specs.declared.design.TheConstants.{MAX_INPUTS, MAX_OUTPUTS, MAX_TABLES, MAX_PINS}

-- signals that are listed: each has one of `names` names, none stands twice, and they are not too many
pub record AreListed (names most : ℕ) (signals : List ℕ) : Type 0 where
  pub named : All (λ signal. signal < names) signals
  pub distinct : IsDistinct nat_eq signals
  pub few : length signals ≤ most

-- a table, where there are `names` names: its target and its pins have names, and each of its rows has a bit for each pin
pub record IsTable (names : ℕ) (table : Table) : Type 0 where
  pub target : table.target < names
  pub pins : All (λ pin. pin < names) table.pins
  pub few_pins : length table.pins ≤ MAX_PINS
  pub rows : All (λ row. length row.bits ≡ length table.pins) table.rows

-- a regular design
pub record IsRegular (design : Design) : Type 0 where
  pub inputs : AreListed (length design.names) MAX_INPUTS design.inputs
  pub outputs : AreListed (length design.names) MAX_OUTPUTS design.outputs
  pub tables : All (IsTable (length design.names)) design.tables
  pub few_tables : length design.tables ≤ MAX_TABLES
