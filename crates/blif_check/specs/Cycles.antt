-- Ranks of signals, and signals from which a walk leads back to them.
use Rattle.std.specs.Prelude.{◌≡◌, ◌<◌, ◌≤◌, ℕ, true, IsTrue, nat_eq, List, All, find, slice_index, Option}
use Rattle.std.specs.List.{flat_map}
use Rattle.std.specs.Option.{option_map}
use Rattle.net_base.specs.Keys.{is_among}
use Rattle.blif_model.specs.declared.design.Table.{Table}
use Rattle.blif_model.specs.Order.{driver_of, pins_of, leads, is_on_cycle}

-- a walk of some steps leads from a signal to itself
abbrev pub ComesBack : List Table → ℕ → Type 0
ComesBack tables signal = (steps : ℕ) × (0 < steps) × IsTrue (leads tables steps signal signal)

-- no pin of a table has a lower rank than the table
abbrev pub IsAtMost : List ℕ → Table → Type 0
IsAtMost ranks table = All (λ pin. slice_index ranks table.target ≤ slice_index ranks pin) table.pins

-- each pin of a table has a higher rank than the table
abbrev pub IsBelow : List ℕ → Table → Type 0
IsBelow ranks table = All (λ pin. slice_index ranks table.target < slice_index ranks pin) table.pins

-- ranks never fall from a table to a pin
abbrev pub AreRanks : List ℕ → List Table → Type 0
AreRanks ranks tables = All (IsAtMost ranks) tables

-- the line of the first table on a cycle
abbrev pub first_cycle : List Table → Option ℕ
first_cycle tables = option_map (λ table. table.line) (find (is_on_cycle tables) tables)

-- the pins of all tables
abbrev pub all_pins : List Table → List ℕ
all_pins tables = flat_map (λ table. table.pins) tables

-- What is reached from some signals: these, and others to which walks lead from them; and the pins of all of them.
pub record AreReached (tables : List Table) (first reached : List ℕ) : Type 0 where
  pub kept : (signal : ℕ) → is_among nat_eq signal first ≡ true → is_among nat_eq signal reached ≡ true
  pub found : (signal : ℕ) → is_among nat_eq signal reached ≡ true → (from steps : ℕ) × (is_among nat_eq from first ≡ true) × (leads tables steps from signal ≡ true)
  pub closed : (signal pin : ℕ) → is_among nat_eq signal reached ≡ true → is_among nat_eq pin (pins_of (driver_of tables signal)) ≡ true → is_among nat_eq pin reached ≡ true
