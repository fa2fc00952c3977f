-- The laws of order and value.
use Rattle.std.specs.Prelude.{◌≡◌, ◌<◌, ◌+◌, ◌↔◌, ◌⊎◌, ℕ, Bool, false, IsTrue, nat_eq, List, ◌∷◌, ◌++◌, length, map, All, Contains, slice_get, slice_index, slice_index_or, Some, Ok}
use Rattle.std.specs.List.{IsDistinct}
use Rattle.blif_model.specs.declared.design.Table.{Table}
use Rattle.blif_model.specs.declared.design.Design.{Design}
use Rattle.blif_model.specs.declared.design.Ordered.{Ordered}
use Rattle.blif_model.specs.Regular.{IsRegular}
use Rattle.blif_model.specs.Values.{Values, table_value, tables_at, signal_value}
use Rattle.blif_model.specs.Order.{targets_of, driven_signals, IsOnCycle, is_on_cycle, largest, level_of, levels_of, table_order}

-- The test for tables on a cycle finds each, however long the walk is that leads from it to itself.
abbrev pub CyclesAreFound : Type 0
CyclesAreFound = (tables : List Table) (table : Table) → IsTrue (is_on_cycle tables table) ↔ IsOnCycle tables table

-- Where a design has an order, the level of a table is 1 more than the largest level of its pins, and an input has level 0.
abbrev pub LevelsFollowDrivers : Type 0
LevelsFollowDrivers =
    (design : Design) (order : List ℕ) → table_order design ≡ Ok order
    → All (λ table. level_of design.tables table.target ≡ 1 + largest (map (level_of design.tables) table.pins)) design.tables
    × All (λ input. level_of design.tables input ≡ 0) design.inputs

-- An order lists the place of each table once.
abbrev pub OrderListsTables : Type 0
OrderListsTables =
    (design : Design) (order : List ℕ) → table_order design ≡ Ok order
    → IsDistinct nat_eq order × ((place : ℕ) → Contains order place ↔ place < length design.tables)

-- a place comes before another: the level of its table is lower, or it is the same and the place itself is
abbrev pub ComesBefore : List Table → ℕ → ℕ → Type 0
ComesBefore tables place other =
    (slice_index (levels_of tables) place < slice_index (levels_of tables) other)
    ⊎ ((slice_index (levels_of tables) place ≡ slice_index (levels_of tables) other) × (place < other))

-- An order is by level, and within a level by place: a place comes before each that stands after it.
abbrev pub OrderIsByLevel : Type 0
OrderIsByLevel =
    (design : Design) (before after : List ℕ) (place other : ℕ) → table_order design ≡ Ok (before ++ place ∷ after) → Contains after other
    → ComesBefore design.tables place other

-- An order lists each table behind the tables that drive its pins: each pin is an input, or the target of a table before.
abbrev pub OrderFollowsDrivers : Type 0
OrderFollowsDrivers =
    (design : Design) (before after : List ℕ) (place : ℕ) (table : Table) (pin : ℕ) → table_order design ≡ Ok (before ++ place ∷ after)
    → slice_get design.tables place ≡ Some table → Contains table.pins pin
    → Contains (design.inputs ++ targets_of (tables_at design.tables before)) pin

-- In order, the target of each table has the table's value over the values of its pins.
abbrev pub ValuesFollowTables : Type 0
ValuesFollowTables =
    (ordered : Ordered) (bits : List Bool) (table : Table) → table_order ordered.design ≡ Ok ordered.order → Contains ordered.design.tables table
    → signal_value ordered bits table.target ≡ table_value table (map (signal_value ordered bits) table.pins)

-- In order, the inputs of a regular design have the bits of the row, in order.
abbrev pub InputsHaveBits : Type 0
InputsHaveBits =
    (ordered : Ordered) (bits : List Bool) (place input : ℕ) → IsRegular ordered.design → table_order ordered.design ≡ Ok ordered.order
    → slice_get ordered.design.inputs place ≡ Some input
    → signal_value ordered bits input ≡ slice_index_or bits place false

-- No other values do this: values that agree on the inputs and follow the tables agree on every signal that is driven. So
-- the values don't hang on the order.
abbrev pub ValuesAreDetermined : Type 0
ValuesAreDetermined =
    (ordered : Ordered) (bits : List Bool) (values : Values) → table_order ordered.design ≡ Ok ordered.order
    → ((input : ℕ) → Contains ordered.design.inputs input → values input ≡ signal_value ordered bits input)
    → ((table : Table) → Contains ordered.design.tables table → values table.target ≡ table_value table (map values table.pins))
    → (signal : ℕ) → Contains (driven_signals ordered.design) signal → values signal ≡ signal_value ordered bits signal
