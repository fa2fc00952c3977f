-- What a design means (BLIF 1992): the value of each of its signals over a row of input bits.
use Rattle.std.specs.Prelude.{◌==◌, ℕ, Bool, true, false, not, List, [], ◌∷◌, map, slice_get, if◌then◌else◌}
use Rattle.std.specs.List.{filter_map, list_any}
use Rattle.std.specs.Cmp.Lexicographic.{pointwise}
use Rattle.blif_model.specs.declared.design.Bit.{Bit}
use Rattle.blif_model.specs.declared.design.Bit.TheVariants.{Zero, One, Any}
use Rattle.blif_model.specs.declared.design.Cube.{Cube}
use Rattle.blif_model.specs.declared.design.Table.{Table}
use Rattle.blif_model.specs.declared.design.Ordered.{Ordered}

-- a bit of a row matches the value of its pin: `0` a false one, `1` a true one, and `-` any
abbrev pub bit_matches : Bit → Bool → Bool
bit_matches Zero value = not value
bit_matches One value = value
bit_matches Any value = true

-- a row matches the values of the pins, which are as many as its bits, where each bit matches its own
abbrev pub row_matches : List Bool → Cube → Bool
row_matches values row = pointwise bit_matches row.bits values

-- The value of a table over the values of its pins. One whose rows have output 1 is true exactly where some row matches,
-- and one whose rows have output 0 exactly where none does.
abbrev pub table_value : Table → List Bool → Bool
table_value table values =
    let matched = list_any (row_matches values) table.rows in
    if table.on then matched else not matched

-- the value of each signal, by its number
abbrev pub Values : Type 0
Values = ℕ → Bool

-- the signal gets this value, and every other one keeps its own
abbrev pub with_value : ℕ → Bool → Values → Values
with_value signal value values = λ other. if other == signal then value else values other

-- the inputs have the bits of the row, in order; a signal that has no value yet is false, which no table of an order reads
abbrev pub input_values : List ℕ → List Bool → Values
input_values (input ∷ inputs) (bit ∷ bits) = with_value input bit (input_values inputs bits)
input_values inputs bits = λ _. false

-- the target of a table gets the table's value over the values of its pins
abbrev pub with_target : Table → Values → Values
with_target table values = with_value table.target (table_value table (map values table.pins)) values

-- the targets of tables get theirs, one table after the other
abbrev pub with_targets : List Table → Values → Values
with_targets [] values = values
with_targets (table ∷ tables) values = with_targets tables (with_target table values)

-- the tables at these places
abbrev pub tables_at : List Table → List ℕ → List Table
tables_at tables places = filter_map (slice_get tables) places

-- the value of a signal over a row of input bits
abbrev pub signal_value : Ordered → List Bool → Values
signal_value ordered bits = with_targets (tables_at ordered.design.tables ordered.order) (input_values ordered.design.inputs bits)
