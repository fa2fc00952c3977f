-- The values of the wires over one row of inputs, without clocks or ticks.
use Rattle.std.specs.Prelude.{ℕ, Bool, true, false, List, slice_index_or}
use Rattle.cell_lib.specs.declared.cell.Cell.{Cell}
use Rattle.cell_lib.specs.Cell.{cell_value}
use Rattle.pulse_net.specs.declared.net.Outlet.{Outlet}
use Rattle.pulse_net.specs.declared.net.Outlet.TheVariants.{Zero, One, Wire}
use Rattle.pulse_net.specs.declared.net.PulseNet.{PulseNet}
use Rattle.pulse_net.specs.Wires.{Wires, carried, wires_of}
use Rattle.pulse_net.specs.Formed.{outlet_at}

-- an input's bit in the row, and a cell's value over its pins at whatever stage
abbrev pub input_value : List Bool → ℕ → Bool
input_value row input = slice_index_or row input false

abbrev pub stageless_value : Cell → ℕ → List Bool → Bool
stageless_value cell stage pins = cell_value cell pins

-- the value of each wire: an input's bit, a cell's value over its pins, its source's through a splitter
abbrev pub row_values : PulseNet → List Bool → Wires Bool
row_values net row = wires_of false (input_value row) stageless_value net

-- the value of a wire
abbrev pub row_value : PulseNet → List Bool → ℕ → Bool
row_value net row wire = carried false (row_values net row) wire

-- the value of an output
abbrev pub outlet_value : Wires Bool → Outlet → Bool
outlet_value values Zero = false
outlet_value values One = true
outlet_value values (Wire wire) = carried false values wire

-- the value of the output at a place
abbrev pub output_value : PulseNet → ℕ → List Bool → Bool
output_value net output row = outlet_value (row_values net row) (outlet_at net output)
