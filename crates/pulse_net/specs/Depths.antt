-- How deep a wire is behind its driver, and what that has to do with its stage and with its driver's DROs.
use Rattle.std.specs.Prelude.{◌≡◌, ℕ, ◌+◌, ◌*◌, ◌≤◌, List, Some, if◌then◌else◌, slice_index_or, count_by}
use Rattle.cell_lib.specs.declared.cell.Cell.{Cell}
use Rattle.cell_lib.specs.Cell.{is_dro}
use Rattle.gate_net.specs.declared.row.Driver.{Driver}
use Rattle.gate_net.specs.Rows.{same_driver}
use Rattle.gate_net.specs.Entries.{entry_of}
use Rattle.pulse_net.specs.declared.net.PulseNet.{PulseNet}
use Rattle.pulse_net.specs.Wires.{Wires, found, carried, wires_of, stages_of}
use Rattle.pulse_net.specs.Validity.{IsValid}
use Rattle.pulse_net.specs.Unfolding.{driver_of, unfolding_of}

-- the depth of a wire, which is how many DROs it passed behind its driver: one more behind a DRO, none behind a gate
abbrev pub cell_depth : Cell → ℕ → List ℕ → ℕ
cell_depth cell stage pins = if is_dro cell then slice_index_or pins 0 0 + 1 else 0

abbrev pub input_depth : ℕ → ℕ
input_depth input = 0

abbrev pub depths_of : PulseNet → Wires ℕ
depths_of net = wires_of 0 input_depth cell_depth net

-- In a valid netlist with n phases a wire of depth k stands at its driver's stage or behind it, by n * k ticks at most. The
-- stage of an input is 0.
abbrev pub StagesFollowDepths : Type 0
StagesFollowDepths =
    (net : PulseNet) (wire stage : ℕ) → IsValid net → found (stages_of net) wire ≡ Some stage
    → (entry_of (unfolding_of net).stages (driver_of (unfolding_of net).wires wire) ≤ stage)
    × (stage ≤ entry_of (unfolding_of net).stages (driver_of (unfolding_of net).wires wire) + net.phases * carried 0 (depths_of net) wire)

-- of DROs with these drivers, how many have this one
abbrev pub dros_behind : List Driver → Driver → ℕ
dros_behind dros driver = count_by (same_driver driver) dros

-- In a valid netlist a wire is no deeper than its driver has DROs. A wire that isn't made has depth 0.
abbrev pub DrosFollowDepths : Type 0
DrosFollowDepths =
    (net : PulseNet) (wire : ℕ) → IsValid net
    → carried 0 (depths_of net) wire ≤ dros_behind (unfolding_of net).dros (driver_of (unfolding_of net).wires wire)
