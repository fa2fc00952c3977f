-- What is proved of every netlist: the rules and the pulses, each said twice.
use Rattle.std.specs.Prelude.{◌≡◌, ℕ, ◌+◌, ◌*◌, ◌%◌, ◌<◌, ◌≤◌, ◌↔◌, Bool, IsTrue, IsFalse, IsOk, List, [], length, slice_index_or, None, Some, nat_eq}
use Rattle.pulse_net.specs.declared.net.PulseNet.{PulseNet}
use Rattle.pulse_net.specs.Wires.{found, stages_of}
use Rattle.net_base.specs.Keys.{is_among}
use Rattle.pulse_net.specs.Validity.{least_unused, wiring_of, IsValid}
use Rattle.pulse_net.specs.Wired.{IsWired}
use Rattle.pulse_net.specs.Pulses.{Signal, signal_of, spread, value_read}
use Rattle.pulse_net.specs.RowValues.{row_value, output_value}

-- no rule is broken exactly where a netlist is wired
abbrev pub UnbrokenIsWired : Type 0
UnbrokenIsWired = (net : PulseNet) → IsOk (wiring_of net) ↔ IsWired net

-- a wire is the least of those that are made and aren't used
pub record IsLeastUnused (used made : List ℕ) (wire : ℕ) : Type 0 where
  pub is_made : IsTrue (is_among nat_eq wire made)
  pub is_unused : IsFalse (is_among nat_eq wire used)
  pub is_least : (other : ℕ) → IsTrue (is_among nat_eq other made) → IsFalse (is_among nat_eq other used) → wire ≤ other

-- the wire that is named at the close is the least that is made and isn't used
abbrev pub NamesTheLeast : Type 0
NamesTheLeast =
    (used made : List ℕ) (wire : ℕ) → least_unused used None made ≡ Some wire → IsLeastUnused used made wire

-- row c of the input rows
abbrev pub row_of : List (List Bool) → ℕ → List Bool
row_of rows c = slice_index_or rows c []

-- the signal of a wire under one row of inputs per n ticks, for n phases
abbrev pub spread_signal : PulseNet → List (List Bool) → ℕ → Signal
spread_signal net rows wire = signal_of net (spread net.phases rows) wire

-- with n phases, under one row of inputs per n ticks, this wire of stage s pulses only at ticks that are s modulo n, and
-- at tick n * c + s it pulses exactly where its value over row c is true
pub record PulsesAsValued (net : PulseNet) (rows : List (List Bool)) (wire stage : ℕ) : Type 0 where
  pub clocked : (tick : ℕ) → IsTrue (spread_signal net rows wire tick) → tick % net.phases ≡ stage % net.phases
  pub on_time : (c : ℕ) → c < length rows → spread_signal net rows wire (net.phases * c + stage) ≡ row_value net (row_of rows c) wire

-- in a valid netlist the pulses of each wire that is made are its row values
abbrev pub PulsesAreRowValues : Type 0
PulsesAreRowValues =
    (net : PulseNet) (rows : List (List Bool)) (wire stage : ℕ) → IsValid net → found (stages_of net) wire ≡ Some stage → PulsesAsValued net rows wire stage

-- in a valid netlist the value read at an output for row c is the output's value over row c
abbrev pub ReadsAreRowValues : Type 0
ReadsAreRowValues =
    (net : PulseNet) (rows : List (List Bool)) (output c : ℕ) → IsValid net → c < length rows → value_read net rows output c ≡ output_value net output (row_of rows c)
