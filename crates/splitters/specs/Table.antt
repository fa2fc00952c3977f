-- The table that `split` gathers before it lays out: the taps of each driver, in a list of inputs and then gates.
use Rattle.std.specs.Prelude.{◌≡◌, ◌<◌, ◌^◌, ◌+◌, ◌-◌, ℕ, List, [], length, slice_index, slice_index_or}
use Rattle.gate_net.specs.declared.row.Driver.{Driver}
use Rattle.gate_net.specs.declared.row.Driver.TheVariants.{Input, Gate}
use Rattle.gate_net.specs.Net.{pin_drivers, IsThere, IsGateNet}
use Rattle.dro_chains.specs.declared.chain.Chained.{Chained}
use Rattle.splitters.specs.Taps.{tap_count, taps_at, StagesFit}

-- the place of a driver in a table of inputs and then gates
abbrev pub slot : ℕ → Driver → ℕ
slot inputs (Input i) = i
slot inputs (Gate k) = inputs + k

-- the pins of a tap, none past the last
abbrev pub tap_at : List (List ℕ) → ℕ → List ℕ
tap_at taps need = slice_index_or taps need []

-- the table has the taps of each driver
abbrev pub HasTaps : ℕ → ℕ → List ℕ → List Driver → List (List (List ℕ)) → Type 0
HasTaps inputs gates needs drivers table = (driver : Driver) → IsThere inputs gates driver → slice_index_or table (slot inputs driver) [] ≡ taps_at needs drivers driver

-- the table has the length of each driver's chain, its largest need
abbrev pub HasLengths : ℕ → ℕ → List ℕ → List Driver → List ℕ → Type 0
HasLengths inputs gates needs drivers lengths = (driver : Driver) → IsThere inputs gates driver → slice_index lengths (slot inputs driver) ≡ tap_count needs driver 0 drivers - 1

-- gates with their chains and the table of their taps, of which the pins and the stages fit
pub record IsTapped (chained : Chained) (table : List (List (List ℕ))) : Type 0 where
  pub formed : IsGateNet chained.gates
  pub few_pins : length (pin_drivers chained.gates) < 2 ^ 31
  pub fits : StagesFit chained
  pub each : length table ≡ chained.gates.inputs + length chained.gates.gates
  pub taps : HasTaps chained.gates.inputs (length chained.gates.gates) chained.needs (pin_drivers chained.gates) table
