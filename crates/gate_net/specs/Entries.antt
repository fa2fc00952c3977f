-- Entries of gates, found by their drivers: levels, phases, epochs and stages are such lists.
use Rattle.std.specs.Prelude.{ℕ, List, slice_index}
use Rattle.gate_net.specs.declared.row.Driver.{Driver}
use Rattle.gate_net.specs.declared.row.Driver.TheVariants.{Input, Gate}

-- the entry of a driver, where there is one for each gate: 0 of an input
abbrev pub entry_of : List ℕ → Driver → ℕ
entry_of entries (Input i) = 0
entry_of entries (Gate k) = slice_index entries k
