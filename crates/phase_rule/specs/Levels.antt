-- Levels of gates, and phases: a level modulo the number of phases.
use Rattle.std.specs.Prelude.{◌+◌, ◌%◌, ◌<◌, ◌≤◌, ◌≡◌, ℕ, List, [], ◌∷◌, length, All, map, max, slice_index, slice_index_or}
use Rattle.gate_net.specs.declared.row.GateRow.{GateRow}
use Rattle.gate_net.specs.declared.net.GateNet.{GateNet}
use Rattle.gate_net.specs.Net.{IsGateNet}
use Rattle.gate_net.specs.Entries.{entry_of}
use Rattle.net_base.specs.PerItem.{per_item}

-- the largest of some numbers, 0 where there are none
abbrev pub largest : List ℕ → ℕ
largest [] = 0
largest (n ∷ ns) = max n (largest ns)

-- the level of a gate: 1 more than the largest level of its drivers, inputs counting 0
abbrev pub level_of : List ℕ → GateRow → ℕ
level_of levels row = 1 + largest (map (entry_of levels) row.pins)

-- the levels of all gates, in order
abbrev pub levels_of : GateNet → List ℕ
levels_of net = per_item level_of [] net.gates

-- the phases of levels, with n phases; inputs have phase 0
abbrev pub phases_of : ℕ → List ℕ → List ℕ
phases_of n levels = map (λ level. level % n) levels

-- one phase below n for each gate
pub record ArePhases (n : ℕ) (net : GateNet) (phases : List ℕ) : Type 0 where
  pub each : length phases ≡ length net.gates
  pub below : All (λ phase. phase < n) phases

-- In a well-formed netlist a gate's level is 1 more than the largest level of its drivers, among the levels of all gates.
abbrev pub LevelsFollowDrivers : Type 0
LevelsFollowDrivers =
    (net : GateNet) (gate : ℕ) (d : GateRow) → IsGateNet net → gate < length net.gates
    → slice_index (levels_of net) gate ≡ level_of (levels_of net) (slice_index_or net.gates gate d)

-- A gate's level is at most its place plus 1.
abbrev pub LevelsAreFew : Type 0
LevelsAreFew = (net : GateNet) (gate : ℕ) → slice_index (levels_of net) gate ≤ gate + 1
