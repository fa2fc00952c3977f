-- The table of all least formulas.
use Rattle.std.specs.Prelude.{ℕ, ◌≡◌, ◌+◌, ◌-◌, ◌*◌, ◌<◌, ◌≤◌, List, [], length, slice_index_or, Option}
use Rattle.pattern_table.specs.declared.formula.Formula.{Formula}
use Rattle.pattern_table.specs.Least.{least_formula}
use Rattle.pattern_table.specs.Steps.{entry}

-- the place of a level: by size, then by depth
abbrev pub level_place : ℕ → ℕ → ℕ
level_place size depth = (size - 1) * 4 + (depth - 1)

-- a level has the least formula of this size and depth of each table of eight bits
unfoldable pub IsLevelOf : ℕ → ℕ → List (Option Formula) → Type 0
IsLevelOf size depth level = (table : ℕ) → table < 256 → entry level table ≡ least_formula size table depth

-- levels are the first `count` of those of the sizes 1 to 3 and the depths 1 to 4, in order
pub record AreLevels (count : ℕ) (levels : List (List (Option Formula))) : Type 0 where
  pub many : length levels ≡ count
  pub each : (size depth : ℕ) → 1 ≤ size → size ≤ 3 → 1 ≤ depth → depth ≤ 4 → level_place size depth < count
      → IsLevelOf size depth (slice_index_or levels (level_place size depth) [])
