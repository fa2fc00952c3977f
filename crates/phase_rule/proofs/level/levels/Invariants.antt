use Rattle.std.proofs.Common.{◌≡◌, ◌≤◌, [], drop, All}
use Rattle.net_base.specs.PerItem.{per_item}
use Rattle.phase_rule.specs.Levels.{level_of}
use Rattle.phase_rule.proofs.level.levels.Given as goal

abbrev pub invariant-loop-row : goal.invariant-loop-row
invariant-loop-row l = (per_item level_of l.levels.items (drop l.row-index l.row-items) ≡ per_item level_of [] l.row-items) × All (λ level. level ≤ l.row-index) l.levels.items
