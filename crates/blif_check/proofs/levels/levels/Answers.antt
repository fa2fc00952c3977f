use Rattle.std.proofs.Common.{subst, rules}
use Rattle.blif_check.specs.Levels.{AreLevels}
use Rattle.blif_check.proofs.LevelsFound.{levels-found}
use Rattle.blif_check.proofs.levels.levels.Goals as goal

pub returns-then-are_levels : goal.returns-then-are_levels
returns-then-are_levels c =
    subst (λ levels. AreLevels levels c.args.tables.now) c.as_slice.ensures.value
    (levels-found c.args.tables.now c.as_slice.result.now c.requires.no_cycle (c.are_levels.ensures (search rules)))
