use Rattle.std.proofs.Common.{◌-◌, ◌*◌}
use Rattle.pattern_table.specs.Levels.{AreLevels}
use Rattle.pattern_table.proofs.patterns.Patterns.new.Given as goal

abbrev pub invariant-loop-size : goal.invariant-loop-size
invariant-loop-size l = AreLevels ((l.size - 1) * 4) l.levels.items
