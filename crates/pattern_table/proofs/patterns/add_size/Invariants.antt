use Rattle.std.proofs.Common.{◌≡◌, ◌+◌, ◌-◌, ◌*◌}
use Rattle.pattern_table.specs.Least.{parts_at}
use Rattle.pattern_table.specs.Levels.{AreLevels}
use Rattle.pattern_table.proofs.patterns.add_size.Given as goal

abbrev pub invariant-loop-depth : goal.invariant-loop-depth
invariant-loop-depth l = record {
  parts : l.parts.items ≡ parts_at l.size l.depth;
  levels : AreLevels ((l.size - 1) * 4 + l.depth) l.levels.items;
}
