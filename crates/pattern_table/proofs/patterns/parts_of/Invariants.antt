use Rattle.std.proofs.Common.{◌≡◌}
use Rattle.std.specs.List.{filter_map, range_with_len}
use Rattle.pattern_table.specs.Steps.{part_in}
use Rattle.pattern_table.proofs.patterns.parts_of.Given as goal

abbrev pub invariant-loop-table : goal.invariant-loop-table
invariant-loop-table l = l.parts.items ≡ filter_map (part_in l.level) (range_with_len 0 l.table)
