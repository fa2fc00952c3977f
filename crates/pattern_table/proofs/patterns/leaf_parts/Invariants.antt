use Rattle.std.proofs.Common.{◌≡◌, ℕ, map, take}
use Rattle.pattern_table.specs.Formula.{leaf_tables}
use Rattle.pattern_table.proofs.patterns.leaf_parts.Given as goal

abbrev pub invariant-loop-table : goal.invariant-loop-table
invariant-loop-table l = l.parts.items ≡ map (λ (table : ℕ). record { table = table; cost = 0 }) (take l.table-index (take l.size leaf_tables))
