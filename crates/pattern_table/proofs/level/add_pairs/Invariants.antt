use Rattle.pattern_table.specs.Steps.{pair_heads}
use Rattle.pattern_table.proofs.Noting.{Walks}
use Rattle.pattern_table.proofs.level.add_pairs.Given as goal

abbrev pub invariant-loop-i : goal.invariant-loop-i
invariant-loop-i l = Walks (pair_heads l.cell) l.parts l.i l.initial.level l.level
