use Rattle.pattern_table.specs.Steps.{single_heads}
use Rattle.pattern_table.proofs.Noting.{Walks}
use Rattle.pattern_table.proofs.level.add_singles.Given as goal

abbrev pub invariant-loop-part : goal.invariant-loop-part
invariant-loop-part l = Walks (single_heads l.cell) l.parts l.part-index l.initial.level l.level
