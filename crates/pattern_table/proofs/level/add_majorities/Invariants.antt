use Rattle.pattern_table.specs.Steps.{majorities}
use Rattle.pattern_table.proofs.Noting.{Walks}
use Rattle.pattern_table.proofs.level.add_majorities.Given as goal

abbrev pub invariant-loop-right : goal.invariant-loop-right
invariant-loop-right l = Walks (majorities l.left l.middle) l.rights l.right-index l.initial.level l.level
