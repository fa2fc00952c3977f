use Rattle.pattern_table.specs.Steps.{pair_heads_of}
use Rattle.pattern_table.proofs.Noting.{Walks}
use Rattle.pattern_table.proofs.level.add_pairs_of.Given as goal

abbrev pub invariant-loop-right : goal.invariant-loop-right
invariant-loop-right l = Walks (pair_heads_of l.cell l.left) l.rights l.right-index l.initial.level l.level
