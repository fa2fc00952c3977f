use Rattle.pattern_table.specs.Steps.{triple_heads_of}
use Rattle.pattern_table.proofs.Noting.{Walks}
use Rattle.pattern_table.proofs.level.add_triples_of.Given as goal

abbrev pub invariant-loop-i : goal.invariant-loop-i
invariant-loop-i l = Walks (triple_heads_of l.left) l.parts l.i l.initial.level l.level
