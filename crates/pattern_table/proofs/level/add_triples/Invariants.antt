use Rattle.pattern_table.specs.Steps.{triple_heads}
use Rattle.pattern_table.proofs.Noting.{Walks}
use Rattle.pattern_table.proofs.level.add_triples.Given as goal

abbrev pub invariant-loop-i : goal.invariant-loop-i
invariant-loop-i l = Walks (triple_heads) l.parts l.i l.initial.level l.level
