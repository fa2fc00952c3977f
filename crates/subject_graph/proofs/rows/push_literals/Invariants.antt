use Rattle.subject_graph.proofs.Loops.{LiteralsLeft}
use Rattle.subject_graph.proofs.rows.push_literals.Given as goal

-- what is made so far, then the literals of the bits that remain, is the whole
abbrev pub invariant-loop-place : goal.invariant-loop-place
invariant-loop-place l = LiteralsLeft l.initial.builder l.initial.literals l.bits l.pins l.builder l.literals l.place
