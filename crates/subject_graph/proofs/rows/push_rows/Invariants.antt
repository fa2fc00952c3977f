use Rattle.subject_graph.proofs.Loops.{RowsLeft}
use Rattle.subject_graph.proofs.rows.push_rows.Given as goal

-- what is made so far, then the rows that remain, is the whole
abbrev pub invariant-loop-row : goal.invariant-loop-row
invariant-loop-row l = RowsLeft l.initial.builder l.initial.signals l.pins l.rows l.builder l.signals l.row-index
