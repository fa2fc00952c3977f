use Rattle.subject_graph.proofs.Loops.{TablesLeft}
use Rattle.subject_graph.proofs.building.drive_all.Given as goal

-- what is drawn so far, then the tables that remain, is the whole
abbrev pub invariant-loop-place : goal.invariant-loop-place
invariant-loop-place l = TablesLeft l.initial.builder l.initial.refs l.tables l.order l.builder l.refs l.place-index
