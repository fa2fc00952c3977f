use Rattle.std.proofs.Common.{◌≡◌, ◌≤◌, ◌+◌, ◌-◌, vec_len}
use Rattle.io_edge.specs.ReadAll.{whole_text}
use Rattle.io_edge.proofs.reading.read_all.Given as goal

abbrev pub invariant-loop-piece : goal.invariant-loop-piece
invariant-loop-piece g l = record {
  not_over : vec_len l.all ≤ l.limit + 1;
  whole : whole_text l.all.items (g.S.Source.left l.src) ≡ g.S.Source.left l.initial.src;
  faults : g.S.Source.faults l.initial.src ≤ g.S.Source.faults l.src;
}

abbrev pub decreases-loop-piece : goal.decreases-loop-piece
decreases-loop-piece g l = l.limit + 1 - vec_len l.all
