use Rattle.std.proofs.Common.{◌≡◌, ◌++◌, ◌+◌}
use Rattle.gen_blif.specs.Lines.{fields}
use Rattle.gen_blif.proofs.lines.push_signals.Given as goal

-- the line so far and the names that are left are the whole
abbrev pub invariant-loop-left : goal.invariant-loop-left
invariant-loop-left l = record {
  text : l.out.items ++ fields l.letter l.number l.left ≡ l.initial.out.items ++ fields l.letter l.first l.count;
  range : l.number + l.left ≡ l.first + l.count;
}

abbrev pub decreases-loop-left : goal.decreases-loop-left
decreases-loop-left l = l.left
