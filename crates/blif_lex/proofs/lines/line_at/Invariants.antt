use Rattle.std.proofs.Common.{◌≡◌, ◌≤◌, ◌+◌, ◌-◌, length}
use Rattle.blif_lex.specs.LogicalLines.{all_from, joined}
use Rattle.blif_lex.proofs.lines.line_at.Given as goal

-- the line so far, to which the lines from here on are joined, is what the lines from its place on are
abbrev pub invariant-loop-at : goal.invariant-loop-at
invariant-loop-at l = record {
  whole : joined l.line (all_from l.number l.at l.text) ≡ all_from l.fn.place.number l.fn.place.at l.text;
  within : l.at ≤ length l.text;
  number : l.number ≤ l.at + 1;
  behind : l.fn.place.at ≤ l.at;
}

abbrev pub decreases-loop-at : goal.decreases-loop-at
decreases-loop-at l = length l.text - l.at
