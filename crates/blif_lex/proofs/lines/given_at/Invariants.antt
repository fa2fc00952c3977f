use Rattle.std.proofs.Common.{◌≡◌, ◌≤◌, ◌+◌, ◌-◌, length}
use Rattle.blif_lex.specs.LogicalLines.{lines_from}
use Rattle.blif_lex.proofs.lines.given_at.Given as goal

-- the lines so far are skipped, so the lines from here on are those from the place of the call on
abbrev pub invariant-loop-next : goal.invariant-loop-next
invariant-loop-next l = record {
  whole : lines_from l.next.number l.next.at l.text ≡ lines_from l.fn.place.number l.fn.place.at l.text;
  within : l.next.at ≤ length l.text;
  number : l.next.number ≤ l.next.at + 1;
}

abbrev pub decreases-loop-next : goal.decreases-loop-next
decreases-loop-next l = length l.text - l.next.at
