use Rattle.std.proofs.Common.{sym, ◌∙◌}
use Rattle.blif_lex.specs.LogicalLines.{lines_from}
use Rattle.blif_lex.proofs.Skipping.{lines_from-given, lines_from-skipped, lines_from-end}
use Rattle.blif_lex.proofs.Spans.{first-AreWithin}
use Rattle.blif_lex.proofs.lines.given_at.Goals as goal

pub returns-then-is_given-clause-line : goal.returns-then-is_given-clause-line
returns-then-is_given-clause-line c =
    let read = c.in_ok-line.ensures.line in
    let given = sym c.is_given.ensures ∙ c.if-is_given.true in
    sym c.loop-next.invariant.whole
    ∙ lines_from-given c.loop-next.next.number c.loop-next.next.at c.in_ok-line.behind.number c.in_ok-line.behind.at c.args.text.now c.in_ok-line.line read given

pub returns-then-is_given-clause-spans : goal.returns-then-is_given-clause-spans
returns-then-is_given-clause-spans c =
    let given = sym c.is_given.ensures ∙ c.if-is_given.true in
    first-AreWithin c.loop-next.next.number c.loop-next.next.at c.args.text.now c.in_ok-line.line (lines_from c.in_ok-line.behind.number c.in_ok-line.behind.at c.args.text.now) c.loop-next.invariant.within
    (lines_from-given c.loop-next.next.number c.loop-next.next.at c.in_ok-line.behind.number c.in_ok-line.behind.at c.args.text.now c.in_ok-line.line c.in_ok-line.ensures.line given)

pub loop-next-preserved : goal.loop-next-preserved
loop-next-preserved c =
    let read = c.in_ok-line.ensures in
    let skipped = sym c.is_given.ensures ∙ c.if-is_given.false in
    record {
      whole =
          sym (lines_from-skipped c.loop-next.next.number c.loop-next.next.at c.in_ok-line.behind.number c.in_ok-line.behind.at c.args.text.now c.in_ok-line.line read.line skipped)
          ∙ c.loop-next.invariant.whole;
      within = read.within;
      number = read.number;
    }

pub returns-clause-end : goal.returns-clause-end
returns-clause-end c = sym c.loop-next.invariant.whole ∙ lines_from-end c.loop-next.next.number c.loop-next.next.at c.args.text.now c.loop-next-test.false
