use Rattle.std.proofs.Common.{◌-◌, ◌∷◌, length, take, drop, arith, sym, ap, ◌∙◌}
use Rattle.blif_lex.specs.LogicalLines.{joined}
use Rattle.blif_lex.proofs.Joining.{drop-all, all_from-start, all_from-end, turn-joined, turn-alone}
use Rattle.blif_lex.proofs.lines.line_at.Goals as goal

pub loop-at-init : goal.loop-at-init
loop-at-init c = record {
  whole = rw c.new.ensures (all_from-start c.args.place.number c.args.place.at c.args.text.now c.requires.some);
  within = omega arith;
  number = omega arith;
  behind = omega arith;
}

pub returns-then-not-is_joined-clause-line : goal.returns-then-not-is_joined-clause-line
returns-then-not-is_joined-clause-line c =
    let known = c.in_ok-is_joined.ensures in
    let alone = sym known.joined ∙ c.if-not-is_joined.true in
    sym c.loop-at.invariant.whole
    ∙ sym (turn-alone c.loop-at.number c.loop-at.at c.args.text.now c.loop-at-test.true (take (length c.args.text.now - c.loop-at.at) (drop c.loop-at.at c.args.text.now)) (drop-all c.loop-at.at c.args.text.now) c.line_len-len.result c.line_len-len.ensures.count c.min-at.result c.min-at.ensures c.loop-at.line c.add_line.new.line known.line alone)

pub loop-at-preserved : goal.loop-at-preserved
loop-at-preserved c =
    let known = c.in_ok-is_joined.ensures in
    let is_one = sym known.joined ∙ c.if-not-is_joined.false in
    record {
      whole =
          turn-joined c.loop-at.number c.loop-at.at c.args.text.now c.loop-at-test.true (take (length c.args.text.now - c.loop-at.at) (drop c.loop-at.at c.args.text.now)) (drop-all c.loop-at.at c.args.text.now) c.line_len-len.result c.line_len-len.ensures.count c.min-at.result c.min-at.ensures c.loop-at.line c.add_line.new.line known.line is_one
          ∙ c.loop-at.invariant.whole;
      within = omega arith;
      number = omega arith;
      behind = omega arith;
    }

pub returns-clause-line : goal.returns-clause-line
returns-clause-line c =
    let end = all_from-end c.loop-at.number c.loop-at.at c.args.text.now (omega arith) in
    sym c.loop-at.invariant.whole ∙ ap (joined c.loop-at.line) end ∙ ap (λ lines. c.loop-at.line ∷ lines) (sym end)
