use Rattle.std.proofs.Common.{◌++◌, arith, sym, ap, ◌∙◌, append_assoc, append-nil}
use Rattle.gen_blif.proofs.Steps.{fields-first, fields-none}
use Rattle.gen_blif.proofs.lines.push_signals.Goals as goal

pub loop-left-preserved : goal.loop-left-preserved
loop-left-preserved c =
    let step = fields-first c.args.letter c.loop-left.number c.loop-left.left (omega arith) in
    record {
      text = rw (c.in_ok-push_signal.ensures, append_assoc, ← step) c.loop-left.invariant.text;
      range = omega arith;
    }

pub returns : goal.returns
returns c =
    let end = fields-none c.args.letter c.loop-left.number c.loop-left.left (omega arith) in
    sym (append-nil c.loop-left.out.items) ∙ ap (λ names. c.loop-left.out.items ++ names) (sym end) ∙ c.loop-left.invariant.text
