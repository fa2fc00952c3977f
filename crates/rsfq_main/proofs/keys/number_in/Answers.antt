use Rattle.std.proofs.Common.{◌∙◌, sym, inl, inr}
use Rattle.std.proofs.lemmas.Bool.{le-leb, lt-leb}
use Rattle.rsfq_main.proofs.KeyWords.{number_in-spelled, number_in-none}
use Rattle.rsfq_main.proofs.keys.number_in.Goals as goal

pub returns-in_err-n-clause-value : goal.returns-in_err-n-clause-value
returns-in_err-n-clause-value c =
    c.from_residual.ensures ∙ sym (number_in-none c.args.least c.args.most c.args.digits.now c.ranges.most.fits c.in_err-n.ensures.none)

pub returns-then-n-most-clause-value : goal.returns-then-n-most-clause-value
returns-then-n-most-clause-value c =
    let spelled = c.in_ok-n.ensures.spelled in
    let read = number_in-spelled c.args.least c.args.most c.args.digits.now c.in_ok-n.n spelled.0 spelled.1 in
    sym (rw (le-leb c.args.least c.in_ok-n.n c.if-least-n.true, le-leb c.in_ok-n.n c.args.most c.if-n-most.true) at read)

pub returns-else-least-n-clause-value : goal.returns-else-least-n-clause-value
returns-else-least-n-clause-value c =
    let spelled = c.in_ok-n.ensures.spelled in
    let read = number_in-spelled c.args.least c.args.most c.args.digits.now c.in_ok-n.n spelled.0 spelled.1 in
    elim c.else-least-n.either [
      | inl high ↦ sym (rw (le-leb c.args.least c.in_ok-n.n high.0, lt-leb c.in_ok-n.n c.args.most high.1) at read)
      | inr low ↦ sym (rw (lt-leb c.args.least c.in_ok-n.n low) at read)
    ]
