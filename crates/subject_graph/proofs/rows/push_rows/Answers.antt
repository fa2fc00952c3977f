use Rattle.std.proofs.lemmas.Result.{err_from_is_err_and}
use Rattle.subject_graph.proofs.Loops.{rows-refused}
use Rattle.subject_graph.proofs.rows.push_rows.Goals as goal

pub returns-in_err-signal-clause-made : goal.returns-in_err-signal-clause-made
returns-in_err-signal-clause-made c =
    let p = err_from_is_err_and c.from_residual.result c.from_residual.ensures.1 in
    rw (p.1, p.2) (rows-refused c.args.builder.now c.args.signals.now c.args.pins.now c.args.rows.now c.loop-row.builder c.loop-row.signals c.loop-row.row-index c.row-item.result c.in_err-signal.field-0.0 c.loop-row.invariant c.loop-row-test.true c.row-item.is c.in_err-signal.ensures.made)
