use Rattle.std.proofs.lemmas.Result.{err_from_is_err_and}
use Rattle.subject_graph.proofs.Growth.{row-refused}
use Rattle.subject_graph.proofs.rows.row_signal.Goals as goal

pub returns-in_err-push_literals-clause-made : goal.returns-in_err-push_literals-clause-made
returns-in_err-push_literals-clause-made c =
    let p = err_from_is_err_and c.from_residual.result c.from_residual.ensures.1 in
    rw (p.1, p.2) (row-refused c.args.builder.now c.args.pins.now c.args.row.now c.new-literals.result c.as_slice.result.now c.in_err-push_literals.field-0.0 c.new-literals.ensures c.as_slice.ensures c.in_err-push_literals.ensures.made)
