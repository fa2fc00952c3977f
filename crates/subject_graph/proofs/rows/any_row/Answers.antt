use Rattle.std.proofs.lemmas.Result.{err_from_is_err_and}
use Rattle.subject_graph.proofs.Growth.{any_row-refused}
use Rattle.subject_graph.proofs.rows.any_row.Goals as goal

pub returns-in_err-push_rows-clause-made : goal.returns-in_err-push_rows-clause-made
returns-in_err-push_rows-clause-made c =
    let p = err_from_is_err_and c.from_residual.result c.from_residual.ensures.1 in
    rw (p.1, p.2) (any_row-refused c.args.builder.now c.args.pins.now c.args.rows.now c.new-signals.result c.in_err-push_rows.field-0.0 c.new-signals.ensures c.in_err-push_rows.ensures.made)
