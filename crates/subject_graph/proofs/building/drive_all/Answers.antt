use Rattle.std.proofs.Common.{◌<◌, length, get_or}
use Rattle.std.proofs.lemmas.List.{get_or_default}
use Rattle.std.proofs.lemmas.Result.{err_from_is_err_and}
use Rattle.subject_graph.proofs.Loops.{tables-refused, tables-next}
use Rattle.subject_graph.proofs.building.drive_all.Goals as goal

pub returns-in_err-drive-clause-made : goal.returns-in_err-drive-clause-made
returns-in_err-drive-clause-made c =
    let p = err_from_is_err_and c.from_residual.result c.from_residual.ensures.1 in
    let place = c.loop-place.place-index in
    let order = c.args.order.now in
    let within : place < length order = c.loop-place-test.true in
    rw (p.1, p.2) (tables-refused c.args.builder.now c.args.refs.now c.args.tables.now order c.loop-place.builder c.loop-place.refs place (get_or order place 0) c.index-tables-place.result c.loop-place.invariant within
    (get_or_default order place 0 (get_or order place 0) within) (c.requires.order place 0 within) c.index-tables-place.is c.in_err-drive.field-0.0 c.in_err-drive.ensures.made)

pub loop-place-preserved : goal.loop-place-preserved
loop-place-preserved c =
    let place = c.loop-place.place-index in
    let order = c.args.order.now in
    let within : place < length order = c.loop-place-test.true in
    tables-next c.args.builder.now c.args.refs.now c.args.tables.now order c.loop-place.builder c.loop-place.refs place (get_or order place 0) c.index-tables-place.result c.loop-place.invariant within
    (get_or_default order place 0 (get_or order place 0) within) (c.requires.order place 0 within) c.index-tables-place.is c.drive.new.builder c.drive.new.refs c.in_ok-drive.ensures.made c.in_ok-drive.ensures.there
