use Rattle.std.proofs.Common.{◌*◌, ◌∙◌, replicate, arith}
use Rattle.std.proofs.lemmas.List.{length-take-le}
use Rattle.cut_lists.proofs.RowWords.{row_with-copied}
use Rattle.cut_lists.proofs.rows.clean.Goals as goal

pub returns-clause-row : goal.returns-clause-row
returns-clause-row c =
    row_with-copied c.args.row.now.len c.args.row.now.words c.copy_from_slice.new.self c.requires
    (c.copy_from_slice.ensures.len ∙ length-take-le (2 * c.args.row.now.len) (replicate 16 0) (omega arith)) c.copy_from_slice.ensures.after
