use Rattle.std.proofs.Common.{Err, ap, ◌∙◌}
use Rattle.std.proofs.lemmas.Result.{err_from_is_err_and}
use Rattle.blif_read.specs.Reading.{reads_lines}
use Rattle.blif_read.specs.State.{start}
use Rattle.blif_read.specs.Words.{lines_in}
use Rattle.blif_read.proofs.LinesRead.{design_of-stop, Gives-fault}
use Rattle.blif_read.proofs.reading.read.Goals as goal

pub returns-in_err-read_lines-clause-reads : goal.returns-in_err-read_lines-clause-reads
returns-in_err-read_lines-clause-reads c =
    let text = c.args.text.now in
    let exit = err_from_is_err_and c.from_residual-in_err-read_lines.result c.from_residual-in_err-read_lines.ensures.1 in
    Gives-fault _ _ c.in_err-read_lines.field-0.0 (reads_lines (lines_in text) start) _ (exit.1 ∙ ap (λ fault. Err fault) exit.2) c.in_err-read_lines.ensures.lines
    (design_of-stop text)
