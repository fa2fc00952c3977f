use Rattle.std.proofs.Common.{map, string_bytes, sym, subst}
use Rattle.rsfq_main.specs.declared.status.Status.{Status}
use Rattle.rsfq_main.specs.Words.{command_of}
use Rattle.rsfq_main.specs.Faults.{fault_line}
use Rattle.rsfq_main.specs.Run.{IsNoteOf}
use Rattle.rsfq_main.proofs.Noted.{outcome-noted}
use Rattle.rsfq_main.proofs.run.run.Goals as goal

pub returns-in-Err-clause-noted : goal.returns-in-Err-clause-noted
returns-in-Err-clause-noted g c = λ ended.
    let command = command_of (map string_bytes c.args.words.now) in
    let left = g.S.Source.left c.args.source.now in
    let line = fault_line c.in-Err.fault in
    (line, subst (λ (s : Status). IsNoteOf s command left line) (sym c.tell.ensures.status) (outcome-noted command left c.in-Err.fault c.in-Err.ensures.outcome), c.tell.ensures.told)
