use Rattle.rsfq_main.specs.Sim.{AreLinesFor}
use Rattle.rsfq_main.proofs.NetlistRefusals.{rows-answer}
use Rattle.rsfq_main.proofs.sim.behind.Goals as goal

pub returns-in-Err-Row : goal.returns-in-Err-Row
returns-in-Err-Row c =
    let prefix = c.args.prefix.now in
    let behind = c.args.behind.now in
    rows-answer prefix behind (AreLinesFor prefix.net behind prefix.lines) c.in-Err-Row.fault c.no_rows.result (rw (c.in-Err-Row.field-0-is, c.len-inputs.ensures) at c.in-Err-Row.ensures.rows) c.no_rows.ensures
