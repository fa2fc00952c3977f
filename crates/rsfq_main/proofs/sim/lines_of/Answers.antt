use Rattle.std.proofs.Common.{◌≡◌}
use Rattle.pulse_net.specs.Validity.{IsValid}
use Rattle.pulse_sim.specs.Reading.{lines_read}
use Rattle.rsfq_main.proofs.NetlistRefusals.{broken-answers}
use Rattle.rsfq_main.proofs.sim.lines_of.Goals as goal

pub returns-in-Err-Invalid : goal.returns-in-Err-Invalid
returns-in-Err-Invalid c =
    let net = c.args.net.now in
    let rows = c.args.rows.now in
    broken-answers net rows (λ bytes. IsValid net × (bytes ≡ lines_read net rows)) c.in-Err-Invalid.invalid c.broken.result (rw c.in-Err-Invalid.field-0-is at c.in-Err-Invalid.ensures.broken) c.broken.ensures
