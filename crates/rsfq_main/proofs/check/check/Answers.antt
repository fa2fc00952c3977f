use Rattle.rsfq_main.specs.Check.{IsCertified}
use Rattle.rsfq_main.proofs.Certificates.{text-answers}
use Rattle.rsfq_main.proofs.check.check.Goals as goal

pub returns-in-Err-Text : goal.returns-in-Err-Text
returns-in-Err-Text c =
    text-answers c.args.text.now (IsCertified c.args.text.now) c.in-Err-Text.fault c.no_netlist.result (rw c.in-Err-Text.field-0-is at c.in-Err-Text.ensures.answer) c.no_netlist.ensures
