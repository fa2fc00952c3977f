use Rattle.std.proofs.Common.{◌≡◌, ℕ, List, codes}
use Rattle.pulse_net.specs.Dros.{dros as dros_of}
use Rattle.rsfq_main.specs.Check.{HasFewest}
use Rattle.rsfq_main.specs.Summary.{count_line}
use Rattle.rsfq_main.proofs.Certificates.{objection-answers}
use Rattle.rsfq_main.proofs.check.examined_line.Goals as goal

pub returns-in-Err-Objects : goal.returns-in-Err-Objects
returns-in-Err-Objects c =
    let net = c.args.net.now in
    objection-answers net c.args.flow.now (λ (bytes : List ℕ). HasFewest net × (bytes ≡ count_line (codes "fewest") (dros_of net.elements))) c.in-Err-Objects.objection c.denied.result (rw c.in-Err-Objects.field-0-is at c.in-Err-Objects.ensures.examined) c.denied.ensures
