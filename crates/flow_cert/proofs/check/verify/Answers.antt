use Rattle.std.proofs.Common.{◌∙◌, sym}
use Rattle.flow_cert.proofs.Bounds.{network-bounded}
use Rattle.flow_cert.proofs.Meaning.{network-yes}
use Rattle.flow_cert.proofs.check.verify.Goals as goal

pub cost-requires : goal.cost-requires
cost-requires c = (network-bounded c.args.net.now c.requires.network).few_drivers

pub cause_of-requires-clause-bounded : goal.cause_of-requires-clause-bounded
cause_of-requires-clause-bounded c = network-bounded c.args.net.now c.requires.network

pub returns-in-None-clause-fewest : goal.returns-in-None-clause-fewest
returns-in-None-clause-fewest c =
    let cause = c.in_ok-cause.ensures in
    let none = c.in-None.is in
    network-yes c.args.net.now c.args.epochs.now c.args.flow.now c.in_ok-count.count c.requires.network c.requires.each c.in_ok-count.ensures.value
    (sym none ∙ cause)
