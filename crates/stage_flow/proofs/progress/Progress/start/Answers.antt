use Rattle.std.proofs.Common.{sym, subst}
use Rattle.flow_net.specs.declared.net.Flow.{Flow}
use Rattle.stage_flow.specs.Given.{ArePotentials}
use Rattle.stage_flow.proofs.ProgressPotentials.{first-potentials}
use Rattle.stage_flow.proofs.progress.Progress.start.Goals as goal

pub returns-clause-potentials : goal.returns-clause-potentials
returns-clause-potentials c =
    let net = c.args.net.now in
    subst (λ (flow : Flow). ArePotentials net flow c.in_ok-potentials.potentials) (sym c.in_ok-flow.ensures)
    (first-potentials net c.in_ok-potentials.potentials c.requires c.in_ok-potentials.ensures.each c.in_ok-potentials.ensures.own)
