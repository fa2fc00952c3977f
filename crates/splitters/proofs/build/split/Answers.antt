use Rattle.splitters.proofs.SplitMeans.{net_with-valid, net_with-unfolds}
use Rattle.splitters.proofs.build.split.Goals as goal

pub returns-clause-valid : goal.returns-clause-valid
returns-clause-valid c =
    let made = c.in_ok-parts.ensures in
    net_with-valid c.args.chained c.args.names c.in_ok-parts.parts.inputs c.in_ok-parts.parts.elements c.in_ok-parts.parts.outputs
    made.inputs made.elements made.outputs c.requires.names

pub returns-clause-unfolds : goal.returns-clause-unfolds
returns-clause-unfolds c =
    let made = c.in_ok-parts.ensures in
    net_with-unfolds c.args.chained c.args.names c.in_ok-parts.parts.inputs c.in_ok-parts.parts.elements c.in_ok-parts.parts.outputs
    made.inputs made.elements made.outputs
