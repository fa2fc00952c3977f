use Rattle.std.proofs.Common.{◌<◌, sym, subst, arith}
use Rattle.flow_net.specs.declared.net.Net.{Net}
use Rattle.flow_net.specs.declared.net.Flow.{Flow}
use Rattle.stage_flow.specs.LawsOfSending.{IsPartFlow, SomeMirrorWants}
use Rattle.stage_flow.specs.Given.{ArePotentials}
use Rattle.stage_flow.proofs.RoundsSent.{flow-sent, flow-wanted}
use Rattle.stage_flow.proofs.ProgressPotentials.{first-potentials}
use Rattle.stage_flow.proofs.solving.all_rounds.Goals as goal

pub returns-then-net-eq0-clause-potentials : goal.returns-then-net-eq0-clause-potentials
returns-then-net-eq0-clause-potentials c =
    subst (λ (flow : Flow). ArePotentials c.args.net.now flow c.in_ok-potentials.potentials) (sym c.in_ok-flow.ensures)
    (first-potentials c.args.net.now c.in_ok-potentials.potentials c.requires.net c.in_ok-potentials.ensures.each c.in_ok-potentials.ensures.own)

pub find_labels-requires-clause-flow : goal.find_labels-requires-clause-flow
find_labels-requires-clause-flow c =
    let some : 0 < c.args.net.now.drivers = omega (arith, c.if-net-eq0.false) in
    subst (λ (net : Net). IsPartFlow net c.in_ok-flow.flow) (sym c.new-arcs.ensures) (flow-sent c.args.net.now c.requires.net 0 c.in_ok-flow.flow c.in_ok-flow.ensures some).part

pub find_labels-requires-clause-wanted : goal.find_labels-requires-clause-wanted
find_labels-requires-clause-wanted c =
    let some : 0 < c.args.net.now.drivers = omega (arith, c.if-net-eq0.false) in
    subst (λ (net : Net). SomeMirrorWants net c.in_ok-flow.flow) (sym c.new-arcs.ensures) (flow-wanted c.args.net.now c.requires.net 0 c.in_ok-flow.flow c.in_ok-flow.ensures some)

pub find_labels-requires-clause-potentials : goal.find_labels-requires-clause-potentials
find_labels-requires-clause-potentials c =
    subst (λ (net : Net). ArePotentials net c.in_ok-flow.flow c.in_ok-potentials.potentials) (sym c.new-arcs.ensures)
    (subst (λ (flow : Flow). ArePotentials c.args.net.now flow c.in_ok-potentials.potentials) (sym c.in_ok-flow.ensures)
    (first-potentials c.args.net.now c.in_ok-potentials.potentials c.requires.net c.in_ok-potentials.ensures.each c.in_ok-potentials.ensures.own))
