use Rattle.std.proofs.Common.{◌∙◌, length, sym, subst, arith}
use Rattle.stage_flow.specs.Search.{SayWhoReceived}
use Rattle.stage_flow.proofs.SearchTests.{wanting-by}
use Rattle.stage_flow.proofs.ProgressNetworks.{upward}
use Rattle.stage_flow.proofs.mirrors.wanting_of.Goals as goal

pub returns-clause-wants : goal.returns-clause-wants
returns-clause-wants c = λ vertex low.
    let net = c.args.net.now in
    let flow = c.args.flow.now in
    c.loop-vertex.invariant vertex (omega (arith, low, c.loop-vertex-test.false, c.vertices-vertex-end.ensures.value))
    ∙ wanting-by net flow c.as_slice-received.result.now (upward net c.requires.net) c.requires.flow.each
    (subst (SayWhoReceived net flow (length net.pins)) (sym c.as_slice-received.ensures.value) c.in_ok-received.ensures) vertex low
