use Rattle.std.proofs.Common.{◌≡◌, ◌+◌, ◌∙◌, suc, ap, arith}
use Rattle.stage_flow.specs.Given.{at_vertex}
use Rattle.stage_flow.specs.LawsOfEpochs.{rise_to}
use Rattle.stage_flow.proofs.SolvingEpochs.{rises-push}
use Rattle.stage_flow.proofs.epochs.epochs_from.Goals as goal

pub loop-gate-preserved : goal.loop-gate-preserved
loop-gate-preserved c =
    let gate = c.loop-gate.gate in
    let next : gate + 1 ≡ suc gate = omega arith in
    rises-push (rise_to (at_vertex c.args.far.now)) c.loop-gate.gates.items c.push.new.self.items gate c.epoch.result c.loop-gate.invariant
    (c.epoch.ensures ∙ ap (rise_to (at_vertex c.args.far.now)) next) c.in_ok-push.ensures.items
