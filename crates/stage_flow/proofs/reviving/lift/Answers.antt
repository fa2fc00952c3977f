use Rattle.stage_flow.proofs.RaisedLabels.{reads}
use Rattle.stage_flow.proofs.reviving.lift.Goals as goal

pub revive-requires-clause-read : goal.revive-requires-clause-read
revive-requires-clause-read c =
    reads c.args.arcs.now c.args.flow.now c.in_ok-labels.labels.far c.in_ok-labels.labels.hops c.requires.net c.requires.units c.in_ok-labels.ensures.each.0 c.in_ok-labels.ensures.each.1
