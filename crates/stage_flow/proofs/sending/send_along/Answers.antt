use Rattle.std.proofs.Common.{pos, false}
use Rattle.stage_flow.proofs.SendingUnits.{room-here}
use Rattle.stage_flow.proofs.sending.send_along.Goals as goal

pub with_unit-requires : goal.with_unit-requires
with_unit-requires c =
    room-here c.args.path.now c.loop-step.step-index (record { tail = 0; head = 0; length = pos 0; number = 0; takes = false }) c.loop-step.units (record { forward = 0; back = 0 }) c.loop-step-test.true c.loop-step.invariant.0
