use Rattle.std.proofs.Common.{◌≡◌, map, drop}
use Rattle.stage_flow.specs.Rounds.{sent_along}
use Rattle.stage_flow.specs.Sending.{way_of, HasRoom}
use Rattle.stage_flow.proofs.sending.send_along.Given as goal

abbrev pub invariant-loop-step : goal.invariant-loop-step
invariant-loop-step l =
    HasRoom (map way_of (drop l.step-index l.path)) (record { pins = l.units })
    × (sent_along (map way_of (drop l.step-index l.path)) (record { pins = l.units }) ≡ sent_along (map way_of l.path) (record { pins = l.initial.units }))
