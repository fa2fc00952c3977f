use Rattle.std.proofs.Common.{◌≡◌, drop}
use Rattle.std.specs.List.{fold}
use Rattle.pulse_sim.specs.Wakes.{delivered}
use Rattle.pulse_sim.proofs.turn.deliver.Given as goal

-- the deliveries that remain, behind those that are done, do what all do
abbrev pub invariant-loop-delivery : goal.invariant-loop-delivery
invariant-loop-delivery l = fold (delivered l.pulses) l.sites (drop l.delivery-index l.deliveries) ≡ fold (delivered l.pulses) l.fn.sites l.deliveries
