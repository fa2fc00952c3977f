use Rattle.std.proofs.Common.{◌∙◌}
use Rattle.pulse_sim.proofs.RunsAreRight.{step-right}
use Rattle.pulse_sim.proofs.run.step.Goals as goal

pub returns-clause-run : goal.returns-clause-run
returns-clause-run c net rows tick window valid run feeds before =
    let right = step-right net rows c.args.sim.now c.tick.new.self tick window c.args.row.now c.tick.new.outputs c.args.read.now run feeds (λ pulses stands. c.tick.ensures.outputs net pulses valid stands) (λ pulses stands. c.tick.ensures.stands net pulses valid stands) before in
    (right.0, c.add_shown.ensures ∙ right.1)
