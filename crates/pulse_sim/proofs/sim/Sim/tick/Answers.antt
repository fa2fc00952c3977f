use Rattle.std.proofs.Common.{◌∙◌}
use Rattle.pulse_sim.proofs.TickStands.{outputs-shown, stands-next}
use Rattle.pulse_sim.proofs.sim.Sim.tick.Goals as goal

pub returns-clause-outputs : goal.returns-clause-outputs
returns-clause-outputs c net pulses valid stands =
    c.advance.ensures.outputs ∙ outputs-shown net pulses c.args.inputs.now valid.formed.some_phases _ stands ((c.unbroken_is_wired.ensures net).0 valid.unbroken) valid.formed.pins

pub returns-clause-stands : goal.returns-clause-stands
returns-clause-stands c net pulses valid stands =
    rw c.advance.ensures.state (stands-next net pulses c.args.inputs.now valid.formed.some_phases _ stands ((c.unbroken_is_wired.ensures net).0 valid.unbroken) valid.formed.pins)
