use Rattle.pulse_sim.proofs.LaterPulses.{signals_ignore_later_pulses}
use Rattle.pulse_sim.proofs.laws.signals_ignore_later_pulses.Goals as goal

pub returns : goal.returns
returns c = signals_ignore_later_pulses
