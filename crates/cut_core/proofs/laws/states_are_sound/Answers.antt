use Rattle.cut_core.proofs.Soundness.{states_sound}
use Rattle.cut_core.proofs.laws.states_are_sound.Goals as goal

pub returns : goal.returns
returns c = states_sound
