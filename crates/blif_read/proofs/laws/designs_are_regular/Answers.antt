use Rattle.blif_read.proofs.SoundStates as sound
use Rattle.blif_read.proofs.laws.designs_are_regular.Goals as goal

pub returns : goal.returns
returns c = sound.designs_are_regular
