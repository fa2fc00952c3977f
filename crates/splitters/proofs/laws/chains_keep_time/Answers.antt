use Rattle.splitters.proofs.valid.Timing.{chains_keep_time}
use Rattle.splitters.proofs.laws.chains_keep_time.Goals as goal

pub returns : goal.returns
returns c = chains_keep_time
