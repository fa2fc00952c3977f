use Rattle.synth.proofs.Causes.{refusals_have_causes}
use Rattle.synth.proofs.laws.refusals_have_causes.Goals as goal

pub returns : goal.returns
returns c = refusals_have_causes
