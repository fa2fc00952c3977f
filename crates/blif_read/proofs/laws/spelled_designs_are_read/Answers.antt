use Rattle.blif_read.proofs.SpelledDesigns as spelled
use Rattle.blif_read.proofs.laws.spelled_designs_are_read.Goals as goal

pub returns : goal.returns
returns c = spelled.spelled_designs_are_read
