use Rattle.rsfq_main.proofs.Passing.{netlists_pass_check}
use Rattle.rsfq_main.proofs.laws.netlists_pass_check.Goals as goal

pub returns : goal.returns
returns c = netlists_pass_check
