use Rattle.flow_cert.proofs.Meaning.{a_yes-fewest}
use Rattle.flow_cert.proofs.laws.a_yes_means_fewest.Goals as goal

pub returns : goal.returns
returns c = a_yes-fewest
