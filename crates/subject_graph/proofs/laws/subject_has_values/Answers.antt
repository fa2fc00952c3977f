use Rattle.subject_graph.proofs.Drawing.{subject_has_values}
use Rattle.subject_graph.proofs.laws.subject_has_values.Goals as goal

pub returns : goal.returns
returns c = subject_has_values
