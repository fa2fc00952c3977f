use Rattle.subject_graph.proofs.Formed.{graph_keeps_values}
use Rattle.subject_graph.proofs.laws.graph_keeps_values.Goals as goal

pub returns : goal.returns
returns c = graph_keeps_values
