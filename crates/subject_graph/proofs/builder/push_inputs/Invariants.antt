use Rattle.std.proofs.Common.{◌≡◌}
use Rattle.subject_graph.specs.Nodes.{input_graph}
use Rattle.subject_graph.proofs.builder.push_inputs.Given as goal

abbrev pub invariant-loop-number : goal.invariant-loop-number
invariant-loop-number l = l.nodes ≡ (input_graph l.number).nodes
