use Rattle.subject_graph.proofs.Links.{IsSought}
use Rattle.subject_graph.proofs.nodes.Nodes.place.Given as goal

abbrev pub invariant-loop-last : goal.invariant-loop-last
invariant-loop-last l = IsSought l.self l.node l.last

abbrev pub decreases-loop-last : goal.decreases-loop-last
decreases-loop-last l = l.last
