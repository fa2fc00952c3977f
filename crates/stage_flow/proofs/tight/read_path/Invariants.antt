use Rattle.std.proofs.Common.{map}
use Rattle.stage_flow.specs.Given.{at_vertex, count_at}
use Rattle.stage_flow.specs.Sending.{way_of}
use Rattle.stage_flow.proofs.SendingPath.{ReadsBack}
use Rattle.stage_flow.proofs.tight.read_path.Given as goal

abbrev pub invariant-loop-left : goal.invariant-loop-left
invariant-loop-left l = ReadsBack l.arcs l.flow (at_vertex l.labels.far) (count_at l.labels.hops) l.marks l.from (map way_of l.path.items) l.left l.vertex

abbrev pub decreases-loop-left : goal.decreases-loop-left
decreases-loop-left l = l.left
