use Rattle.std.proofs.Common.{◌≡◌, ◌≤◌, length, drop}
use Rattle.subject_graph.specs.Tables.{input_refs}
use Rattle.subject_graph.proofs.building.set_inputs.Given as goal

abbrev pub invariant-loop-place : goal.invariant-loop-place
invariant-loop-place l = (l.place ≤ length l.inputs) × (length l.refs ≡ length l.initial.refs) × (l.refs ≡ input_refs l.place (drop l.place l.inputs) l.initial.refs)

abbrev pub decreases-loop-place : goal.decreases-loop-place
decreases-loop-place l = l.place
