use Rattle.std.proofs.Common.{◌≡◌, map, take}
use Rattle.subject_graph.specs.Tables.{ref_at}
use Rattle.subject_graph.proofs.building.refs_of.Given as goal

abbrev pub invariant-loop-signal : goal.invariant-loop-signal
invariant-loop-signal l = l.found ≡ map (ref_at l.refs) (take l.signal-index l.signals)
