use Rattle.stage_flow.proofs.ReachedVertices.{none-yet}
use Rattle.stage_flow.proofs.reached.Reached.new.Goals as goal

pub invariant_of-result : goal.invariant_of-result
invariant_of-result c = record { there = none-yet c.in_ok-marks.marks.items c.new.result.items c.vertices.result (c.in_ok-marks.ensures.items_if_clones_equal (λ mark same. same)) c.new.ensures.items }
