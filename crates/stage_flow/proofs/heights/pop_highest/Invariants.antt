use Rattle.stage_flow.proofs.heights.pop_highest.Given as goal

abbrev pub decreases-loop-height : goal.decreases-loop-height
decreases-loop-height l = l.height
