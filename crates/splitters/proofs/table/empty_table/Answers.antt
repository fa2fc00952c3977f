use Rattle.std.proofs.Common.{◌∙◌}
use Rattle.splitters.proofs.tapped.Table.{replicate-next}
use Rattle.splitters.proofs.table.empty_table.Goals as goal

pub loop-preserved : goal.loop-preserved
loop-preserved c = c.in_ok-push.ensures.items ∙ replicate-next c.loop.counter c.loop.table.items c.new.result c.loop.invariant c.new.ensures
