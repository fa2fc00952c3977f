use Rattle.std.proofs.Common.{arith}
use Rattle.cut_core.proofs.CoreRows.{inputs-all}
use Rattle.cut_core.proofs.start.first_rows.Goals as goal

pub returns : goal.returns
returns c = inputs-all c.args.graph.now c.loop-i.rows.items c.loop-i.i c.requires (omega (arith, c.loop-i-test.false)) c.loop-i.invariant.each c.loop-i.invariant.known
