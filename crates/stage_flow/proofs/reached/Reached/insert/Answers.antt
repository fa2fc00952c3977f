use Rattle.std.proofs.Common.{arith}
use Rattle.stage_flow.proofs.ReachedVertices.{there-added}
use Rattle.stage_flow.proofs.reached.Reached.insert.Goals as goal

pub invariant_of-self-then-not-index : goal.invariant_of-self-then-not-index
invariant_of-self-then-not-index c =
    let it = c.args.self.now in
    record { there = there-added it.marks.items it.keys.items c.push.new.self.items c.args.vertex c.requires (grind (arith, c.index.ensures, c.if-not-index.true)) c.in_ok-push.ensures.items it.there }
