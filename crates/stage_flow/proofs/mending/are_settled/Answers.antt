use Rattle.std.proofs.Common.{◌≡◌, ◌∙◌, get_or, false, sym}
use Rattle.stage_flow.specs.Passes.{mark_at}
use Rattle.stage_flow.proofs.AheadVertices.{ahead-more, ahead-none}
use Rattle.stage_flow.proofs.mending.are_settled.Goals as goal

pub loop-seen-preserved : goal.loop-seen-preserved
loop-seen-preserved c =
    let fresh : mark_at c.args.stale.now (get_or c.args.vertices.now c.loop-seen.seen 0) ≡ false = sym c.is_marked.ensures ∙ c.if-is_marked.false in
    ahead-more c.args.stale.now c.args.vertices.now c.loop-seen.seen c.loop-seen-test.true fresh c.loop-seen.invariant

pub returns-clause-none : goal.returns-clause-none
returns-clause-none c =
    λ _. ahead-none c.args.stale.now c.args.vertices.now c.loop-seen.seen c.loop-seen-test.false c.loop-seen.invariant
