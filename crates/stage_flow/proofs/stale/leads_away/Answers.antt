use Rattle.std.proofs.Common.{◌∙◌, sym, ap, subst}
use Rattle.stage_flow.specs.LawsOfWalks.{IsTight}
use Rattle.stage_flow.specs.Given.{at_vertex, count_at}
use Rattle.stage_flow.specs.Passes.{mark_at}
use Rattle.stage_flow.specs.Sending.{is_residual}
use Rattle.stage_flow.specs.Staleness.{LeadsAway}
use Rattle.stage_flow.proofs.NearArcs.{out-ends, any-out}
use Rattle.stage_flow.proofs.stale.leads_away.Goals as goal

pub returns-then-is_tight-clause-away : goal.returns-then-is_tight-clause-away
returns-then-is_tight-clause-away c = λ yes.
    let far = at_vertex c.args.labels.now.far in
    let hops = count_at c.args.labels.now.hops in
    let same = c.step_out-step.ensures in
    any-out (LeadsAway far hops c.args.marks.now c.args.vertex) c.args.flow.now c.args.vertex c.args.near
    (sym (c.is_there.ensures ∙ ap (is_residual c.args.flow.now) same) ∙ yes)
    ((out-ends c.args.vertex c.args.near).0, subst (IsTight far hops) same (c.is_tight.ensures.0 c.if-is_tight.true), sym (c.is_marked.ensures ∙ ap (λ step. mark_at c.args.marks.now step.head) same) ∙ c.if-is_marked.false)
