use Rattle.std.proofs.Common.{◌≡◌, ◌∙◌, ◌++◌, true, ap, sym, subst, true≢false}
use Rattle.std.proofs.lemmas.List.{append-nil}
use Rattle.stage_flow.specs.LawsOfWalks.{IsTight}
use Rattle.stage_flow.specs.Given.{at_vertex, count_at}
use Rattle.stage_flow.specs.Sending.{way_in, is_residual}
use Rattle.stage_flow.proofs.StaleVertices.{tails-none}
use Rattle.stage_flow.proofs.stale.push_tail.Goals as goal
use Rattle.stage_flow.proofs.stale.push_tail.Goals.{else-is_tight-via-then-is_tight+else-is_there, else-is_tight-via-else-is_tight}

pub returns-else-is_tight : goal.returns-else-is_tight
returns-else-is_tight c =
    let far = at_vertex c.args.labels.now.far in
    let hops = count_at c.args.labels.now.hops in
    let way = way_in c.args.vertex c.args.near in
    let never : is_residual c.args.flow.now way ≡ true → IsTight far hops way → ⊥ =
    λ there tight.
    elim c.else-is_tight.branch [
      | else-is_tight-via-then-is_tight+else-is_there w ↦ true≢false (sym there ∙ sym (w.is_there.ensures ∙ ap (is_residual c.args.flow.now) c.step_in-step.ensures) ∙ w.if-is_there.false)
      | else-is_tight-via-else-is_tight w ↦ true≢false (sym (c.is_tight.ensures.1 (subst (IsTight far hops) (sym c.step_in-step.ensures) tight)) ∙ w.if-is_tight.false)
    ] in
    sym (ap (λ tails. c.args.pending.now.items ++ tails) (tails-none c.args.flow.now far hops c.args.vertex c.args.near c.requires.read.apart never) ∙ append-nil c.args.pending.now.items)
