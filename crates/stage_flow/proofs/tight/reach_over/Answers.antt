use Rattle.std.proofs.Common.{◌≡◌, ◌∙◌, true, false, nat_eq, ap, sym, subst, true≢false}
use Rattle.net_base.specs.Keys.{with_keys}
use Rattle.stage_flow.specs.LawsOfWalks.{IsTight}
use Rattle.stage_flow.specs.Given.{at_vertex, count_at}
use Rattle.stage_flow.specs.Passes.{mark_at}
use Rattle.stage_flow.specs.Sending.{way_out, is_residual}
use Rattle.stage_flow.proofs.SendingSearch.{heads-none}
use Rattle.stage_flow.proofs.tight.reach_over.Goals as goal
use Rattle.stage_flow.proofs.tight.reach_over.Goals.{else-not-is_marked-via-then-not-is_marked+then-is_tight+else-is_there, else-not-is_marked-via-then-not-is_marked+else-is_tight, else-not-is_marked-via-else-not-is_marked}

pub returns-else-not-is_marked-clause-keys : goal.returns-else-not-is_marked-clause-keys
returns-else-not-is_marked-clause-keys c =
    let far = at_vertex c.args.labels.now.far in
    let hops = count_at c.args.labels.now.hops in
    let way = way_out c.args.vertex c.args.near in
    let never : is_residual c.args.flow.now way ≡ true → mark_at c.args.marks.now way.head ≡ false → IsTight far hops way → ⊥ =
    λ there free tight.
    elim c.else-not-is_marked.branch [
      | else-not-is_marked-via-then-not-is_marked+then-is_tight+else-is_there w ↦ true≢false (sym there ∙ sym (w.is_there.ensures ∙ ap (is_residual c.args.flow.now) c.step_out-step.ensures) ∙ w.if-is_there.false)
      | else-not-is_marked-via-then-not-is_marked+else-is_tight w ↦ true≢false (sym (w.is_tight.ensures.1 (subst (IsTight far hops) (sym c.step_out-step.ensures) tight)) ∙ w.if-is_tight.false)
      | else-not-is_marked-via-else-not-is_marked w ↦ true≢false (sym w.if-not-is_marked.false ∙ c.is_marked.ensures ∙ ap (λ step. mark_at c.args.marks.now step.head) c.step_out-step.ensures ∙ free)
    ] in
    sym (ap (with_keys nat_eq c.args.reached.now.keys.items) (heads-none c.args.flow.now far hops c.args.marks.now c.args.vertex c.args.near c.requires.read.apart never))
