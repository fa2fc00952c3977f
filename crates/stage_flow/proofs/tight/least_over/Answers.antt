use Rattle.std.proofs.Common.{◌≡◌, ◌∙◌, nat_eq, true, ap, sym, subst, true≢false}
use Rattle.std.specs.Option.{option_map}
use Rattle.net_base.specs.Keys.{is_among}
use Rattle.stage_flow.specs.Rounds.{or_lesser}
use Rattle.stage_flow.specs.LawsOfWalks.{IsTight}
use Rattle.stage_flow.specs.Given.{at_vertex, count_at}
use Rattle.stage_flow.specs.Sending.{way_of, way_in, is_residual}
use Rattle.stage_flow.proofs.SendingPath.{least-one, least-none}
use Rattle.stage_flow.proofs.tight.least_over.Goals as goal
use Rattle.stage_flow.proofs.tight.least_over.Goals.{else-is_tight-via-then-is_tight+then-contains+else-is_there, else-is_tight-via-then-is_tight+else-contains, else-is_tight-via-else-is_tight}

pub returns-then-is_there : goal.returns-then-is_there
returns-then-is_there c =
    let far = at_vertex c.args.labels.now.far in
    let hops = count_at c.args.labels.now.hops in
    let keys = c.args.reached.now.keys.items in
    let same = c.step_in-step.ensures in
    c.lesser_of.ensures
    ∙ ap (λ way. or_lesser true way (option_map way_of c.args.found)) same
    ∙ sym (least-one c.args.flow.now far hops keys c.args.vertex c.args.near (option_map way_of c.args.found) c.requires.read.apart
    (sym (c.is_there.ensures ∙ ap (is_residual c.args.flow.now) same) ∙ c.if-is_there.true)
    (subst (IsTight far hops) same (c.is_tight.ensures.0 c.if-is_tight.true))
    (ap (λ way. is_among nat_eq way.tail keys) (sym same) ∙ sym c.contains.ensures ∙ c.if-contains.true))

pub returns-else-is_tight : goal.returns-else-is_tight
returns-else-is_tight c =
    let far = at_vertex c.args.labels.now.far in
    let hops = count_at c.args.labels.now.hops in
    let keys = c.args.reached.now.keys.items in
    let way = way_in c.args.vertex c.args.near in
    let same = c.step_in-step.ensures in
    let never : is_residual c.args.flow.now way ≡ true → IsTight far hops way → is_among nat_eq way.tail keys ≡ true → ⊥ =
    λ there tight among.
    elim c.else-is_tight.branch [
      | else-is_tight-via-then-is_tight+then-contains+else-is_there w ↦ true≢false (sym there ∙ sym (w.is_there.ensures ∙ ap (is_residual c.args.flow.now) same) ∙ w.if-is_there.false)
      | else-is_tight-via-then-is_tight+else-contains w ↦ true≢false (sym among ∙ ap (λ one. is_among nat_eq one.tail keys) (sym same) ∙ sym w.contains.ensures ∙ w.if-contains.false)
      | else-is_tight-via-else-is_tight w ↦ true≢false (sym (c.is_tight.ensures.1 (subst (IsTight far hops) (sym same) tight)) ∙ w.if-is_tight.false)
    ] in
    sym (least-none c.args.flow.now far hops keys c.args.vertex c.args.near (option_map way_of c.args.found) c.requires.read.apart never)
