use Rattle.std.proofs.Common.{◌≡◌, ◌+◌, ◌+ℤ◌, ◌∙◌, pos, sym, ap, true≢false, arith}
use Rattle.std.proofs.lemmas.Int.{ints}
use Rattle.std.proofs.lemmas.Option.{get_or_from_slice_get}
use Rattle.stage_flow.specs.Given.{at_vertex, count_at}
use Rattle.stage_flow.specs.Sending.{way_of}
use Rattle.stage_flow.proofs.SendingArcs.{tight-from_parts, tight-length, tight-hops}
use Rattle.stage_flow.proofs.ways.is_tight.Goals as goal

pub returns-then-not-is_next : goal.returns-then-not-is_next
returns-then-not-is_next c =
    let step = c.args.step in
    let far = at_vertex c.args.labels.now.far in
    let hops = count_at c.args.labels.now.hops in
    let hops_tail = get_or_from_slice_get c.args.labels.now.hops step.tail c.get-hops.result.now 0 c.get-hops.ensures in
    let hops_head = get_or_from_slice_get c.args.labels.now.hops step.head c.get-next_hops.result.now 0 c.get-next_hops.ensures in (
      λ yes. absurd (true≢false (sym yes)),
      λ tight.
          absurd (true≢false (sym (c.is_next.ensures.1 (ap (λ n. n + 1) (sym hops_head) ∙ tight-hops far hops (way_of step) tight ∙ hops_tail)) ∙ c.if-not-is_next.true)),
    )

pub returns : goal.returns
returns c =
    let step = c.args.step in
    let far = at_vertex c.args.labels.now.far in
    let hops = count_at c.args.labels.now.hops in
    let far_tail = get_or_from_slice_get c.args.labels.now.far step.tail c.get-far.result.now (pos 0) c.get-far.ensures in
    let far_head = get_or_from_slice_get c.args.labels.now.far step.head c.get-next_far.result.now (pos 0) c.get-next_far.ensures in
    let hops_tail = get_or_from_slice_get c.args.labels.now.hops step.tail c.get-hops.result.now 0 c.get-hops.ensures in
    let hops_head = get_or_from_slice_get c.args.labels.now.hops step.head c.get-next_hops.result.now 0 c.get-next_hops.ensures in (
      λ yes.
          tight-from_parts far hops (way_of step)
          (let h = c.adds_up.ensures.0 yes in ap (λ z. step.length +ℤ z) far_head ∙ (let e : step.length +ℤ c.get-next_far.result.now ≡ c.get-far.result.now = omega (arith, ints, h) in e) ∙ sym far_tail)
          (ap (λ n. n + 1) hops_head ∙ c.is_next.ensures.0 c.if-not-is_next.false ∙ sym hops_tail),
      λ tight.
          let long : step.length +ℤ c.get-next_far.result.now ≡ c.get-far.result.now =
          ap (λ z. step.length +ℤ z) (sym far_head) ∙ tight-length far hops (way_of step) tight ∙ far_tail in
          c.adds_up.ensures.1 (omega (arith, ints, long)),
    )
