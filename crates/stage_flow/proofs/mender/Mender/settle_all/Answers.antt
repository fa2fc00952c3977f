use Rattle.std.proofs.Common.{◌≡◌, ◌<◌, ◌++◌, ◌∙◌, ℕ, List, Bool, All, ap, sym, subst, arith, true≢false, length, take, drop}
use Rattle.std.proofs.lemmas.List.{take_all, take-append-le}
use Rattle.std.proofs.lemmas.List.Elements.{All-nil}
use Rattle.stage_flow.specs.Residual.{vertex_count}
use Rattle.stage_flow.specs.Given.{at_vertex, count_at}
use Rattle.stage_flow.specs.Passes.{mark_at}
use Rattle.stage_flow.specs.Staleness.{AreKept}
use Rattle.stage_flow.proofs.FreshLabels.{clear-kept}
use Rattle.stage_flow.proofs.mender.Mender.settle_all.Goals as goal

-- A slice that stands for a whole vector is all that the vector has in the end.
whole : (n : ℕ) (xs ys : List Bool) → length xs ≡ n → take n (xs ++ drop (length xs) ys) ≡ xs
whole n xs ys long = take-append-le n xs (drop (length xs) ys) (omega (arith, long)) ∙ take_all n xs (omega (arith, long))

-- the marks when all were put right
after : (c : goal.After-clear) → take c.args.self.now.marks.len (c.settle.new.stale ++ drop (length c.settle.new.stale) c.args.self.now.marks.items) ≡ c.settle.new.stale
after c =
    whole c.args.self.now.marks.len c.settle.new.stale c.args.self.now.marks.items
    (let each = c.settle.ensures.length in let value = ap length c.as_mut_slice.ensures.value in let long : length c.settle.new.stale ≡ c.args.self.now.marks.len = omega (arith, each, value, c.as_mut_slice.ensures.len) in long)

pub returns-clause-kept : goal.returns-clause-kept
returns-clause-kept c =
    subst (AreKept c.args.arcs.now c.args.flow.now (at_vertex c.in_ok-labels.labels.far) (count_at c.in_ok-labels.labels.hops)) (sym (after c))
    (clear-kept c.args.arcs.now c.args.flow.now (at_vertex c.in_ok-labels.labels.far) (count_at c.in_ok-labels.labels.hops) c.settle.new.stale c.requires.net c.in_ok-labels.ensures.labels c.in_ok-labels.ensures.none)

pub returns-clause-none : goal.returns-clause-none
returns-clause-none c = λ vertex. ap (λ marks. mark_at marks vertex) (after c) ∙ c.in_ok-labels.ensures.none vertex

pub returns-clause-order : goal.returns-clause-order
returns-clause-order c = record {
  each = ap length (after c) ∙ c.settle.ensures.length ∙ ap length c.as_mut_slice.ensures.value ∙ c.requires.order.each;
  marked = record {
    low = subst (All (λ vertex. vertex < vertex_count c.args.arcs.now)) (sym c.clear.ensures.items) (All-nil (λ vertex. vertex < vertex_count c.args.arcs.now));
    all = λ vertex marked. absurd (true≢false (sym marked ∙ ap (λ marks. mark_at marks vertex) (after c) ∙ c.in_ok-labels.ensures.none vertex));
  };
  rest = c.requires.order.rest;
}
