use Rattle.std.proofs.Common.{◌≡◌, ◌∙◌, ◌∷◌, true, false, sym, arith}
use Rattle.std.proofs.lemmas.List.Sorted.{length_permutation}
use Rattle.stage_flow.specs.Passes.{mark_at}
use Rattle.stage_flow.specs.Waiting.{waiting}
use Rattle.stage_flow.proofs.FirstOffers.{all-left, first-left, left-less}
use Rattle.stage_flow.proofs.offers.Queue.next.Goals as goal

pub loop-offer-init : goal.loop-offer-init
loop-offer-init c = all-left c.args.stale.now (waiting c.args.self.now)

pub loop-offer-smaller : goal.loop-offer-smaller
loop-offer-smaller c = omega (arith, length_permutation (waiting c.loop-offer.self) (c.in-Some.offer ∷ waiting c.pop.new.self) c.in-Some.ensures.moved)

pub returns-then-is_marked : goal.returns-then-is_marked
returns-then-is_marked c =
    let stale : mark_at c.args.stale.now c.in-Some.offer.vertex ≡ true = sym c.is_marked.ensures ∙ c.if-is_marked.true in
    first-left c.args.stale.now (waiting c.args.self.now) (waiting c.loop-offer.self) c.in-Some.offer (waiting c.pop.new.self) stale
    c.in-Some.ensures.greatest c.loop-offer.invariant c.in-Some.ensures.moved

pub loop-offer-preserved : goal.loop-offer-preserved
loop-offer-preserved c =
    let fresh : mark_at c.args.stale.now c.in-Some.offer.vertex ≡ false = sym c.is_marked.ensures ∙ c.if-is_marked.false in
    left-less c.args.stale.now (waiting c.args.self.now) (waiting c.loop-offer.self) c.in-Some.offer (waiting c.pop.new.self) fresh
    c.loop-offer.invariant c.in-Some.ensures.moved
