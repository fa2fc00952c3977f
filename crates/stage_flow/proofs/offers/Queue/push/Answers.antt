use Rattle.std.proofs.Common.{◌<ℤ◌, ◌≤ℤ◌, ◌-ℤ◌, pos, heap_items, arith}
use Rattle.std.proofs.lemmas.Int.{ints}
use Rattle.std.proofs.lemmas.Result.{on_err_weaker}
use Rattle.stage_flow.specs.declared.offers.Offer.{Offer}
use Rattle.stage_flow.specs.Waiting.{small_ones}
use Rattle.stage_flow.proofs.QueuedOffers.{added-gaining, added-small, added-large, all-pushed}
use Rattle.stage_flow.proofs.offers.Queue.push.Goals as goal

pub invariant_of-self-clause-gains : goal.invariant_of-self-clause-gains
invariant_of-self-clause-gains c =
    let queue = c.args.self.now in
    all-pushed (λ (offer : Offer). pos 0 <ℤ offer.gain) c.push.result (heap_items queue.gaining) (heap_items c.push.new.self) c.args.offer c.push.ensures.permutation
    (on_err_weaker c.push.result (λ same. same.0) c.push.ensures.unchanged)
    (omega (arith, ints, c.if-offer-gt0.true)) queue.gains

pub invariant_of-self-else-offer-clause-rises : goal.invariant_of-self-else-offer-clause-rises
invariant_of-self-else-offer-clause-rises c =
    let queue = c.args.self.now in
    all-pushed (λ (offer : Offer). offer.gain ≤ℤ (pos 0 -ℤ pos 64)) c.push-else-offer.result (heap_items queue.large) (heap_items c.push-else-offer.new.self) c.args.offer c.push-else-offer.ensures.permutation
    (on_err_weaker c.push-else-offer.result (λ same. same.0) c.push-else-offer.ensures.unchanged)
    (omega (arith, ints, c.if-offer.false)) queue.rises

pub returns-in_ok-push : goal.returns-in_ok-push
returns-in_ok-push c =
    let queue = c.args.self.now in
    added-gaining (heap_items queue.gaining) (heap_items c.push.new.self) (small_ones queue.small) (heap_items queue.large) c.args.offer c.in_ok-push.ensures.permutation

pub returns-in_ok-push-2 : goal.returns-in_ok-push-2
returns-in_ok-push-2 c =
    let queue = c.args.self.now in
    added-small (heap_items queue.gaining) (small_ones queue.small) (small_ones c.push-then-offer.new.self) (heap_items queue.large) c.args.offer c.in_ok-push-2.ensures

pub returns-in_ok-push-3 : goal.returns-in_ok-push-3
returns-in_ok-push-3 c =
    let queue = c.args.self.now in
    added-large (heap_items queue.gaining) (small_ones queue.small) (heap_items queue.large) (heap_items c.push-else-offer.new.self) c.args.offer c.in_ok-push-3.ensures.permutation
