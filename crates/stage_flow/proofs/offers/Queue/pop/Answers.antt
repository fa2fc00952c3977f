use Rattle.std.proofs.Common.{◌≡◌, ◌<◌, ◌<ℤ◌, ◌-ℤ◌, pos, length, map, heap_items, sym, subst, arith}
use Rattle.std.proofs.lemmas.Int.{ints}
use Rattle.std.proofs.lemmas.Bool.Decides.{nat_tests}
use Rattle.std.proofs.lemmas.Option.{MatchOption-at_none}
use Rattle.std.proofs.lemmas.List.{nil_from_length}
use Rattle.stage_flow.specs.declared.offers.Offer.{Offer}
use Rattle.stage_flow.specs.Waiting.{small_ones}
use Rattle.stage_flow.proofs.FirstOffers.{gain-greatest}
use Rattle.stage_flow.proofs.RiseLists.{none-gains}
use Rattle.stage_flow.proofs.QueuedOffers.{leaves-gaining, leaves-small, leaves-large, all-popped, no_more-than}
use Rattle.stage_flow.proofs.offers.Queue.pop.Goals as goal

pub invariant_of-self-clause-gains : goal.invariant_of-self-clause-gains
invariant_of-self-clause-gains c =
    let queue = c.args.self.now in
    all-popped (λ (offer : Offer). pos 0 <ℤ offer.gain) c.pop.result (heap_items queue.gaining) (heap_items c.pop.new.self) c.pop.ensures.permutation
    (λ none. (MatchOption-at_none _ _ none c.pop.ensures.unchanged).0) queue.gains

pub returns-then-not-is_empty : goal.returns-then-not-is_empty
returns-then-not-is_empty c =
    let queue = c.args.self.now in
    let offer = c.in_ok-offer.offer in
    let gaining = heap_items queue.gaining in
    let some : 0 < length gaining = omega (arith, c.in_ok-offer.ensures.len, queue.gaining.data.ok.0) in
    let gains : pos 0 <ℤ offer.gain = subst (λ (first : Offer). pos 0 <ℤ first.gain) (sym c.in_ok-offer.ensures.top) (queue.gains 0 offer some) in
    leaves-gaining gaining (heap_items c.pop.new.self) (small_ones queue.small) (heap_items queue.large) offer
    (record {
      moved = c.in_ok-offer.ensures.permutation;
      greatest = gain-greatest offer gaining (c.in_ok-offer.ensures.heap_order queue.first).1;
    })
    (no_more-than (pos 0) (small_ones queue.small) offer (none-gains (map (λ list. list.items) queue.small.lists.items) queue.small.own) (omega (arith, ints, gains)))
    (no_more-than (pos 0 -ℤ pos 64) (heap_items queue.large) offer queue.rises (omega (arith, ints, gains)))

pub returns-in-Some : goal.returns-in-Some
returns-in-Some c =
    let queue = c.args.self.now in
    let none : length (heap_items queue.gaining) ≡ 0 = grind (arith, nat_tests, c.if-not-is_empty.false, c.is_empty.ensures, queue.gaining.data.ok.0) in
    leaves-small (heap_items queue.gaining) (small_ones queue.small) (small_ones c.pop-2.new.self) (heap_items queue.large) c.in-Some.offer
    (nil_from_length (heap_items queue.gaining) none) c.in-Some.ensures.least
    (no_more-than (pos 0 -ℤ pos 64) (heap_items queue.large) c.in-Some.offer queue.rises (omega (arith, ints, c.in-Some.ensures.little)))

pub returns : goal.returns
returns c =
    let queue = c.args.self.now in
    let offer = c.in_ok-offer-2.offer in
    let large = heap_items queue.large in
    let none : length (heap_items queue.gaining) ≡ 0 = grind (arith, nat_tests, c.if-not-is_empty.false, c.is_empty.ensures, queue.gaining.data.ok.0) in
    leaves-large (heap_items queue.gaining) (small_ones queue.small) (small_ones c.pop-2.new.self) large (heap_items c.pop-3.new.self) offer
    (nil_from_length (heap_items queue.gaining) none) c.in_default.ensures.least.0 c.in_default.ensures.least.1
    (record {
      moved = c.in_ok-offer-2.ensures.permutation;
      greatest = gain-greatest offer large (c.in_ok-offer-2.ensures.heap_order queue.ordered).1;
    })
