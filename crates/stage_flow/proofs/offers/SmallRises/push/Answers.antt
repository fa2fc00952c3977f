use Rattle.std.proofs.Common.{◌<◌, ◌∙◌, ◌∷◌, List, map, length, sym, subst, arith}
use Rattle.std.specs.List.Sorted.{IsPermutation}
use Rattle.std.proofs.lemmas.Int.{ints}
use Rattle.std.proofs.lemmas.List.{length-map}
use Rattle.stage_flow.specs.declared.offers.Offer.{Offer}
use Rattle.stage_flow.specs.Waiting.{joined}
use Rattle.stage_flow.proofs.RiseLists.{AreByRise, AreFrom, by_rise-put, from-put, joined-put}
use Rattle.stage_flow.proofs.offers.SmallRises.push.Goals as goal

pub invariant_of-self-2 : goal.invariant_of-self-2
invariant_of-self-2 c =
    let queue = c.args.self.now in
    let lists : List (List Offer) = map (λ list. list.items) queue.lists.items in
    let many = length-map queue.lists.items (λ list. list.items) in
    let low : c.rise_of-rise.result < length lists = omega (arith, ints, many, queue.each, c.rise_of-rise.ensures, c.requires.little) in
    record {
      each = c.put.ensures.length ∙ queue.each;
      own = subst AreByRise (sym c.in_ok-put.ensures.put) (by_rise-put lists c.rise_of-rise.result c.args.offer low c.rise_of-rise.ensures queue.own);
      none =
          subst (AreFrom c.min-self.result) (sym c.in_ok-put.ensures.put)
          (from-put lists c.rise_of-rise.result c.args.offer queue.level c.min-self.result low (omega (arith, c.min-self.ensures)) (omega (arith, c.min-self.ensures)) queue.none);
    }

pub returns : goal.returns
returns c =
    let queue = c.args.self.now in
    let lists : List (List Offer) = map (λ list. list.items) queue.lists.items in
    let many = length-map queue.lists.items (λ list. list.items) in
    let low : c.rise_of-rise.result < length lists = omega (arith, ints, many, queue.each, c.rise_of-rise.ensures, c.requires.little) in
    subst (λ all. IsPermutation (c.args.offer ∷ joined lists) (joined all)) (sym c.in_ok-put.ensures.put) (joined-put lists c.rise_of-rise.result c.args.offer low)
