use Rattle.std.proofs.Common.{◌≡◌, ◌<◌, ◌≤◌, ◌∙◌, List, [], map, length, subst, arith}
use Rattle.std.proofs.lemmas.Int.{ints}
use Rattle.std.proofs.lemmas.List.{length-map}
use Rattle.stage_flow.specs.declared.offers.Offer.{Offer}
use Rattle.stage_flow.specs.Waiting.{joined}
use Rattle.stage_flow.proofs.RiseLists.{AreByRise, AreFrom, by_rise-taken, from-seen, from-taken, from-all, rise-last, leaves-list}
use Rattle.stage_flow.proofs.offers.SmallRises.pop.Goals as goal

pub returns-then-self-len-clause-least : goal.returns-then-self-len-clause-least
returns-then-self-len-clause-least c =
    let it = c.args.self.now in
    let lists : List (List Offer) = map (λ list. list.items) it.lists.items in
    let many = length-map it.lists.items (λ list. list.items) in
    let all : length lists ≤ c.first_filled-self.result = omega (arith, many, c.len.ensures, c.if-self-len.true, it.lists.ok.0) in
    let none : joined lists ≡ [] =
    from-all lists c.first_filled-self.result all
    (from-seen (λ list. list.items) it.lists.items c.as_slice.result.now it.level c.first_filled-self.result c.as_slice.ensures.value it.none c.first_filled-self.ensures.none) in
    (none, none)

pub invariant_of-self-2 : goal.invariant_of-self-2
invariant_of-self-2 c =
    let it = c.args.self.now in
    let after : List (List Offer) = map (λ list. list.items) c.take_last.new.lists.items in
    let many = length-map c.take_last.new.lists.items (λ list. list.items) in
    let low : c.first_filled-self.result < length after = omega (arith, many, c.take_last.ensures.length, c.len.ensures, c.if-self-len.false, it.lists.ok.0) in
    let none : AreFrom c.first_filled-self.result (map (λ list. list.items) it.lists.items) =
    from-seen (λ list. list.items) it.lists.items c.as_slice.result.now it.level c.first_filled-self.result c.as_slice.ensures.value it.none c.first_filled-self.ensures.none in
    record {
      each = c.take_last.ensures.length ∙ it.each;
      own = by_rise-taken after c.first_filled-self.result c.take_last.result low (subst AreByRise c.take_last.ensures.last it.own);
      none = from-taken after c.first_filled-self.result c.take_last.result low (subst (AreFrom c.first_filled-self.result) c.take_last.ensures.last none);
    }

pub returns-clause-least : goal.returns-clause-least
returns-clause-least c =
    let it = c.args.self.now in
    let after : List (List Offer) = map (λ list. list.items) c.take_last.new.lists.items in
    let many = length-map c.take_last.new.lists.items (λ list. list.items) in
    let low : c.first_filled-self.result < length after = omega (arith, many, c.take_last.ensures.length, c.len.ensures, c.if-self-len.false, it.lists.ok.0) in
    leaves-list (map (λ list. list.items) it.lists.items) after c.first_filled-self.result c.take_last.result low c.take_last.ensures.last it.own
    (from-seen (λ list. list.items) it.lists.items c.as_slice.result.now it.level c.first_filled-self.result c.as_slice.ensures.value it.none c.first_filled-self.ensures.none)

pub returns-clause-little : goal.returns-clause-little
returns-clause-little c =
    let it = c.args.self.now in
    let after : List (List Offer) = map (λ list. list.items) c.take_last.new.lists.items in
    let many = length-map c.take_last.new.lists.items (λ list. list.items) in
    let low : c.first_filled-self.result < 64 = omega (arith, c.len.ensures, c.if-self-len.false, it.lists.ok.0, it.each) in
    let rises = rise-last (map (λ list. list.items) it.lists.items) after c.first_filled-self.result c.take_last.result (omega (arith, low, many, c.take_last.ensures.length, it.each)) c.take_last.ensures.last it.own in
    omega (arith, ints, rises, low)
