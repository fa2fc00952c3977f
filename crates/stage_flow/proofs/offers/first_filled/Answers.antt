use Rattle.std.proofs.Common.{◌≡◌, length, arith}
use Rattle.std.proofs.lemmas.Bool.Decides.{nat_tests}
use Rattle.stage_flow.proofs.RiseLists.{passed-next}
use Rattle.stage_flow.proofs.offers.first_filled.Goals as goal

pub loop-place-preserved : goal.loop-place-preserved
loop-place-preserved c =
    let none : length c.index-lists-place.result.items ≡ 0 = grind (arith, nat_tests, c.is_empty.ensures, c.if-not-is_empty.false, c.index-lists-place.result.ok.0) in
    passed-next (λ list. list.items) c.args.lists.now c.args.from c.loop-place.place c.index-lists-place.result c.loop-place-test.true c.index-lists-place.is none c.loop-place.invariant
