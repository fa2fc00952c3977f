use Rattle.std.proofs.Common.{◌∙◌, arith}
use Rattle.std.proofs.lemmas.List.{length-set}
use Rattle.stage_flow.proofs.RiseLists.{emptied-next}
use Rattle.stage_flow.proofs.offers.empty_all.Goals as goal

pub loop-place-preserved : goal.loop-place-preserved
loop-place-preserved c = (
  length-set c.loop-place.lists.items c.loop-place.place c.clear.new.self ∙ c.loop-place.invariant.0,
  emptied-next (λ list. list.items) c.loop-place.lists.items c.loop-place.place c.clear.new.self (omega (arith, c.loop-place-test.true, c.loop-place.invariant.0, c.len-place-end.ensures)) c.clear.ensures.items c.loop-place.invariant.1,
)
