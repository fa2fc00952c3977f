use Rattle.std.proofs.lemmas.Result.{err_from_is_err_and}
use Rattle.stage_flow.proofs.RiseLists.{put-list, kept-list}
use Rattle.stage_flow.proofs.offers.put.Goals as goal

pub returns-in_err-push-clause-kept : goal.returns-in_err-push-clause-kept
returns-in_err-push-clause-kept c =
    let exit = err_from_is_err_and c.from_residual.result c.from_residual.ensures.1 in
    rw exit.1 (kept-list (λ list. list.items) c.args.lists.now.items c.args.place c.index_mut.result.now c.push.new.self c.requires c.index_mut.ensures.value c.in_err-push.ensures.items)

pub returns-clause-put : goal.returns-clause-put
returns-clause-put c =
    put-list (λ list. list.items) c.args.lists.now.items c.args.place c.index_mut.result.now c.push.new.self c.args.offer
    c.requires c.index_mut.ensures.value c.in_ok-push.ensures.items
