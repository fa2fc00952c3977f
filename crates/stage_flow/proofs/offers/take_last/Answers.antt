use Rattle.std.proofs.Common.{◌++◌, ◌∙◌, ap}
use Rattle.std.specs.Option.{option_to_list}
use Rattle.stage_flow.proofs.RiseLists.{take-list}
use Rattle.stage_flow.proofs.offers.take_last.Goals as goal

pub returns-clause-last : goal.returns-clause-last
returns-clause-last c =
    take-list (λ list. list.items) c.args.lists.now.items c.args.place c.index_mut.result.now c.pop.new.self c.unwrap.result c.requires.place c.index_mut.ensures.value
    (c.pop.ensures.items ∙ ap (λ last. c.pop.new.self.items ++ option_to_list last) c.unwrap.ensures)
