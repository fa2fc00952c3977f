use Rattle.std.proofs.Common.{◌∙◌, sym}
use Rattle.blif_model.proofs.CallerLemmas.{no_cycle-from_find}
use Rattle.blif_check.proofs.Refusals.{none-found}
use Rattle.blif_check.proofs.check.places_by_search.Goals as goal

pub levels-requires-clause-no_cycle : goal.levels-requires-clause-no_cycle
levels-requires-clause-no_cycle c =
    no_cycle-from_find c.args.tables.now (none-found c.args.tables.now (sym c.in_ok-line.ensures ∙ c.in_default.is))
