use Rattle.std.proofs.Common.{List, nat_eq, sym, subst}
use Rattle.std.specs.List.{IsDistinct}
use Rattle.blif_model.specs.declared.design.Table.{Table}
use Rattle.blif_model.specs.Order.{targets_of}
use Rattle.blif_model.proofs.CallerLemmas.{driven_twice-None}
use Rattle.blif_check.proofs.Refusals.{driven_once}
use Rattle.blif_check.proofs.check.order_of.Goals as goal

-- Where what drives refuses nothing, no two tables drive one signal.
pub places-requires-clause-distinct : goal.places-requires-clause-distinct
places-requires-clause-distinct c =
    let design = c.args.design.now in
    subst (λ (tables : List Table). IsDistinct nat_eq (targets_of tables)) (sym c.as_slice.ensures)
    (driven_twice-None design.inputs (targets_of design.tables) (driven_once design c.in_ok-check_drivers.ensures)).0
