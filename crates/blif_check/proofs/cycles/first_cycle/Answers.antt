use Rattle.std.proofs.Common.{◌≡◌, ◌∙◌, false, Some, sym, ap, true≢false}
use Rattle.std.specs.Prelude.{slice_get}
use Rattle.std.specs.Option.{option_map}
use Rattle.std.proofs.lemmas.Option.{slice_get-get_or}
use Rattle.blif_model.specs.declared.design.Table.{Table}
use Rattle.blif_model.specs.Order.{is_on_cycle}
use Rattle.blif_model.proofs.CallerLemmas.{driver_of-target}
use Rattle.blif_check.proofs.FirstFound.{table-here, table-behind}
use Rattle.blif_check.proofs.RanksRise.{below-never_back, on_cycle-from_back, off_cycle-from_none}
use Rattle.blif_check.proofs.cycles.first_cycle.Goals as goal
use Rattle.blif_check.proofs.cycles.first_cycle.Goals.{else-not-is_below-via-then-not-is_below+in_ok-comes_back+else-branch, else-not-is_below-via-else-not-is_below}

pub returns-then-branch : goal.returns-then-branch
returns-then-branch c =
    let tables = c.args.tables.now in
    let table = c.table-item.result in
    ap (option_map (λ (t : Table). t.line))
    (sym (table-here (is_on_cycle tables) tables c.loop-table.table-index table c.loop-table-test.true c.table-item.is (on_cycle-from_back tables table (c.in_ok-comes_back.ensures.0 c.if-branch.true)))
    ∙ c.loop-table.invariant)

pub loop-table-preserved : goal.loop-table-preserved
loop-table-preserved c =
    let tables = c.args.tables.now in
    let table = c.table-item.result in
    let i = c.loop-table.table-index in
    let at : slice_get tables i ≡ Some table = slice_get-get_or tables i table c.loop-table-test.true ∙ ap (λ (t : Table). Some t) (sym c.table-item.is) in
    let off : is_on_cycle tables table ≡ false =
    elim c.else-not-is_below.branch [
      | else-not-is_below-via-then-not-is_below+in_ok-comes_back+else-branch w ↦
          off_cycle-from_none tables table (λ back. true≢false (sym (w.in_ok-comes_back.ensures.1 back) ∙ w.if-branch.false))
      | else-not-is_below-via-else-not-is_below w ↦
          off_cycle-from_none tables table (below-never_back tables c.check_ranks.new.ranks table c.check_ranks.ensures (driver_of-target tables i table c.requires.distinct at)
          (c.is_below.ensures.0 w.if-not-is_below.false))
    ] in
    sym (table-behind (is_on_cycle tables) tables i table c.loop-table-test.true c.table-item.is off) ∙ c.loop-table.invariant
