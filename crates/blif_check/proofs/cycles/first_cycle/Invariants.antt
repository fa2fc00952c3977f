use Rattle.std.proofs.Common.{◌≡◌, drop}
use Rattle.std.specs.Prelude.{find}
use Rattle.blif_model.specs.Order.{is_on_cycle}
use Rattle.blif_check.proofs.cycles.first_cycle.Given as goal

abbrev pub invariant-loop-table : goal.invariant-loop-table
invariant-loop-table l = find (is_on_cycle l.tables) (drop l.table-index l.tables) ≡ find (is_on_cycle l.tables) l.tables
