use Rattle.std.proofs.Common.{◌≡◌, ◌++◌, drop}
use Rattle.std.specs.List.{flat_map}
use Rattle.blif_model.specs.declared.design.Table.{Table}
use Rattle.blif_check.specs.Check.{first_unmarked}
use Rattle.blif_check.proofs.drivers.undriven_signal.Given as goal

abbrev pub invariant-loop-table : goal.invariant-loop-table
invariant-loop-table l =
    first_unmarked l.marks (flat_map (λ (t : Table). t.pins) (drop l.table-index l.tables) ++ l.outputs)
    ≡ first_unmarked l.marks (flat_map (λ (t : Table). t.pins) l.tables ++ l.outputs)
