use Rattle.std.proofs.Common.{◌≡◌, ◌++◌, ℕ, false, take, drop, get_or, nat_eq}
use Rattle.net_base.specs.Keys.{is_among}
use Rattle.blif_model.specs.Order.{targets_of, driven_twice}
use Rattle.blif_check.proofs.drivers.mark_drivers.Given as goal

-- what drives so far is marked, and the first target to come that is driven already is the first of all
abbrev pub invariant-loop-table : goal.invariant-loop-table
invariant-loop-table l =
    (driven_twice (l.inputs ++ targets_of (take l.table-index l.tables)) (targets_of (drop l.table-index l.tables)) ≡ driven_twice l.inputs (targets_of l.tables))
    × ((signal : ℕ) → get_or l.marks signal false ≡ is_among nat_eq signal (l.inputs ++ targets_of (take l.table-index l.tables)))
