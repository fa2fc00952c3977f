use Rattle.std.proofs.Common.{◌≡◌, ◌+◌, ◌++◌, ◌∙◌, false, not, drop, sym, ap}
use Rattle.std.specs.Prelude.{slice_index_or}
use Rattle.std.specs.List.{flat_map}
use Rattle.std.specs.Option.{is_some}
use Rattle.blif_model.specs.declared.design.Table.{Table}
use Rattle.blif_check.specs.Check.{first_unmarked}
use Rattle.blif_check.proofs.FirstFound.{first-at, option_or-some, option_or-none}
use Rattle.blif_check.proofs.drivers.undriven_signal.Goals as goal

pub returns-then-is_some-clause-first : goal.returns-then-is_some-clause-first
returns-then-is_some-clause-first c =
    let marks = c.args.marks.now in
    let rest = first_unmarked marks (flat_map (λ (t : Table). t.pins) (drop (c.loop-table.table-index + 1) c.args.tables.now) ++ c.args.outputs.now) in
    let here : c.first_unmarked-signal.result ≡ first_unmarked marks c.table-item.result.pins = c.first_unmarked-signal.ensures.first ∙ ap (first_unmarked marks) c.as_slice.ensures in
    here
    ∙ sym (option_or-some (first_unmarked marks c.table-item.result.pins) rest (ap (λ o. is_some o) (sym here) ∙ sym c.is_some.ensures ∙ c.if-is_some.true))
    ∙ sym (first-at (λ signal. not (slice_index_or marks signal false)) c.args.tables.now c.loop-table.table-index c.table-item.result c.args.outputs.now c.loop-table-test.true c.table-item.is)
    ∙ c.loop-table.invariant

pub loop-table-preserved : goal.loop-table-preserved
loop-table-preserved c =
    let marks = c.args.marks.now in
    let rest = first_unmarked marks (flat_map (λ (t : Table). t.pins) (drop (c.loop-table.table-index + 1) c.args.tables.now) ++ c.args.outputs.now) in
    let here : c.first_unmarked-signal.result ≡ first_unmarked marks c.table-item.result.pins = c.first_unmarked-signal.ensures.first ∙ ap (first_unmarked marks) c.as_slice.ensures in
    sym (option_or-none (first_unmarked marks c.table-item.result.pins) rest (ap (λ o. is_some o) (sym here) ∙ sym c.is_some.ensures ∙ c.if-is_some.false))
    ∙ sym (first-at (λ signal. not (slice_index_or marks signal false)) c.args.tables.now c.loop-table.table-index c.table-item.result c.args.outputs.now c.loop-table-test.true c.table-item.is)
    ∙ c.loop-table.invariant
