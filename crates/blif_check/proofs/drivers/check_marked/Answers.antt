use Rattle.std.proofs.Common.{◌≡◌, ◌++◌, ◌∙◌, ℕ, false, get_or, nat_eq, sym}
use Rattle.std.specs.List.{flat_map}
use Rattle.net_base.specs.Keys.{is_among}
use Rattle.blif_model.specs.declared.design.Table.{Table}
use Rattle.blif_model.specs.Order.{targets_of, driven_signals, driven_twice}
use Rattle.blif_check.specs.Check.{first_unmarked}
use Rattle.blif_check.proofs.Refusals.{undriven-marked, refused-undriven}
use Rattle.blif_check.proofs.drivers.check_marked.Goals as goal

pub returns-in-Some-undriven_signal : goal.returns-in-Some-undriven_signal
returns-in-Some-undriven_signal c =
    let design = c.args.design.now in
    let marks = c.mark_drivers.new.marks in
    let driven : (signal : ℕ) → get_or marks signal false ≡ is_among nat_eq signal (driven_signals design) =
    λ signal. c.in_default.ensures.marked signal ∙ (λ i. is_among nat_eq signal (c.as_slice.ensures i ++ targets_of (c.as_slice-tables.ensures i))) in
    refused-undriven design c.in-Some-undriven_signal.signal c.in_ok-name_of-2.field-0
    (sym (c.in_default.ensures.twice ∙ (λ i. driven_twice (c.as_slice.ensures i) (targets_of (c.as_slice-tables.ensures i)))))
    (sym (c.in-Some-undriven_signal.ensures.first ∙ (λ i. first_unmarked marks (flat_map (λ (t : Table). t.pins) (c.as_slice-tables.ensures i) ++ c.as_slice-2.ensures i)) ∙ undriven-marked design marks driven))
    c.in_ok-name_of-2.ensures
