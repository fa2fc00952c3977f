use Rattle.std.proofs.Common.{◌∙◌, length, sym, ap, subst, true≢false}
use Rattle.cell_lib.specs.Cell.{is_dro}
use Rattle.gate_net.specs.Net.{IsGate}
use Rattle.balance_map.proofs.Formulas.{IsGate-ascending}
use Rattle.balance_map.proofs.walking.with_cell.Goals as goal

pub gate-requires-clause-row : goal.gate-requires-clause-row
gate-requires-clause-row c =
    let net = c.args.net.now in
    subst (IsGate net.inputs (length net.gates)) (sym c.row_of-cell.ensures)
    (IsGate-ascending net.inputs (length net.gates) c.args.cell c.args.pins (λ dro. true≢false (sym (ap is_dro dro) ∙ sym c.is_dro.ensures ∙ c.if-is_dro.false)) c.requires.count c.requires.pins)
