use Rattle.std.proofs.Common.{◌≡◌, None, sym}
use Rattle.gate_net.specs.Rows.{first_place}
use Rattle.gate_net.specs.declared.row.GateRow.{GateRow}
use Rattle.gate_net.proofs.CallerLemmas.{IsFirstPlace-from_Some, IsFirstPlace-push, IsGateNet-push}
use Rattle.gate_net.proofs.net.GateNet.gate.Goals as goal

pub returns-in-Some-clause-first : goal.returns-in-Some-clause-first
returns-in-Some-clause-first c = IsFirstPlace-from_Some _ _ _ (sym c.in-Some.ensures)

pub returns-clause-first : goal.returns-clause-first
returns-clause-first c =
    let row : GateRow = record { cell = c.args.cell; pins = c.args.pins } in
    let absent : first_place row c.args.self.now.gates ≡ None = sym c.in_default.ensures in
    rw (c.in_ok-push.ensures.ok, c.len-place.ensures) (IsFirstPlace-push row c.args.self.now.gates absent)

pub returns-clause-net : goal.returns-clause-net
returns-clause-net c =
    let row : GateRow = record { cell = c.args.cell; pins = c.args.pins } in
    rw c.in_ok-push.ensures.ok (IsGateNet-push c.args.self.now row c.requires.net c.requires.row c.requires.room)
