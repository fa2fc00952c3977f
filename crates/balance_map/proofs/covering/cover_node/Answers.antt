use Rattle.std.proofs.Common.{◌≡◌, ◌∙◌, List, map, ap}
use Rattle.std.specs.Prelude.{slice_set}
use Rattle.cut_word.specs.Word.{leaves_in}
use Rattle.gate_net.specs.declared.row.Driver.{Driver}
use Rattle.gate_net.specs.declared.row.GateRow.{GateRow}
use Rattle.gate_net.specs.declared.net.GateNet.{GateNet}
use Rattle.balance_map.specs.Cover.{Driven, walked}
use Rattle.balance_map.proofs.NodeGates.{driver_at}
use Rattle.balance_map.proofs.covering.cover_node.Goals as goal

pub returns-clause-ok : goal.returns-clause-ok
returns-clause-ok c =
    let choice = c.args.choice.now in
    let gates : List GateRow = c.args.net.now.gates in
    let made : List GateRow → Driver → Driven (List Driver) = λ rows driver. record { gates = rows; by = slice_set c.args.drivers.now c.args.node driver } in
    let walk : List Driver → Driven Driver = λ leaves. walked leaves choice.depth gates choice.table in
    let leaves : c.as_slice.result.now ≡ map (driver_at c.args.drivers.now) (leaves_in choice.leaves) =
    c.as_slice.ensures.value ∙ c.in_ok-leaves.ensures ∙ ap (map (driver_at c.args.drivers.now)) c.chosen_cut-cut.ensures.leaves in
    ap (λ rows. made rows c.in_ok-drivers.field-0) (ap (λ (n : GateNet). n.gates) c.in_ok-drivers.ensures.ok)
    ∙ ap (made (walk c.as_slice.result.now).gates) c.in_ok-drivers.ensures.by
    ∙ ap (λ ls. made (walk ls).gates (walk ls).by) leaves
