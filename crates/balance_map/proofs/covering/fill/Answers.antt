use Rattle.std.proofs.Common.{◌≡◌, ◌∙◌, List, length, All, sym, ap, subst}
use Rattle.net_base.specs.declared.graph.Ref.{Ref}
use Rattle.gate_net.specs.declared.row.Driver.{Driver}
use Rattle.gate_net.specs.declared.net.GateNet.{GateNet}
use Rattle.gate_net.specs.Net.{IsEndThere}
use Rattle.balance_map.specs.Cover.{Driven, end_of}
use Rattle.balance_map.proofs.CoverLaws.{outputs-there}
use Rattle.balance_map.proofs.covering.fill.Goals as goal

pub push_outputs-requires-clause-there : goal.push_outputs-requires-clause-there
push_outputs-requires-clause-there c =
    let subject = c.args.s.now in
    let net = c.cover_nodes.new.net in
    let inputs : net.inputs ≡ subject.graph.inputs = ap (λ (n : GateNet). n.inputs) c.in_ok-drivers.ensures.rest ∙ ap (λ (n : GateNet). n.inputs) c.requires.net in
    subst (λ (refs : List Ref). All (λ ref. IsEndThere net.inputs (length net.gates) (end_of c.as_slice.result.now ref)) refs) (sym c.as_slice-2.ensures)
    (subst (λ (ds : List Driver). All (λ ref. IsEndThere net.inputs (length net.gates) (end_of ds ref)) subject.outputs) (sym c.as_slice.ensures.value)
    (subst (λ n. All (λ ref. IsEndThere n (length net.gates) (end_of c.in_ok-drivers.drivers.items ref)) subject.outputs) (sym inputs)
    (subst (λ (so : Driven (List Driver)). All (λ ref. IsEndThere subject.graph.inputs (length so.gates) (end_of so.by ref)) subject.outputs) (sym c.in_ok-drivers.ensures.gates)
    (outputs-there subject c.requires.subject.graph c.requires.subject.outputs))))
