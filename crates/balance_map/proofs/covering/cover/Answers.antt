use Rattle.std.proofs.Common.{◌≡◌, List, Bool, map, sym, subst}
use Rattle.net_base.specs.NodeValues.{ref_value}
use Rattle.gate_net.specs.declared.net.GateNet.{GateNet}
use Rattle.gate_net.specs.Net.{IsGateNet, EachGateIsUsed}
use Rattle.gate_net.specs.Values.{end_value}
use Rattle.balance_map.proofs.CoverLaws.{few-gates, gates_of-net, gates_of-used, gates_of-values}
use Rattle.balance_map.proofs.covering.cover.Goals as goal

pub returns-clause-net : goal.returns-clause-net
returns-clause-net c =
    let subject = c.args.s.now in
    let proper = c.requires.subject.graph in
    subst IsGateNet (sym c.in_ok-fill.ensures.ok) (gates_of-net subject proper c.requires.subject.outputs c.requires.few (few-gates subject proper))

pub returns-clause-used : goal.returns-clause-used
returns-clause-used c = subst EachGateIsUsed (sym c.in_ok-fill.ensures.ok) (gates_of-used c.args.s.now c.requires.subject.graph)

pub returns-clause-value : goal.returns-clause-value
returns-clause-value c =
    let subject = c.args.s.now in
    subst (λ (net : GateNet). (row : List Bool) → map (end_value net row) net.outputs ≡ map (ref_value subject.graph row) subject.outputs) (sym c.in_ok-fill.ensures.ok)
    (gates_of-values subject c.requires.subject.graph c.requires.subject.outputs)
