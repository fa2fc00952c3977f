use Rattle.std.proofs.Common.{◌≡◌, ◌≤◌, [], sym, subst}
use Rattle.std.specs.Prelude.{Result, Ok, Err, IfOk}
use Rattle.gate_net.specs.Net.{EachGateIsUsed}
use Rattle.flow_net.specs.Levels.{ArePhases}
use Rattle.flow_net.specs.Uses.{uses_of}
use Rattle.flow_net.specs.Epochs.{IsBalanced, dro_count}
use Rattle.pulse_net.specs.declared.net.PulseNet.{PulseNet}
use Rattle.pulse_net.specs.declared.unfolding.Unfolded.{Unfolded}
use Rattle.pulse_net.specs.Unfolding.{unfolded}
use Rattle.pulse_net.specs.Balance.{unfolded_network}
use Rattle.pulse_net.proofs.BalancedUnfolding.{unfolded_gates_are_phased, unfolded_epochs_are_balanced, dros_are_at_least_the_count, unused_netlists_have_latency_one}
use Rattle.pulse_net.proofs.EachGateIsUsed.{each_gate_is_used}
use Rattle.pulse_net.proofs.PulsesAreGateValues.{answer-value, answer-is_gate_net, answer-pulses}
use Rattle.pulse_net.proofs.unfolding.unfold.Goals as goal

-- the netlist unfolded has it, and so has the answer
answer-has : {E : Type 0} (P : Unfolded → Type 0) (net : PulseNet) (r : Result Unfolded E) → P (unfolded net) → IfOk r (λ u. u ≡ unfolded net) → IfOk r P
answer-has P net (Ok u) h e = subst P (sym e) h
answer-has P net (Err error) h e = tt

pub returns-clause-value : goal.returns-clause-value
returns-clause-value c = answer-value c.args.net.now c.unfolded_from.result _ c.in_ok-trace.ensures c.unfolded_from.ensures

pub returns-clause-net : goal.returns-clause-net
returns-clause-net c =
    answer-is_gate_net c.args.net.now c.unfolded_from.result c.requires.valid c.requires.few_elements c.requires.few_outputs
    (answer-value c.args.net.now c.unfolded_from.result _ c.in_ok-trace.ensures c.unfolded_from.ensures)

pub returns-clause-pulses : goal.returns-clause-pulses
returns-clause-pulses c =
    answer-pulses c.args.net.now c.unfolded_from.result c.requires.valid
    (answer-value c.args.net.now c.unfolded_from.result _ c.in_ok-trace.ensures c.unfolded_from.ensures)

pub returns-clause-used : goal.returns-clause-used
returns-clause-used c =
    let net = c.args.net.now in
    answer-has (λ u. EachGateIsUsed u.gates) net c.unfolded_from.result (each_gate_is_used net c.requires.valid)
    (answer-value net c.unfolded_from.result _ c.in_ok-trace.ensures c.unfolded_from.ensures)

pub returns-clause-phased : goal.returns-clause-phased
returns-clause-phased c =
    let net = c.args.net.now in
    answer-has (λ u. ArePhases net.phases u.gates u.phases) net c.unfolded_from.result (unfolded_gates_are_phased net c.requires.valid)
    (answer-value net c.unfolded_from.result _ c.in_ok-trace.ensures c.unfolded_from.ensures)

pub returns-clause-balanced : goal.returns-clause-balanced
returns-clause-balanced c =
    let net = c.args.net.now in
    answer-has (λ u. IsBalanced (unfolded_network u) u.epochs) net c.unfolded_from.result (unfolded_epochs_are_balanced net c.requires.valid)
    (answer-value net c.unfolded_from.result _ c.in_ok-trace.ensures c.unfolded_from.ensures)

pub returns-clause-at_least : goal.returns-clause-at_least
returns-clause-at_least c =
    let net = c.args.net.now in
    answer-has (λ u. dro_count (unfolded_network u) u.epochs ≤ u.dros) net c.unfolded_from.result (dros_are_at_least_the_count net c.requires.valid)
    (answer-value net c.unfolded_from.result _ c.in_ok-trace.ensures c.unfolded_from.ensures)

pub returns-clause-unused : goal.returns-clause-unused
returns-clause-unused c =
    let net = c.args.net.now in
    answer-has (λ u. uses_of u.gates ≡ [] → u.epochs.sink ≡ 1) net c.unfolded_from.result (unused_netlists_have_latency_one net c.requires.valid)
    (answer-value net c.unfolded_from.result _ c.in_ok-trace.ensures c.unfolded_from.ensures)
