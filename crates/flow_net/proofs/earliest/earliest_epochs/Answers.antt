use Rattle.std.proofs.Common.{◌≡◌, ◌/◌, ◌∙◌, map, ap, arith}
use Rattle.std.specs.List.{flat_map}
use Rattle.gate_net.specs.Net.{end_drivers}
use Rattle.gate_net.specs.Entries.{entry_of}
use Rattle.phase_rule.specs.Levels.{largest}
use Rattle.flow_net.specs.Epochs.{earliest_gates}
use Rattle.flow_net.proofs.NetworkLemmas.{earliest_sink-le}
use Rattle.flow_net.proofs.earliest.earliest_epochs.Goals as goal

pub overflow_add-sink : goal.overflow_add-sink
overflow_add-sink c =
    let net = c.args.net.now in
    let n = c.args.n in
    let gates : c.as_slice-2.result.now ≡ earliest_gates n net =
    c.as_slice-2.ensures ∙ c.in_ok-gates.ensures ∙ ap (map (λ level. level / n)) (c.as_slice.ensures ∙ c.requires.levels) in
    let last : c.last_epoch-sink.result ≡ largest (map (entry_of (earliest_gates n net)) (flat_map end_drivers net.outputs)) =
    c.last_epoch-sink.ensures ∙ (λ i. largest (map (entry_of (gates i)) (flat_map end_drivers (c.as_slice-3.ensures i)))) in
    omega (arith, last, earliest_sink-le n net, c.requires.formed.few_gates)
