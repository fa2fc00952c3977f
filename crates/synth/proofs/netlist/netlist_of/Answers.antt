use Rattle.std.proofs.Common.{◌≡◌, ◌<◌, ◌^◌, ◌∙◌, length, sym, subst, arith}
use Rattle.phase_rule.specs.Levels.{levels_of, phases_of}
use Rattle.flow_net.specs.declared.net.Flow.{Flow}
use Rattle.dro_chains.specs.declared.chain.Chained.{Chained}
use Rattle.pulse_net.specs.declared.net.PulseNet.{PulseNet}
use Rattle.splitters.specs.Taps.{CanSplit}
use Rattle.splitters.specs.Elements.{elements_of}
use Rattle.splitters.specs.Laws.{HasNames}
use Rattle.splitters.proofs.CallerLemmas.{elements-few}
use Rattle.synth.specs.Clocking.{clocked, clock_flow, clock_epochs}
use Rattle.synth.specs.Meaning.{names_of, gates_value, Means, NeedsFewest}
use Rattle.synth.proofs.ClockChains.{least}
use Rattle.synth.proofs.NetlistMeans.{has_names, netlist_means, netlist_needs_fewest}
use Rattle.synth.proofs.netlist.netlist_of.Goals as goal

pub split-requires-clause-fits : goal.split-requires-clause-fits
split-requires-clause-fits c =
    let gates = c.args.gates in
    let n = c.args.n in
    subst (λ (chained : Chained). CanSplit chained) (sym c.in_ok-chained.ensures.value)
    (c.chains_can_be_split.ensures gates (phases_of n (levels_of gates)) n (clock_epochs n gates) c.in_ok-chained.ensures.clock c.in_ok-chained.ensures.few)

pub split-requires-clause-names : goal.split-requires-clause-names
split-requires-clause-names c =
    subst (λ (chained : Chained). HasNames chained c.in_ok-names.names) (sym c.in_ok-chained.ensures.value)
    (subst (HasNames (clocked c.args.n c.args.gates)) (sym c.in_ok-names.ensures) (has_names c.args.n c.args.design.now c.args.gates c.requires.inputs c.requires.outputs))

pub returns-clause-few : goal.returns-clause-few
returns-clause-few c =
    let gates = c.args.gates in
    let n = c.args.n in
    let can =
    subst (λ (chained : Chained). CanSplit chained) (sym c.in_ok-chained.ensures.value)
    (c.chains_can_be_split.ensures gates (phases_of n (levels_of gates)) n (clock_epochs n gates) c.in_ok-chained.ensures.clock c.in_ok-chained.ensures.few) in
    subst (λ (net : PulseNet). length net.elements < 2 ^ 32) (sym c.in_ok-net.ensures.elements) (elements-few c.in_ok-chained.field-0.chained c.in_ok-names.names can)

pub returns-clause-means : goal.returns-clause-means
returns-clause-means c =
    let gates = c.args.gates in
    let n = c.args.n in
    let design = c.args.design.now in
    let laid : c.in_ok-net.net ≡ elements_of (clocked n gates) (names_of design) =
    c.in_ok-net.ensures.elements ∙ (λ i. elements_of (c.in_ok-chained.ensures.value i) (c.in_ok-names.ensures i)) in
    subst (Means n (names_of design) (gates_value gates)) (sym laid)
    (netlist_means n design gates c.requires.inputs c.requires.outputs c.chains_are_valid.ensures c.chains_unfold.ensures c.pulses_are_gate_values.ensures c.in_ok-chained.ensures.clock)

pub returns-clause-fewest : goal.returns-clause-fewest
returns-clause-fewest c =
    let gates = c.args.gates in
    let n = c.args.n in
    let design = c.args.design.now in
    let laid : c.in_ok-net.net ≡ elements_of (clocked n gates) (names_of design) =
    c.in_ok-net.ensures.elements ∙ (λ i. elements_of (c.in_ok-chained.ensures.value i) (c.in_ok-names.ensures i)) in
    subst (λ (net : PulseNet). NeedsFewest net c.in_ok-chained.field-0.flow) (sym laid)
    (subst (NeedsFewest (elements_of (clocked n gates) (names_of design))) (sym c.in_ok-chained.ensures.flow)
    (netlist_needs_fewest n design gates c.requires.inputs c.requires.outputs c.chains_unfold.ensures c.dros_are_the_count.ensures
    (c.rounds_are_full.ensures gates (phases_of n (levels_of gates)) c.requires.net c.requires.used)
    (least n gates c.requires.some c.requires.few c.requires.net c.requires.used c.requires.few_gates (omega (arith, c.requires.outputs, c.requires.regular.outputs.few)) c.rounds_give_least_epochs.ensures)
    c.in_ok-chained.ensures.clock))
