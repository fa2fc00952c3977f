-- With phases from levels the least optimal epochs give chains that mean a netlist: they are balanced, the sink's is 1 or more, and each
-- is below the number of vertices, so that every stage fits 32 bits.
use Rattle.std.proofs.Common.{◌≡◌, ◌<◌, ◌≤◌, ◌*◌, ◌+◌, ◌^◌, ℕ, suc, [], length, get_or, map, ap, arith}
use Rattle.std.proofs.lemmas.Nat.{mul-le}
use Rattle.std.proofs.lemmas.List.{get_or_past, get_or_default}
use Rattle.blif_model.specs.declared.design.TheConstants.{MAX_OUTPUTS}
use Rattle.gate_net.specs.declared.net.GateNet.{GateNet}
use Rattle.gate_net.specs.Net.{IsGateNet, EachGateIsUsed}
use Rattle.phase_rule.specs.declared.level.TheConstants.{MAX_PHASES}
use Rattle.phase_rule.specs.Levels.{levels_of, phases_of}
use Rattle.phase_rule.specs.Stages.{stage_of}
use Rattle.phase_rule.proofs.CallerLemmas.{ArePhases-levels}
use Rattle.flow_net.specs.Uses.{uses_of}
use Rattle.flow_net.specs.Network.{pin_of, HasNetwork}
use Rattle.flow_net.specs.Epochs.{epoch_at}
use Rattle.flow_net.proofs.CallerLemmas.{length-uses_of-le, used_below-le-uses}
use Rattle.stage_flow.specs.Residual.{vertex_count}
use Rattle.stage_flow.specs.RoundEpochs.{AreLeastOfRounds, RoundsGiveLeastEpochs}
use Rattle.dro_chains.specs.Chains.{CanChain}
use Rattle.synth.specs.declared.made.TheConstants.{MAX_GATES}
use Rattle.synth.specs.Clocking.{HasClock, clock_network, clock_epochs}

module _ (n : ℕ) (net : GateNet) (some : 1 ≤ n) (few : n ≤ MAX_PHASES) (formed : IsGateNet net) (used : EachGateIsUsed net) (few_gates : length net.gates ≤ MAX_GATES) (few_outputs : length net.outputs ≤ MAX_OUTPUTS) where
  -- The gates have a network.
  pub has_network : HasNetwork net (phases_of n (levels_of net))
  has_network = record {
    formed = formed;
    phased = (ArePhases-levels n net some).each;
    few_pins = omega (arith, length-uses_of-le net formed, few_gates, few_outputs);
  }

  -- A network of so few gates and outputs has few vertices.
  vertices-le : vertex_count (clock_network n net) ≤ 2 ^ 23
  vertices-le = omega (arith, used_below-le-uses (uses_of net) net.inputs, length-uses_of-le net formed, few_gates, few_outputs)

  module _ (gives : RoundsGiveLeastEpochs) where
    pub least : AreLeastOfRounds (clock_network n net) (clock_epochs n net)
    least = gives net (phases_of n (levels_of net)) formed used has_network.phased

    scaled : (epoch : ℕ) → epoch < vertex_count (clock_network n net) → n * epoch ≤ MAX_PHASES * 2 ^ 23
    scaled epoch low = mul-le n epoch MAX_PHASES (2 ^ 23) few (omega (arith, low, vertices-le))

    stage-fits : (k : ℕ) → k < length (clock_epochs n net).gates → stage_of n (get_or (clock_epochs n net).gates k 0) (get_or (phases_of n (levels_of net)) k 0) < 2 ^ 32
    stage-fits k within =
        let epochs = clock_epochs n net in
        let phases = ArePhases-levels n net some in
        let place : k < length net.gates = omega (arith, within, least.least.optimal.balanced.each) in
        let phase = phases.below k 0 (omega (arith, place, phases.each)) in
        let own : get_or epochs.gates k epochs.sink ≡ get_or epochs.gates k 0 = get_or_default epochs.gates k epochs.sink 0 within in
        let big = scaled (get_or epochs.gates k 0) (omega (arith, own, least.low (suc k))) in
        omega (arith, phase, big, few)

    latency-fits : n * (clock_epochs n net).sink < 2 ^ 32
    latency-fits =
        let epochs = clock_epochs n net in
        let here : get_or epochs.gates (length net.gates) epochs.sink ≡ epochs.sink = get_or_past epochs.gates (length net.gates) epochs.sink (omega (arith, least.least.optimal.balanced.each)) in
        let big = scaled epochs.sink (omega (arith, here, least.low (suc (length net.gates)))) in
        omega (arith, big)

    pub can_chain : CanChain net (phases_of n (levels_of net)) n (clock_epochs n net)
    can_chain = record {
      network = has_network;
      each = least.least.optimal.balanced.each;
      stages = stage-fits;
      latency = latency-fits;
    }

    -- The gates have chains, with phases from levels and the least optimal epochs.
    pub has_clock : HasClock n net
    has_clock = record {
      fits = can_chain;
      used = used;
      some_phase = some;
      few_phases = few;
      phased = ArePhases-levels n net some;
      balanced = least.least.optimal.balanced;
      latency = least.sink;
      empty = λ none. least.least.least (ap (map (pin_of net (phases_of n (levels_of net)))) none);
    }
