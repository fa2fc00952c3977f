use Rattle.std.proofs.Common.{◌≡◌, ◌∙◌, ℕ, Result, Ok, Err, sym, ap, subst}
use Rattle.std.proofs.lemmas.Result.{err_from_is_err_and}
use Rattle.net_base.specs.Answers.{Tells, Gives}
use Rattle.gate_net.specs.declared.net.GateNet.{GateNet}
use Rattle.phase_rule.specs.Levels.{levels_of, phases_of}
use Rattle.flow_net.specs.declared.net.Net.{Net}
use Rattle.flow_net.specs.Network.{network_of, HasNetwork}
use Rattle.stage_flow.specs.Rounds.{rounds_of}
use Rattle.stage_flow.specs.RoundEpochs.{least_epochs}
use Rattle.dro_chains.specs.declared.chain.ChainFault.{ChainFault}
use Rattle.dro_chains.specs.declared.chain.ChainFault.TheVariants.{TooManyDros as TooMany, NoMemory as OutOfMemory}
use Rattle.dro_chains.specs.Chains.{CanChain, chains_of, told as chain_told}
use Rattle.dro_chains.proofs.CallerLemmas.{chains_of-Ok}
use Rattle.synth.specs.declared.fault.SynthFault.{SynthFault}
use Rattle.synth.specs.declared.fault.SynthFault.TheVariants.{TooManyDros}
use Rattle.synth.specs.declared.clocking.Clocked.{Clocked}
use Rattle.synth.specs.Faults.{of_chain}
use Rattle.synth.specs.Clocking.{clocks, clock_network, clock_epochs}
use Rattle.synth.specs.Synth.{refused_as, told, chains_within}
use Rattle.synth.proofs.ClockChains.{has_network, can_chain, has_clock}
use Rattle.synth.proofs.clocking.chained.Goals as goal

pub net_of-requires : goal.net_of-requires
net_of-requires c =
    let gates = c.args.gates in
    let n = c.args.n in
    let phases : c.in_ok-phases.phases ≡ phases_of n (levels_of gates) = c.in_ok-phases.ensures.value ∙ ap (phases_of n) c.in_ok-levels.ensures.value in
    subst (HasNetwork gates) (sym phases) (has_network n gates c.requires.some c.requires.few c.requires.net c.requires.used c.requires.few_gates c.requires.few_outputs)

pub solve-requires : goal.solve-requires
solve-requires c =
    let gates = c.args.gates in
    let n = c.args.n in
    let phases : c.in_ok-phases.phases ≡ phases_of n (levels_of gates) = c.in_ok-phases.ensures.value ∙ ap (phases_of n) c.in_ok-levels.ensures.value in
    record {
      gates = gates;
      phases = c.in_ok-phases.phases;
      formed = subst (HasNetwork gates) (sym phases) (has_network n gates c.requires.some c.requires.few c.requires.net c.requires.used c.requires.few_gates c.requires.few_outputs);
      used = c.requires.used;
      is = c.in_ok-net.ensures.value;
    }

pub chains-requires : goal.chains-requires
chains-requires c =
    let gates = c.args.gates in
    let n = c.args.n in
    let phases : c.in_ok-phases.phases ≡ phases_of n (levels_of gates) = c.in_ok-phases.ensures.value ∙ ap (phases_of n) c.in_ok-levels.ensures.value in
    let net : c.in_ok-net.net ≡ clock_network n gates = c.in_ok-net.ensures.value ∙ ap (network_of gates) phases in
    let epochs : c.in_ok-solved.solved.epochs ≡ clock_epochs n gates = c.in_ok-solved.ensures.lengths ∙ ap least_epochs net in
    subst (λ ps. CanChain gates ps n c.in_ok-solved.solved.epochs) (sym phases)
    (subst (CanChain gates (phases_of n (levels_of gates)) n) (sym epochs)
    (can_chain n gates c.requires.some c.requires.few c.requires.net c.requires.used c.requires.few_gates c.requires.few_outputs c.rounds_give_least_epochs.ensures))

pub returns-clause-chains : goal.returns-clause-chains
returns-clause-chains c =
    let gates = c.args.gates in
    let n = c.args.n in
    let phases : c.in_ok-phases.phases ≡ phases_of n (levels_of gates) = c.in_ok-phases.ensures.value ∙ ap (phases_of n) c.in_ok-levels.ensures.value in
    let net : c.in_ok-net.net ≡ clock_network n gates = c.in_ok-net.ensures.value ∙ ap (network_of gates) phases in
    let epochs : c.in_ok-solved.solved.epochs ≡ clock_epochs n gates = c.in_ok-solved.ensures.lengths ∙ ap least_epochs net in
    let clock : clocks n gates ≡ Ok c.in_ok-chained.chained = (λ i. chains_of gates (sym phases i) n (sym epochs i)) ∙ c.in_ok-chained.ensures in
    ap (refused_as TooManyDros) clock

pub returns-clause-value : goal.returns-clause-value
returns-clause-value c =
    let gates = c.args.gates in
    let n = c.args.n in
    let phases : c.in_ok-phases.phases ≡ phases_of n (levels_of gates) = c.in_ok-phases.ensures.value ∙ ap (phases_of n) c.in_ok-levels.ensures.value in
    let net : c.in_ok-net.net ≡ clock_network n gates = c.in_ok-net.ensures.value ∙ ap (network_of gates) phases in
    let epochs : c.in_ok-solved.solved.epochs ≡ clock_epochs n gates = c.in_ok-solved.ensures.lengths ∙ ap least_epochs net in
    let clock : clocks n gates ≡ Ok c.in_ok-chained.chained = (λ i. chains_of gates (sym phases i) n (sym epochs i)) ∙ c.in_ok-chained.ensures in
    (chains_of-Ok gates (phases_of n (levels_of gates)) n (clock_epochs n gates) c.in_ok-chained.chained clock).0

pub returns-clause-flow : goal.returns-clause-flow
returns-clause-flow c =
    let gates = c.args.gates in
    let n = c.args.n in
    let phases : c.in_ok-phases.phases ≡ phases_of n (levels_of gates) = c.in_ok-phases.ensures.value ∙ ap (phases_of n) c.in_ok-levels.ensures.value in
    let net : c.in_ok-net.net ≡ clock_network n gates = c.in_ok-net.ensures.value ∙ ap (network_of gates) phases in
    c.in_ok-solved.ensures.flow ∙ ap rounds_of net

pub returns-clause-clock : goal.returns-clause-clock
returns-clause-clock c =
    has_clock c.args.n c.args.gates c.requires.some c.requires.few c.requires.net c.requires.used c.requires.few_gates c.requires.few_outputs c.rounds_give_least_epochs.ensures

pub returns-clause-few : goal.returns-clause-few
returns-clause-few c =
    let gates = c.args.gates in
    let n = c.args.n in
    let phases : c.in_ok-phases.phases ≡ phases_of n (levels_of gates) = c.in_ok-phases.ensures.value ∙ ap (phases_of n) c.in_ok-levels.ensures.value in
    let net : c.in_ok-net.net ≡ clock_network n gates = c.in_ok-net.ensures.value ∙ ap (network_of gates) phases in
    let epochs : c.in_ok-solved.solved.epochs ≡ clock_epochs n gates = c.in_ok-solved.ensures.lengths ∙ ap least_epochs net in
    let clock : clocks n gates ≡ Ok c.in_ok-chained.chained = (λ i. chains_of gates (sym phases i) n (sym epochs i)) ∙ c.in_ok-chained.ensures in
    (chains_of-Ok gates (phases_of n (levels_of gates)) n (clock_epochs n gates) c.in_ok-chained.chained clock).1

-- too many DROs are told with their count; want of memory tells nothing
told-chains : (n : ℕ) (gates : GateNet) (fault : ChainFault) → Tells (chain_told fault) (clocks n gates) → Gives {X = Clocked} (λ clock. Ok clock.chained) told (Err (of_chain fault)) (chains_within n gates)
told-chains n gates (TooMany count) is = ap (refused_as TooManyDros) is
told-chains n gates OutOfMemory is = tt

pub returns-in_err-chained-clause-chains : goal.returns-in_err-chained-clause-chains
returns-in_err-chained-clause-chains c =
    let gates = c.args.gates in
    let n = c.args.n in
    let phases : c.in_ok-phases.phases ≡ phases_of n (levels_of gates) = c.in_ok-phases.ensures.value ∙ ap (phases_of n) c.in_ok-levels.ensures.value in
    let net : c.in_ok-net.net ≡ clock_network n gates = c.in_ok-net.ensures.value ∙ ap (network_of gates) phases in
    let epochs : c.in_ok-solved.solved.epochs ≡ clock_epochs n gates = c.in_ok-solved.ensures.lengths ∙ ap least_epochs net in
    let fault = c.in_err-chained.field-0.0 in
    let exit = err_from_is_err_and c.from_residual-in_err-chained.result c.from_residual-in_err-chained.ensures.1 in
    let same : chains_of gates c.in_ok-phases.phases n c.in_ok-solved.solved.epochs ≡ clocks n gates = λ i. chains_of gates (phases i) n (epochs i) in
    let tells : Tells (chain_told fault) (clocks n gates) = subst (Tells (chain_told fault)) same c.in_err-chained.ensures in
    subst (λ (r : Result Clocked SynthFault). Gives (λ clock. Ok clock.chained) told r (chains_within n gates)) (sym (exit.1 ∙ ap (λ f. Err f) exit.2)) (told-chains n gates fault tells)
