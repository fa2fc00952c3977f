-- What a netlist of gates means, put together from the laws of the layers.
use Rattle.std.proofs.Common.{◌≡◌, ℕ, pos, length, refl, sym, ap, subst, ◌∙◌}
use Rattle.std.specs.Prelude.{slice_index_or}
use Rattle.std.proofs.lemmas.List.{length-map}
use Rattle.blif_model.specs.declared.design.Design.{Design}
use Rattle.blif_model.specs.Order.{name_of}
use Rattle.gate_net.specs.declared.row.End.TheVariants.{Zero}
use Rattle.gate_net.specs.declared.net.GateNet.{GateNet}
use Rattle.gate_net.specs.Values.{end_value}
use Rattle.phase_rule.specs.Levels.{levels_of, phases_of}
use Rattle.flow_net.specs.declared.net.Net.{Net}
use Rattle.flow_net.specs.Network.{network_of}
use Rattle.flow_net.specs.Flows.{IsFullFlow, flow_value}
use Rattle.flow_net.specs.Epochs.{dro_count, HasFewestDros}
use Rattle.flow_net.specs.declared.net.Epochs.{Epochs}
use Rattle.stage_flow.specs.RoundEpochs.{AreLeastOfRounds}
use Rattle.pulse_net.specs.declared.unfolding.Unfolded.{Unfolded}
use Rattle.pulse_net.specs.Laws.{row_of}
use Rattle.pulse_net.specs.Unfolding.{unfolded}
use Rattle.pulse_net.specs.GatePulses.{UnfoldedPulses}
use Rattle.splitters.specs.Elements.{elements_of}
use Rattle.splitters.specs.Laws.{ChainsAreValid, ChainsUnfold, DrosAreTheCount, HasNames}
use Rattle.synth.specs.Clocking.{clocked, clock_network, clock_flow, clock_epochs, HasClock}
use Rattle.synth.specs.Meaning.{names_of, gates_value, Means, unfolded_network, NeedsFewest}

module _ (n : ℕ) (design : Design) (gates : GateNet) (inputs : gates.inputs ≡ length design.inputs) (outputs : length gates.outputs ≡ length design.outputs) where
  -- the design has a name for each input and each output
  pub has_names : HasNames (clocked n gates) (names_of design)
  has_names = record {
    inputs = length-map design.inputs (name_of design) ∙ sym inputs;
    outputs = length-map design.outputs (name_of design) ∙ sym outputs;
  }

  -- The netlist is valid and unfolds to the gates; so what is read at an output is the gates' value there.
  pub netlist_means : ChainsAreValid → ChainsUnfold → UnfoldedPulses → HasClock n gates → Means n (names_of design) (gates_value gates) (elements_of (clocked n gates) (names_of design))
  netlist_means are_valid unfolds pulse has =
      let phases = phases_of n (levels_of gates) in
      let epochs = clock_epochs n gates in
      let net = elements_of (clocked n gates) (names_of design) in
      let valid = are_valid gates phases n epochs (names_of design) has has_names in
      let back : (unfolded net).gates ≡ gates = ap (λ (u : Unfolded). u.gates) (unfolds gates phases n epochs (names_of design) has) in
      let law = pulse net valid in
      record {
        valid = valid;
        phases = refl;
        names = refl;
        values = λ rows c output row_there output_there.
            law.outputs rows output c row_there
            ∙ ap (λ (g : GateNet). end_value g (row_of rows c) (slice_index_or g.outputs output Zero)) back;
      }

  -- It unfolds to the gates at their phases and the least optimal epochs, so it needs the fewest DROs, and the flow of the rounds shows it.
  pub netlist_needs_fewest : ChainsUnfold → DrosAreTheCount → IsFullFlow (clock_network n gates) (clock_flow n gates) → AreLeastOfRounds (clock_network n gates) (clock_epochs n gates) → HasClock n gates →
      NeedsFewest (elements_of (clocked n gates) (names_of design)) (clock_flow n gates)
  netlist_needs_fewest unfolds counts full least has =
      let phases = phases_of n (levels_of gates) in
      let epochs = clock_epochs n gates in
      let net = elements_of (clocked n gates) (names_of design) in
      let whole = clock_network n gates in
      let back = unfolds gates phases n epochs (names_of design) has in
      let network : unfolded_network net ≡ whole = ap (λ (u : Unfolded). network_of u.gates u.phases) back in
      let own : (unfolded net).epochs ≡ epochs = ap (λ (u : Unfolded). u.epochs) back in
      let count = (counts gates phases n epochs (names_of design) has).1 in
      record {
        fewest = subst (λ (m : Net). HasFewestDros m (unfolded net).epochs) (sym network) (subst (HasFewestDros whole) (sym own) least.least.optimal);
        count = count ∙ (λ i. dro_count (sym network i) (sym own i));
        full = subst (λ (m : Net). IsFullFlow m (clock_flow n gates)) (sym network) full;
        worth = ap (λ (m : Net). flow_value m (clock_flow n gates)) network ∙ sym least.worth ∙ ap pos (sym count);
      }
