-- The netlist of chains unfolds to the gates that the chains were made for, with their phases, epochs and DROs.
use Rattle.std.proofs.Common.{◌≡◌, ◌<◌, ℕ, zero, suc, ◌+◌, List, [], ◌∷◌, length, get_or, map, replicate, All, refl, ap, subst, ◌∙◌, arith}
use Rattle.std.proofs.lemmas.List.{length-replicate}
use Rattle.std.specs.Prelude.{flat_map, slice_index}
use Rattle.gate_net.specs.declared.row.Driver.{Driver}
use Rattle.gate_net.specs.declared.row.Driver.TheVariants.{Input}
use Rattle.gate_net.specs.declared.row.End.{End}
use Rattle.gate_net.specs.declared.row.End.TheVariants.{Zero, One, From}
use Rattle.gate_net.specs.Net.{IsGateNet, EachGateIsUsed, pin_drivers, end_drivers}
use Rattle.gate_net.proofs.CallerLemmas.{pin_drivers-there}
use Rattle.phase_rule.specs.Levels.{phases_of}
use Rattle.pulse_net.specs.Wires.{Wires}
use Rattle.pulse_net.specs.Unfolding.{Unfolding, end_of, epochs_of, nothing_unfolded, unfold_inputs, unfolding_of}
use Rattle.pulse_net.proofs.CallerLemmas.{unfolds_its_dros, carried-found}
use Rattle.flow_net.specs.Network.{network_of}
use Rattle.flow_net.specs.Epochs.{dro_count}
use Rattle.dro_chains.specs.declared.chain.Chained.{Chained}
use Rattle.dro_chains.specs.Chains.{chained_of, stages_of}
use Rattle.dro_chains.proofs.CallerLemmas.{length-stages, phases-back, epochs-back}
use Rattle.splitters.specs.Elements.{with_inputs, gate_pins, outlets, wire_count, inputs_of, empty_layout, layout_of, elements_of}
use Rattle.splitters.specs.Laws.{ChainsUnfold}
use Rattle.splitters.proofs.valid.Pins.{AreStaged}
use Rattle.splitters.proofs.valid.Chains.{by_driver}
use Rattle.splitters.proofs.valid.Gates.{AreReached, before_gate, AreGatesFrom, tap_count-gate}
use Rattle.splitters.proofs.valid.Inputs.{length-input_wires, before_input}
use Rattle.splitters.proofs.valid.Whole.{gates-all, ends-reached, MarksAgree-first, AreStaged-none, before_input-none}
use Rattle.splitters.proofs.dros.Count.{dros_are_the_count}
use Rattle.splitters.proofs.unfolds.Wires.{AreKept-same}
use Rattle.splitters.proofs.unfolds.Chains.{its_driver, Drives, Drives-agree}
use Rattle.splitters.proofs.unfolds.Gates.{Adds, stages_from, Adds-gates}
use Rattle.splitters.proofs.unfolds.Inputs.{AreMade, AreMade-inputs, Drives-inputs}

-- what is known behind the inputs
abbrev after_inputs : Chained → Unfolding
after_inputs chained = unfold_inputs 0 (inputs_of chained) nothing_unfolded

-- each used input has its wire, and no other wire is made
made-inputs : (chained : Chained) → AreMade nothing_unfolded (after_inputs chained) (wire_count (inputs_of chained)) 0 (inputs_of chained)
made-inputs chained =
    let e : 0 + wire_count (inputs_of chained) ≡ wire_count (inputs_of chained) = omega arith in
    subst (λ n. AreMade nothing_unfolded (after_inputs chained) n 0 (inputs_of chained)) e (AreMade-inputs chained 0 0 chained.gates.inputs nothing_unfolded (λ wire high. refl))

-- nothing is laid out yet
Drives-empty : (chained : Chained) → Drives (after_inputs chained) chained.needs 0 (pin_drivers chained.gates) (by_driver (before_input 0)) (empty_layout chained)
Drives-empty chained =
    let taken : List ℕ = replicate (length (pin_drivers chained.gates)) 0 in
    let many : length taken ≡ length (pin_drivers chained.gates) = length-replicate {A = ℕ} (length (pin_drivers chained.gates)) 0 in
    record {
      fresh = (made-inputs chained).fresh;
      driven = AreStaged-none (after_inputs chained).wires its_driver (by_driver (before_input 0)) chained.needs taken 0 (pin_drivers chained.gates) (λ driver need. before_input-none driver);
      room = omega (arith, many);
    }

-- Behind the last gate the rows are the gates, in order, and each pin of an output takes a wire of its driver.
Adds-layout : (chained : Chained) → IsGateNet chained.gates → EachGateIsUsed chained.gates →
    Adds chained (after_inputs chained) (gate_pins chained.gates.gates) (flat_map end_drivers chained.gates.outputs) (length chained.gates.gates) chained.gates.gates
    (stages_from chained.stages 0 (length chained.gates.gates)) (layout_of chained)
Adds-layout chained formed used =
    let inputs = chained.gates.inputs in
    let rows = chained.gates.gates in
    let outs = flat_map end_drivers chained.gates.outputs in
    let all = pin_drivers chained.gates in
    let start = after_inputs chained in
    let stages = stages_from chained.stages 0 (length rows) in
    let first = made-inputs chained in
    let gates : AreGatesFrom inputs 0 rows = gates-all inputs rows formed.gates in
    let laid = Drives-inputs chained start 0 0 inputs (empty_layout chained) first.made (AreKept-same start) (Drives-empty chained) in
    let layout = with_inputs chained 0 (inputs_of chained) (empty_layout chained) in
    let begun : Adds chained start 0 all 0 [] [] layout = record {
      drives = Drives-agree start chained.needs 0 all (by_driver (before_input (0 + inputs))) (by_driver (before_gate 0)) layout (MarksAgree-first inputs (length rows) chained.needs 0 all (pin_drivers-there chained.gates formed)) laid.drives;
      gates = laid.kept.gates ∙ first.kept.gates;
      stages = laid.kept.stages ∙ first.kept.stages;
    } in
    let done = Adds-gates chained start [] outs 0 0 rows layout [] [] refl refl refl gates (λ later low. tt)
    (λ k low high. tap_count-gate chained k (used k (omega arith))) begun in
    let p : 0 + gate_pins rows ≡ gate_pins rows = omega arith in
    let g : 0 + length rows ≡ length rows = omega arith in
    subst (λ k. Adds chained start (gate_pins rows) outs k rows stages (layout_of chained)) g
    (subst (λ k. Adds chained start k outs (0 + length rows) rows stages (layout_of chained)) p done)

-- an outlet gives what its output gives
outlets-ends : (made : Wires Driver) (needs taken : List ℕ) (gates pin : ℕ) (ends : List End) → AreReached (before_gate gates) (flat_map end_drivers ends) →
    AreStaged made its_driver (by_driver (before_gate gates)) needs taken pin (flat_map end_drivers ends) → map (end_of made) (outlets taken pin ends) ≡ ends
outlets-ends made needs taken gates pin [] all h = refl
outlets-ends made needs taken gates pin (Zero ∷ ends) all h = ap (λ (es : List End). Zero ∷ es) (outlets-ends made needs taken gates pin ends all h)
outlets-ends made needs taken gates pin (One ∷ ends) all h = ap (λ (es : List End). One ∷ es) (outlets-ends made needs taken gates pin ends all h)
outlets-ends made needs taken gates pin (From driver ∷ ends) all h =
    (λ i. From (carried-found (Input 0) made (get_or taken pin 0) driver (h.0 all.0) i) ∷ outlets-ends made needs taken gates (pin + 1) ends all.1 h.1 i)

-- ---- stages

stages_from-later : (stages : List ℕ) (stage gate more : ℕ) → stages_from (stage ∷ stages) (gate + 1) more ≡ stages_from stages gate more
stages_from-later stages stage gate zero = refl
stages_from-later stages stage gate (suc more) =
    let e : gate + 1 ≡ suc gate = omega arith in
    (λ i. slice_index (stage ∷ stages) (e i) ∷ stages_from-later stages stage (gate + 1) more i)

stages_from-all : (stages : List ℕ) → stages_from stages 0 (length stages) ≡ stages
stages_from-all [] = refl
stages_from-all (stage ∷ stages) = ap (λ (ss : List ℕ). stage ∷ ss) (stages_from-later stages stage 0 (length stages) ∙ stages_from-all stages)

-- The netlist of chains unfolds to what the chains were made for, where these mean a netlist.
pub chains_unfold : ChainsUnfold
chains_unfold net phases n epochs names has =
    let chained = chained_of net phases n epochs in
    let formed = has.fits.network.formed in
    let each : length epochs.gates ≡ length phases = let a = has.fits.each in let b = has.fits.network.phased in omega (arith, a, b) in
    let low : All (λ phase. phase < n) phases = has.phased.below in
    let built = Adds-layout chained formed has.used in
    let layout = layout_of chained in
    let start = after_inputs chained in
    let so = unfolding_of (elements_of chained names) in
    let many : length net.gates ≡ length chained.stages = let a = length-stages n epochs.gates phases each in let b = has.fits.each in omega (arith, a, b) in
    let stages : so.stages ≡ stages_of n epochs.gates phases = built.stages ∙ ap (stages_from chained.stages 0) many ∙ stages_from-all chained.stages in
    let inputs = length-input_wires chained 0 0 net.inputs in
    let outputs : map (end_of so.wires) (outlets layout.taken (gate_pins net.gates) net.outputs) ≡ net.outputs =
    outlets-ends so.wires chained.needs layout.taken (length net.gates) (gate_pins net.gates) net.outputs (ends-reached net.inputs (length net.gates) net.outputs formed.outputs) built.drives.driven in
    let its_phases : phases_of n so.stages ≡ phases = ap (phases_of n) stages ∙ phases-back n epochs.gates phases each low in
    let its_epochs : epochs_of n so.stages ≡ epochs.gates = ap (epochs_of n) stages ∙ epochs-back n epochs.gates phases each low in
    let count = (dros_are_the_count net phases n epochs names has).1 in
    let its_dros : length so.dros ≡ dro_count (network_of net phases) epochs = unfolds_its_dros (elements_of chained names) ∙ count in
    λ i. record {
      gates = record { inputs = inputs i; gates = built.gates i; outputs = outputs i };
      phases = its_phases i;
      epochs = record { gates = its_epochs i; sink = epochs.sink };
      dros = its_dros i;
    }
