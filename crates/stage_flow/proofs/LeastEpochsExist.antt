-- There are least optimal epochs. The rounds make a full flow, and some epochs cost as many DROs as it is worth; with their chains
-- behind them they are potentials that fit. So lengths of longest walks from the source exist, and the epochs by these are the least.
use Rattle.std.proofs.Common.{◌≡◌, ◌∙◌, pos, List, [], ◌∷◌, map, refl, sym, ap, arith}
use Rattle.std.proofs.lemmas.Int.{ints}
use Rattle.flow_net.specs.declared.uses.Use.{Use}
use Rattle.flow_net.specs.declared.net.Epochs.{Epochs}
use Rattle.flow_net.specs.Uses.{uses_of}
use Rattle.flow_net.specs.Network.{pin_of, network_of}
use Rattle.flow_net.specs.Epochs.{dro_count}
use Rattle.flow_net.specs.Flows.{flow_value}
use Rattle.flow_net.proofs.CallerLemmas.{network-laid}
use Rattle.stage_flow.specs.Rounds.{rounds_of}
use Rattle.stage_flow.specs.LeastEpochs.{AreLeastEpochs}
use Rattle.stage_flow.specs.LawsOfEpochs.{epochs_by}
use Rattle.stage_flow.specs.LawsOfRounds.{LeastEpochsExist}
use Rattle.stage_flow.specs.RoundEpochs.{epochs_of_nothing}
use Rattle.stage_flow.proofs.LeastLengths.{potential_of, optimal-fits, labels-least}
use Rattle.stage_flow.proofs.SourceLabelsExist.{source_labels-exist}
use Rattle.stage_flow.proofs.SolvingEpochs.{found-nothing}
use Rattle.stage_flow.proofs.RoundLabels.{rounds-are_full, fewest-exist}
use Rattle.stage_flow.proofs.RoundEpochs.{cons-some}

pub least-exist : LeastEpochsExist
least-exist net phases formed each = by (uses_of net) refl
  where
    by : (uses : List Use) → uses_of net ≡ uses
        → (epochs : Epochs) × AreLeastEpochs (network_of net phases) epochs × (pos (dro_count (network_of net phases) epochs) ≡ flow_value (network_of net phases) (rounds_of (network_of net phases)))
    by [] none =
        let whole = network_of net phases in
        let found = found-nothing whole (rounds_of whole) (ap (map (pin_of net phases)) none) in
        (epochs_of_nothing whole, found.least, sym found.value)
    by (one ∷ uses) is =
        let whole = network_of net phases in
        let flow = rounds_of whole in
        let full = rounds-are_full net phases formed each in
        let (epochs, fewest, value) = fewest-exist net phases formed each in
        let fits = optimal-fits whole flow epochs (omega arith) (network-laid net phases formed) full fewest.balanced (omega (arith, ints, value)) in
        let some = λ (none : uses_of net ≡ []). cons-some one uses (sym is ∙ none) in
        let (far, hops, labels, further) = source_labels-exist net phases flow (potential_of whole epochs) formed each some fits in
        let (least, worth) = labels-least net phases flow far hops formed each some full labels in
        (epochs_by whole far, least, worth)
