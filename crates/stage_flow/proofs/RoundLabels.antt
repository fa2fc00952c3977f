-- There are labels for the sender of each round. Before the first round the vertices' own numbers are potentials that fit. Where a vertex
-- has to send a mirror wants, so there are labels, and the round goes by them: after it their negations fit.
use Rattle.std.proofs.Common.{◌≡◌, ◌≤◌, ◌+◌, ◌*◌, inl, ℕ, ℤ, zero, suc, pos, List, [], ◌∷◌, length, get_or, All, Option, Some, None, refl, sym, ap, subst, arith, ⊎_elim}
use Rattle.std.proofs.lemmas.Bool.{cases_lt}
use Rattle.std.proofs.lemmas.Int.{ints}
use Rattle.gate_net.specs.declared.net.GateNet.{GateNet}
use Rattle.gate_net.specs.Net.{IsGateNet, EachGateIsUsed}
use Rattle.flow_net.specs.declared.net.Pin.{Pin}
use Rattle.flow_net.specs.declared.net.Net.{Net}
use Rattle.flow_net.specs.declared.net.Flow.{Flow}
use Rattle.flow_net.specs.declared.net.Epochs.{Epochs}
use Rattle.flow_net.specs.Network.{network_of}
use Rattle.flow_net.specs.Arcs.{forward_arc, back_arc, arcs_of}
use Rattle.flow_net.specs.Flows.{flow_value}
use Rattle.flow_net.specs.Epochs.{dro_count, HasFewestDros}
use Rattle.flow_net.proofs.CallerLemmas.{weights-few, All-arcs_from}
use Rattle.stage_flow.specs.Residual.{ways_of}
use Rattle.stage_flow.specs.Rounds.{no_units, sender, receiver, path_of, sent_along, after_round, flow_after, rounds_of}
use Rattle.stage_flow.specs.LawsOfWalks.{AreLabelsFor, FitsWay, potential_by}
use Rattle.stage_flow.specs.LawsOfSending.{IsPartFlow, SomeMirrorWants}
use Rattle.stage_flow.specs.LawsOfRounds.{LabelsExistInRounds, RoundsHaveLabels, RoundsAreFull, FewestDrosExist}
use Rattle.stage_flow.specs.LawsOfEpochs.{epochs_by}
use Rattle.stage_flow.specs.RoundEpochs.{epochs_of_nothing}
use Rattle.stage_flow.specs.UnderWay.{first_potential}
use Rattle.stage_flow.proofs.Linked.{IsUpward, IsLinked, networks-linked}
use Rattle.stage_flow.proofs.NetworkEnds.{network-ends}
use Rattle.stage_flow.proofs.Counting.{below-left, below-ones}
use Rattle.stage_flow.proofs.Wants.{sender-low}
use Rattle.stage_flow.proofs.Sent.{nothing_on, no_units-part, sent-part}
use Rattle.stage_flow.proofs.AllRounds.{all_received, received_by, received-le, some-wants, all-full}
use Rattle.stage_flow.proofs.StillToSend.{sender-sends}
use Rattle.stage_flow.proofs.ResidualArcs.{IsMet, ways-met}
use Rattle.stage_flow.proofs.Labels.{labels-for}
use Rattle.stage_flow.proofs.Round.{ways-low, rounds_go_by_labels}
use Rattle.stage_flow.proofs.ReceiverFound.{some-of, receiver-found, receiver-wants}
use Rattle.stage_flow.proofs.LabelledRounds.{round-moves, labelled_rounds-full, labelled_rounds-fewest}
use Rattle.stage_flow.proofs.LabelsExist.{receiver_far, receiver_hops, receiver-labels}
use Rattle.stage_flow.proofs.SolvingEpochs.{found-nothing}

-- While a vertex has to send, a mirror wants.
pub sender-wanted : (net : Net) (flow : Flow) (from : ℕ) → IsLinked net → IsPartFlow net flow → sender net flow ≡ Some from → SomeMirrorWants net flow
sender-wanted net flow from linked part sends =
    let most = below-left (received_by net flow) (λ driver. 1) net.drivers (received-le net flow linked.few linked.pins part) in
    let short = (sender-low net flow from (sender-sends net flow from sends)).1 in
    ⊎_elim {C = SomeMirrorWants net flow} (λ less. some-wants net flow linked.few linked.pins part less)
    (λ all.
    let full = all-full net flow linked.few linked.pins part (omega (arith, all, most, below-ones net.drivers)) in
    let own = full.wanted from in
    absurd (omega (arith, ints, own, short)))
    (cases_lt (all_received net flow) net.drivers)

-- The vertices' own numbers fit no units.
first-fits : (net : Net) → All (IsUpward net) net.pins → All (λ pin. pin.weight ≤ 1) net.pins → All (FitsWay (first_potential net)) (ways_of net (no_units net))
first-fits net upward light =
    ways-met (no_units net) (first_potential net) (arcs_of net)
    (All-arcs_from (IsMet (no_units net) (first_potential net)) net 0 net.pins (λ k d within at. met (get_or net.pins k d) at (upward k d within) (light k d within)))
  where
    met : (pin : Pin) (at : ℕ) → IsUpward net pin → pin.weight ≤ 1 → IsMet (no_units net) (first_potential net) (forward_arc at pin) × IsMet (no_units net) (first_potential net) (back_arc net at pin)
    met pin at up short = (
      record { rises = omega (arith, ints, up.upward, up.laid.ends); tight = inl (nothing_on (length net.pins) (2 * at)) },
      record { rises = omega (arith, ints, up.laid.ends); tight = inl (nothing_on (length net.pins) (2 * at + 1)) },
    )

unsent : (net : Net) (flow : Flow) → sender net flow ≡ None → after_round net flow ≡ flow
unfolding after_round
unsent net flow none = ap (λ o. sent_along (path_of net flow o) flow) none

module _ (net : GateNet) (phases : List ℕ) (formed : IsGateNet net) (each : EachGateIsUsed net) where
  abbrev whole : Net
  whole = network_of net phases

  -- what every flow of the rounds keeps: it is a part of a full flow, and some potentials fit it
  record IsKept (flow : Flow) : Type 0 where
    part : IsPartFlow whole flow
    potential : ℕ → ℤ
    fits : All (FitsWay potential) (ways_of whole flow)

  kept-labels : (flow : Flow) (from : ℕ) → IsKept flow → sender whole flow ≡ Some from → AreLabelsFor whole flow (receiver_far whole flow) (receiver_hops whole flow) from
  kept-labels flow from kept sends =
      let wants = sender-wanted whole flow from (networks-linked net phases formed each) kept.part sends in
      let low = sender-low whole flow from (sender-sends whole flow from sends) in
      labels-for whole flow (receiver_far whole flow) (receiver_hops whole flow)
      (receiver-labels net phases flow kept.potential formed each kept.part wants kept.fits)
      (ways-low whole flow (network-ends net phases formed)) from (omega (arith, low.0))

  kept-next : (flow : Flow) → IsKept flow → IsKept (after_round whole flow)
  kept-next flow kept = by (sender whole flow) refl
    where
      by : (found : Option ℕ) → sender whole flow ≡ found → IsKept (after_round whole flow)
      by None none = subst IsKept (sym (unsent whole flow none)) kept
      by (Some from) sends =
          let linked = networks-linked net phases formed each in
          let labels = kept-labels flow from kept sends in
          let low = sender-low whole flow from (sender-sends whole flow from sends) in
          let (found, receives) = some-of (receiver whole flow from) (receiver-found whole flow from linked kept.part (sender-wanted whole flow from linked kept.part sends) (omega (arith, low.0))) in
          let round = rounds_go_by_labels whole flow (receiver_far whole flow) (receiver_hops whole flow) from (network-ends net phases formed) (record { each = kept.part.each }) labels sends in
          record {
            part =
                sent-part whole flow (after_round whole flow) kept.part (record {
                  sender = from;
                  receiver = found.vertex;
                  sends = sender-sends whole flow from sends;
                  receives = (receiver-wants whole flow from found receives).0;
                  moves = round-moves whole flow (receiver_far whole flow) (receiver_hops whole flow) from found linked kept.part labels sends receives;
                });
            potential = potential_by (receiver_far whole flow);
            fits = round.1.fits;
          }

  kept : (rounds : ℕ) → IsKept (flow_after whole rounds)
  kept zero = record {
    part = no_units-part whole;
    potential = first_potential whole;
    fits = first-fits whole (networks-linked net phases formed each).pins (weights-few net phases);
  }
  kept (suc rounds) = kept-next (flow_after whole rounds) (kept rounds)

pub labels-exist_in_rounds : LabelsExistInRounds
labels-exist_in_rounds net phases rounds formed each some =
    let whole = network_of net phases in
    let flow = flow_after whole rounds in
    let before = kept net phases formed each rounds in
    (receiver_far whole flow, receiver_hops whole flow, receiver-labels net phases flow before.potential formed each before.part some before.fits)

pub rounds-labels : RoundsHaveLabels
rounds-labels net phases formed each =
    let whole = network_of net phases in (
      (λ rounds. receiver_far whole (flow_after whole rounds)),
      (λ rounds. receiver_hops whole (flow_after whole rounds)),
      (λ rounds from part sends. kept-labels net phases formed each (flow_after whole rounds) from (kept net phases formed each rounds) sends),
    )

pub rounds-are_full : RoundsAreFull
rounds-are_full net phases formed each =
    let (far, hops, labels) = rounds-labels net phases formed each in
    (labelled_rounds-full net phases far hops formed each labels).0

-- Each pin has a driver, so without drivers there is no pin.
no-pins : (net : Net) (pins : List Pin) → All (IsUpward net) pins → net.drivers ≡ 0 → pins ≡ []
no-pins net [] upward none = refl
no-pins net (pin ∷ pins) upward none = let own = (upward 0 pin (omega arith)).laid.numbered in absurd (omega (arith, none, own))

pub fewest-exist : FewestDrosExist
fewest-exist net phases formed each = by (network_of net phases).drivers refl
  where
    by : (drivers : ℕ) → (network_of net phases).drivers ≡ drivers
        → (epochs : Epochs) × HasFewestDros (network_of net phases) epochs × (pos (dro_count (network_of net phases) epochs) ≡ flow_value (network_of net phases) (rounds_of (network_of net phases)))
    by zero none =
        let whole = network_of net phases in
        let found = found-nothing whole (rounds_of whole) (no-pins whole whole.pins (networks-linked net phases formed each).pins none) in
        (epochs_of_nothing whole, found.least.optimal, sym found.value)
    by (suc last) is =
        let whole = network_of net phases in
        let (far, hops, labels) = rounds-labels net phases formed each in
        let (fewest, value) = labelled_rounds-fewest net phases far hops last formed each labels (sym is) in
        (epochs_by whole (potential_by (far last)), fewest, value)
