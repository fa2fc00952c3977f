-- All rounds, given labels for each: the unit of a round goes from its sender to its receiver, so the rounds make a full flow.
use Rattle.std.proofs.Common.{◌≡◌, ◌≢◌, ◌<◌, ◌∙◌, ℕ, ℤ, suc, List, [], length, map, Some, All, refl, sym, ap, subst, arith}
use Rattle.gate_net.specs.declared.net.GateNet.{GateNet}
use Rattle.gate_net.specs.Net.{IsGateNet, EachGateIsUsed}
use Rattle.flow_net.specs.declared.net.Net.{Net}
use Rattle.flow_net.specs.declared.net.Flow.{Flow}
use Rattle.flow_net.specs.Network.{pin_of, network_of}
use Rattle.flow_net.specs.Uses.{uses_of}
use Rattle.stage_flow.specs.Residual.{ways_of}
use Rattle.stage_flow.specs.Rounds.{Reached, sender, receiver, flow_after, after_round, rounds_of}
use Rattle.stage_flow.specs.LawsOfWalks.{AreLabelsFor, FitsWay, potential_by, IsLeastServed, HasUnits, EndsAreVertices, label}
use Rattle.stage_flow.specs.LawsOfSending.{IsPartFlow, MovesAUnit}
use Rattle.stage_flow.specs.LawsOfRounds.{AreRoundLabels, LabelledRoundsMakeAFullFlow, LabelledRoundsHaveFewestDros}
use Rattle.stage_flow.specs.LawsOfEpochs.{epochs_by}
use Rattle.stage_flow.proofs.LeastLengths.{fitting-optimal}
use Rattle.stage_flow.proofs.Supply.{supplied-rise}
use Rattle.stage_flow.proofs.Linked.{IsLinked, networks-linked}
use Rattle.stage_flow.proofs.Counting.{arcs-among}
use Rattle.stage_flow.proofs.Wants.{wanting-mirror, sender-low}
use Rattle.stage_flow.proofs.Sent.{moved-a_unit}
use Rattle.stage_flow.proofs.AllRounds.{rounds-received, some-sends}
use Rattle.stage_flow.proofs.StillToSend.{sender-sends, sender-found}
use Rattle.stage_flow.proofs.ReceiverFound.{rounds-make-full, round-sends, receiver-wants}
use Rattle.stage_flow.proofs.Round.{rounds_go_by_labels, the_receiver_is_least}

-- There is one least mirror that is served.
least-one : (net : Net) (flow : Flow) (far : ℕ → ℤ) (hops : ℕ → ℕ) (from a b : ℕ) → IsLeastServed net flow far hops from a → IsLeastServed net flow far hops from b → a ≡ b
least-one net flow far hops from a b first second = omega (arith, first.least b second.wants second.layer, second.least a first.wants first.layer)

pub round-moves : (net : Net) (flow : Flow) (far : ℕ → ℤ) (hops : ℕ → ℕ) (from : ℕ) (found : Reached) → IsLinked net → IsPartFlow net flow → AreLabelsFor net flow far hops from → sender net flow ≡ Some from → receiver net flow from ≡ Some found → MovesAUnit net from found.vertex flow (after_round net flow)
round-moves net flow far hops from found linked part labels sends receives =
    let ends : EndsAreVertices net = arcs-among net linked.pins in
    let units : HasUnits net flow = record { each = part.each } in
    let round = rounds_go_by_labels net flow far hops from ends units labels sends in
    let least = the_receiver_is_least net flow far hops from labels ends in
    let here : found ≡ record { vertex = least.0; reach = label far hops from } = (let e = least.1 in cc) in
    let same : round.0 ≡ found.vertex = least-one net flow far hops from round.0 least.0 round.1.receives least.2 ∙ sym (ap (λ (one : Reached). one.vertex) here) in
    let low = (sender-low net flow from (sender-sends net flow from sends)).0 in
    let mirror = wanting-mirror net flow found.vertex (receiver-wants net flow from found receives).0 in
    let at = mirror.2 in
    subst (λ to. MovesAUnit net from to flow (after_round net flow)) same
    (moved-a_unit net from round.0 flow (after_round net flow) (λ e. omega (arith, e, low, at, same)) (round.1.each.each ∙ sym part.each) round.1.ends)

module _ (net : GateNet) (phases : List ℕ) (far : ℕ → ℕ → ℤ) (hops : ℕ → ℕ → ℕ) (formed : IsGateNet net) (each : EachGateIsUsed net)
    (labels : AreRoundLabels (network_of net phases) far hops) where
  abbrev whole : Net
  whole = network_of net phases

  moves : (rounds from : ℕ) (found : Reached) → IsPartFlow whole (flow_after whole rounds) → sender whole (flow_after whole rounds) ≡ Some from → receiver whole (flow_after whole rounds) from ≡ Some found → MovesAUnit whole from found.vertex (flow_after whole rounds) (flow_after whole (suc rounds))
  moves rounds from found part sends receives =
      round-moves whole (flow_after whole rounds) (far rounds) (hops rounds) from found (networks-linked net phases formed each) part (labels rounds from part sends) sends receives

  -- Before the last round there is still a sender, so it goes by its labels.
  last-fits : (last : ℕ) → suc last ≡ whole.drivers → All (FitsWay (potential_by (far last))) (ways_of whole (flow_after whole (suc last)))
  last-fits last is =
      let linked = networks-linked net phases formed each in
      let flow = flow_after whole last in
      let before = rounds-received whole linked.few linked.pins (flow_after whole) refl
      (λ rounds part wants has. round-sends whole (flow_after whole rounds) (flow_after whole (suc rounds)) linked part wants has (λ from found. moves rounds from found part))
      last (omega (arith, is)) in
      let has = some-sends whole flow linked.few linked.pins before.0 (omega (arith, is, before.1)) in
      let from = sender-found whole flow has in
      let round = rounds_go_by_labels whole flow (far last) (hops last) from.0 (arcs-among whole linked.pins) (record { each = before.0.each }) (labels last from.0 before.0 from.1) from.1 in
      round.1.fits

pub labelled_rounds-full : LabelledRoundsMakeAFullFlow
labelled_rounds-full net phases far hops formed each labels =
    let all = network_of net phases in (
      rounds-make-full net phases formed each (moves net phases far hops formed each labels),
      λ last is. subst (λ rounds. All (FitsWay (potential_by (far last))) (ways_of all (flow_after all rounds))) is (last-fits net phases far hops formed each labels last is),
    )

-- Where there is a driver there is a use.
some-use : (net : GateNet) (phases : List ℕ) → IsGateNet net → EachGateIsUsed net → 0 < (network_of net phases).drivers → uses_of net ≢ []
some-use net phases formed each some empty =
    let found = (networks-linked net phases formed each).used 0 some in
    let within = found.2 in
    let none : length (network_of net phases).pins ≡ 0 = ap (λ uses. length (map (pin_of net phases) uses)) empty in
    omega (arith, within, none)

pub labelled_rounds-fewest : LabelledRoundsHaveFewestDros
labelled_rounds-fewest net phases far hops last formed each labels is =
    let all = network_of net phases in
    let ends = labelled_rounds-full net phases far hops formed each labels in
    let p = potential_by (far last) in
    fitting-optimal net phases (rounds_of all) p (epochs_by all p) formed ends.0 (ends.1 last is)
    (supplied-rise net phases (rounds_of all) p formed each (some-use net phases formed each (omega (arith, is))) (ends.1 last is))
