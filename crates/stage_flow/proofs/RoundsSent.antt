-- What the rounds sent: a flow of so many rounds is a part of a full flow, in which each vertex has sent what it sends in them. There
-- are labels for the sender of each round, and the round goes by them.
use Rattle.std.proofs.Common.{◌≡◌, ◌<◌, ◌≤◌, ◌+◌, ℕ, ℤ, zero, suc, Some, sym, subst, arith}
use Rattle.flow_net.specs.declared.net.Net.{Net}
use Rattle.flow_net.specs.declared.net.Flow.{Flow}
use Rattle.flow_net.specs.Flows.{IsFullFlow}
use Rattle.stage_flow.specs.Rounds.{sender, flow_after, rounds_of}
use Rattle.stage_flow.specs.LawsOfSending.{SomeMirrorWants}
use Rattle.stage_flow.specs.LawsOfRounds.{AreRoundLabels}
use Rattle.stage_flow.specs.Given.{IsNetwork}
use Rattle.stage_flow.specs.UnderWay.{sender_in, HasSent}
use Rattle.stage_flow.proofs.Linked.{IsLinked, networks-linked}
use Rattle.stage_flow.proofs.Round.{rounds_go_by_labels}
use Rattle.stage_flow.proofs.RoundLabels.{sender-wanted, rounds-labels, rounds-are_full}
use Rattle.stage_flow.proofs.ProgressNetworks.{gates-few, ends-among}
use Rattle.stage_flow.proofs.ProgressSender.{sender-is}
use Rattle.stage_flow.proofs.ProgressUnits.{first-sent, round-sends}

module _ (net : Net) (is : IsNetwork net) where
  labels : (far : ℕ → ℕ → ℤ) × (hops : ℕ → ℕ → ℕ) × AreRoundLabels net far hops
  labels =
      subst (λ (n : Net). (far : ℕ → ℕ → ℤ) × (hops : ℕ → ℕ → ℕ) × AreRoundLabels n far hops) (sym is.is)
      (rounds-labels is.gates is.phases is.formed.formed is.used)

  pub rounds-sent : (rounds : ℕ) → rounds ≤ net.drivers → HasSent net rounds (flow_after net rounds)
  rounds-sent zero low = first-sent net
  rounds-sent (suc rounds) low =
      let flow = flow_after net rounds in
      let (far, hops, each) = labels in
      let few = gates-few net is in
      let more : rounds < net.drivers = omega (arith, low) in
      let before = rounds-sent rounds (omega (arith, low)) in
      let sends = sender-is net rounds flow few more before in
      let round = rounds_go_by_labels net flow (far rounds) (hops rounds) (sender_in net rounds) (ends-among net is) (record { each = before.part.each }) (each rounds (sender_in net rounds) before.part sends) sends in
      let next : rounds + 1 ≡ suc rounds = omega arith in
      subst (λ n. HasSent net n (flow_after net (suc rounds))) next
      (round-sends net rounds flow (far rounds) (hops rounds) round.0 few more before round.1)

  -- After all rounds the flow is full.
  pub flow-full : IsFullFlow net (rounds_of net)
  flow-full = subst (λ (n : Net). IsFullFlow n (rounds_of n)) (sym is.is) (rounds-are_full is.gates is.phases is.formed.formed is.used)

-- ---- The flow before a round
module _ (net : Net) (is : IsNetwork net) (rounds : ℕ) (flow : Flow) (after : flow ≡ flow_after net rounds) (more : rounds < net.drivers) where
  pub flow-sent : HasSent net rounds flow
  flow-sent = subst (HasSent net rounds) (sym after) (rounds-sent net is rounds (omega (arith, more)))

  pub flow-sender : sender net flow ≡ Some (sender_in net rounds)
  flow-sender = sender-is net rounds flow (gates-few net is) more flow-sent

  -- Its sender has to send, so a mirror wants.
  pub flow-wanted : SomeMirrorWants net flow
  flow-wanted =
      let linked = subst IsLinked (sym is.is) (networks-linked is.gates is.phases is.formed.formed is.used) in
      sender-wanted net flow (sender_in net rounds) linked flow-sent.part flow-sender
