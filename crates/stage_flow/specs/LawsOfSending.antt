-- Laws of sending units: what every flow of the rounds keeps, that no mirror is cut off from those that have to send, and that as
-- many rounds as there are drivers make a full flow.
use Rattle.std.specs.Prelude.{◌≡◌, ◌≢◌, ◌≤◌, ◌<◌, ◌+◌, ◌+ℤ◌, ◌-ℤ◌, ◌≤ℤ◌, ℕ, zero, suc, ℤ, pos, Bool, true, false, List, length, Some, All}
use Rattle.gate_net.specs.declared.net.GateNet.{GateNet}
use Rattle.gate_net.specs.Net.{IsGateNet, EachGateIsUsed}
use Rattle.flow_net.specs.declared.net.Net.{Net}
use Rattle.flow_net.specs.declared.net.Flow.{Flow}
use Rattle.flow_net.specs.Network.{network_of}
use Rattle.flow_net.specs.Flows.{out_minus_in, wants, IsFullFlow}
use Rattle.stage_flow.specs.Residual.{Way, ways_of, vertex_count}
use Rattle.stage_flow.specs.Rounds.{Reached, no_units, has_to_send, sender, is_wanting, wanting, best_to, receiver, flow_after, rounds_of}

-- A part of a full flow: source, gates and sink have sent from nothing to what they are to send, and each mirror has received its
-- unit or nothing.
pub record IsPartFlow (net : Net) (flow : Flow) : Type 0 where
  pub each : length flow.pins ≡ length net.pins
  pub sent : (vertex : ℕ) → vertex < net.gates + 2 → (pos 0 ≤ℤ out_minus_in net flow vertex) × (out_minus_in net flow vertex ≤ℤ wants net vertex)
  pub received : (vertex : ℕ) → net.gates + 2 ≤ vertex → (wants net vertex ≤ℤ out_minus_in net flow vertex) × (out_minus_in net flow vertex ≤ℤ pos 0)

-- some mirror wants a unit
abbrev pub SomeMirrorWants : Net → Flow → Type 0
SomeMirrorWants net flow = (mirror : ℕ) × (is_wanting net flow mirror ≡ true)

-- some vertex has to send a unit
abbrev pub SomeVertexHasToSend : Net → Flow → Type 0
SomeVertexHasToSend net flow = (vertex : ℕ) × (vertex < vertex_count net) × (has_to_send net flow vertex ≡ true)

-- the units that the first vertices have still to send: what they want less what they sent
abbrev pub left_to_send : Net → Flow → ℕ → ℤ
left_to_send net flow zero = pos 0
left_to_send net flow (suc vertex) = left_to_send net flow vertex +ℤ (wants net vertex -ℤ out_minus_in net flow vertex)

-- a unit goes from one vertex to another: units out minus units in change at these two alone
pub record MovesAUnit (net : Net) (from to : ℕ) (before after : Flow) : Type 0 where
  pub each : length after.pins ≡ length before.pins
  pub start : out_minus_in net after from ≡ out_minus_in net before from +ℤ pos 1
  pub end : out_minus_in net after to ≡ out_minus_in net before to -ℤ pos 1
  pub others : (vertex : ℕ) → vertex ≢ from → vertex ≢ to → out_minus_in net after vertex ≡ out_minus_in net before vertex

-- a unit goes from a vertex that has to send to a mirror that wants
pub record SendsAUnit (net : Net) (before after : Flow) : Type 0 where
  pub sender : ℕ
  pub receiver : ℕ
  pub sends : has_to_send net before sender ≡ true
  pub receives : is_wanting net before receiver ≡ true
  pub moves : MovesAUnit net sender receiver before after

-- no residual arc leaves a region, a set of vertices
abbrev pub NoneLeaves : List Way → (ℕ → Bool) → Type 0
NoneLeaves ways region = All (λ way. region way.tail ≡ true → region way.head ≡ true) ways

-- no mirror of a region wants a unit
abbrev pub NoneWants : Net → Flow → (ℕ → Bool) → Type 0
NoneWants net flow region = (vertex : ℕ) → region vertex ≡ true → is_wanting net flow vertex ≡ false

-- In every network no units are a part of a full flow, and a part with a unit more, from a vertex that has to send to a mirror that
-- wants, is one too.
abbrev pub UnitsMakePartFlows : Type 0
UnitsMakePartFlows =
    ((net : Net) → IsPartFlow net (no_units net))
    × ((net : Net) (before after : Flow) → IsPartFlow net before → SendsAUnit net before after → IsPartFlow net after)

-- In a part of a full flow as many mirrors want a unit as source, gates and sink have still to send.
abbrev pub AsManyWantAsAreToSend : Type 0
AsManyWantAsAreToSend =
    (net : GateNet) (phases : List ℕ) (flow : Flow)
    → IsGateNet net
    → IsPartFlow (network_of net phases) flow
    → left_to_send (network_of net phases) flow ((network_of net phases).gates + 2) ≡ pos (length (wanting (network_of net phases) flow))

-- Nobody is cut off: while a mirror wants, a region that no residual arc leaves, and of which no mirror wants, is empty.
abbrev pub NobodyIsCutOff : Type 0
NobodyIsCutOff =
    (net : GateNet) (phases : List ℕ) (flow : Flow) (region : ℕ → Bool)
    → IsGateNet net
    → EachGateIsUsed net
    → IsPartFlow (network_of net phases) flow
    → SomeMirrorWants (network_of net phases) flow
    → NoneLeaves (ways_of (network_of net phases) flow) region
    → NoneWants (network_of net phases) flow region
    → (vertex : ℕ) → vertex < vertex_count (network_of net phases) → region vertex ≡ false

-- While a mirror wants, what any vertex sends has a receiver: a mirror that wants, at the best reach of walks to it.
abbrev pub AReceiverIsFound : Type 0
AReceiverIsFound =
    (net : GateNet) (phases : List ℕ) (flow : Flow) (from : ℕ)
    → IsGateNet net
    → EachGateIsUsed net
    → IsPartFlow (network_of net phases) flow
    → SomeMirrorWants (network_of net phases) flow
    → from < vertex_count (network_of net phases)
    → (found : Reached)
    × (receiver (network_of net phases) flow from ≡ Some found)
    × (is_wanting (network_of net phases) flow found.vertex ≡ true)
    × (best_to (network_of net phases) flow from found.vertex ≡ Some found.reach)

-- The rounds make a full flow where in each that has a sender and a receiver a unit goes from the one to the other.
abbrev pub RoundsMakeAFullFlow : Type 0
RoundsMakeAFullFlow =
    (net : GateNet) (phases : List ℕ)
    → IsGateNet net
    → EachGateIsUsed net
    → ((rounds from : ℕ) (found : Reached)
    → IsPartFlow (network_of net phases) (flow_after (network_of net phases) rounds)
    → sender (network_of net phases) (flow_after (network_of net phases) rounds) ≡ Some from
    → receiver (network_of net phases) (flow_after (network_of net phases) rounds) from ≡ Some found
    → MovesAUnit (network_of net phases) from found.vertex (flow_after (network_of net phases) rounds) (flow_after (network_of net phases) (suc rounds)))
    → IsFullFlow (network_of net phases) (rounds_of (network_of net phases))
