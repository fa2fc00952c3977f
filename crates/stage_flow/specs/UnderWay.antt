-- How far rounds have come: who sends in a round, what was sent in so many of them, and the potentials before the first.
use Rattle.std.specs.Prelude.{◌≡◌, ◌<◌, ◌≤◌, ◌+◌, ◌-◌, ℕ, ℤ, zero, suc, pos, nat_lt, cond, min, All}
use Rattle.flow_net.specs.declared.net.Net.{Net}
use Rattle.flow_net.specs.declared.net.Flow.{Flow}
use Rattle.flow_net.specs.declared.net.Units.{Units}
use Rattle.flow_net.specs.Flows.{out_minus_in}
use Rattle.stage_flow.specs.LawsOfSending.{IsPartFlow}

-- the units that a vertex sends in the first rounds: the source one in each, as many as there are used inputs, and then one gate
-- after the other
abbrev pub sent_in : Net → ℕ → ℕ → ℕ
sent_in net rounds zero = min rounds (net.drivers - net.gates)
sent_in net rounds (suc k) = cond (nat_lt (net.drivers - net.gates + k) rounds) 1 0

-- who sends in the round after so many: the source while used inputs are left, and then the gates in order
abbrev pub sender_in : Net → ℕ → ℕ
sender_in net rounds = cond (nat_lt rounds (net.drivers - net.gates)) 0 (rounds - (net.drivers - net.gates) + 1)

-- no arc of a pin carries more units than rounds were made
abbrev pub CarriesFew : ℕ → Units → Type 0
CarriesFew rounds units = (units.forward ≤ rounds) × (units.back ≤ rounds)

-- A part of a full flow, in which each vertex has sent what it sends in so many rounds.
pub record HasSent (net : Net) (rounds : ℕ) (flow : Flow) : Type 0 where
  pub part : IsPartFlow net flow
  pub sent : (vertex : ℕ) → vertex < net.gates + 2 → out_minus_in net flow vertex ≡ pos (sent_in net rounds vertex)
  pub few : All (CarriesFew rounds) flow.pins

-- the first potential of a vertex: its number, and the sink's of each mirror
abbrev pub first_potential : Net → ℕ → ℤ
first_potential net vertex = pos (min vertex (net.gates + 1))
