-- What the sums of units need of a network, and what they are while they are made.
use Rattle.std.specs.Prelude.{◌≡◌, ◌≤◌, ◌<◌, ◌+◌, ◌-◌, ◌^◌, ◌+ℤ◌, ◌-ℤ◌, ◌≤ℤ◌, ℕ, ℤ, pos, cond, Option, Some, None, List, [], ◌∷◌, length, All, slice_index_or}
use Rattle.std.specs.Ordering.{int_eq}
use Rattle.flow_net.specs.declared.net.Net.{Net}
use Rattle.flow_net.specs.declared.net.Pin.{Pin}
use Rattle.flow_net.specs.declared.net.Flow.{Flow}
use Rattle.flow_net.specs.Flows.{out_minus_in, wants}
use Rattle.flow_cert.specs.declared.verdict.Cause.{Cause}
use Rattle.flow_cert.specs.declared.verdict.Cause.TheVariants.{Balance}
use Rattle.flow_cert.specs.Verdicts.{vertices}

-- What each network of a netlist has: its arcs start and end at its vertices, weights are 0 or 1, and vertices, drivers and
-- pins are so few that no sum of units leaves 64 bits.
pub record IsBounded (net : Net) : Type 0 where
  pub few_vertices : vertices net < 2 ^ 32
  pub few_drivers : net.drivers < 2 ^ 31
  pub few_pins : length net.pins < 2 ^ 30
  pub weights : All (λ (pin : Pin). pin.weight ≤ 1) net.pins
  pub starts : All (λ (pin : Pin). pin.from < vertices net) net.pins
  pub ends : All (λ (pin : Pin). pin.to < vertices net) net.pins
  pub mirrors : All (λ (pin : Pin). pin.driver < net.drivers) net.pins

-- for each vertex its units out less units in
pub record AreBalances (net : Net) (flow : Flow) (balances : List ℤ) : Type 0 where
  pub each : length balances ≡ vertices net
  pub here : (vertex : ℕ) → vertex < vertices net → slice_index_or balances vertex (pos 0) ≡ out_minus_in net flow vertex

-- a balance that fits 64 bits also with the units of one arc more on either side
abbrev pub HasRoom : ℤ → Type 0
HasRoom balance = ((pos 0 -ℤ pos (2 ^ 63 - 2 ^ 33)) ≤ℤ balance) × (balance ≤ℤ pos (2 ^ 63 - 2 ^ 33))

-- two balances that differ by the units of at most one arc
abbrev pub IsNear : ℤ → ℤ → Type 0
IsNear old new = ((old -ℤ pos (2 ^ 32)) ≤ℤ new) × (new ≤ℤ (old +ℤ pos (2 ^ 32)))

-- the first cause by the balances of vertices, of which the first is of this vertex
abbrev pub balance_cause : Net → ℕ → List ℤ → Option Cause
balance_cause net vertex [] = None
balance_cause net vertex (has ∷ more) = cond (int_eq has (wants net vertex)) (balance_cause net (vertex + 1) more) (Some (Balance vertex has (wants net vertex)))
