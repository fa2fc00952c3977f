-- Flows in a network: what leaves and enters a vertex, what each vertex wants, full flows, and the value of a flow.
use Rattle.std.specs.Prelude.{◌≡◌, ◌+◌, ◌-◌, ◌==◌, ◌+ℤ◌, ◌-ℤ◌, ◌*ℤ◌, ℕ, ℤ, pos, negsuc, zero, suc, cond, nat_lt, List, [], ◌∷◌, length, slice_index}
use Rattle.std.specs.List.{flat_map, sum_by}
use Rattle.flow_net.specs.declared.net.Net.{Net}
use Rattle.flow_net.specs.declared.net.Units.{Units}
use Rattle.flow_net.specs.declared.net.Flow.{Flow}
use Rattle.flow_net.specs.Arcs.{Arc, arcs_of}

-- the units on the two arcs of a pin, forward and back
abbrev pub pin_units : Units → List ℕ
pin_units units = units.forward ∷ (units.back ∷ [])

-- the units on an arc, found by the arc's number
abbrev pub units_on : Flow → Arc → ℕ
units_on flow arc = slice_index (flat_map pin_units flow.pins) arc.number

-- the units that leave a vertex, and those that enter it
abbrev pub units_out : Net → Flow → ℕ → ℕ
units_out net flow vertex = sum_by (λ arc. cond (arc.tail == vertex) (units_on flow arc) 0) (arcs_of net)

abbrev pub units_in : Net → Flow → ℕ → ℕ
units_in net flow vertex = sum_by (λ arc. cond (arc.head == vertex) (units_on flow arc) 0) (arcs_of net)

-- units out of a vertex minus units in
abbrev pub out_minus_in : Net → Flow → ℕ → ℤ
out_minus_in net flow vertex = pos (units_out net flow vertex) -ℤ pos (units_in net flow vertex)

-- What units out minus units in is to be: the used inputs at the source, 1 at a gate, 0 at the sink, -1 at a mirror.
abbrev pub wants : Net → ℕ → ℤ
wants net zero = pos (net.drivers - net.gates)
wants net (suc k) = cond (nat_lt k net.gates) (pos 1) (cond (k == net.gates) (pos 0) (cond (nat_lt k (net.gates + 1 + net.drivers)) (negsuc 0) (pos 0)))

-- a flow with units for each pin, in which each vertex has what it wants
pub record IsFullFlow (net : Net) (flow : Flow) : Type 0 where
  pub each : length flow.pins ≡ length net.pins
  pub wanted : (vertex : ℕ) → out_minus_in net flow vertex ≡ wants net vertex

-- the sum of length times units over arcs
abbrev pub value_on : Flow → List Arc → ℤ
value_on flow [] = pos 0
value_on flow (arc ∷ arcs) = arc.length *ℤ pos (units_on flow arc) +ℤ value_on flow arcs

-- the value of a flow
abbrev pub flow_value : Net → Flow → ℤ
flow_value net flow = value_on flow (arcs_of net)
