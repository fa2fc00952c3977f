-- What `verify` says of epochs and a flow: the first cause why the flow shows nothing, or the DRO count.
use Rattle.std.specs.Prelude.{◌+◌, ◌-ℤ◌, ◌==◌, ℕ, ℤ, zero, suc, pos, cond, nat_lt, Option, Some, None, List, [], ◌∷◌, length}
use Rattle.std.specs.Ordering.{int_eq}
use Rattle.flow_net.specs.declared.net.Pin.{Pin}
use Rattle.flow_net.specs.declared.net.Net.{Net}
use Rattle.flow_net.specs.declared.net.Epochs.{Epochs}
use Rattle.flow_net.specs.declared.net.Flow.{Flow}
use Rattle.flow_net.specs.Epochs.{epoch_at, dro_count}
use Rattle.flow_net.specs.Flows.{out_minus_in, wants, flow_value}
use Rattle.flow_cert.specs.declared.verdict.Cause.{Cause}
use Rattle.flow_cert.specs.declared.verdict.Cause.TheVariants.{Length, Unbalanced, Balance, Value}
use Rattle.flow_cert.specs.declared.verdict.Verdict.{Verdict}
use Rattle.flow_cert.specs.declared.verdict.Verdict.TheVariants.{Fewest, Bad}

-- the flow has units for another number of pins
abbrev pub length_cause : Net → Flow → Option Cause
length_cause net flow = cond (length flow.pins == length net.pins) None (Some (Length (length flow.pins) (length net.pins)))

-- the gap of a pin: the epoch of its user less that of its driver
abbrev pub gap_of : Epochs → Pin → ℤ
gap_of epochs pin = pos (epoch_at epochs pin.to) -ℤ pos (epoch_at epochs pin.from)

-- the first pin whose gap is below its weight, of pins of which the first stands at a place
abbrev pub pin_cause : Epochs → ℕ → List Pin → Option Cause
pin_cause epochs place [] = None
pin_cause epochs place (pin ∷ pins) = cond (nat_lt (epoch_at epochs pin.to) (epoch_at epochs pin.from + pin.weight)) (Some (Unbalanced place (gap_of epochs pin) pin.weight)) (pin_cause epochs (place + 1) pins)

-- how many vertices there are: the source, the gates, the sink, and a mirror for each driver
abbrev pub vertices : Net → ℕ
vertices net = net.gates + 2 + net.drivers

-- the first vertex that hasn't what it wants, of so many from this one on
abbrev pub vertex_cause : Net → Flow → ℕ → ℕ → Option Cause
vertex_cause net flow vertex zero = None
vertex_cause net flow vertex (suc more) = cond (int_eq (out_minus_in net flow vertex) (wants net vertex)) (vertex_cause net flow (vertex + 1) more) (Some (Balance vertex (out_minus_in net flow vertex) (wants net vertex)))

-- the flow isn't worth as much as the epochs cost
abbrev pub value_cause : ℤ → ℕ → Option Cause
value_cause value count = cond (int_eq value (pos count)) None (Some (Value value (pos count)))

-- a cause, and without it a later one
abbrev pub first_of : Option Cause → Option Cause → Option Cause
first_of None later = later
first_of (Some cause) later = Some cause

-- the first cause why the flow shows nothing of the epochs
abbrev pub cause_of : Net → Epochs → Flow → Option Cause
cause_of net epochs flow = first_of (length_cause net flow) (first_of (pin_cause epochs 0 net.pins) (first_of (vertex_cause net flow 0 (vertices net)) (value_cause (flow_value net flow) (dro_count net epochs))))

-- the verdict by a cause, and without one by the DRO count
abbrev pub verdict_by : Option Cause → ℕ → Verdict
verdict_by None count = Fewest count
verdict_by (Some cause) count = Bad cause

-- what a flow shows of epochs
abbrev pub verdict_of : Net → Epochs → Flow → Verdict
verdict_of net epochs flow = verdict_by (cause_of net epochs flow) (dro_count net epochs)
