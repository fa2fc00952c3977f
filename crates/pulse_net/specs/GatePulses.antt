-- What the pulses on a netlist have to do with the gates that it unfolds to.
use Rattle.std.specs.Prelude.{◌≡◌, ℕ, ◌+◌, ◌*◌, ◌%◌, ◌<◌, Bool, false, IsTrue, List, length, slice_index_or}
use Rattle.gate_net.specs.declared.row.End.TheVariants.{Zero}
use Rattle.gate_net.specs.Values.{gate_values, end_value}
use Rattle.pulse_net.specs.declared.net.PulseNet.{PulseNet}
use Rattle.pulse_net.specs.declared.unfolding.Unfolded.{Unfolded}
use Rattle.pulse_net.specs.Pulses.{value_read}
use Rattle.pulse_net.specs.Laws.{row_of, spread_signal}
use Rattle.pulse_net.specs.Validity.{IsValid}
use Rattle.pulse_net.specs.Unfolding.{gate_wires, unfolded}

-- the phase of gate k, and its stage
abbrev pub gate_phase : Unfolded → ℕ → ℕ
gate_phase unfolded k = slice_index_or unfolded.phases k 0

abbrev pub gate_stage : PulseNet → Unfolded → ℕ → ℕ
gate_stage net unfolded k = net.phases * slice_index_or unfolded.epochs.gates k 0 + gate_phase unfolded k

-- With n phases, under one row of inputs per n ticks, the wire of gate k pulses only at ticks that are the gate's phase
-- modulo n, and at tick n * c + s, for the gate's stage s, it pulses exactly where the gate's value over row c is true.
pub record GatePulses (net : PulseNet) (unfolded : Unfolded) (rows : List (List Bool)) (k : ℕ) : Type 0 where
  pub clocked : (tick : ℕ) → IsTrue (spread_signal net rows (slice_index_or (gate_wires net) k 0) tick) → tick % net.phases ≡ gate_phase unfolded k
  pub on_time : (c : ℕ) → c < length rows → spread_signal net rows (slice_index_or (gate_wires net) k 0) (net.phases * c + gate_stage net unfolded k) ≡ slice_index_or (gate_values unfolded.gates (row_of rows c)) k false

-- The law on pulses: for all input rows each gate's wire pulses as its gate is valued, and what is read at an output for
-- row c is the value that the gates give at this output over row c.
pub record PulsesAreGateValues (net : PulseNet) (unfolded : Unfolded) : Type 0 where
  pub gates : (rows : List (List Bool)) (k : ℕ) → k < length unfolded.gates.gates → GatePulses net unfolded rows k
  pub outputs : (rows : List (List Bool)) (output c : ℕ) → c < length rows → value_read net rows output c ≡ end_value unfolded.gates (row_of rows c) (slice_index_or unfolded.gates.outputs output Zero)

-- In each valid netlist the pulses are the values of the gates that it unfolds to.
abbrev pub UnfoldedPulses : Type 0
UnfoldedPulses = (net : PulseNet) → IsValid net → PulsesAreGateValues net (unfolded net)
