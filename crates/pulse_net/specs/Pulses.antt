-- The pulses on the wires of a netlist, tick by tick, and what is read at its outputs.
use Rattle.std.specs.Prelude.{ℕ, zero, suc, ◌+◌, ◌-◌, ◌*◌, ◌%◌, Bool, true, false, ◌||◌, List, [], ◌∷◌, ◌++◌, length, map, replicate, ◌==◌, slice_index_or}
use Rattle.cell_lib.specs.declared.cell.Cell.{Cell}
use Rattle.cell_lib.specs.Cell.{cell_value}
use Rattle.pulse_net.specs.declared.net.Outlet.{Outlet}
use Rattle.pulse_net.specs.declared.net.Outlet.TheVariants.{Zero, One, Wire}
use Rattle.pulse_net.specs.declared.net.PulseNet.{PulseNet}
use Rattle.pulse_net.specs.Formed.{outlet_at}
use Rattle.pulse_net.specs.Wires.{Wires, carried, wires_of}

-- a signal says of each tick whether there is a pulse
abbrev pub Signal : Type 0
Signal = ℕ → Bool

-- no pulse at any tick
abbrev pub silence : Signal
silence tick = false

-- whether there is a pulse at one of the ticks of a window, which ends just before this tick and begins no earlier than tick 0
abbrev pub pulsed_within : Signal → ℕ → ℕ → Bool
pulsed_within signal zero window = false
pulsed_within signal (suc tick) zero = false
pulsed_within signal (suc tick) (suc window) = signal tick || pulsed_within signal tick window

-- the signal of an input: its pulse in the row of each tick, and none past the last row
abbrev pub input_signal : List (List Bool) → ℕ → Signal
input_signal pulses input tick = slice_index_or (slice_index_or pulses tick []) input false

-- a signal at the ticks of a clock, and silence at all others
abbrev pub on_clock : Bool → Signal → Signal
on_clock true signal = signal
on_clock false signal = silence

-- the value of a cell whose pins are true where they pulsed within the last n ticks
abbrev pub window_value : ℕ → Cell → List Signal → Signal
window_value n cell pins tick = cell_value cell (map (λ pin. pulsed_within pin tick n) pins)

-- a clocked cell pulses only at the ticks that are its stage modulo n
abbrev pub cell_signal : ℕ → Cell → ℕ → List Signal → Signal
cell_signal n cell stage pins tick = on_clock (tick % n == stage % n) (window_value n cell pins) tick

-- the signal of each wire, where these are the pulses on the inputs
abbrev pub signals_of : PulseNet → List (List Bool) → Wires Signal
signals_of net pulses = wires_of silence (input_signal pulses) (cell_signal net.phases) net

-- the signal of a wire
abbrev pub signal_of : PulseNet → List (List Bool) → ℕ → Signal
signal_of net pulses wire = carried silence (signals_of net pulses) wire

-- the signal of an output: of its wire, never, or at each first tick of an epoch
abbrev pub outlet_signal : ℕ → Wires Signal → Outlet → Signal
outlet_signal n signals Zero tick = false
outlet_signal n signals One tick = tick % n == 0
outlet_signal n signals (Wire wire) tick = carried silence signals wire tick

-- no pulse on any input
abbrev pub silent_row : List Bool → List Bool
silent_row row = replicate (length row) false

-- input rows as pulses by tick: row c at tick n * c, and no pulse at the ticks between
abbrev pub spread : ℕ → List (List Bool) → List (List Bool)
spread n [] = []
spread n (row ∷ rows) = row ∷ (replicate (n - 1) (silent_row row) ++ spread n rows)

-- the value read at an output for row c: a pulse in the n ticks before tick n * (c + E), where E is the latency
abbrev pub value_read : PulseNet → List (List Bool) → ℕ → ℕ → Bool
value_read net rows output row =
    let signals = signals_of net (spread net.phases rows) in
    pulsed_within (outlet_signal net.phases signals (outlet_at net output)) (net.phases * (row + net.latency)) net.phases
