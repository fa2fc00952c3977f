-- Small texts of rows, and a small netlist by hand, with what the definitions say of them by evaluation.
use Rattle.std.specs.Prelude.{◌≡◌, ℕ, ◌%◌, Bool, true, false, List, [], ◌∷◌, map, take, Some, None, Ok, Err, refl}
use Rattle.cell_lib.specs.declared.cell.Cell.TheVariants.{Not}
use Rattle.pulse_net.specs.declared.net.Names.{Names}
use Rattle.pulse_net.specs.declared.net.Element.TheVariants.{Clocked, Split}
use Rattle.pulse_net.specs.declared.net.Outlet.TheVariants.{One, Wire}
use Rattle.pulse_net.specs.declared.net.PulseNet.{PulseNet}
use Rattle.pulse_net.specs.Pulses.{value_read, spread}
use Rattle.pulse_sim.specs.declared.fault.RowKind.TheVariants.{RowShape, RowChar}
use Rattle.pulse_sim.specs.Rows.{rows_of, wrong_in}
use Rattle.pulse_sim.specs.declared.fault.RowKind.TheVariants.{TooManyRows}
use Rattle.pulse_sim.specs.Simulators.{SimState, since_clock, pin_bit, site_of, tap_of, used_inputs, tap_pulses, next_state, output_pulses}
use Rattle.pulse_sim.specs.Reading.{lines_read}
use Rattle.pulse_sim.specs.declared.site.Part.{Part}
use Rattle.pulse_sim.specs.declared.site.Part.TheVariants as part
use Rattle.pulse_sim.specs.Roots.{roots_of}
use Rattle.pulse_sim.specs.Wakes.{first_pin, firings_of, deliveries_of}

-- ---- rows

-- `10`, `01`
two_rows : rows_of (49 ∷ (48 ∷ (10 ∷ (48 ∷ (49 ∷ (10 ∷ [])))))) 2 1 ≡ Ok ((true ∷ (false ∷ [])) ∷ ((false ∷ (true ∷ [])) ∷ []))
two_rows = refl

-- no text is no row, and with no inputs an empty line is one
no_rows : rows_of [] 2 1 ≡ Ok []
no_rows = refl

empty_rows : rows_of (10 ∷ (10 ∷ [])) 0 1 ≡ Ok ([] ∷ ([] ∷ []))
empty_rows = refl

-- the second line is short
short : rows_of (49 ∷ (48 ∷ (10 ∷ (48 ∷ (10 ∷ []))))) 2 7 ≡ Err (record { line = 8; kind = RowShape })
short = refl

-- a line that is right but for its line feed
unended : rows_of (49 ∷ []) 1 7 ≡ Err (record { line = 7; kind = RowShape })
unended = refl

-- a carriage return counts, so the shape is wrong; and in a line of the right length it is a wrong character
carriage_return : rows_of (49 ∷ (13 ∷ (10 ∷ []))) 1 1 ≡ Err (record { line = 1; kind = RowShape })
carriage_return = refl

wrong_character : rows_of (49 ∷ (13 ∷ (10 ∷ []))) 2 1 ≡ Err (record { line = 1; kind = RowChar })
wrong_character = refl

-- behind 65,536 rows no line is a row, whatever it is
one_too_many : wrong_in 65536 2 (record { bytes = []; is_ended = false }) ≡ Some TooManyRows
one_too_many = refl

the_last : wrong_in 65535 1 (record { bytes = 48 ∷ []; is_ended = true }) ≡ None
the_last = refl

-- ---- an inverter one epoch behind its input, with four phases: the gap is four, as wide as the window

abbrev one_input : Names
one_input = record { model = 109 ∷ []; inputs = (97 ∷ []) ∷ []; outputs = (102 ∷ []) ∷ [] }

abbrev one_epoch_behind : PulseNet
one_epoch_behind = record { names = one_input; phases = 4; latency = 2; inputs = Some 0 ∷ []; elements = Clocked Not 4 (0 ∷ []) 1 ∷ []; outputs = Wire 1 ∷ [] }

-- the rows 1, 0, 1
abbrev three_rows : List (List Bool)
three_rows = (true ∷ []) ∷ ((false ∷ []) ∷ ((true ∷ []) ∷ []))

-- are read as 0, 1, 0
reads : map (value_read one_epoch_behind three_rows 0) (0 ∷ (1 ∷ (2 ∷ []))) ≡ false ∷ (true ∷ (false ∷ []))
reads = refl

lines : lines_read one_epoch_behind three_rows ≡ 48 ∷ (10 ∷ (49 ∷ (10 ∷ (48 ∷ (10 ∷ [])))))
lines = refl

-- of nine ticks the last clock tick is the one of number 8, and of eight ticks the one of number 4
kept : map (since_clock 4 4) (0 ∷ (1 ∷ (2 ∷ (4 ∷ (5 ∷ (8 ∷ (9 ∷ []))))))) ≡ 0 ∷ (1 ∷ (2 ∷ (4 ∷ (1 ∷ (4 ∷ (1 ∷ []))))))
kept = refl

-- the pulses of the first ticks
abbrev first : ℕ → List (List Bool)
first ticks = take ticks (spread 4 three_rows)

-- The pin's bit is set by the pulse of tick 0 and stays set up to the clock at tick 4, which clears it.
bits : map (λ ticks. pin_bit one_epoch_behind (first ticks) 4 (Some 0)) (0 ∷ (1 ∷ (2 ∷ (4 ∷ (5 ∷ (8 ∷ (9 ∷ []))))))) ≡ false ∷ (true ∷ (true ∷ (true ∷ (false ∷ (false ∷ (true ∷ []))))))
bits = refl

-- the simulator after so many ticks
abbrev after : ℕ → SimState
after ticks = record {
  phases = 4;
  tick = ticks % 4;
  inputs = used_inputs 0 one_epoch_behind.inputs;
  sites = map (site_of one_epoch_behind (first ticks)) one_epoch_behind.elements;
  taps = map (tap_of one_epoch_behind) one_epoch_behind.outputs;
}

-- In the tick of number 4 it shows no pulse, since the pin's bit is set, and in that of number 8 it does.
fourth : tap_pulses (after 4) (false ∷ []) ≡ false ∷ []
fourth = refl

eighth : tap_pulses (after 8) (true ∷ []) ≡ true ∷ []
eighth = refl

eighth-of_netlist : output_pulses one_epoch_behind (first 9) 8 ≡ true ∷ []
eighth-of_netlist = refl

-- and then it stands for nine ticks
ninth : next_state (after 8) (true ∷ []) ≡ after 9
ninth = refl

-- ---- a splitter hands its pulses to both outputs in the same tick, and a constant 1 is read at each row

abbrev two_branches : PulseNet
two_branches = record { names = one_input; phases = 1; latency = 1; inputs = Some 0 ∷ []; elements = Split 0 1 2 ∷ []; outputs = Wire 1 ∷ (Wire 2 ∷ (One ∷ [])) }

branches : lines_read two_branches ((true ∷ []) ∷ ((false ∷ []) ∷ [])) ≡ 49 ∷ (49 ∷ (49 ∷ (10 ∷ (48 ∷ (48 ∷ (49 ∷ (10 ∷ [])))))))
branches = refl

-- ---- an inverter of phase 3 behind the left branch of a splitter of the one input

abbrev behind_splitter : List Part
behind_splitter = part.Split (Some 0) ∷ (part.Clocked Not 3 (record { first = Some 1; second = None; third = None }) ∷ [])

-- the input is the root of its own wire and of both branches, and the inverter of its own
roots : roots_of 1 behind_splitter ≡ Some (record { place = 0; clock = None }) ∷ (Some (record { place = 0; clock = None }) ∷ (Some (record { place = 0; clock = None }) ∷ (Some (record { place = 3; clock = Some 3 }) ∷ [])))
roots = refl

-- so it fires in phase 3, and takes its pulses from the input, whatever the phase
fires : firings_of 3 1 behind_splitter ≡ record { at = 1; place = 3 } ∷ []
fires = refl

rests : firings_of 2 1 behind_splitter ≡ []
rests = refl

from_input : deliveries_of None 1 behind_splitter ≡ record { root = 0; at = 1; pin = first_pin } ∷ []
from_input = refl

from_cells : deliveries_of (Some 3) 1 behind_splitter ≡ []
from_cells = refl
