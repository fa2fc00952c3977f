-- How far a run over input rows has come.
use Rattle.std.specs.Prelude.{◌≡◌, ℕ, ◌<◌, Bool, false, ◌||◌, List, [], ◌∷◌, length, map, slice_index_or}
use Rattle.pulse_net.specs.declared.net.PulseNet.{PulseNet}
use Rattle.pulse_net.specs.Pulses.{pulsed_within, input_signal, outlet_signal, signals_of, spread}
use Rattle.pulse_sim.specs.Simulators.{SimState, StandsFor}

-- what pulsed at each output in a window before a tick, with one row of inputs per n ticks, for n phases
abbrev pub seen_before : PulseNet → List (List Bool) → ℕ → ℕ → List Bool
seen_before net rows tick window =
    map (λ outlet. pulsed_within (outlet_signal net.phases (signals_of net (spread net.phases rows)) outlet) tick window) net.outputs

-- So many ticks were run: the simulator stands for pulses that are those of the rows, one row per n ticks.
pub record HasRun (net : PulseNet) (rows : List (List Bool)) (tick : ℕ) (sim : SimState) : Type 0 where
  pub pulses : List (List Bool)
  pub stands : StandsFor net sim pulses
  pub long : length pulses ≡ tick
  pub same : (input at : ℕ) → at < tick → input_signal pulses input at ≡ input_signal (spread net.phases rows) input at

-- the row of inputs of a tick pulses as the rows do at this tick
abbrev pub Feeds : PulseNet → List (List Bool) → ℕ → List Bool → Type 0
Feeds net rows tick row = (input : ℕ) → slice_index_or row input false ≡ input_signal (spread net.phases rows) input tick

-- what pulsed before, and what pulses now
abbrev pub with_shown : List Bool → List Bool → List Bool
with_shown [] read = []
with_shown (pulse ∷ shown) [] = []
with_shown (pulse ∷ shown) (bit ∷ read) = (pulse || bit) ∷ with_shown shown read
