-- What is proved of the pulses of every netlist.
use Rattle.std.specs.Prelude.{◌≡◌, ℕ, ◌<◌, Bool, List, ◌++◌, length}
use Rattle.pulse_net.specs.declared.net.PulseNet.{PulseNet}
use Rattle.pulse_net.specs.Pulses.{signal_of}

-- a signal at a tick doesn't depend on later pulses
abbrev pub SignalsIgnoreLaterPulses : Type 0
SignalsIgnoreLaterPulses =
    (net : PulseNet) (pulses later : List (List Bool)) (wire tick : ℕ) → tick < length pulses → signal_of net pulses wire tick ≡ signal_of net (pulses ++ later) wire tick
