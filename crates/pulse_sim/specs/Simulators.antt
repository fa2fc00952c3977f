-- What a simulator is, what one tick does to it, and the pulses that it stands for.
use Rattle.std.specs.Prelude.{◌≡◌, ℕ, zero, suc, ◌+◌, ◌%◌, Bool, false, ◌==◌, nat_eq, List, [], ◌∷◌, length, map, Option, Some, None, slice_get, slice_index_or, if◌then◌else◌}
use Rattle.std.specs.List.{position}
use Rattle.pulse_net.specs.declared.net.Element.{Element}
use Rattle.pulse_net.specs.declared.net.Element.TheVariants as of
use Rattle.pulse_net.specs.declared.net.Outlet.{Outlet}
use Rattle.pulse_net.specs.declared.net.Outlet.TheVariants as outlets
use Rattle.pulse_net.specs.declared.net.PulseNet.{PulseNet}
use Rattle.pulse_net.specs.Wired.{makes_of}
use Rattle.pulse_net.specs.Pulses.{pulsed_within, signal_of, signals_of, outlet_signal}
use Rattle.pulse_sim.specs.declared.site.PinBits.{PinBits}
use Rattle.pulse_sim.specs.declared.site.Part.{Part}
use Rattle.pulse_sim.specs.declared.site.Part.TheVariants.{Clocked, Split}
use Rattle.pulse_sim.specs.declared.site.Site.{Site}
use Rattle.pulse_sim.specs.declared.site.Tap.{Tap}
use Rattle.pulse_sim.specs.declared.site.Tap.TheVariants.{Zero, One, At}
use Rattle.pulse_sim.specs.Sites.{Sweep, pulse_at, sweep}

-- the number of phases, the next tick modulo that, which inputs are used, a site for each element, and a tap for each output
pub record SimState : Type 0 where
  pub phases : ℕ
  pub tick : ℕ
  pub inputs : List ℕ
  pub sites : List Site
  pub taps : List Tap

-- ---- one tick

-- the pulses of the used inputs in a tick with these pulses on the inputs
abbrev pub input_pulses : List Bool → List ℕ → List Bool
input_pulses row inputs = map (λ input. slice_index_or row input false) inputs

-- what all wires do in the next tick, and the sites after it
abbrev pub swept : SimState → List Bool → Sweep
swept sim row = sweep sim.tick sim.sites (record { seen = input_pulses row sim.inputs; sites = [] })

-- what an output does in a tick, of its number modulo the phases, where all wires do this
abbrev pub tap_pulse : ℕ → List Bool → Tap → Bool
tap_pulse tick seen Zero = false
tap_pulse tick seen One = tick == 0
tap_pulse tick seen (At place) = pulse_at seen place

abbrev pub tap_pulses : SimState → List Bool → List Bool
tap_pulses sim row = map (tap_pulse sim.tick (swept sim row).seen) sim.taps

-- the simulator after a tick
abbrev pub next_state : SimState → List Bool → SimState
next_state sim row = record sim { tick = (sim.tick + 1) % sim.phases; sites = (swept sim row).sites }

-- ---- what a simulator stands for

-- the place of a wire, in the order in which wires are made
abbrev pub place_of : PulseNet → ℕ → Option ℕ
place_of net wire = position (nat_eq wire) (makes_of net)

-- Of the first ticks, how many there are from the last clock tick of a cell of this stage on, that tick included: all, where
-- it had none.
abbrev pub since_clock : ℕ → ℕ → ℕ → ℕ
since_clock n stage zero = 0
since_clock n stage (suc tick) = if tick % n == stage % n then 1 else since_clock n stage tick + 1

-- the bit of a pin: whether its wire pulsed in the ticks from the last clock tick of its cell on
abbrev pub pin_bit : PulseNet → List (List Bool) → ℕ → Option ℕ → Bool
pin_bit net pulses stage None = false
pin_bit net pulses stage (Some wire) =
    pulsed_within (signal_of net pulses wire) (length pulses) (since_clock net.phases stage (length pulses))

-- the place of a pin's wire
abbrev pub pin_place : PulseNet → Option ℕ → Option ℕ
pin_place net None = None
pin_place net (Some wire) = place_of net wire

-- an element by the places of its wires
abbrev pub part_of : PulseNet → Element → Part
part_of net (of.Clocked cell stage pins out) =
    Clocked cell (stage % net.phases) (record { first = pin_place net (slice_get pins 0); second = pin_place net (slice_get pins 1); third = pin_place net (slice_get pins 2) })
part_of net (of.Split from left right) = Split (place_of net from)

-- the bits of an element's pins; a splitter keeps nothing
abbrev pub bits_of : PulseNet → List (List Bool) → Element → PinBits
bits_of net pulses (of.Clocked cell stage pins out) = record {
  first = pin_bit net pulses stage (slice_get pins 0);
  second = pin_bit net pulses stage (slice_get pins 1);
  third = pin_bit net pulses stage (slice_get pins 2);
}
bits_of net pulses (of.Split from left right) = record { first = false; second = false; third = false }

abbrev pub site_of : PulseNet → List (List Bool) → Element → Site
site_of net pulses element = record { part = part_of net element; bits = bits_of net pulses element }

-- an output by the place of its wire
abbrev pub tap_of : PulseNet → Outlet → Tap
tap_of net outlets.Zero = Zero
tap_of net outlets.One = One
tap_of net (outlets.Wire wire) = At (place_of net wire)

-- the inputs, from a place on, that make a wire
abbrev pub used_inputs : ℕ → List (Option ℕ) → List ℕ
used_inputs place [] = []
used_inputs place (None ∷ inputs) = used_inputs (place + 1) inputs
used_inputs place (Some wire ∷ inputs) = place ∷ used_inputs (place + 1) inputs

-- A simulator stands for the pulses on the inputs of a netlist in all ticks so far, one row for each tick: it is of this
-- netlist, its tick is their number modulo the phases, and each pin's bit says whether the pin's wire pulsed from the last
-- clock tick of its cell on.
pub record StandsFor (net : PulseNet) (sim : SimState) (pulses : List (List Bool)) : Type 0 where
  pub phases : sim.phases ≡ net.phases
  pub tick : sim.tick ≡ length pulses % net.phases
  pub inputs : sim.inputs ≡ used_inputs 0 net.inputs
  pub sites : sim.sites ≡ map (site_of net pulses) net.elements
  pub taps : sim.taps ≡ map (tap_of net) net.outputs

-- the pulses of the outputs at a tick
abbrev pub output_pulses : PulseNet → List (List Bool) → ℕ → List Bool
output_pulses net pulses tick = map (λ outlet. outlet_signal net.phases (signals_of net pulses) outlet tick) net.outputs
