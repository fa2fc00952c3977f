-- What is done in the ticks of a phase: its cells fire, and each pin whose wire has an input or one of these cells as its root
-- takes the pulse. No other site is touched.
use Rattle.std.specs.Prelude.{ℕ, ◌+◌, Bool, true, false, ◌&&◌, ◌||◌, ◌==◌, List, [], ◌∷◌, ◌++◌, map, set, Option, Some, None, slice_index_or, if◌then◌else◌}
use Rattle.std.specs.List.{range_with_len}
use Rattle.pulse_sim.specs.declared.site.PinBits.{PinBits}
use Rattle.pulse_sim.specs.declared.site.Part.{Part}
use Rattle.pulse_sim.specs.declared.site.Part.TheVariants.{Clocked, Split}
use Rattle.pulse_sim.specs.declared.site.Site.{Site}
use Rattle.pulse_sim.specs.declared.site.Tap.{Tap}
use Rattle.pulse_sim.specs.declared.root.Root.{Root}
use Rattle.pulse_sim.specs.declared.wakes.Firing.{Firing}
use Rattle.pulse_sim.specs.declared.wakes.Delivery.{Delivery}
use Rattle.pulse_sim.specs.declared.wakes.Wakes.{Wakes}
use Rattle.pulse_sim.specs.declared.plan.Plan.{Plan}
use Rattle.pulse_sim.specs.Sites.{Sweep, cell_pulse, part_wires}
use Rattle.pulse_sim.specs.Roots.{root_at, part_roots, input_roots, roots_of, shown_by}

-- ---- which cells fire, and what is delivered

-- a part is of this number among all, and its first wire at this place
abbrev pub part_firings : ℕ → ℕ → ℕ → Part → List Firing
part_firings phase at place (Clocked cell its_phase pins) = if phase == its_phase then record { at = at; place = place } ∷ [] else []
part_firings phase at place (Split from) = []

-- the firings of parts in order
abbrev pub firings_from : ℕ → ℕ → ℕ → List Part → List Firing
firings_from phase at place [] = []
firings_from phase at place (part ∷ parts) = part_firings phase at place part ++ firings_from phase (at + 1) (place + part_wires part) parts

-- whether a root is a cell of a phase, or for no phase an input
abbrev pub is_of : Option ℕ → Option ℕ → Bool
is_of None None = true
is_of None (Some its_phase) = false
is_of (Some phase) None = false
is_of (Some phase) (Some its_phase) = phase == its_phase

-- which pin: its bit alone is set
abbrev pub first_pin : PinBits
first_pin = record { first = true; second = false; third = false }

abbrev pub second_pin : PinBits
second_pin = record { first = false; second = true; third = false }

abbrev pub third_pin : PinBits
third_pin = record { first = false; second = false; third = true }

-- a pin gets the pulses of its wire's root, where that is of this clock
abbrev pub pin_deliveries : Option ℕ → ℕ → PinBits → Option Root → List Delivery
pin_deliveries clock at pin None = []
pin_deliveries clock at pin (Some root) = if is_of clock root.clock then record { root = root.place; at = at; pin = pin } ∷ [] else []

abbrev pub part_deliveries : Option ℕ → ℕ → List (Option Root) → Part → List Delivery
part_deliveries clock at roots (Clocked cell its_phase pins) =
    pin_deliveries clock at first_pin (root_at roots pins.first) ++ (pin_deliveries clock at second_pin (root_at roots pins.second) ++ pin_deliveries clock at third_pin (root_at roots pins.third))
part_deliveries clock at roots (Split from) = []

-- the deliveries to parts in order
abbrev pub deliveries_from : Option ℕ → ℕ → List (Option Root) → List Part → List Delivery
deliveries_from clock at roots [] = []
deliveries_from clock at roots (part ∷ parts) = part_deliveries clock at roots part ++ deliveries_from clock (at + 1) (roots ++ part_roots roots part) parts

abbrev pub firings_of : ℕ → ℕ → List Part → List Firing
firings_of phase inputs parts = firings_from phase 0 inputs parts

abbrev pub deliveries_of : Option ℕ → ℕ → List Part → List Delivery
deliveries_of clock inputs parts = deliveries_from clock 0 (input_roots inputs) parts

abbrev pub phase_wakes : ℕ → List Part → ℕ → Wakes
phase_wakes inputs parts phase = record { firings = firings_of phase inputs parts; deliveries = deliveries_of (Some phase) inputs parts }

-- what is done in the ticks of each phase
abbrev pub all_wakes : ℕ → ℕ → List Part → List Wakes
all_wakes phases inputs parts = map (phase_wakes inputs parts) (range_with_len 0 phases)

-- the plan of a simulator, behind so many used inputs
abbrev pub plan_of : ℕ → ℕ → List Part → List Tap → Plan
plan_of phases inputs parts taps = record {
  wakes = all_wakes phases inputs parts;
  from_inputs = deliveries_of None inputs parts;
  shown = map (shown_by (roots_of inputs parts)) taps;
}

-- ---- a tick

-- a site to look at where there is none
abbrev pub nobody : Site
nobody = record { part = Split None; bits = record { first = false; second = false; third = false } }

-- what a cell does at its clock, by its bits
abbrev pub part_fires : Part → PinBits → Bool
part_fires (Clocked cell its_phase pins) bits = cell_pulse true cell bits
part_fires (Split from) bits = false

abbrev pub no_bits : PinBits
no_bits = record { first = false; second = false; third = false }

abbrev pub cleared : Site → Site
cleared site = record { part = site.part; bits = no_bits }

-- A cell looks at its bits, its wire does what it says, and its clock clears the bits.
abbrev pub fired : Sweep → Firing → Sweep
fired so firing =
    let site = slice_index_or so.sites firing.at nobody in
    record { seen = set so.seen firing.place (part_fires site.part site.bits); sites = set so.sites firing.at (cleared site) }

-- a pulse sets the bit of its pin
abbrev pub with_pulse : PinBits → PinBits → Bool → PinBits
with_pulse bits pin pulse = record {
  first = bits.first || (pulse && pin.first);
  second = bits.second || (pulse && pin.second);
  third = bits.third || (pulse && pin.third);
}

abbrev pub delivered : List Bool → List Site → Delivery → List Site
delivered pulses sites delivery =
    let site = slice_index_or sites delivery.at nobody in
    set sites delivery.at (record { part = site.part; bits = with_pulse site.bits delivery.pin (slice_index_or pulses delivery.root false) })
