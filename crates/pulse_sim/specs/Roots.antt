-- The root of a wire: the input or the clocked cell whose pulse it carries, through splitters. In a tick a wire does what its
-- root does.
use Rattle.std.specs.Prelude.{ℕ, Bool, true, false, ◌&&◌, ◌==◌, List, [], ◌∷◌, ◌++◌, length, map, Option, Some, None, slice_index_or}
use Rattle.std.specs.List.{range_with_len}
use Rattle.pulse_sim.specs.declared.site.Part.{Part}
use Rattle.pulse_sim.specs.declared.site.Part.TheVariants.{Clocked, Split}
use Rattle.pulse_sim.specs.declared.site.Site.{Site}
use Rattle.pulse_sim.specs.declared.site.Tap.{Tap}
use Rattle.pulse_sim.specs.declared.site.Tap.TheVariants.{Zero, One, At}
use Rattle.pulse_sim.specs.declared.root.Root.{Root}
use Rattle.pulse_sim.specs.declared.root.Shown.{Shown}
use Rattle.pulse_sim.specs.declared.root.Shown.TheVariants as shows

abbrev pub parts_of : List Site → List Part
parts_of sites = map (λ site. site.part) sites

-- the root of the wire at a place, where those of the first wires are known; a place that isn't there has none
abbrev pub root_at : List (Option Root) → Option ℕ → Option Root
root_at roots None = None
root_at roots (Some place) = slice_index_or roots place None

-- the roots of a part's wires, behind the wires with these roots
abbrev pub part_roots : List (Option Root) → Part → List (Option Root)
part_roots roots (Clocked cell its_phase pins) = Some (record { place = length roots; clock = Some its_phase }) ∷ []
part_roots roots (Split from) = root_at roots from ∷ (root_at roots from ∷ [])

-- the root of a used input is its own wire
abbrev pub input_root : ℕ → Option Root
input_root place = Some (record { place = place; clock = None })

abbrev pub input_roots : ℕ → List (Option Root)
input_roots inputs = map input_root (range_with_len 0 inputs)

-- the roots of all wires, behind those that are known
abbrev pub roots_behind : List (Option Root) → List Part → List (Option Root)
roots_behind roots [] = roots
roots_behind roots (part ∷ parts) = roots_behind (roots ++ part_roots roots part) parts

abbrev pub roots_of : ℕ → List Part → List (Option Root)
roots_of inputs parts = roots_behind (input_roots inputs) parts

-- An input may pulse in each tick, and a cell in those of its phase.
abbrev pub may_pulse : ℕ → Option ℕ → Bool
may_pulse phase None = true
may_pulse phase (Some its_phase) = phase == its_phase

-- what a wire with this root does in a tick of a phase, where the roots that may pulse do this
abbrev pub root_pulse : ℕ → List Bool → Option Root → Bool
root_pulse phase pulses None = false
root_pulse phase pulses (Some root) = may_pulse phase root.clock && slice_index_or pulses root.place false

-- what an output shows, by the root of its wire
abbrev pub shown_by : List (Option Root) → Tap → Shown
shown_by roots Zero = shows.Zero
shown_by roots One = shows.One
shown_by roots (At place) = shows.Of (root_at roots place)

abbrev pub shown_pulse : ℕ → List Bool → Shown → Bool
shown_pulse tick pulses shows.Zero = false
shown_pulse tick pulses shows.One = tick == 0
shown_pulse tick pulses (shows.Of root) = root_pulse tick pulses root
