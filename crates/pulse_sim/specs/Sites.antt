-- One tick of a simulator: what the wires do in it, and what the pins keep of it.
use Rattle.std.specs.Prelude.{ℕ, ◌+◌, Bool, false, not, ◌&&◌, ◌||◌, ◌==◌, List, [], ◌∷◌, ◌++◌, take, Option, Some, None, slice_index_or}
use Rattle.cell_lib.specs.declared.cell.Cell.{Cell}
use Rattle.cell_lib.specs.declared.cell.Cell.TheVariants.{Dro, Not, And, Or, Xor, Maj}
use Rattle.cell_lib.specs.Cell.{arity_of, cell_value}
use Rattle.pulse_sim.specs.declared.site.PinBits.{PinBits}
use Rattle.pulse_sim.specs.declared.site.PinPlaces.{PinPlaces}
use Rattle.pulse_sim.specs.declared.site.Part.{Part}
use Rattle.pulse_sim.specs.declared.site.Part.TheVariants.{Clocked, Split}
use Rattle.pulse_sim.specs.declared.site.Site.{Site}

-- whether the wire at a place pulses, where this is known of the first wires; a place that isn't there has no pulse
abbrev pub pulse_at : List Bool → Option ℕ → Bool
pulse_at seen None = false
pulse_at seen (Some place) = slice_index_or seen place false

-- a cell's values in the eight rows of three pins, as bits of a number; the first pin is the lowest bit of a row
abbrev pub table_of : Cell → ℕ
table_of Dro = 170
table_of Not = 85
table_of And = 136
table_of Or = 238
table_of Xor = 102
table_of Maj = 232

-- a cell pulses at its clock, where its value over the bits of its pins is true
abbrev pub cell_pulse : Bool → Cell → PinBits → Bool
cell_pulse at_clock cell bits =
    at_clock && cell_value cell (take (arity_of cell) (bits.first ∷ (bits.second ∷ (bits.third ∷ []))))

-- what the wires of a part do in a tick of this phase, where the wires before them do this
abbrev pub part_pulses : ℕ → List Bool → Part → PinBits → List Bool
part_pulses phase seen (Clocked cell its_phase pins) bits = cell_pulse (phase == its_phase) cell bits ∷ []
part_pulses phase seen (Split from) bits = pulse_at seen from ∷ (pulse_at seen from ∷ [])

abbrev pub site_pulses : ℕ → List Bool → Site → List Bool
site_pulses phase seen site = part_pulses phase seen site.part site.bits

-- the bit of a pin after a tick: the clock of its cell clears it, and a pulse in this tick sets it
abbrev pub next_bit : Bool → List Bool → Option ℕ → Bool → Bool
next_bit at_clock seen place bit = (not at_clock && bit) || pulse_at seen place

abbrev pub next_bits : Bool → List Bool → PinPlaces → PinBits → PinBits
next_bits at_clock seen pins bits = record {
  first = next_bit at_clock seen pins.first bits.first;
  second = next_bit at_clock seen pins.second bits.second;
  third = next_bit at_clock seen pins.third bits.third;
}

abbrev pub part_bits : ℕ → List Bool → Part → PinBits → PinBits
part_bits phase seen (Clocked cell its_phase pins) bits = next_bits (phase == its_phase) seen pins bits
part_bits phase seen (Split from) bits = bits

abbrev pub next_site : ℕ → List Bool → Site → Site
next_site phase seen site = record { part = site.part; bits = part_bits phase seen site.part site.bits }

-- what the first wires do in a tick, and the sites of the first parts after it
pub record Sweep : Type 0 where
  pub seen : List Bool
  pub sites : List Site

-- the sites in order, behind those that are done
abbrev pub sweep : ℕ → List Site → Sweep → Sweep
sweep phase [] so = so
sweep phase (site ∷ rest) so =
    sweep phase rest (record { seen = so.seen ++ site_pulses phase so.seen site; sites = so.sites ++ next_site phase so.seen site ∷ [] })

-- how many wires parts make
abbrev pub part_wires : Part → ℕ
part_wires (Clocked cell its_phase pins) = 1
part_wires (Split from) = 2

abbrev pub site_wires : List Site → ℕ
site_wires [] = 0
site_wires (site ∷ rest) = part_wires site.part + site_wires rest
