-- Designs of tables drawn at random, by their names: what a generated text says.
use Rattle.std.specs.Prelude.{◌≤◌, ◌+◌, ◌-◌, ◌/◌, ◌%◌, ◌^◌, ◌==◌, ℕ, zero, suc, min, Bool, true, false, List, [], ◌∷◌, codes, if◌then◌else◌}
use Rattle.rand_xoshiro.specs.SplitMix64.{mix_u64}
use Rattle.blif_model.specs.declared.design.Bit.{Bit}
use Rattle.blif_model.specs.declared.design.Bit.TheVariants.{Zero, One}
use Rattle.blif_model.specs.declared.design.Cube.{Cube}
use Rattle.gen_blif.specs.declared.random.TheConstants.{MAX_TABLES}
use Rattle.gen_blif.specs.Lines.{name_of}
use Rattle.gen_blif.specs.Random.{signal, pin, gen_text}
use Rattle.gen_laws.specs.Named.{NamedTable, NamedDesign, IsAccepted}

-- the name of the signal of a number
abbrev pub signal_name : ℕ → List ℕ
signal_name number = name_of (signal number).letter (signal number).number

-- the name of the pin of a table that a number chooses
abbrev pub pin_name : ℕ → ℕ → List ℕ
pin_name table choice = name_of (pin table choice).letter (pin table choice).number

-- the names of one letter, so many from a number on
unfoldable pub names_from : ℕ → ℕ → ℕ → List (List ℕ)
names_from letter first zero = []
names_from letter first (suc count) = name_of letter first ∷ names_from letter (first + 1) count

-- a row that asks something of two pins
abbrev pub row_of : Bit → Bit → Cube
row_of first second = record { bits = first ∷ second ∷ [] }

-- the rows that a number chooses: a conjunction, a NOR, an exclusive or, the first pin without the second
abbrev pub drawn_rows : ℕ → List Cube
drawn_rows choice =
    if choice == 0 then row_of One One ∷ []
    else if choice == 1 then row_of Zero Zero ∷ []
    else if choice == 2 then row_of Zero One ∷ row_of One Zero ∷ []
    else row_of One Zero ∷ []

-- the output of these rows, which is on for all but the NOR
abbrev pub drawn_on : ℕ → Bool
drawn_on choice = if choice == 0 then true else if choice == 1 then false else true

-- a table, as a word chooses
abbrev pub drawn_table : ℕ → ℕ → NamedTable
drawn_table table word = record {
  pins = pin_name table (word % 2 ^ 32 / 4) ∷ pin_name table (word / 2 ^ 32) ∷ [];
  target = signal_name (16 + table);
  rows = drawn_rows (word % 4);
  on = drawn_on (word % 4);
}

-- so many tables from a place on, each by the next word behind a state of the generator
unfoldable pub drawn_tables : ℕ → ℕ → ℕ → List NamedTable
drawn_tables zero table state = []
drawn_tables (suc count) table state =
    drawn_table table (mix_u64 state).0 ∷ drawn_tables count (table + 1) (mix_u64 state).1

-- the design of so many tables, from a seed: its outputs are the targets of the last tables, 16 at most
unfoldable pub gen_design : ℕ → ℕ → NamedDesign
gen_design seed tables = record {
  name = codes "gen";
  inputs = names_from 105 0 16;
  outputs = names_from 116 (tables - min tables 16) (min tables 16);
  tables = drawn_tables tables 0 seed;
}

-- The text of each generated design is accepted.
abbrev pub GeneratedTextsAreAccepted : Type 0
GeneratedTextsAreAccepted = (seed tables : ℕ) → 1 ≤ tables → tables ≤ MAX_TABLES → IsAccepted (gen_text seed tables)
