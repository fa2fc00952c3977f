-- What commands make of each other's outputs.
use Rattle.std.specs.Prelude.{◌≤◌, ℕ, List, length, IsOk}
use Rattle.netlist_text.specs.declared.reading.TheConstants.{MAX_BYTES}
use Rattle.rsfq_main.specs.declared.words.Command.TheVariants.{Check}
use Rattle.rsfq_main.specs.Commands.{output_of, SpellsMeaning}

-- `check` has an answer, and no objection, for each netlist that `map` writes, if it isn't too long to be read.
abbrev pub NetlistsPassCheck : Type 0
NetlistsPassCheck = (n : ℕ) (text bytes : List ℕ) → SpellsMeaning n text bytes → length bytes ≤ MAX_BYTES → IsOk (output_of Check bytes)
