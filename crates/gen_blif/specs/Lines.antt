-- Lines of a BLIF text: names are a letter and a number.
use Rattle.std.specs.Prelude.{ℕ, ◌+◌, zero, suc, List, [], ◌∷◌, ◌++◌, codes, decimal}
use Rattle.std.specs.List.{flat_map}
use Rattle.gen_blif.specs.declared.lines.Signal.{Signal}

-- a letter and a number
abbrev pub name_of : ℕ → ℕ → List ℕ
name_of letter number = letter ∷ decimal number

-- a word behind a space
abbrev pub field : List ℕ → List ℕ
field word = codes " " ++ word

-- the names of signals of one letter, so many from a number on, each behind a space
unfoldable pub fields : ℕ → ℕ → ℕ → List ℕ
fields letter first zero = []
fields letter first (suc count) = field (name_of letter first) ++ fields letter (first + 1) count

-- the names of some signals, each behind a space
abbrev pub signal_fields : List Signal → List ℕ
signal_fields signals = flat_map (λ signal. field (name_of signal.letter signal.number)) signals

-- the line of a table: its pins, then its target
unfoldable pub names_line : List Signal → List ℕ
names_line signals = codes ".names" ++ signal_fields signals ++ codes "\n"
