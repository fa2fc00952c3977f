-- Levels of all signals, by their numbers.
use Rattle.std.specs.Prelude.{◌≡◌, ◌<◌, ◌^◌, ℕ, List, slice_index}
use Rattle.blif_model.specs.declared.design.Table.{Table}
use Rattle.blif_model.specs.Order.{driver_of, level_behind, level_of}

-- none is near the last number of 32 bits
abbrev pub AreFew : List ℕ → Type 0
AreFew levels = (signal : ℕ) → slice_index levels signal < 2 ^ 31

-- each is the one that those of the pins give
abbrev pub AreAbovePins : List ℕ → List Table → Type 0
AreAbovePins levels tables = (signal : ℕ) → slice_index levels signal ≡ level_behind (slice_index levels) (driver_of tables signal)

-- each is the level of its signal
abbrev pub AreLevels : List ℕ → List Table → Type 0
AreLevels levels tables = (signal : ℕ) → slice_index levels signal ≡ level_of tables signal
