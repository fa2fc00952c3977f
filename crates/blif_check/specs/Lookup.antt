-- Look-ups by the number of a signal.
use Rattle.std.specs.Prelude.{◌≡◌, ℕ, List, slice_get, slice_index_or, Option, None}
use Rattle.std.specs.Option.{option_and_then}
use Rattle.blif_model.specs.declared.design.Table.{Table}
use Rattle.blif_model.specs.Order.{driver_of}

-- the table at the place that stands for a signal
abbrev pub driver_at : List (Option ℕ) → List Table → ℕ → Option Table
driver_at places tables signal = option_and_then (slice_get tables) (slice_index_or places signal None)

-- for each signal the table at its place is the one that drives it
abbrev pub AreDrivers : List (Option ℕ) → List Table → Type 0
AreDrivers places tables = (signal : ℕ) → driver_at places tables signal ≡ driver_of tables signal
