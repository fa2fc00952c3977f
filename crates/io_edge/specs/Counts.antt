-- Counts of what went wrong at a stream. A count is a `u64`, and stands still at its last value.
use Rattle.std.specs.Prelude.{ℕ, ◌≡◌, ◌+◌, ◌-◌, ◌^◌, ◌≤◌, min}

-- one more, or the last value again
abbrev pub raised : ℕ → ℕ
raised count = min (count + 1) (2 ^ 64 - 1)

-- the count rose, or stands at its last value
abbrev pub Rose : ℕ → ℕ → Type 0
Rose before after = raised before ≤ after

-- what is counted at a sink: the writes that failed, those that took nothing of a piece that wasn't empty, and the room
-- that it was made with, in bytes
pub record SinkCounts : Type 0 where
  pub faults : ℕ
  pub stalls : ℕ
  pub size : ℕ

-- counts of one sink, the second ones later: no count fell, and the size is the same
pub record AreLater (before after : SinkCounts) : Type 0 where
  pub faults : before.faults ≤ after.faults
  pub stalls : before.stalls ≤ after.stalls
  pub size : after.size ≡ before.size
