-- A sink into memory, as its caller sees it.
use Rattle.std.specs.Prelude.{ℕ, ◌-◌, List, ◌++◌, length, take, min}
use Rattle.io_edge.specs.Counts.{SinkCounts, raised}
use Rattle.io_edge.specs.Sink.{stalls_after}

pub record MemSinkState : Type 0 where
  pub taken : List ℕ
  -- the most bytes that it takes in all
  pub room : ℕ
  -- the most bytes that one write takes
  pub piece : ℕ
  -- the numbers of the writes that fail
  pub fails : List ℕ
  -- the writes so far
  pub writes : ℕ
  pub faults : ℕ
  pub stalls : ℕ

abbrev pub counts_of : MemSinkState → SinkCounts
counts_of s = record { faults = s.faults; stalls = s.stalls; size = s.room }

-- how many of the bytes that it is offered the next write takes
abbrev pub write_size : MemSinkState → ℕ → ℕ
write_size s offered = min offered (min s.piece (s.room - length s.taken))

abbrev pub after_write : MemSinkState → List ℕ → ℕ → MemSinkState
after_write s bytes k =
    record s { taken = s.taken ++ take k bytes; writes = raised s.writes; stalls = stalls_after s.stalls (length bytes) k }

abbrev pub after_failed_write : MemSinkState → MemSinkState
after_failed_write s = record s { writes = raised s.writes; faults = raised s.faults }
