-- A source over bytes in memory, as its caller sees it.
use Rattle.std.specs.Prelude.{ℕ, List, length, drop, min}
use Rattle.io_edge.specs.Counts.{raised}

pub record MemSourceState : Type 0 where
  -- the bytes still to come
  pub left : List ℕ
  -- the most bytes that one read gives
  pub piece : ℕ
  -- the numbers of the reads that fail
  pub fails : List ℕ
  -- the reads so far
  pub reads : ℕ
  pub faults : ℕ

-- how many bytes the next read gives into so much room
abbrev pub read_size : MemSourceState → ℕ → ℕ
read_size s room = min s.piece (min room (length s.left))

abbrev pub after_read : MemSourceState → ℕ → MemSourceState
after_read s k = record s { left = drop k s.left; reads = raised s.reads }

abbrev pub after_failed_read : MemSourceState → MemSourceState
after_failed_read s = record s { reads = raised s.reads; faults = raised s.faults }
