-- Why a write of a whole text may give up.
use Rattle.std.specs.Prelude.{◌⊎◌}
use Rattle.io_edge.specs.Counts.{SinkCounts, Rose}

-- the sink failed, or it stalled
abbrev pub FailedOrStalled : SinkCounts → SinkCounts → Type 0
FailedOrStalled before after = Rose before.faults after.faults ⊎ Rose before.stalls after.stalls
