use Rattle.std.proofs.Common.{length, ◌-◌, ◌≡◌, ◌≤◌, take}
use Rattle.io_edge.specs.Counts.{AreLater}
use Rattle.io_edge.specs.Sink.{Gains}
use Rattle.io_edge.proofs.writing.write_all_of.Given as goal

abbrev pub invariant-loop-taken : goal.invariant-loop-taken
invariant-loop-taken g l = record {
  inside : l.taken ≤ length l.bytes;
  gained : Gains (g.K.Sink.taken l.initial.sink) (g.K.Sink.taken l.sink) (take l.taken l.bytes);
  counts : AreLater (g.K.Sink.counts l.initial.sink) (g.K.Sink.counts l.sink);
  untouched : l.taken ≡ 0 → l.sink ≡ l.initial.sink;
}

abbrev pub decreases-loop-taken : goal.decreases-loop-taken
decreases-loop-taken g l = length l.bytes - l.taken
