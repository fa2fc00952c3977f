use Rattle.std.proofs.Common.{◌≡◌, ◌+◌, ◌-◌, ◌*◌, ◌++◌, length, drop, flat_map}
use Rattle.std.specs.List.{range_with_len}
use Rattle.pulse_sim.specs.Reading.{line_read, lines_read}
use Rattle.pulse_sim.specs.Running.{HasRun}
use Rattle.pulse_sim.proofs.run.write_lines.Given as goal

-- so many epochs were run
abbrev pub invariant-loop-epoch : goal.invariant-loop-epoch
invariant-loop-epoch l = record {
  taps : l.sim.taps ≡ l.fn.sim.taps;
  shown : length l.shown ≡ length l.fn.sim.taps;
  read : length l.read ≡ length l.fn.sim.taps;
  run : HasRun l.net l.rows (l.net.phases * l.epoch) l.sim;
  left : l.left ≡ drop l.epoch l.rows;
}

-- the lines so far and those of the rest are those of all
abbrev pub invariant-loop-row : goal.invariant-loop-row
invariant-loop-row l = record {
  taps : l.sim.taps ≡ l.fn.sim.taps;
  shown : length l.shown ≡ length l.fn.sim.taps;
  read : length l.read ≡ length l.fn.sim.taps;
  run : HasRun l.net l.rows (l.net.phases * (l.row + (l.net.latency - 1))) l.sim;
  left : l.left ≡ drop (l.row + (l.net.latency - 1)) l.rows;
  lines : l.text.items ++ flat_map (line_read l.net l.rows) (range_with_len l.row (length l.rows - l.row)) ≡ l.fn.text.items ++ lines_read l.net l.rows;
}
