use Rattle.std.proofs.Common.{◌≡◌, ◌≤◌, length}
use Rattle.pulse_sim.specs.declared.rows.TheConstants.{MAX_ROWS}
use Rattle.pulse_sim.specs.Rows.{text_lines, rows_of_lines, rows_of}
use Rattle.pulse_sim.proofs.rows.read_rows.Given as goal

-- the rows so far and those of the rest are those of the whole
abbrev pub invariant-loop-rest : goal.invariant-loop-rest
invariant-loop-rest l = record {
  whole : rows_of_lines l.inputs l.line l.rows (text_lines l.rest) ≡ rows_of l.bytes l.inputs l.line;
  few : length l.rows ≤ MAX_ROWS;
}

abbrev pub decreases-loop-rest : goal.decreases-loop-rest
decreases-loop-rest l = length l.rest
