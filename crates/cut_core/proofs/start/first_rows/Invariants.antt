use Rattle.std.proofs.Common.{◌≡◌, ◌<◌, ℕ, length, get_or}
use Rattle.cut_lists.specs.declared.row.Row.{Row}
use Rattle.cut_lists.specs.Rows.{node_words, row_with}
use Rattle.cut_core.proofs.start.first_rows.Given as goal

abbrev pub invariant-loop-i : goal.invariant-loop-i
invariant-loop-i l = record {
  each : length l.rows.items ≡ length l.graph.nodes;
  known : (k : ℕ) (d : Row) → k < l.i → get_or l.rows.items k d ≡ row_with (node_words l.graph k);
}
