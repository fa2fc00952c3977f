use Rattle.std.proofs.Common.{◌≡◌, take}
use Rattle.cut_lists.specs.Rows.{all_words}
use Rattle.cut_lists.proofs.rows.all_rows.Given as goal

abbrev pub invariant-loop-i : goal.invariant-loop-i
invariant-loop-i l = l.rows ≡ take l.i (all_words l.graph)
