use Rattle.std.proofs.Common.{◌≡◌, ◌-◌, ◌*◌, ◌++◌, take, replicate}
use Rattle.cut_lists.specs.Rows.{words_of}
use Rattle.cut_lists.proofs.row.row_with_cuts.Given as goal

abbrev pub invariant-loop-k : goal.invariant-loop-k
invariant-loop-k l = l.words ≡ words_of (take l.k l.cuts) ++ replicate (16 - 2 * l.k) 0
