use Rattle.std.proofs.Common.{◌≡◌, List, length, take}
use Rattle.cut_word.specs.Cut.{CutView}
use Rattle.cut_lists.specs.Rows.{IsRowOf}
use Rattle.cut_lists.proofs.row.cuts_of.Given as goal

abbrev pub invariant-loop-k : goal.invariant-loop-k
invariant-loop-k l = record {
  value : (cuts : List CutView) → IsRowOf cuts l.row → l.cuts ≡ take l.k cuts;
  len : length l.cuts ≡ l.k;
}
