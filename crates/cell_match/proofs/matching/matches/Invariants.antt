use Rattle.std.proofs.Common.{◌≡◌, List, take}
use Rattle.cut_word.specs.Cut.{CutView}
use Rattle.cut_lists.specs.Rows.{IsRowOf}
use Rattle.cell_match.specs.Candidates.{candidates}
use Rattle.cell_match.proofs.matching.matches.Given as goal

abbrev pub invariant-loop-place : goal.invariant-loop-place
invariant-loop-place l = (cuts : List CutView) → IsRowOf cuts l.row → l.found ≡ candidates (take l.place cuts)
