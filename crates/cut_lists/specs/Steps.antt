-- Steps on the way to a list.
use Rattle.std.specs.Prelude.{◌-◌, ◌++◌, List, length, take, drop}
use Rattle.cut_word.specs.Cut.{CutView}
use Rattle.cut_lists.specs.CutList.{kept}

-- A list of a node, and behind it what is kept of the pool until there are eight. Its first cut, the trivial one, keeps none out.
unfoldable pub with_kept : List CutView → List CutView → List CutView
with_kept list pool = list ++ take (8 - length list) (kept (drop 1 list) pool)
