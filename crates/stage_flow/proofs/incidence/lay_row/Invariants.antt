use Rattle.std.proofs.Common.{◌≡◌, ◌++◌, map, drop}
use Rattle.stage_flow.specs.Search.{near_of}
use Rattle.stage_flow.proofs.incidence.lay_row.Given as goal

abbrev pub invariant-loop-number : goal.invariant-loop-number
invariant-loop-number l = l.nears.items ++ map (near_of l.net l.vertex) (drop l.number-index l.numbers) ≡ l.fn.nears.items ++ map (near_of l.net l.vertex) l.numbers
