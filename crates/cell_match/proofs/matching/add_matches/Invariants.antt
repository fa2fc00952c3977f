use Rattle.std.proofs.Common.{◌≡◌, ◌-◌, ◌++◌, take}
use Rattle.std.specs.List.{filter_map}
use Rattle.cell_match.specs.Candidates.{match_at}
use Rattle.cell_match.proofs.Steps.{depths}
use Rattle.cell_match.proofs.matching.add_matches.Given as goal

abbrev pub invariant-loop-depth : goal.invariant-loop-depth
invariant-loop-depth l = l.found ≡ l.initial.found ++ filter_map (match_at l.cut) (take (l.depth - 1) depths)
