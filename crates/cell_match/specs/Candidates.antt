-- The candidates of a node: the cuts of its list whose truth tables cells have, and how many levels of cells.
use Rattle.std.specs.Prelude.{ℕ, ◌==◌, Bool, List, [], ◌∷◌, length, drop, cond, Option}
use Rattle.std.specs.List.{list_any, filter_map, flat_map}
use Rattle.std.specs.Option.{option_map}
use Rattle.cut_word.specs.Cut.{CutView}
use Rattle.cut_word.specs.Word.{first_word}
use Rattle.pattern_table.specs.declared.formula.Formula.{Formula}
use Rattle.pattern_table.specs.Least.{least_formula}
use Rattle.cell_match.specs.declared.matching.Match.{Match}

-- a table that is no candidate's: a constant's, or that of a single leaf
abbrev pub is_plain_table : ℕ → Bool
is_plain_table table = list_any (λ plain. plain == table) (0x00 ∷ 0xFF ∷ 0xAA ∷ 0xCC ∷ 0xF0 ∷ [])

-- the candidate of a cut, a depth, and the least formula of the cut's table at that depth
abbrev pub match_of : CutView → ℕ → Formula → Match
match_of cut depth formula = record { leaves = first_word cut.leaves; table = cut.table; depth = depth; cost = formula.cost }

-- the candidate of a cut at a depth, where a formula over as many leaves as the cut has gives the cut's table
abbrev pub match_at : CutView → ℕ → Option Match
match_at cut depth = option_map (match_of cut depth) (least_formula (length cut.leaves) cut.table depth)

-- the candidates of a cut, by depth, from 1 to 4
unfoldable pub cut_matches : CutView → List Match
cut_matches cut = cond (is_plain_table cut.table) [] (filter_map (match_at cut) (1 ∷ 2 ∷ 3 ∷ 4 ∷ []))

-- all candidates of a cut list: those of each cut but the first, which is the node's own
abbrev pub candidates : List CutView → List Match
candidates cuts = flat_map cut_matches (drop 1 cuts)
