-- Worked cases, computed from the definitions.
use Rattle.std.proofs.Common.{◌≡◌, ◌+◌, ◌*◌, Some, [], ◌∷◌, map, true, false, refl}
use Rattle.cut_word.specs.Cut.{trivial_cut, negated}
use Rattle.cut_word.specs.Table.{table_of}
use Rattle.cut_word.specs.Word.{first_word, packed}
use Rattle.pattern_table.specs.Formula.{table_over}
use Rattle.pattern_table.specs.Least.{least_head, parts_above}
use Rattle.cell_match.specs.Candidates.{is_plain_table, match_at, cut_matches, candidates}

-- constants and single leaves are plain, a complement and a conjunction aren't
plain : map is_plain_table (0x00 ∷ 0xFF ∷ 0xAA ∷ 0xCC ∷ 0xF0 ∷ []) ≡ true ∷ true ∷ true ∷ true ∷ true ∷ []
plain = refl

not_plain : map is_plain_table (0x55 ∷ 0x33 ∷ 0x88 ∷ []) ≡ false ∷ false ∷ false ∷ []
not_plain = refl

-- The complement of node 1 at depth 1 is one Not over it. The first word of the cut has its size and its leaf.
complement : match_at (negated (trivial_cut 1)) 1 ≡ Some (record { leaves = 0x4000020000000000; table = 0x55; depth = 1; cost = 9 })
unfolding first_word packed least_head table_over table_of
complement = refl

-- the list of node 2, the complement of node 1: its own cut is no candidate's
candidates-complement : candidates (trivial_cut 2 ∷ negated (trivial_cut 1) ∷ [])
    ≡ map (λ depth. record { leaves = 0x4000020000000000; table = 0x55; depth = depth; cost = 6 * depth + 3 }) (1 ∷ 2 ∷ 3 ∷ 4 ∷ [])
unfolding cut_matches first_word packed least_head parts_above table_over table_of
candidates-complement = refl
