-- Worked cases, computed from the definitions.
use Rattle.std.proofs.Common.{◌≡◌, ℕ, true, false, List, [], ◌∷◌, Some, None, map, refl}
use Rattle.std.specs.declared.cmp.Ordering.TheVariants.{Less, Greater}
use Rattle.cut_word.specs.Table.{value_at, table_of}
use Rattle.cut_word.specs.Cut.{CutView, trivial_cut, negated}
use Rattle.cut_word.specs.Word.{packed, first_word, leaves_in, padded}
use Rattle.cut_word.specs.Merge.{values_at, both_over, merged}
use Rattle.cut_word.specs.Order.{cut_cmp}

-- a cut of these leaves and this table
cut_over : List ℕ → ℕ → CutView
cut_over leaves table = record { leaves = leaves; table = table }

-- ---- The words of the graph: inputs 0 and 1, node 2 the complement of 1, node 3 the conjunction of 0 and 2
words-trivial : map (λ leaf. first_word (leaf ∷ [])) (0 ∷ 1 ∷ 2 ∷ 3 ∷ []) ≡ 0x4000010000000000 ∷ 0x4000020000000000 ∷ 0x4000030000000000 ∷ 0x4000040000000000 ∷ []
unfolding first_word packed
words-trivial = refl

-- node 2 has its fan-in's cut, negated
negated-trivial : negated (trivial_cut 1) ≡ cut_over (1 ∷ []) 0x55
unfolding cut_over
negated-trivial = refl

negated-twice : negated (negated (trivial_cut 1)) ≡ trivial_cut 1
negated-twice = refl

-- and node 3 the merge of the trivial cuts of its fan-ins,
merged-trivial : merged (trivial_cut 0) (trivial_cut 2) ≡ Some (cut_over (0 ∷ 2 ∷ []) 0x88)
unfolding merged both_over table_of cut_over
merged-trivial = refl

word-02 : first_word (0 ∷ 2 ∷ []) ≡ 0x8000010000300000
unfolding first_word packed
word-02 = refl

-- and that of the trivial cut of 0 with the negated one of 1.
merged-negated : merged (trivial_cut 0) (negated (trivial_cut 1)) ≡ Some (cut_over (0 ∷ 1 ∷ []) 0x22)
unfolding merged both_over table_of cut_over
merged-negated = refl

word-01 : first_word (0 ∷ 1 ∷ []) ≡ 0x8000010000200000
unfolding first_word packed
word-01 = refl

-- ---- Merges
-- The leaves ascend, whichever cut comes first.
merged-turned : merged (trivial_cut 2) (trivial_cut 0) ≡ Some (cut_over (0 ∷ 2 ∷ []) 0x88)
unfolding merged both_over table_of cut_over
merged-turned = refl

-- Equal leaves are one: a leaf and itself, and a leaf and its complement.
merged-same : merged (trivial_cut 5) (trivial_cut 5) ≡ Some (trivial_cut 5)
unfolding merged both_over table_of
merged-same = refl

merged-opposite : merged (trivial_cut 5) (negated (trivial_cut 5)) ≡ Some (cut_over (5 ∷ []) 0x00)
unfolding merged both_over table_of cut_over
merged-opposite = refl

-- The conjunction of three leaves, the third of them first, last or in the middle.
merged-three : map (λ leaf. merged (cut_over (4 ∷ 8 ∷ []) 0x88) (trivial_cut leaf)) (2 ∷ 6 ∷ 9 ∷ [])
    ≡ Some (cut_over (2 ∷ 4 ∷ 8 ∷ []) 0x80) ∷ Some (cut_over (4 ∷ 6 ∷ 8 ∷ []) 0x80) ∷ Some (cut_over (4 ∷ 8 ∷ 9 ∷ []) 0x80) ∷ []
unfolding merged both_over table_of cut_over
merged-three = refl

-- A table that tells its leaves apart goes with them: 4 and not 8, with 6 in the middle.
merged-widened : merged (cut_over (4 ∷ 8 ∷ []) 0x22) (trivial_cut 6) ≡ Some (cut_over (4 ∷ 6 ∷ 8 ∷ []) 0x08)
unfolding merged both_over table_of cut_over
merged-widened = refl

-- Two leaves of one cut and two others are too many, and so are three and another.
merged-many : merged (cut_over (0 ∷ 2 ∷ []) 0x88) (cut_over (1 ∷ 3 ∷ []) 0x88) ≡ None
unfolding merged both_over table_of cut_over
merged-many = refl

merged-four : merged (cut_over (0 ∷ 1 ∷ 2 ∷ []) 0x80) (trivial_cut 3) ≡ None
unfolding merged both_over table_of cut_over
merged-four = refl

-- ---- Values and tables
-- A single leaf at place 1, 2 or 3 has these tables.
single-tables : map (λ leaf. table_of (λ place. values_at (0 ∷ 1 ∷ 2 ∷ []) place leaf)) (0 ∷ 1 ∷ 2 ∷ []) ≡ 0xAA ∷ 0xCC ∷ 0xF0 ∷ []
unfolding table_of
single-tables = refl

-- 4 and not 8, at all values of both
values-22 : map (value_at 0x22) ((false ∷ false ∷ []) ∷ (true ∷ false ∷ []) ∷ (false ∷ true ∷ []) ∷ (true ∷ true ∷ []) ∷ []) ≡ false ∷ true ∷ false ∷ false ∷ []
values-22 = refl

-- ---- Words back
largest-word : first_word (1048571 ∷ 1048572 ∷ 1048573 ∷ []) ≡ 0xCFFFFCFFFFDFFFFE
unfolding first_word packed
largest-word = refl

leaves-back : leaves_in (first_word (0 ∷ 7 ∷ 1048573 ∷ [])) ≡ 0 ∷ 7 ∷ 1048573 ∷ []
unfolding leaves_in first_word packed
leaves-back = refl

padded-two : padded (4 ∷ 8 ∷ []) ≡ 4 ∷ 8 ∷ 0 ∷ []
padded-two = refl

-- Fewer leaves come first, then the lesser leaf 1; of one first word the lesser table.
order-size : cut_cmp (cut_over (9 ∷ []) 0xAA) (cut_over (0 ∷ 1 ∷ []) 0x88) ≡ Less
unfolding cut_over first_word packed
order-size = refl

order-leaves : cut_cmp (cut_over (0 ∷ 9 ∷ []) 0x88) (cut_over (1 ∷ 2 ∷ []) 0x22) ≡ Less
unfolding cut_over first_word packed
order-leaves = refl

order-table : cut_cmp (cut_over (0 ∷ 1 ∷ []) 0x88) (cut_over (0 ∷ 1 ∷ []) 0x22) ≡ Greater
unfolding cut_over first_word packed
order-table = refl
