-- The parts of a first word.
use mir.Val.{bool_byte}
use Rattle.std.proofs.Common.{nat_eq, not, ◌-◌, ◌≡◌, ◌<◌, ◌≤◌, ◌+◌, ◌*◌, ◌%◌, ◌/◌, ◌^◌, ◌∙◌, ℕ, suc, zero, List, [], ◌∷◌, ◌++◌, length, refl, sym, ap, subst, arith}
use Rattle.std.specs.List.{All}
use Rattle.std.proofs.lemmas.Bool.{ne_eqb}
use Rattle.std.proofs.lemmas.List.Elements.{All-head, All-tail}
use Rattle.cut_word.specs.declared.cut.TheConstants.{LEAF_LIMIT}
use Rattle.cut_word.specs.Cut.{CutView, IsCut}
use Rattle.cut_word.specs.Word.{field_at, packed, first_word, leaf_of, leaves_in, cut_of, AreOfCut, IsWords, padded}

-- the parts of a number that is put together of them
module _ (w s p q r : ℕ) (is : w ≡ s * 2 ^ 62 + (p * 2 ^ 40 + q * 2 ^ 20 + r)) (p-fits : p < 2 ^ 20) (q-fits : q < 2 ^ 20) (r-fits : r < 2 ^ 20) where
  pub part_3 : w % 2 ^ 20 ≡ r
  part_3 = omega arith

  pub part_2 : w / 2 ^ 20 % 2 ^ 20 ≡ q
  part_2 = omega arith

  pub part_1 : w / 2 ^ 40 % 2 ^ 20 ≡ p
  part_1 = omega arith

  pub part_size : w / 2 ^ 62 ≡ s
  part_size = omega arith

  pub part_leaves : w % 2 ^ 62 ≡ p * 2 ^ 40 + q * 2 ^ 20 + r
  part_leaves = omega arith

  pub part_top : w / 2 ^ 60 ≡ 4 * s
  part_top = omega arith

  leaves_in-parts : leaves_in w ≡ leaf_of p ++ leaf_of q ++ leaf_of r
  unfolding leaves_in
  leaves_in-parts = rw (part_1, part_2, part_3) refl

-- A leaf fits its place.
pub field_at-fits : (leaves : List ℕ) (place : ℕ) → All (λ leaf. leaf < LEAF_LIMIT) leaves → field_at leaves place < 2 ^ 20
field_at-fits [] zero low = omega arith
field_at-fits [] (suc place) low = omega arith
field_at-fits (leaf ∷ leaves) zero low = let h : leaf < LEAF_LIMIT = All-head (λ n. n < LEAF_LIMIT) leaf leaves low in omega arith
field_at-fits (leaf ∷ leaves) (suc place) low = field_at-fits leaves place (All-tail (λ n. n < LEAF_LIMIT) leaf leaves low)

-- the parts of the first word of these leaves
module _ (leaves : List ℕ) (low : All (λ leaf. leaf < LEAF_LIMIT) leaves) where
  pub first_word-1 : first_word leaves / 2 ^ 40 % 2 ^ 20 ≡ field_at leaves 0
  unfolding first_word packed
  first_word-1 = part_1 (first_word leaves) (length leaves) (field_at leaves 0) (field_at leaves 1) (field_at leaves 2) refl (field_at-fits leaves 0 low) (field_at-fits leaves 1 low) (field_at-fits leaves 2 low)

  pub first_word-2 : first_word leaves / 2 ^ 20 % 2 ^ 20 ≡ field_at leaves 1
  unfolding first_word packed
  first_word-2 = part_2 (first_word leaves) (length leaves) (field_at leaves 0) (field_at leaves 1) (field_at leaves 2) refl (field_at-fits leaves 0 low) (field_at-fits leaves 1 low) (field_at-fits leaves 2 low)

  pub first_word-3 : first_word leaves % 2 ^ 20 ≡ field_at leaves 2
  unfolding first_word packed
  first_word-3 = part_3 (first_word leaves) (length leaves) (field_at leaves 0) (field_at leaves 1) (field_at leaves 2) refl (field_at-fits leaves 0 low) (field_at-fits leaves 1 low) (field_at-fits leaves 2 low)

  pub first_word-size : first_word leaves / 2 ^ 62 ≡ length leaves
  unfolding first_word packed
  first_word-size = part_size (first_word leaves) (length leaves) (field_at leaves 0) (field_at leaves 1) (field_at leaves 2) refl (field_at-fits leaves 0 low) (field_at-fits leaves 1 low) (field_at-fits leaves 2 low)

  pub first_word-top : first_word leaves / 2 ^ 60 ≡ 4 * length leaves
  unfolding first_word packed
  first_word-top = part_top (first_word leaves) (length leaves) (field_at leaves 0) (field_at leaves 1) (field_at leaves 2) refl (field_at-fits leaves 0 low) (field_at-fits leaves 1 low) (field_at-fits leaves 2 low)

  pub first_word-leaves : first_word leaves % 2 ^ 62 ≡ packed leaves
  unfolding first_word packed
  first_word-leaves = part_leaves (first_word leaves) (length leaves) (field_at leaves 0) (field_at leaves 1) (field_at leaves 2) refl (field_at-fits leaves 0 low) (field_at-fits leaves 1 low) (field_at-fits leaves 2 low)

fields-whole : (leaves : List ℕ) → length leaves ≤ 3 → leaf_of (field_at leaves 0) ++ leaf_of (field_at leaves 1) ++ leaf_of (field_at leaves 2) ≡ leaves
fields-whole [] few = refl
fields-whole (x ∷ []) few = refl
fields-whole (x ∷ (y ∷ [])) few = refl
fields-whole (x ∷ (y ∷ (z ∷ []))) few = refl
fields-whole (x ∷ (y ∷ (z ∷ (u ∷ leaves)))) few = absurd (omega arith)

-- A word has the leaves that it was made of.
pub leaves_in-first_word : (leaves : List ℕ) → length leaves ≤ 3 → All (λ leaf. leaf < LEAF_LIMIT) leaves → leaves_in (first_word leaves) ≡ leaves
unfolding leaves_in
leaves_in-first_word leaves few low = rw (first_word-1 leaves low, first_word-2 leaves low, first_word-3 leaves low) (fields-whole leaves few)

-- So a cut is had from its words,
pub cut_of-words : (cut : CutView) → IsCut cut → cut_of (first_word cut.leaves) cut.table ≡ cut
cut_of-words cut is = let P : List ℕ → CutView = λ leaves. record { leaves = leaves; table = cut.table } in ap P (leaves_in-first_word cut.leaves is.few is.low)

-- and its words are those of a cut.
pub AreOfCut-words : (cut : CutView) → IsCut cut → AreOfCut (first_word cut.leaves) cut.table
AreOfCut-words cut is = record {
  cut = subst IsCut (sym (cut_of-words cut is)) is;
  whole = ap first_word (leaves_in-first_word cut.leaves is.few is.low);
}

-- What the words of a cut have in their places.
pub record Parts (word : ℕ) (leaves : List ℕ) : Type 0 where
  pub size : word / 2 ^ 62 ≡ length leaves
  pub rest : word % 2 ^ 62 ≡ packed leaves
  pub one : word / 2 ^ 40 % 2 ^ 20 ≡ field_at leaves 0
  pub two : word / 2 ^ 20 % 2 ^ 20 ≡ field_at leaves 1
  pub three : word % 2 ^ 20 ≡ field_at leaves 2

pub Parts-of : (first second : ℕ) → AreOfCut first second → Parts first (leaves_in first)
Parts-of first second are =
    let P : ℕ → Type 0 = λ word. Parts word (leaves_in first) in
    subst P are.whole (record {
      size = first_word-size (leaves_in first) are.cut.low;
      rest = first_word-leaves (leaves_in first) are.cut.low;
      one = first_word-1 (leaves_in first) are.cut.low;
      two = first_word-2 (leaves_in first) are.cut.low;
      three = first_word-3 (leaves_in first) are.cut.low;
    })

-- Two words are of a cut where they are its words.
pub AreOfCut-made : (cut : CutView) → IsCut cut → (first second : ℕ) → first ≡ first_word cut.leaves → second ≡ cut.table → AreOfCut first second
AreOfCut-made cut is first second first-is second-is =
    let Of : ℕ → ℕ → Type 0 = λ w t. AreOfCut w t in
    subst (λ (w : ℕ). AreOfCut w second) (sym first-is) (subst (λ (t : ℕ). AreOfCut (first_word cut.leaves) t) (sym second-is) (AreOfCut-words cut is))

pub cut_of-made : (cut : CutView) → IsCut cut → (first second : ℕ) → first ≡ first_word cut.leaves → second ≡ cut.table → cut_of first second ≡ cut
cut_of-made cut is first second first-is second-is = ap (λ w. cut_of w second) first-is ∙ ap (cut_of (first_word cut.leaves)) second-is ∙ cut_of-words cut is

-- The word of leaves by what stands for each, and by whether there is a second and a third.
pub first_word-fields : (one two three second third : ℕ) → 0 < one → (two ≡ 0 → three ≡ 0) → second ≡ bool_byte (not (nat_eq two 0)) → third ≡ bool_byte (not (nat_eq three 0)) → (1 + second + third) * 2 ^ 62 + one * 2 ^ 40 + two * 2 ^ 20 + three ≡ first_word (leaf_of one ++ (leaf_of two ++ leaf_of three))
unfolding first_word packed
first_word-fields zero two three second third some order e f = absurd (omega arith)
first_word-fields (suc p) zero zero second third some order e f = omega (arith, e, f)
first_word-fields (suc p) zero (suc r) second third some order e f = absurd (let none : suc r ≡ 0 = order refl in omega arith)
first_word-fields (suc p) (suc q) zero second third some order e f = let g : second ≡ 1 = e ∙ ap (λ b. bool_byte (not b)) (ne_eqb (suc q) 0 (λ h. omega arith)) in omega (arith, f)
first_word-fields (suc p) (suc q) (suc r) second third some order e f =
    let g : second ≡ 1 = e ∙ ap (λ b. bool_byte (not b)) (ne_eqb (suc q) 0 (λ h. omega arith)) in
    let h : third ≡ 1 = f ∙ ap (λ b. bool_byte (not b)) (ne_eqb (suc r) 0 (λ k. omega arith)) in
    omega arith

pub first_word-trivial : (id n : ℕ) → n ≡ id → 2 ^ 62 + (n + 1) * 2 ^ 40 ≡ first_word (id ∷ [])
unfolding first_word packed
first_word-trivial id n e = omega arith

pub AreOfCut-from : (first second : ℕ) → IsWords first second → AreOfCut first second
AreOfCut-from first second (cut, is, first-is, second-is) = AreOfCut-made cut is first second (sym first-is) (sym second-is)

-- Ids of which absent ones are 0, by what stands for the leaves.
padded-is : (leaves : List ℕ) → length leaves ≤ 3 → (field_at leaves 0 - 1) ∷ (field_at leaves 1 - 1) ∷ (field_at leaves 2 - 1) ∷ [] ≡ padded leaves
padded-is [] few = refl
padded-is (x ∷ []) few = let e : suc x - 1 ≡ x = omega arith in rw e refl
padded-is (x ∷ (y ∷ [])) few = let e : suc x - 1 ≡ x = omega arith in let f : suc y - 1 ≡ y = omega arith in rw (e, f) refl
padded-is (x ∷ (y ∷ (z ∷ []))) few = let e : suc x - 1 ≡ x = omega arith in let f : suc y - 1 ≡ y = omega arith in let g : suc z - 1 ≡ z = omega arith in rw (e, f, g) refl
padded-is (x ∷ (y ∷ (z ∷ (u ∷ leaves)))) few = absurd (omega arith)

pub padded-fields : (word : ℕ) (leaves : List ℕ) → length leaves ≤ 3 → Parts word leaves → (word / 2 ^ 40 % 2 ^ 20 - 1) ∷ (word / 2 ^ 20 % 2 ^ 20 - 1) ∷ (word % 2 ^ 20 - 1) ∷ [] ≡ padded leaves
padded-fields word leaves few parts = rw (parts.one, parts.two, parts.three) (padded-is leaves few)

pub Parts-fields : (word : ℕ) (leaves : List ℕ) → Parts word leaves → (word / 2 ^ 40 % 2 ^ 20) ∷ (word / 2 ^ 20 % 2 ^ 20) ∷ (word % 2 ^ 20) ∷ [] ≡ field_at leaves 0 ∷ field_at leaves 1 ∷ field_at leaves 2 ∷ []
Parts-fields word leaves parts = rw (parts.one, parts.two, parts.three) refl
