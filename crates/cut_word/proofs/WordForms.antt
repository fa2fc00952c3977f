-- Which pairs are words of a cut, by the size that the first word tells.
use Rattle.std.proofs.Common.{Bool, IsTrue, ◌≡◌, ◌<◌, ◌≤◌, ◌+◌, ◌-◌, ◌*◌, ◌/◌, ◌%◌, ◌^◌, ◌∙◌, ◌↔◌, ◌⊎◌, inl, inr, ℕ, suc, zero, List, [], ◌∷◌, length, refl, sym, ap, subst, arith}
use Rattle.std.specs.List.{All, Contains}
use Rattle.cut_word.specs.declared.cut.TheConstants.{LEAF_LIMIT}
use Rattle.cut_word.specs.Cut.{CutView, IsCut}
use Rattle.cut_word.specs.Word.{field_at, packed, first_word, IsWords}
use Rattle.cut_word.specs.Forms.{AreSingle, ArePair, AreTriple}
use Rattle.cut_word.proofs.Tables.{four_times, twice, steady-four_times, steady-twice, steady-once}
use Rattle.cut_word.proofs.Unions.{Has, Rises, Rises-from, IsStrictlyIncreasing-from, Has-from, Contains-from}
use Rattle.cut_word.proofs.WordParts.{first_word-1, first_word-2, first_word-3, first_word-top}
use Rattle.cut_word.proofs.CallerLemmas.{All-has, All-from-has}

-- a word by its parts
whole : (w s : ℕ) → w / 2 ^ 60 ≡ 4 * s → w ≡ s * 2 ^ 62 + ((w / 2 ^ 40 % 2 ^ 20) * 2 ^ 40 + (w / 2 ^ 20 % 2 ^ 20) * 2 ^ 20 + w % 2 ^ 20)
whole w s top = omega arith

-- ---- From the form to the cut
words-single : (first second : ℕ) → first / 2 ^ 60 ≡ 4 → AreSingle (first / 2 ^ 40 % 2 ^ 20) (first / 2 ^ 20 % 2 ^ 20) (first % 2 ^ 20) second → IsWords first second
unfolding first_word packed
words-single first second top (some, low, none-2, none-3, table) =
    let one : suc (first / 2 ^ 40 % 2 ^ 20 - 1) ≡ first / 2 ^ 40 % 2 ^ 20 = omega arith in (
      record { leaves = (first / 2 ^ 40 % 2 ^ 20 - 1) ∷ []; table = second },
      record {
        some = omega arith;
        few = omega arith;
        ascending = IsStrictlyIncreasing-from ((first / 2 ^ 40 % 2 ^ 20 - 1) ∷ []) (tt, tt);
        low = All-from-has (λ n. n < LEAF_LIMIT) ((first / 2 ^ 40 % 2 ^ 20 - 1) ∷ []) (λ id has. elim has [ inl is ↦ omega arith | inr none ↦ elim none [ ] ]);
        byte = omega arith;
        steady = steady-four_times second table;
      },
      rw one (sym (whole first 1 top ∙ ap (λ n. 1 * 2 ^ 62 + ((first / 2 ^ 40 % 2 ^ 20) * 2 ^ 40 + n * 2 ^ 20 + first % 2 ^ 20)) none-2 ∙ ap (λ n. 1 * 2 ^ 62 + ((first / 2 ^ 40 % 2 ^ 20) * 2 ^ 40 + 0 * 2 ^ 20 + n)) none-3)),
      refl,
    )

words-pair : (first second : ℕ) → first / 2 ^ 60 ≡ 8 → ArePair (first / 2 ^ 40 % 2 ^ 20) (first / 2 ^ 20 % 2 ^ 20) (first % 2 ^ 20) second → IsWords first second
unfolding first_word packed
words-pair first second top (some, rises, low, none-3, table) =
    let one : suc (first / 2 ^ 40 % 2 ^ 20 - 1) ≡ first / 2 ^ 40 % 2 ^ 20 = omega arith in
    let two : suc (first / 2 ^ 20 % 2 ^ 20 - 1) ≡ first / 2 ^ 20 % 2 ^ 20 = omega arith in (
      record { leaves = (first / 2 ^ 40 % 2 ^ 20 - 1) ∷ (first / 2 ^ 20 % 2 ^ 20 - 1) ∷ []; table = second },
      record {
        some = omega arith;
        few = omega arith;
        ascending = IsStrictlyIncreasing-from ((first / 2 ^ 40 % 2 ^ 20 - 1) ∷ (first / 2 ^ 20 % 2 ^ 20 - 1) ∷ []) ((omega arith, tt), (tt, tt));
        low = All-from-has (λ n. n < LEAF_LIMIT) ((first / 2 ^ 40 % 2 ^ 20 - 1) ∷ (first / 2 ^ 20 % 2 ^ 20 - 1) ∷ []) (λ id has. elim has [
          | inl is ↦ omega arith
          | inr behind ↦ elim behind [ inl is ↦ omega arith | inr none ↦ elim none [ ] ]
        ]);
        byte = omega arith;
        steady = steady-twice second table;
      },
      rw (one, two) (sym (whole first 2 top ∙ ap (λ n. 2 * 2 ^ 62 + ((first / 2 ^ 40 % 2 ^ 20) * 2 ^ 40 + (first / 2 ^ 20 % 2 ^ 20) * 2 ^ 20 + n)) none-3)),
      refl,
    )

words-triple : (first second : ℕ) → first / 2 ^ 60 ≡ 12 → AreTriple (first / 2 ^ 40 % 2 ^ 20) (first / 2 ^ 20 % 2 ^ 20) (first % 2 ^ 20) second → IsWords first second
unfolding first_word packed
words-triple first second top (some, rises, rises-2, low, table) =
    let one : suc (first / 2 ^ 40 % 2 ^ 20 - 1) ≡ first / 2 ^ 40 % 2 ^ 20 = omega arith in
    let two : suc (first / 2 ^ 20 % 2 ^ 20 - 1) ≡ first / 2 ^ 20 % 2 ^ 20 = omega arith in
    let three : suc (first % 2 ^ 20 - 1) ≡ first % 2 ^ 20 = omega arith in (
      record { leaves = (first / 2 ^ 40 % 2 ^ 20 - 1) ∷ (first / 2 ^ 20 % 2 ^ 20 - 1) ∷ (first % 2 ^ 20 - 1) ∷ []; table = second },
      record {
        some = omega arith;
        few = omega arith;
        ascending = IsStrictlyIncreasing-from ((first / 2 ^ 40 % 2 ^ 20 - 1) ∷ (first / 2 ^ 20 % 2 ^ 20 - 1) ∷ (first % 2 ^ 20 - 1) ∷ []) ((omega arith, (omega arith, tt)), ((omega arith, tt), (tt, tt)));
        low = All-from-has (λ n. n < LEAF_LIMIT) ((first / 2 ^ 40 % 2 ^ 20 - 1) ∷ (first / 2 ^ 20 % 2 ^ 20 - 1) ∷ (first % 2 ^ 20 - 1) ∷ []) (λ id has. elim has [
          | inl is ↦ omega arith
          | inr behind ↦ elim behind [ inl is ↦ omega arith | inr last ↦ elim last [ inl is ↦ omega arith | inr none ↦ elim none [ ] ] ]
        ]);
        byte = omega arith;
        steady = steady-once second;
      },
      rw (one, two, three) (sym (whole first 3 top)),
      refl,
    )

-- ---- From the cut to the form
-- what stands in the places of its word
in-fields : (P : ℕ → ℕ → ℕ → ℕ → Type 0) (leaves : List ℕ) (table : ℕ) → All (λ leaf. leaf < LEAF_LIMIT) leaves → P (field_at leaves 0) (field_at leaves 1) (field_at leaves 2) table → P (first_word leaves / 2 ^ 40 % 2 ^ 20) (first_word leaves / 2 ^ 20 % 2 ^ 20) (first_word leaves % 2 ^ 20) table
in-fields P leaves table low form = rw (first_word-1 leaves low, first_word-2 leaves low, first_word-3 leaves low) form

size-of : (leaves : List ℕ) (n : ℕ) → All (λ leaf. leaf < LEAF_LIMIT) leaves → first_word leaves / 2 ^ 60 ≡ 4 * n → length leaves ≡ n
size-of leaves n low top = let size : first_word leaves / 2 ^ 60 ≡ 4 * length leaves = first_word-top leaves low in omega arith

single-form : (leaves : List ℕ) (table : ℕ) → IsCut (record { leaves = leaves; table = table }) → length leaves ≡ 1 → AreSingle (field_at leaves 0) (field_at leaves 1) (field_at leaves 2) table
single-form [] table is size = absurd (omega arith)
single-form (x ∷ []) table is size = (omega arith, All-has (λ n. n < LEAF_LIMIT) (x ∷ []) x is.low (inl refl), refl, refl, four_times table is.byte is.steady)
single-form (x ∷ (y ∷ leaves)) table is size = absurd (omega arith)

pair-form : (leaves : List ℕ) (table : ℕ) → IsCut (record { leaves = leaves; table = table }) → length leaves ≡ 2 → ArePair (field_at leaves 0) (field_at leaves 1) (field_at leaves 2) table
pair-form [] table is size = absurd (omega arith)
pair-form (x ∷ []) table is size = absurd (omega arith)
pair-form (x ∷ (y ∷ [])) table is size =
    let rises : Rises (x ∷ y ∷ []) = Rises-from (x ∷ y ∷ []) is.ascending in
    let below : x < y = rises.0.0 in
    (omega arith, omega arith, All-has (λ n. n < LEAF_LIMIT) (x ∷ y ∷ []) y is.low (inr (inl refl)), refl, twice table is.byte is.steady)
pair-form (x ∷ (y ∷ (z ∷ leaves))) table is size = absurd (omega arith)

triple-form : (leaves : List ℕ) (table : ℕ) → IsCut (record { leaves = leaves; table = table }) → length leaves ≡ 3 → AreTriple (field_at leaves 0) (field_at leaves 1) (field_at leaves 2) table
triple-form [] table is size = absurd (omega arith)
triple-form (x ∷ []) table is size = absurd (omega arith)
triple-form (x ∷ (y ∷ [])) table is size = absurd (omega arith)
triple-form (x ∷ (y ∷ (z ∷ []))) table is size =
    let rises : Rises (x ∷ y ∷ z ∷ []) = Rises-from (x ∷ y ∷ z ∷ []) is.ascending in
    let below : x < y = rises.0.0 in
    let below-2 : y < z = rises.1.0.0 in
    let byte : table < 256 = is.byte in
    (omega arith, omega arith, omega arith, All-has (λ n. n < LEAF_LIMIT) (x ∷ y ∷ z ∷ []) z is.low (inr (inr (inl refl))), omega arith)
triple-form (x ∷ (y ∷ (z ∷ (u ∷ leaves)))) table is size = absurd (omega arith)

-- ---- Both ways
form-of : (P : ℕ → ℕ → ℕ → ℕ → Type 0) (n : ℕ) → ((leaves : List ℕ) (table : ℕ) → IsCut (record { leaves = leaves; table = table }) → length leaves ≡ n → P (field_at leaves 0) (field_at leaves 1) (field_at leaves 2) table)
    → (first second : ℕ) → first / 2 ^ 60 ≡ 4 * n → IsWords first second → P (first / 2 ^ 40 % 2 ^ 20) (first / 2 ^ 20 % 2 ^ 20) (first % 2 ^ 20) second
form-of P n form first second top (cut, is, first-is, second-is) =
    let size : length cut.leaves ≡ n = size-of cut.leaves n is.low (ap (λ w. w / 2 ^ 60) first-is ∙ top) in
    subst (λ (w : ℕ). P (w / 2 ^ 40 % 2 ^ 20) (w / 2 ^ 20 % 2 ^ 20) (w % 2 ^ 20) second) first-is
    (subst (λ (t : ℕ). P (first_word cut.leaves / 2 ^ 40 % 2 ^ 20) (first_word cut.leaves / 2 ^ 20 % 2 ^ 20) (first_word cut.leaves % 2 ^ 20) t) second-is
    (in-fields P cut.leaves cut.table is.low (form cut.leaves cut.table is size)))

pub single-iff : (first second : ℕ) → first / 2 ^ 60 ≡ 4 → AreSingle (first / 2 ^ 40 % 2 ^ 20) (first / 2 ^ 20 % 2 ^ 20) (first % 2 ^ 20) second ↔ IsWords first second
single-iff first second top = (words-single first second top, form-of AreSingle 1 single-form first second top)

pub pair-iff : (first second : ℕ) → first / 2 ^ 60 ≡ 8 → ArePair (first / 2 ^ 40 % 2 ^ 20) (first / 2 ^ 20 % 2 ^ 20) (first % 2 ^ 20) second ↔ IsWords first second
pair-iff first second top = (words-pair first second top, form-of ArePair 2 pair-form first second top)

pub triple-iff : (first second : ℕ) → first / 2 ^ 60 ≡ 12 → AreTriple (first / 2 ^ 40 % 2 ^ 20) (first / 2 ^ 20 % 2 ^ 20) (first % 2 ^ 20) second ↔ IsWords first second
triple-iff first second top = (words-triple first second top, form-of AreTriple 3 triple-form first second top)

-- No other size is a cut's.
pub no-size : (first second : ℕ) → (first / 2 ^ 60 ≡ 4 → ⊥) → (first / 2 ^ 60 ≡ 8 → ⊥) → (first / 2 ^ 60 ≡ 12 → ⊥) → IsWords first second → ⊥
no-size first second not-1 not-2 not-3 (cut, is, first-is, second-is) =
    let size : first / 2 ^ 60 ≡ 4 * length cut.leaves = ap (λ w. w / 2 ^ 60) (sym first-is) ∙ first_word-top cut.leaves is.low in
    let some : 1 ≤ length cut.leaves = is.some in
    let few : length cut.leaves ≤ 3 = is.few in
    omega arith

-- ---- Leaves by what stands for them
Has-fields : (leaves : List ℕ) (leaf : ℕ) → length leaves ≤ 3 → Has (field_at leaves 0 ∷ field_at leaves 1 ∷ field_at leaves 2 ∷ []) (suc leaf) ↔ Has leaves leaf
Has-fields [] leaf few = (
  λ has. elim has [ inl is ↦ absurd (omega arith) | inr more ↦ elim more [ inl is ↦ absurd (omega arith) | inr last ↦ elim last [ inl is ↦ absurd (omega arith) | inr none ↦ elim none [ ] ] ] ],
  λ has. elim has [ ],
)
Has-fields (x ∷ []) leaf few = (
  λ has. elim has [ inl is ↦ inl (omega arith) | inr more ↦ elim more [ inl is ↦ absurd (omega arith) | inr last ↦ elim last [ inl is ↦ absurd (omega arith) | inr none ↦ elim none [ ] ] ] ],
  λ has. elim has [ inl is ↦ inl (ap suc is) | inr none ↦ elim none [ ] ],
)
Has-fields (x ∷ (y ∷ [])) leaf few = (
  λ has. elim has [ inl is ↦ inl (omega arith) | inr more ↦ elim more [ inl is ↦ inr (inl (omega arith)) | inr last ↦ elim last [ inl is ↦ absurd (omega arith) | inr none ↦ elim none [ ] ] ] ],
  λ has. elim has [ inl is ↦ inl (ap suc is) | inr more ↦ elim more [ inl is ↦ inr (inl (ap suc is)) | inr none ↦ elim none [ ] ] ],
)
Has-fields (x ∷ (y ∷ (z ∷ []))) leaf few = (
  λ has. elim has [ inl is ↦ inl (omega arith) | inr more ↦ elim more [ inl is ↦ inr (inl (omega arith)) | inr last ↦ elim last [ inl is ↦ inr (inr (inl (omega arith))) | inr none ↦ elim none [ ] ] ] ],
  λ has. elim has [ inl is ↦ inl (ap suc is) | inr more ↦ elim more [ inl is ↦ inr (inl (ap suc is)) | inr last ↦ elim last [ inl is ↦ inr (inr (inl (ap suc is))) | inr none ↦ elim none [ ] ] ] ],
)
Has-fields (x ∷ (y ∷ (z ∷ (u ∷ leaves)))) leaf few = absurd (omega arith)

-- Each number that stands for a leaf is among the others, where each leaf is.
pub among-iff : (xs ys : List ℕ) → length xs ≤ 3 → length ys ≤ 3
    → All (λ n. (n ≡ 0) ⊎ Contains (field_at xs 0 ∷ field_at xs 1 ∷ field_at xs 2 ∷ []) n) (field_at ys 0 ∷ field_at ys 1 ∷ field_at ys 2 ∷ []) ↔ All (λ leaf. Contains xs leaf) ys
among-iff xs ys few-xs few-ys = (
  λ all. All-from-has (λ leaf. Contains xs leaf) ys (λ leaf has.
      elim (All-has (λ n. (n ≡ 0) ⊎ Contains (field_at xs 0 ∷ field_at xs 1 ∷ field_at xs 2 ∷ []) n) (field_at ys 0 ∷ field_at ys 1 ∷ field_at ys 2 ∷ []) (suc leaf) all ((Has-fields ys leaf few-ys).1 has)) [
        | inl none ↦ absurd (omega arith)
        | inr there ↦ Contains-from xs leaf ((Has-fields xs leaf few-xs).0 (Has-from (field_at xs 0 ∷ field_at xs 1 ∷ field_at xs 2 ∷ []) (suc leaf) there))
      ]),
  λ all. All-from-has (λ n. (n ≡ 0) ⊎ Contains (field_at xs 0 ∷ field_at xs 1 ∷ field_at xs 2 ∷ []) n) (field_at ys 0 ∷ field_at ys 1 ∷ field_at ys 2 ∷ []) (among xs ys few-xs few-ys all),
)
  where
    among : (xs ys : List ℕ) → length xs ≤ 3 → length ys ≤ 3 → All (λ leaf. Contains xs leaf) ys → (n : ℕ) → Has (field_at ys 0 ∷ field_at ys 1 ∷ field_at ys 2 ∷ []) n → (n ≡ 0) ⊎ Contains (field_at xs 0 ∷ field_at xs 1 ∷ field_at xs 2 ∷ []) n
    among xs ys few-xs few-ys all zero has = inl refl
    among xs ys few-xs few-ys all (suc leaf) has =
        inr (Contains-from (field_at xs 0 ∷ field_at xs 1 ∷ field_at xs 2 ∷ []) (suc leaf) ((Has-fields xs leaf few-xs).1 (Has-from xs leaf (All-has (λ leaf. Contains xs leaf) ys leaf all ((Has-fields ys leaf few-ys).0 has)))))

pub contains-iff : (a b in-a in-b : CutView) → IsCut in-a → IsCut in-b → in-a ≡ a → in-b ≡ b → (xs ys : List ℕ) (found : Bool)
    → xs ≡ field_at in-a.leaves 0 ∷ field_at in-a.leaves 1 ∷ field_at in-a.leaves 2 ∷ []
    → ys ≡ field_at in-b.leaves 0 ∷ field_at in-b.leaves 1 ∷ field_at in-b.leaves 2 ∷ []
    → IsTrue found ↔ All (λ n. (n ≡ 0) ⊎ Contains xs n) ys
    → IsTrue found ↔ All (λ leaf. Contains a.leaves leaf) b.leaves
contains-iff a b in-a in-b is-a is-b a-is b-is xs ys found xs-is ys-is by =
    let with-xs = subst (λ (ns : List ℕ). IsTrue found ↔ All (λ n. (n ≡ 0) ⊎ Contains ns n) ys) xs-is by in
    let with-both = subst (λ (ns : List ℕ). IsTrue found ↔ All (λ n. (n ≡ 0) ⊎ Contains (field_at in-a.leaves 0 ∷ field_at in-a.leaves 1 ∷ field_at in-a.leaves 2 ∷ []) n) ns) ys-is with-xs in
    let iff = among-iff in-a.leaves in-b.leaves is-a.few is-b.few in
    subst (λ (v : CutView). IsTrue found ↔ All (λ leaf. Contains v.leaves leaf) b.leaves) a-is
    (subst (λ (v : CutView). IsTrue found ↔ All (λ leaf. Contains in-a.leaves leaf) v.leaves) b-is
    (λ t. iff.0 (with-both.0 t), λ all. with-both.1 (iff.1 all)))
