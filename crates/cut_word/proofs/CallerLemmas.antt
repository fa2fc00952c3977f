-- Cuts: which are cuts, what their values are, and that leaves and values, or words, tell them.
use Rattle.std.proofs.Common.{IsTrue, ◌↔◌, ◌==◌, ◌≡◌, ◌<◌, ◌≤◌, ◌%◌, ◌^◌, ◌&&◌, ◌∙◌, inl, inr, nat_le, ℕ, Bool, true, false, not, List, [], ◌∷◌, length, map, Some, None, refl, sym, ap, subst, arith}
use Rattle.std.specs.List.{All, Contains}
use Rattle.std.proofs.Math.Nat.{mod-le}
use Rattle.std.proofs.lemmas.List.Elements.{All-cons, All-head, All-tail}
use Rattle.std.proofs.lemmas.Bool.{le-leb, lt-leb, leb-true, cases_Bool, or_cases, or_left, or_right, and_parts, and_from, eqb-true, eq-eqb, false_from_ne_true}
use Rattle.std.proofs.lemmas.List.{length-map}
use Rattle.cut_word.specs.declared.cut.TheConstants.{LEAF_LIMIT}
use Rattle.cut_word.specs.Table.{is_set, row_number, value_at}
use Rattle.cut_word.specs.Cut.{CutView, IsCut, value_over, trivial_cut, negated, has_leaf, has_all}
use Rattle.cut_word.specs.Word.{first_word, leaves_in}
use Rattle.cut_word.specs.Merge.{united, values_at, both_over, merged}
pub use Rattle.cut_word.proofs.TableBits.{is_set-and, is_set-or, is_set-xor, is_set-complement, is_set-row_number, row_number-fits, same_table, table_of-bits, table_of-below}
use Rattle.cut_word.proofs.Tables.{steady-four_times}
use Rattle.cut_word.proofs.Places.{map-has, values_at-row_number, row_number-values_at, values_at-low}
use Rattle.cut_word.proofs.Unions.{Has, Rises-from, IsStrictlyIncreasing-from, Rises-united, Has-united, Has-from, Contains-from}
pub use Rattle.cut_word.proofs.WordParts.{leaves_in-first_word}

-- The values of up to three leaves are a row of a table of eight bits.
pub row-fits : (values : ℕ → Bool) (leaves : List ℕ) → length leaves ≤ 3 → row_number (map values leaves) < 8
row-fits values leaves few = row_number-fits (map values leaves) (omega (arith, few, length-map leaves values))

-- a place's lowest bits are a place
pub low-fits : (place n : ℕ) → place < 8 → place % 2 ^ n < 8
low-fits place n h = let le : place % 2 ^ n ≤ place = mod-le place (2 ^ n) in omega arith

pub All-has : (P : ℕ → Type 0) (xs : List ℕ) (id : ℕ) → All P xs → Has xs id → P id
All-has P [] id all has = elim has [ ]
All-has P (x ∷ xs) id all has = elim has [ inl is ↦ subst P is (All-head P x xs all) | inr there ↦ All-has P xs id (All-tail P x xs all) there ]

pub All-from-has : (P : ℕ → Type 0) (xs : List ℕ) → ((id : ℕ) → Has xs id → P id) → All P xs
All-from-has P [] each = λ k d h. absurd (omega arith)
All-from-has P (x ∷ xs) each = All-cons P x xs (each x (inl refl)) (All-from-has P xs (λ id has. each id (inr has)))

-- ---- The trivial cut
pub IsCut-trivial : (leaf : ℕ) → leaf < LEAF_LIMIT → IsCut (trivial_cut leaf)
IsCut-trivial leaf low = record {
  some = omega arith;
  few = omega arith;
  ascending = IsStrictlyIncreasing-from (leaf ∷ []) (tt, tt);
  low = All-from-has (λ n. n < LEAF_LIMIT) (leaf ∷ []) (λ id has. elim has [ inl is ↦ subst (λ n. n < LEAF_LIMIT) is low | inr none ↦ elim none [ ] ]);
  byte = omega arith;
  steady = steady-four_times 0xAA refl;
}

value_at-trivial : (value : Bool) → value_at 0xAA (value ∷ []) ≡ value
value_at-trivial true = refl
value_at-trivial false = refl

pub value_over-trivial : (values : ℕ → Bool) (leaf : ℕ) → value_over values (trivial_cut leaf) ≡ values leaf
value_over-trivial values leaf = value_at-trivial (values leaf)

-- ---- The negation
pub IsCut-negated : (cut : CutView) → IsCut cut → IsCut (negated cut)
IsCut-negated cut is = record {
  some = is.some;
  few = is.few;
  ascending = is.ascending;
  low = is.low;
  byte = omega arith;
  steady = λ place h.
      is_set-complement cut.table place is.byte h
      ∙ ap not (is.steady place h)
      ∙ sym (is_set-complement cut.table (place % 2 ^ length cut.leaves) is.byte (low-fits place (length cut.leaves) h));
}

pub value_over-negated : (values : ℕ → Bool) (cut : CutView) → IsCut cut → value_over values (negated cut) ≡ not (value_over values cut)
value_over-negated values cut is = is_set-complement cut.table (row_number (map values cut.leaves)) is.byte (row-fits values cut.leaves is.few)

-- ---- The merge
-- Whatever the values of the ids, the cut over all leaves of both has the conjunction of their values.
pub value_over-both : (leaves : List ℕ) (a b : CutView) (values : ℕ → Bool) → length leaves ≤ 3 → ((id : ℕ) → Has a.leaves id → Has leaves id) → ((id : ℕ) → Has b.leaves id → Has leaves id) → value_over values (both_over leaves a b) ≡ (value_over values a && value_over values b)
unfolding both_over
value_over-both leaves a b values few of-a of-b =
    table_of-bits (λ n. value_over (values_at leaves n) a && value_over (values_at leaves n) b) (row_number (map values leaves)) (row-fits values leaves few)
    ∙ ap (λ vs. value_at a.table vs && value_over (values_at leaves (row_number (map values leaves))) b)
    (map-has (values_at leaves (row_number (map values leaves))) values a.leaves (λ id has. values_at-row_number values leaves id (of-a id has)))
    ∙ ap (λ vs. value_over values a && value_at b.table vs)
    (map-has (values_at leaves (row_number (map values leaves))) values b.leaves (λ id has. values_at-row_number values leaves id (of-b id has)))

pub IsCut-both : (a b : CutView) → IsCut a → IsCut b → length (united a.leaves b.leaves) ≤ 3 → IsCut (both_over (united a.leaves b.leaves) a b)
unfolding both_over
IsCut-both a b is-a is-b few = record {
  some = united-some a.leaves b.leaves is-b.some;
  few = few;
  ascending = IsStrictlyIncreasing-from (united a.leaves b.leaves) (Rises-united a.leaves b.leaves (Rises-from b.leaves is-b.ascending));
  low = All-from-has (λ n. n < LEAF_LIMIT) (united a.leaves b.leaves) (λ id has. elim ((Has-united a.leaves b.leaves id).0 has) [
    | inl mine ↦ All-has (λ n. n < LEAF_LIMIT) a.leaves id is-a.low mine
    | inr mine ↦ All-has (λ n. n < LEAF_LIMIT) b.leaves id is-b.low mine
  ]);
  byte = table_of-below (λ n. value_over (values_at (united a.leaves b.leaves) n) a && value_over (values_at (united a.leaves b.leaves) n) b);
  steady = λ place h.
      table_of-bits (λ n. value_over (values_at (united a.leaves b.leaves) n) a && value_over (values_at (united a.leaves b.leaves) n) b) place h
      ∙ sym (ap (λ vs. value_at a.table vs && value_over (values_at (united a.leaves b.leaves) (place % 2 ^ length (united a.leaves b.leaves))) b)
      (map-has (values_at (united a.leaves b.leaves) (place % 2 ^ length (united a.leaves b.leaves))) (values_at (united a.leaves b.leaves) place) a.leaves (λ id has. values_at-low (united a.leaves b.leaves) place id))
      ∙ ap (λ vs. value_over (values_at (united a.leaves b.leaves) place) a && value_at b.table vs)
      (map-has (values_at (united a.leaves b.leaves) (place % 2 ^ length (united a.leaves b.leaves))) (values_at (united a.leaves b.leaves) place) b.leaves (λ id has. values_at-low (united a.leaves b.leaves) place id)))
      ∙ sym (table_of-bits (λ n. value_over (values_at (united a.leaves b.leaves) n) a && value_over (values_at (united a.leaves b.leaves) n) b) (place % 2 ^ length (united a.leaves b.leaves)) (low-fits place (length (united a.leaves b.leaves)) h));
}
  where
    united-some : (xs ys : List ℕ) → 1 ≤ length ys → 1 ≤ length (united xs ys)
    united-some xs [] some = absurd (omega arith)
    united-some xs (y ∷ ys) some = elim (united xs (y ∷ ys)) as (λ us. Has us y → 1 ≤ length us) [ [] ↦ λ has. elim has [ ] | u ∷ us ↦ λ has. omega arith ] ((Has-united xs (y ∷ ys) y).1 (inr (inl refl)))

-- where there is a merge, and where there is none
pub merged-some : (a b : CutView) → length (united a.leaves b.leaves) ≤ 3 → merged a b ≡ Some (both_over (united a.leaves b.leaves) a b)
unfolding merged
merged-some a b few = rw (le-leb (length (united a.leaves b.leaves)) 3 few) refl

pub merged-none : (a b : CutView) → 3 < length (united a.leaves b.leaves) → merged a b ≡ None
unfolding merged
merged-none a b many = rw (lt-leb (length (united a.leaves b.leaves)) 3 many) refl

pub merged-is : (a b cut : CutView) → merged a b ≡ Some cut → (length (united a.leaves b.leaves) ≤ 3) × (both_over (united a.leaves b.leaves) a b ≡ cut)
unfolding merged
merged-is a b cut is = elim (cases_Bool (nat_le (length (united a.leaves b.leaves)) 3)) [
  | inl few ↦ let same : Some (both_over (united a.leaves b.leaves) a b) ≡ Some cut = sym (merged-some a b (leb-true (length (united a.leaves b.leaves)) 3 few)) ∙ is in (leb-true (length (united a.leaves b.leaves)) 3 few, cc)
  | inr many ↦ absurd (let none : None ≡ Some cut = rw many at is in cc)
]

pub IsCut-merged : (a b cut : CutView) → IsCut a → IsCut b → merged a b ≡ Some cut → IsCut cut
IsCut-merged a b cut is-a is-b is = let m : (length (united a.leaves b.leaves) ≤ 3) × (both_over (united a.leaves b.leaves) a b ≡ cut) = merged-is a b cut is in subst IsCut m.1 (IsCut-both a b is-a is-b m.0)

pub value_over-merged : (a b cut : CutView) (values : ℕ → Bool) → merged a b ≡ Some cut → value_over values cut ≡ (value_over values a && value_over values b)
value_over-merged a b cut values is =
    let m : (length (united a.leaves b.leaves) ≤ 3) × (both_over (united a.leaves b.leaves) a b ≡ cut) = merged-is a b cut is in
    ap (value_over values) (sym m.1)
    ∙ value_over-both (united a.leaves b.leaves) a b values m.0 (λ id has. (Has-united a.leaves b.leaves id).1 (inl has)) (λ id has. (Has-united a.leaves b.leaves id).1 (inr has))

-- ---- What tells a cut
-- Its bit at a place is its value where the place gives the leaves theirs.
pub is_set-value_over : (cut : CutView) → IsCut cut → (place : ℕ) → place < 8 → is_set cut.table place ≡ value_over (values_at cut.leaves place) cut
is_set-value_over cut is place h = is.steady place h ∙ ap (is_set cut.table) (sym (row_number-values_at cut.leaves (Rises-from cut.leaves is.ascending) place))

pub same_cut : (a b : CutView) → a.leaves ≡ b.leaves → a.table ≡ b.table → a ≡ b
same_cut a b leaves table =
    let over : List ℕ → CutView = λ ls. record { leaves = ls; table = a.table } in
    let with : ℕ → CutView = λ t. record { leaves = b.leaves; table = t } in
    ap over leaves ∙ ap with table

-- Cuts of the same leaves and values are one,
pub same_cut-values : (a b : CutView) → IsCut a → IsCut b → a.leaves ≡ b.leaves → ((values : ℕ → Bool) → value_over values a ≡ value_over values b) → a ≡ b
same_cut-values a b is-a is-b leaves same =
    same_cut a b leaves (same_table a.table b.table is-a.byte is-b.byte (λ place h.
    is_set-value_over a is-a place h
    ∙ same (values_at a.leaves place)
    ∙ ap (λ ls. value_over (values_at ls place) b) leaves
    ∙ sym (is_set-value_over b is-b place h)))

-- and so are those of the same words.
pub same_cut-words : (a b : CutView) → IsCut a → IsCut b → first_word a.leaves ≡ first_word b.leaves → a.table ≡ b.table → a ≡ b
same_cut-words a b is-a is-b words table =
    same_cut a b (sym (leaves_in-first_word a.leaves is-a.few is-a.low) ∙ ap leaves_in words ∙ leaves_in-first_word b.leaves is-b.few is-b.low) table

-- ---- Containing
has_leaf-true : (leaves : List ℕ) (id : ℕ) → has_leaf leaves id ≡ true → Has leaves id
has_leaf-true [] id found = absurd (cc)
has_leaf-true (leaf ∷ leaves) id found = elim (or_cases (leaf == id) (has_leaf leaves id) found) [
  | inl here ↦ inl (eqb-true leaf id here)
  | inr there ↦ inr (has_leaf-true leaves id there)
]

has_leaf-from : (leaves : List ℕ) (id : ℕ) → Has leaves id → has_leaf leaves id ≡ true
has_leaf-from [] id has = elim has [ ]
has_leaf-from (leaf ∷ leaves) id has = elim has [
  | inl is ↦ or_left (leaf == id) (has_leaf leaves id) (eq-eqb leaf id is)
  | inr there ↦ or_right (leaf == id) (has_leaf leaves id) (has_leaf-from leaves id there)
]

has_all-true : (leaves others : List ℕ) → has_all leaves others ≡ true → (id : ℕ) → Has others id → Has leaves id
has_all-true leaves [] all id has = elim has [ ]
has_all-true leaves (leaf ∷ others) all id has =
    let parts : (has_leaf leaves leaf ≡ true) × (has_all leaves others ≡ true) = and_parts (has_leaf leaves leaf) (has_all leaves others) all in
    elim has [ inl is ↦ subst (Has leaves) is (has_leaf-true leaves leaf parts.0) | inr there ↦ has_all-true leaves others parts.1 id there ]

has_all-from : (leaves others : List ℕ) → ((id : ℕ) → Has others id → Has leaves id) → has_all leaves others ≡ true
has_all-from leaves [] each = refl
has_all-from leaves (leaf ∷ others) each =
    and_from (has_leaf leaves leaf) (has_all leaves others) (has_leaf-from leaves leaf (each leaf (inl refl))) (has_all-from leaves others (λ id has. each id (inr has)))

-- The test is true where each leaf is a leaf of the other.
pub has_all-decides : (leaves others : List ℕ) → (has_all leaves others ≡ true) ↔ All (λ leaf. Contains leaves leaf) others
has_all-decides leaves others = (
  λ all. All-from-has (λ leaf. Contains leaves leaf) others (λ id has. Contains-from leaves id (has_all-true leaves others all id has)),
  λ each. has_all-from leaves others (λ id has. Has-from leaves id (All-has (λ leaf. Contains leaves leaf) others id each has)),
)

-- Another test of the same is the same.
pub has_all-is : (leaves others : List ℕ) (found : Bool) → (IsTrue found ↔ All (λ leaf. Contains leaves leaf) others) → found ≡ has_all leaves others
has_all-is leaves others found by = elim (cases_Bool found) [
  | inl is ↦ is ∙ sym ((has_all-decides leaves others).1 (by.0 is))
  | inr other ↦ other ∙ sym (false_from_ne_true (has_all leaves others) (λ all. let found-is : found ≡ true = by.1 ((has_all-decides leaves others).0 all) in cc))
]
