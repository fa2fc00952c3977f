-- The table of a merge: a cut's table with a place for each leaf of the union has, at each place, the cut's value there.
use Rattle.std.proofs.Common.{◌≡◌, ◌<◌, ◌≤◌, ◌/◌, ◌%◌, ◌^◌, ◌&&◌, ◌∙◌, ℕ, zero, suc, Bool, true, false, List, [], ◌∷◌, ◌++◌, length, map, refl, sym, ap, subst, bit_and, arith}
use Rattle.std.proofs.lemmas.Nat.{and_le_l}
use Rattle.std.proofs.lemmas.List.{map-append, length-map}
use Rattle.cut_word.specs.Table.{is_set, row_number, value_at, table_of}
use Rattle.cut_word.specs.Cut.{CutView, IsCut, value_over}
use Rattle.cut_word.specs.Word.{first_word, leaf_of, cut_of, AreOfCut}
use Rattle.cut_word.specs.Merge.{united, values_at, both_over}
use Rattle.cut_word.specs.declared.merging.Had.{Had}
use Rattle.cut_word.specs.declared.merging.Union.{Union}
use Rattle.cut_word.specs.Steps.{where_had, IsPart, IsUnion}
use Rattle.cut_word.proofs.TableBits.{row_number-below, is_set-and, same_table, table_of-bits, table_of-below}
use Rattle.cut_word.proofs.Tables.{value_at-more}
use Rattle.cut_word.proofs.Places.{values_at-front, values_at-behind}
use Rattle.cut_word.proofs.CallerLemmas.{IsCut-both}
use Rattle.cut_word.proofs.WordParts.{AreOfCut-made, cut_of-made}
use Rattle.cut_word.proofs.Unions.{Rises, Rises-from, Rises-united}

-- a place's three bits, as a row
abbrev pub bits_at : ℕ → List Bool
bits_at place = is_set place 0 ∷ is_set (place / 2) 0 ∷ is_set (place / 2 / 2) 0 ∷ []

row_number-bits_at : (place : ℕ) → place < 8 → row_number (bits_at place) ≡ place
row_number-bits_at zero h = refl
row_number-bits_at (suc zero) h = refl
row_number-bits_at (suc (suc zero)) h = refl
row_number-bits_at (suc (suc (suc zero))) h = refl
row_number-bits_at (suc (suc (suc (suc zero)))) h = refl
row_number-bits_at (suc (suc (suc (suc (suc zero))))) h = refl
row_number-bits_at (suc (suc (suc (suc (suc (suc zero)))))) h = refl
row_number-bits_at (suc (suc (suc (suc (suc (suc (suc zero))))))) h = refl
row_number-bits_at (suc (suc (suc (suc (suc (suc (suc (suc place)))))))) h = absurd (omega arith)

map-where_had : (f : ℕ → Bool) (had : Bool) (xs : List ℕ) → map f (where_had had xs) ≡ where_had had (map f xs)
map-where_had f true xs = refl
map-where_had f false xs = refl

map-part : (f : ℕ → Bool) (one two three : Bool) (xs ys zs : List ℕ) → map f (where_had one xs ++ (where_had two ys ++ where_had three zs)) ≡ where_had one (map f xs) ++ (where_had two (map f ys) ++ where_had three (map f zs))
map-part f one two three xs ys zs =
    map-append f (where_had one xs) (where_had two ys ++ where_had three zs)
    ∙ ap (λ vs. vs ++ map f (where_had two ys ++ where_had three zs)) (map-where_had f one xs)
    ∙ ap (λ vs. where_had one (map f xs) ++ vs) (map-append f (where_had two ys) (where_had three zs)
    ∙ ap (λ vs. vs ++ map f (where_had three zs)) (map-where_had f two ys)
    ∙ ap (λ vs. where_had two (map f ys) ++ vs) (map-where_had f three zs))

-- what the widened table reads
abbrev read_at : Bool → Bool → Bool → Bool → Bool → List Bool
read_at one two a b c = where_had one (a ∷ []) ++ (where_had two (b ∷ []) ++ c ∷ [])

read_at-short : (one two a b c : Bool) → row_number (read_at one two a b c) < 8
read_at-short true true a b c = row_number-below (a ∷ b ∷ c ∷ [])
read_at-short true false a b c = let h : row_number (a ∷ c ∷ []) < 2 ^ 2 = row_number-below (a ∷ c ∷ []) in omega arith
read_at-short false true a b c = let h : row_number (b ∷ c ∷ []) < 2 ^ 2 = row_number-below (b ∷ c ∷ []) in omega arith
read_at-short false false a b c = let h : row_number (c ∷ []) < 2 ^ 1 = row_number-below (c ∷ []) in omega arith

-- It begins with the values of the cut's own leaves, and what follows them makes no difference: with three leaves in the union,
begins-3 : (one two three a b c : Bool) → (more : List Bool) × (read_at one two a b c ≡ (where_had one (a ∷ []) ++ (where_had two (b ∷ []) ++ where_had three (c ∷ []))) ++ more)
begins-3 true true true a b c = ([], refl)
begins-3 true false true a b c = ([], refl)
begins-3 false true true a b c = ([], refl)
begins-3 false false true a b c = ([], refl)
begins-3 true true false a b c = (c ∷ [], refl)
begins-3 true false false a b c = (c ∷ [], refl)
begins-3 false true false a b c = (c ∷ [], refl)
begins-3 false false false a b c = (c ∷ [], refl)

-- with two,
begins-2 : (one two three a b c : Bool) → (more : List Bool) × (read_at one two a b c ≡ (where_had one (a ∷ []) ++ (where_had two (b ∷ []) ++ where_had three [])) ++ more)
begins-2 true true true a b c = (c ∷ [], refl)
begins-2 true false true a b c = (c ∷ [], refl)
begins-2 false true true a b c = (c ∷ [], refl)
begins-2 false false true a b c = (c ∷ [], refl)
begins-2 true true false a b c = (c ∷ [], refl)
begins-2 true false false a b c = (c ∷ [], refl)
begins-2 false true false a b c = (c ∷ [], refl)
begins-2 false false false a b c = (c ∷ [], refl)

-- and with one.
begins-1 : (one two three a b c : Bool) → (more : List Bool) × (read_at one two a b c ≡ (where_had one (a ∷ []) ++ (where_had two [] ++ where_had three [])) ++ more)
begins-1 true true true a b c = (b ∷ c ∷ [], refl)
begins-1 true false true a b c = (c ∷ [], refl)
begins-1 false true true a b c = (b ∷ c ∷ [], refl)
begins-1 false false true a b c = (c ∷ [], refl)
begins-1 true true false a b c = (b ∷ c ∷ [], refl)
begins-1 true false false a b c = (c ∷ [], refl)
begins-1 false true false a b c = (b ∷ c ∷ [], refl)
begins-1 false false false a b c = (c ∷ [], refl)

value_at-begins : (cut : CutView) (values : ℕ → Bool) (row more own : List Bool) → IsCut cut → map values cut.leaves ≡ own → row ≡ own ++ more → row_number row < 8 → value_at cut.table row ≡ value_over values cut
value_at-begins cut values row more own is leaves begins short =
    let whole : row ≡ map values cut.leaves ++ more = begins ∙ ap (λ vs. vs ++ more) (sym leaves) in
    let n : length (map values cut.leaves) ≡ length cut.leaves = length-map cut.leaves values in
    let Steady : ℕ → Type 0 = λ k. (place : ℕ) → place < 8 → is_set cut.table place ≡ is_set cut.table (place % 2 ^ k) in
    ap (value_at cut.table) whole
    ∙ value_at-more cut.table (map values cut.leaves) more (subst Steady (sym n) is.steady) (let P : List Bool → Type 0 = λ vs. row_number vs < 8 in subst P whole short)

-- So the table reads the cut's value at the place's values of the union's leaves.
value_at-read : (cut : CutView) (one two three place : ℕ) (has_one has_two has_three : Bool) → IsCut cut → 0 < one → (two ≡ 0 → three ≡ 0)
    → Rises (leaf_of one ++ (leaf_of two ++ leaf_of three))
    → cut.leaves ≡ where_had has_one (leaf_of one) ++ (where_had has_two (leaf_of two) ++ where_had has_three (leaf_of three))
    → value_at cut.table (read_at has_one has_two (is_set place 0) (is_set (place / 2) 0) (is_set (place / 2 / 2) 0)) ≡ value_over (values_at (leaf_of one ++ (leaf_of two ++ leaf_of three)) place) cut
value_at-read cut zero two three place has_one has_two has_three is some order rises part = absurd (omega arith)
value_at-read cut (suc p) zero zero place has_one has_two has_three is some order rises part =
    let values : ℕ → Bool = values_at (p ∷ []) place in
    let b : (more : List Bool) × (read_at has_one has_two (is_set place 0) (is_set (place / 2) 0) (is_set (place / 2 / 2) 0) ≡ (where_had has_one (is_set place 0 ∷ []) ++ (where_had has_two [] ++ where_had has_three [])) ++ more) =
    begins-1 has_one has_two has_three (is_set place 0) (is_set (place / 2) 0) (is_set (place / 2 / 2) 0) in
    value_at-begins cut (values_at (p ∷ []) place) _ b.0 _ is
    (ap (map (values_at (p ∷ []) place)) part ∙ map-part (values_at (p ∷ []) place) has_one has_two has_three (p ∷ []) [] []
    ∙ ap (λ v. where_had has_one (v ∷ []) ++ (where_had has_two [] ++ where_had has_three [])) (values_at-front p [] place p refl))
    b.1 (read_at-short has_one has_two _ _ _)
value_at-read cut (suc p) zero (suc r) place has_one has_two has_three is some order rises part = absurd (let none : suc r ≡ 0 = order refl in omega arith)
value_at-read cut (suc p) (suc q) zero place has_one has_two has_three is some order rises part =
    let b : (more : List Bool) × (read_at has_one has_two (is_set place 0) (is_set (place / 2) 0) (is_set (place / 2 / 2) 0) ≡ (where_had has_one (is_set place 0 ∷ []) ++ (where_had has_two (is_set (place / 2) 0 ∷ []) ++ where_had has_three [])) ++ more) =
    begins-2 has_one has_two has_three (is_set place 0) (is_set (place / 2) 0) (is_set (place / 2 / 2) 0) in
    let second : values_at (p ∷ q ∷ []) place q ≡ is_set (place / 2) 0 =
    values_at-behind p (q ∷ []) place q (λ e. let below : p < q = rises.0.0 in omega arith) ∙ values_at-front q [] (place / 2) q refl in
    value_at-begins cut (values_at (p ∷ q ∷ []) place) _ b.0 _ is
    (ap (map (values_at (p ∷ q ∷ []) place)) part ∙ map-part (values_at (p ∷ q ∷ []) place) has_one has_two has_three (p ∷ []) (q ∷ []) []
    ∙ ap (λ v. where_had has_one (v ∷ []) ++ (where_had has_two (values_at (p ∷ q ∷ []) place q ∷ []) ++ where_had has_three [])) (values_at-front p (q ∷ []) place p refl)
    ∙ ap (λ v. where_had has_one (is_set place 0 ∷ []) ++ (where_had has_two (v ∷ []) ++ where_had has_three [])) second)
    b.1 (read_at-short has_one has_two _ _ _)
value_at-read cut (suc p) (suc q) (suc r) place has_one has_two has_three is some order rises part =
    let b : (more : List Bool) × (read_at has_one has_two (is_set place 0) (is_set (place / 2) 0) (is_set (place / 2 / 2) 0) ≡ (where_had has_one (is_set place 0 ∷ []) ++ (where_had has_two (is_set (place / 2) 0 ∷ []) ++ where_had has_three (is_set (place / 2 / 2) 0 ∷ []))) ++ more) =
    begins-3 has_one has_two has_three (is_set place 0) (is_set (place / 2) 0) (is_set (place / 2 / 2) 0) in
    let second : values_at (p ∷ q ∷ r ∷ []) place q ≡ is_set (place / 2) 0 =
    values_at-behind p (q ∷ r ∷ []) place q (λ e. let below : p < q = rises.0.0 in omega arith) ∙ values_at-front q (r ∷ []) (place / 2) q refl in
    let third : values_at (p ∷ q ∷ r ∷ []) place r ≡ is_set (place / 2 / 2) 0 =
    values_at-behind p (q ∷ r ∷ []) place r (λ e. let below : p < r = rises.0.1.0 in omega arith)
    ∙ values_at-behind q (r ∷ []) (place / 2) r (λ e. let below : q < r = rises.1.0.0 in omega arith)
    ∙ values_at-front r [] (place / 2 / 2) r refl in
    value_at-begins cut (values_at (p ∷ q ∷ r ∷ []) place) _ b.0 _ is
    (ap (map (values_at (p ∷ q ∷ r ∷ []) place)) part ∙ map-part (values_at (p ∷ q ∷ r ∷ []) place) has_one has_two has_three (p ∷ []) (q ∷ []) (r ∷ [])
    ∙ ap (λ v. where_had has_one (v ∷ []) ++ (where_had has_two (values_at (p ∷ q ∷ r ∷ []) place q ∷ []) ++ where_had has_three (values_at (p ∷ q ∷ r ∷ []) place r ∷ []))) (values_at-front p (q ∷ r ∷ []) place p refl)
    ∙ ap (λ v. where_had has_one (is_set place 0 ∷ []) ++ (where_had has_two (v ∷ []) ++ where_had has_three (values_at (p ∷ q ∷ r ∷ []) place r ∷ []))) second
    ∙ ap (λ v. where_had has_one (is_set place 0 ∷ []) ++ (where_had has_two (is_set (place / 2) 0 ∷ []) ++ where_had has_three (v ∷ []))) third)
    b.1 (read_at-short has_one has_two _ _ _)

-- So a table that is widened has the cut's value at each place,
pub is_set-widened : (cut : CutView) (table : ℕ) (union : Union) (had : Had) → IsCut cut → 0 < union.one → (union.two ≡ 0 → union.three ≡ 0)
    → Rises (leaf_of union.one ++ (leaf_of union.two ++ leaf_of union.three))
    → IsPart cut.leaves union.one union.two union.three had
    → ((a b c : Bool) → value_at table (a ∷ b ∷ c ∷ []) ≡ value_at cut.table (where_had had.one (a ∷ []) ++ (where_had had.two (b ∷ []) ++ c ∷ [])))
    → (place : ℕ) → place < 8 → is_set table place ≡ value_over (values_at (leaf_of union.one ++ (leaf_of union.two ++ leaf_of union.three)) place) cut
is_set-widened cut table union had is some order rises part value place h =
    ap (is_set table) (sym (row_number-bits_at place h))
    ∙ value (is_set place 0) (is_set (place / 2) 0) (is_set (place / 2 / 2) 0)
    ∙ value_at-read cut union.one union.two union.three place had.one had.two part.0 is some order rises part.1

-- and the conjunction of two of them is the merge's table.
pub both_over-table : (a b : CutView) (wide-a wide-b : ℕ) (union : Union) → IsCut a → IsCut b → IsUnion a.leaves b.leaves union → wide-a < 256
    → ((x y z : Bool) → value_at wide-a (x ∷ y ∷ z ∷ []) ≡ value_at a.table (where_had union.a.one (x ∷ []) ++ (where_had union.a.two (y ∷ []) ++ z ∷ [])))
    → ((x y z : Bool) → value_at wide-b (x ∷ y ∷ z ∷ []) ≡ value_at b.table (where_had union.b.one (x ∷ []) ++ (where_had union.b.two (y ∷ []) ++ z ∷ [])))
    → bit_and wide-a wide-b ≡ (both_over (united a.leaves b.leaves) a b).table
unfolding both_over
both_over-table a b wide-a wide-b union is-a is-b joined fits value-a value-b =
    let rises : Rises (leaf_of union.one ++ (leaf_of union.two ++ leaf_of union.three)) =
    subst Rises joined.leaves (Rises-united a.leaves b.leaves (Rises-from b.leaves is-b.ascending)) in
    same_table (bit_and wide-a wide-b) (table_of (λ place. value_over (values_at (united a.leaves b.leaves) place) a && value_over (values_at (united a.leaves b.leaves) place) b))
    (let le : bit_and wide-a wide-b ≤ wide-a = and_le_l wide-a wide-b in omega arith)
    (table_of-below (λ place. value_over (values_at (united a.leaves b.leaves) place) a && value_over (values_at (united a.leaves b.leaves) place) b))
    (λ place h.
    is_set-and wide-a wide-b place
    ∙ ap (λ v. v && is_set wide-b place) (is_set-widened a wide-a union union.a is-a joined.some joined.order rises joined.first value-a place h)
    ∙ ap (λ v. value_over (values_at (leaf_of union.one ++ (leaf_of union.two ++ leaf_of union.three)) place) a && v) (is_set-widened b wide-b union union.b is-b joined.some joined.order rises joined.second value-b place h)
    ∙ ap (λ ls. value_over (values_at ls place) a && value_over (values_at ls place) b) (sym joined.leaves)
    ∙ sym (table_of-bits (λ place. value_over (values_at (united a.leaves b.leaves) place) a && value_over (values_at (united a.leaves b.leaves) place) b) place h))

-- ---- What a merge makes
length-leaves : (one two three : ℕ) → length (leaf_of one ++ (leaf_of two ++ leaf_of three)) ≤ 3
length-leaves zero zero zero = omega arith
length-leaves zero zero (suc r) = omega arith
length-leaves zero (suc q) zero = omega arith
length-leaves zero (suc q) (suc r) = omega arith
length-leaves (suc p) zero zero = omega arith
length-leaves (suc p) zero (suc r) = omega arith
length-leaves (suc p) (suc q) zero = omega arith
length-leaves (suc p) (suc q) (suc r) = omega arith

pub length-union : (xs ys : List ℕ) (union : Union) → IsUnion xs ys union → length (united xs ys) ≤ 3
length-union xs ys union joined = rw joined.leaves (length-leaves union.one union.two union.three)

pub record IsMade (a b : CutView) (first second : ℕ) : Type 0 where
  pub few : length (united a.leaves b.leaves) ≤ 3
  pub are : AreOfCut first second
  pub is : cut_of first second ≡ both_over (united a.leaves b.leaves) a b

pub both_over-leaves : (leaves : List ℕ) (a b : CutView) → (both_over leaves a b).leaves ≡ leaves
unfolding both_over
both_over-leaves leaves a b = refl

pub IsMade-of : (a b : CutView) (word wide-a wide-b : ℕ) (union : Union) → IsCut a → IsCut b → IsUnion a.leaves b.leaves union → wide-a < 256
    → ((x y z : Bool) → value_at wide-a (x ∷ y ∷ z ∷ []) ≡ value_at a.table (where_had union.a.one (x ∷ []) ++ (where_had union.a.two (y ∷ []) ++ z ∷ [])))
    → ((x y z : Bool) → value_at wide-b (x ∷ y ∷ z ∷ []) ≡ value_at b.table (where_had union.b.one (x ∷ []) ++ (where_had union.b.two (y ∷ []) ++ z ∷ [])))
    → word ≡ first_word (leaf_of union.one ++ (leaf_of union.two ++ leaf_of union.three))
    → IsMade a b word (bit_and wide-a wide-b)
IsMade-of a b word wide-a wide-b union is-a is-b joined fits value-a value-b word-is =
    let few : length (united a.leaves b.leaves) ≤ 3 = length-union a.leaves b.leaves union joined in
    let cut : IsCut (both_over (united a.leaves b.leaves) a b) = IsCut-both a b is-a is-b few in
    let first : word ≡ first_word (both_over (united a.leaves b.leaves) a b).leaves =
    word-is ∙ ap first_word (sym joined.leaves ∙ sym (both_over-leaves (united a.leaves b.leaves) a b)) in
    let second : bit_and wide-a wide-b ≡ (both_over (united a.leaves b.leaves) a b).table = both_over-table a b wide-a wide-b union is-a is-b joined fits value-a value-b in
    record {
      few = few;
      are = AreOfCut-made (both_over (united a.leaves b.leaves) a b) cut word (bit_and wide-a wide-b) first second;
      is = cut_of-made (both_over (united a.leaves b.leaves) a b) cut word (bit_and wide-a wide-b) first second;
    }
