-- Numbers of words: the number that is read is the one in whose decimal spelling the bytes stand.
use Rattle.std.proofs.Common.{◌≡◌, ◌≢◌, ◌≤◌, ◌<◌, ◌^◌, ◌&&◌, nat_le, Bool, true, false, ℕ, List, ◌++◌, length, take, drop, Option, Some, None, if◌then◌else◌, decimal, bytes_eq, refl, sym, ap, subst, ◌∙◌, arith}
use Rattle.std.specs.Str.Parse.{digits_value}
use Rattle.std.proofs.lemmas.Bool.{le-leb, leb-true}
use Rattle.std.proofs.lemmas.Fmt.{decimal_is_IsNumeral}
use Rattle.std.proofs.lemmas.List.{take-append-drop, take_at, drop_at}
use Rattle.std.proofs.lemmas.Slice.Eq.{bytes_eq-Decides}
use Rattle.rsfq_main.specs.declared.keys.Key.{Key}
use Rattle.rsfq_main.specs.declared.keys.Key.TheVariants as key
use Rattle.rsfq_main.specs.Words.{key_front, least_of, most_of, number_in, number_for, GivesKey, WordsSpellNumbers}

-- Where bytes are a number in decimal, it is read if it lies between the two others.
pub number_in-spelled : (least most : ℕ) (bytes : List ℕ) (n : ℕ) → n < 2 ^ 64 → bytes ≡ decimal n → number_in least most bytes ≡ (if nat_le least n && nat_le n most then Some n else None)
unfolding number_in
number_in-spelled least most bytes n small spelled =
    let value : digits_value 10 bytes ≡ n = ap (digits_value 10) spelled ∙ (decimal_is_IsNumeral n small).1 in
    let same : bytes_eq bytes (decimal n) ≡ true = (bytes_eq-Decides bytes (decimal n)).1 spelled in
    rw (value, same) refl

-- a number that bytes are in decimal, and that lies between two others
record Spells (least most : ℕ) (bytes : List ℕ) (n : ℕ) : Type 0 where
  spelled : bytes ≡ decimal n
  some : least ≤ n
  few : n ≤ most

-- A number that is read is such.
number_in-is : (least most : ℕ) (bytes : List ℕ) (n : ℕ) → number_in least most bytes ≡ Some n → Spells least most bytes n
unfolding number_in
number_in-is least most bytes n =
    by (digits_value 10 bytes) (bytes_eq bytes (decimal (digits_value 10 bytes))) refl (nat_le least (digits_value 10 bytes)) refl (nat_le (digits_value 10 bytes) most) refl
  where
    by : (v : ℕ) (same : Bool) → bytes_eq bytes (decimal v) ≡ same → (low : Bool) → nat_le least v ≡ low → (high : Bool) → nat_le v most ≡ high → (if same && (low && high) then Some v else None) ≡ Some n → Spells least most bytes n
    by v true same true low true high is =
        let value : v ≡ n = cc in
        subst (Spells least most bytes) value (record {
          spelled = (bytes_eq-Decides bytes (decimal v)).0 same;
          some = leb-true least v low;
          few = leb-true v most high;
        })
    by v true same true low false high is = absurd (cc)
    by v true same false low high-is high is = absurd (cc)
    by v false same low-is low high-is high is = absurd (cc)

-- Where bytes are no number of 64 bits in decimal, none is read.
pub number_in-none : (least most : ℕ) (bytes : List ℕ) → most < 2 ^ 64 → ((n : ℕ) → n < 2 ^ 64 → bytes ≢ decimal n) → number_in least most bytes ≡ None
number_in-none least most bytes fits never =
    by (number_in least most bytes) (λ n reads. let is = number_in-is least most bytes n reads in let few = is.few in never n (omega arith) is.spelled)
  where
    by : (read : Option ℕ) → ((n : ℕ) → read ≡ Some n → ⊥) → read ≡ None
    by None none = refl
    by (Some n) none = absurd (none n refl)

-- The greatest number of a key fits 64 bits.
most_fits : (key : Key) → most_of key < 2 ^ 64
most_fits key.Phases = omega arith
most_fits key.Seed = omega arith
most_fits key.Tables = omega arith
most_fits key.Adder = omega arith

-- What is read of a word in two parts is what the word gives.
pub words_spell_numbers : WordsSpellNumbers
unfolding number_for
words_spell_numbers key word n = (reads key word n, given key word n)
  where
    reads : (key : Key) (word : List ℕ) (n : ℕ) → number_for key word ≡ Some n → GivesKey key word n
    reads key word n = by (bytes_eq (take (length (key_front key)) word) (key_front key)) refl
      where
        by : (front : Bool) → bytes_eq (take (length (key_front key)) word) (key_front key) ≡ front → (if front then number_in (least_of key) (most_of key) (drop (length (key_front key)) word) else None) ≡ Some n → GivesKey key word n
        by true front is =
            let spells = number_in-is (least_of key) (most_of key) (drop (length (key_front key)) word) n is in
            record {
              spelled = sym (take-append-drop (length (key_front key)) word) ∙ ap (λ w. w ++ drop (length (key_front key)) word) ((bytes_eq-Decides _ _).0 front) ∙ ap (λ w. key_front key ++ w) spells.spelled;
              some = spells.some;
              few = spells.few;
            }
        by false front is = absurd (cc)

    given : (key : Key) (word : List ℕ) (n : ℕ) → GivesKey key word n → number_for key word ≡ Some n
    given key word n gives =
        let front : take (length (key_front key)) word ≡ key_front key = ap (take (length (key_front key))) gives.spelled ∙ take_at (key_front key) (decimal n) (length (key_front key)) refl in
        let behind : drop (length (key_front key)) word ≡ decimal n = ap (drop (length (key_front key))) gives.spelled ∙ drop_at (key_front key) (decimal n) (length (key_front key)) refl in
        let few = gives.few in
        let fits = most_fits key in
        let small : n < 2 ^ 64 = omega arith in
        rw ((bytes_eq-Decides _ _).1 front, number_in-spelled (least_of key) (most_of key) (drop (length (key_front key)) word) n small behind, le-leb (least_of key) n gives.some, le-leb n (most_of key) gives.few) refl
