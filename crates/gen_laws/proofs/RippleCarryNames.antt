-- Names of one letter and a number: they are plain, and differ where the letters or the numbers do.
use Rattle.std.proofs.Common.{◌≡◌, ◌<◌, ◌≤◌, ◌+◌, ◌++◌, ◌^◌, ◌∙◌, ◌&&◌, ℕ, zero, suc, Bool, true, false, List, [], ◌∷◌, length, All, nat_eq, refl, sym, ap, arith}
use Rattle.std.specs.List.{AllByRecursion}
use Rattle.std.specs.Str.{bytes_eq}
use Rattle.std.specs.Fmt.{decimal}
use Rattle.std.proofs.lemmas.Bool.{or_left, or_right, or_parts, or_from, eqb-true, eqb-false}
use Rattle.std.proofs.lemmas.Fmt.{length-decimal-le, decimal_injective}
use Rattle.std.proofs.lemmas.List.Elements.{All-nil, All-cons}
use Rattle.std.proofs.lemmas.List.Folds.{list_any-append}
use Rattle.std.proofs.lemmas.Map.Keys.{IsDistinct-cons}
use Rattle.std.proofs.lemmas.Slice.Eq.{bytes_eq-Decides}
use Rattle.net_base.specs.Keys.{is_among}
use Rattle.blif_model.specs.Names.{AreDistinctNames}
use Rattle.blif_read.specs.Spelling.{is_plain_byte, IsPlainName}
use Rattle.gen_blif.specs.Lines.{name_of}
use Rattle.gen_laws.specs.RippleCarry.{bit_names}
use Rattle.gen_laws.proofs.RandomNames.{decimal-plain, same_name}

-- A plain letter and a number of five digits at most make a plain name.
pub name-plain : (letter number : ℕ) → is_plain_byte letter ≡ true → number < 10 ^ 5 → IsPlainName (name_of letter number)
name-plain letter number plain small = record {
  some = omega arith;
  short = omega (arith, length-decimal-le 5 number (omega arith) small (omega arith));
  plain = All-cons (λ byte. is_plain_byte byte ≡ true) letter (decimal number) plain (decimal-plain number (omega arith));
}

-- What each name has, all have.
pub names-all : (P : List ℕ → Type 0) (letter first count : ℕ) → ((number : ℕ) → first ≤ number → number < first + count → P (name_of letter number)) → All P (bit_names letter first count)
names-all P letter first zero each = All-nil P
names-all P letter first (suc count) each =
    All-cons P (name_of letter first) (bit_names letter (first + 1) count) (each first (omega arith) (omega arith)) (names-all P letter (first + 1) count (λ number from below. each number (omega arith) (omega arith)))

pub length-names : (letter first count : ℕ) → length (bit_names letter first count) ≡ count
length-names letter first zero = refl
length-names letter first (suc count) = omega (arith, length-names letter (first + 1) count)

-- Names of one letter differ where their numbers do.
pub numbers-differ : (letter j k : ℕ) → j < 10 ^ 5 → k < 10 ^ 5 → (j ≡ k → ⊥) → bytes_eq (name_of letter j) (name_of letter k) ≡ false
numbers-differ letter j k small small' differ = by (bytes_eq (name_of letter j) (name_of letter k)) refl
  where
    tail : List ℕ → List ℕ
    tail [] = []
    tail (byte ∷ bytes) = bytes

    by : (b : Bool) → bytes_eq (name_of letter j) (name_of letter k) ≡ b → b ≡ false
    by false e = refl
    by true e =
        let same : name_of letter j ≡ name_of letter k = (bytes_eq-Decides (name_of letter j) (name_of letter k)).0 e in
        let digits : decimal j ≡ decimal k = cc in
        absurd (differ (decimal_injective j k (omega arith) (omega arith) digits))

-- A name of one letter isn't among names of another.
pub letter-absent : (letter other : ℕ) → nat_eq letter other ≡ false → (digits : List ℕ) (first count : ℕ) → is_among bytes_eq (letter ∷ digits) (bit_names other first count) ≡ false
letter-absent letter other differ digits first zero = refl
letter-absent letter other differ digits first (suc count) =
    or_from (bytes_eq (letter ∷ digits) (name_of other first)) (is_among bytes_eq (letter ∷ digits) (bit_names other (first + 1) count))
    (ap (λ same. same && bytes_eq digits (decimal first)) differ)
    (letter-absent letter other differ digits (first + 1) count)

-- A name isn't among those of its letter with higher numbers.
pub number-absent : (letter number first count : ℕ) → number < first → first + count ≤ 10 ^ 5 → is_among bytes_eq (name_of letter number) (bit_names letter first count) ≡ false
number-absent letter number first zero below small = refl
number-absent letter number first (suc count) below small =
    or_from (bytes_eq (name_of letter number) (name_of letter first)) (is_among bytes_eq (name_of letter number) (bit_names letter (first + 1) count))
    (numbers-differ letter number first (omega arith) (omega arith) (λ same. omega arith))
    (number-absent letter number (first + 1) count (omega arith) (omega arith))

-- A number in the range has its name there.
pub number-among : (letter number first count : ℕ) → first ≤ number → number < first + count → is_among bytes_eq (name_of letter number) (bit_names letter first count) ≡ true
number-among letter number first zero from below = absurd (omega arith)
number-among letter number first (suc count) from below = by (nat_eq number first) refl (λ above. number-among letter number (first + 1) count above (omega arith))
  where
    by : (b : Bool) → nat_eq number first ≡ b → (first + 1 ≤ number → is_among bytes_eq (name_of letter number) (bit_names letter (first + 1) count) ≡ true) → is_among bytes_eq (name_of letter number) (bit_names letter first (suc count)) ≡ true
    by true e later =
        let same : name_of letter first ≡ name_of letter number = ap (name_of letter) (sym (eqb-true number first e)) in
        or_left (bytes_eq (name_of letter number) (name_of letter first)) (is_among bytes_eq (name_of letter number) (bit_names letter (first + 1) count))
        (ap (bytes_eq (name_of letter number)) same ∙ same_name (name_of letter number))
    by false e later =
        let differ = eqb-false number first e in
        or_right (bytes_eq (name_of letter number) (name_of letter first)) (is_among bytes_eq (name_of letter number) (bit_names letter (first + 1) count))
        (later (grind (arith, differ)))

-- Names with none of them among others, and these distinct, make a list of distinct names.
none-AllByRecursion : (name : List ℕ) (names : List (List ℕ)) → is_among bytes_eq name names ≡ false → AllByRecursion (λ other. bytes_eq name other ≡ false) names
none-AllByRecursion name [] absent = tt
none-AllByRecursion name (other ∷ names) absent =
    let parts = or_parts (bytes_eq name other) (is_among bytes_eq name names) absent in (parts.0, none-AllByRecursion name names parts.1)

pub names-distinct : (letter first count : ℕ) (names : List (List ℕ)) → first + count ≤ 10 ^ 5 → ((digits : List ℕ) → is_among bytes_eq (letter ∷ digits) names ≡ false) → AreDistinctNames names
    → AreDistinctNames (bit_names letter first count ++ names)
names-distinct letter first zero names small apart distinct = distinct
names-distinct letter first (suc count) names small apart distinct =
    let rest = bit_names letter (first + 1) count in
    IsDistinct-cons bytes_eq (name_of letter first) (rest ++ names)
    (none-AllByRecursion (name_of letter first) (rest ++ names)
    (list_any-append (bytes_eq (name_of letter first)) rest names
    ∙ or_from (is_among bytes_eq (name_of letter first) rest) (is_among bytes_eq (name_of letter first) names) (number-absent letter first (first + 1) count (omega arith) (omega arith)) (apart (decimal first))))
    (names-distinct letter (first + 1) count names (omega arith) apart distinct)
