-- Names of a letter and a number: they are plain, and differ where their letters or their numbers do. A name is itself.
use Rattle.std.proofs.Common.{◌≡◌, ◌≢◌, ◌<◌, ◌≤◌, ◌+◌, ◌%◌, ◌^◌, ◌⊎◌, inl, inr, ℕ, zero, suc, Bool, true, false, List, [], ◌∷◌, ◌++◌, length, All, decimal, refl, ap, arith}
use Rattle.std.specs.List.{IsDistinct, AllByRecursion}
use Rattle.std.specs.Str.{bytes_eq}
use Rattle.std.proofs.lemmas.Bool.{or_from, or_left, or_right, cases_lt}
use Rattle.std.proofs.lemmas.Bool.Decides.{nat_tests}
use Rattle.std.proofs.lemmas.Fmt.{decimal_by_steps, decimal_injective, length-decimal-le}
use Rattle.std.proofs.lemmas.List.Elements.{All-nil, All-cons, All-push}
use Rattle.std.proofs.lemmas.Map.Keys.{IsDistinct-cons}
use Rattle.std.proofs.lemmas.Slice.Eq.{bytes_eq-Decides}
use Rattle.net_base.specs.Keys.{is_among}
use Rattle.blif_read.specs.Spelling.{words_of, is_plain_byte, IsPlainName}
use Rattle.gen_blif.specs.Lines.{name_of, field, fields}
use Rattle.gen_laws.specs.Random.{names_from}

-- digits are plain
digit-plain : (digit : ℕ) → digit < 10 → is_plain_byte (48 + digit) ≡ true
digit-plain digit below = grind (arith, nat_tests)

abbrev Plain : ℕ → Type 0
Plain byte = is_plain_byte byte ≡ true

pub decimal-plain : (number : ℕ) → number < 2 ^ 64 → All Plain (decimal number)
decimal-plain = decimal_by_steps (λ number digits. All Plain digits)
    (λ number below. All-cons Plain (48 + number) [] (digit-plain number below) (All-nil Plain))
    (λ number digits some plain. All-push Plain digits (48 + number % 10) plain (digit-plain (number % 10) (omega arith)))

pub name-IsPlainName : (letter number : ℕ) → is_plain_byte letter ≡ true → number < 2 ^ 32 → IsPlainName (name_of letter number)
name-IsPlainName letter number plain small = record {
  some = omega arith;
  short = omega (arith, length-decimal-le 10 number (omega arith) (omega arith) (omega arith));
  plain = All-cons Plain letter (decimal number) plain (decimal-plain number (omega arith));
}

-- names of other numbers differ
pub other_number : (letter one other : ℕ) → one < 2 ^ 32 → other < 2 ^ 32 → one ≢ other → bytes_eq (name_of letter one) (name_of letter other) ≡ false
other_number letter one other small too differ = by (bytes_eq (name_of letter one) (name_of letter other)) refl
  where
    by : (b : Bool) → bytes_eq (name_of letter one) (name_of letter other) ≡ b → b ≡ false
    by true e =
        let same : name_of letter one ≡ name_of letter other = (bytes_eq-Decides (name_of letter one) (name_of letter other)).0 e in
        let digits : decimal one ≡ decimal other = cc in
        absurd (differ (decimal_injective one other (omega arith) (omega arith) digits))
    by false e = refl

pub same_name : (name : List ℕ) → bytes_eq name name ≡ true
same_name name = (bytes_eq-Decides name name).1 refl

-- Names of one letter, so many from a number on.
pub length-names_from : (letter first count : ℕ) → length (names_from letter first count) ≡ count
unfolding names_from
length-names_from letter first zero = refl
length-names_from letter first (suc count) = omega (arith, length-names_from letter (first + 1) count)

pub fields-words : (letter first count : ℕ) → fields letter first count ≡ words_of (names_from letter first count)
unfolding fields names_from
fields-words letter first zero = refl
fields-words letter first (suc count) = ap (λ rest. field (name_of letter first) ++ rest) (fields-words letter (first + 1) count)

pub names_from-All : (P : List ℕ → Type 0) (letter first count : ℕ) → ((number : ℕ) → first ≤ number → number < first + count → P (name_of letter number)) → All P (names_from letter first count)
unfolding names_from
names_from-All P letter first zero each = All-nil P
names_from-All P letter first (suc count) each =
    All-cons P (name_of letter first) (names_from letter (first + 1) count) (each first (omega arith) (omega arith))
    (names_from-All P letter (first + 1) count (λ number from below. each number (omega arith) (omega arith)))

names_from-each : (P : List ℕ → Type 0) (letter first count : ℕ) → ((number : ℕ) → first ≤ number → number < first + count → P (name_of letter number)) → AllByRecursion P (names_from letter first count)
unfolding names_from
names_from-each P letter first zero each = tt
names_from-each P letter first (suc count) each =
    (each first (omega arith) (omega arith), names_from-each P letter (first + 1) count (λ number from below. each number (omega arith) (omega arith)))

pub names_from-distinct : (letter first count : ℕ) → first + count ≤ 2 ^ 32 → IsDistinct bytes_eq (names_from letter first count)
unfolding names_from IsDistinct
names_from-distinct letter first zero few = tt
names_from-distinct letter first (suc count) few =
    IsDistinct-cons bytes_eq (name_of letter first) (names_from letter (first + 1) count)
    (names_from-each (λ name. bytes_eq (name_of letter first) name ≡ false) letter (first + 1) count (λ number from below. other_number letter first number (omega arith) (omega arith) (λ e. omega arith)))
    (names_from-distinct letter (first + 1) count (omega arith))

-- those of the numbers between are among them,
pub among-names_from : (letter first count number : ℕ) → first ≤ number → number < first + count → is_among bytes_eq (name_of letter number) (names_from letter first count) ≡ true
unfolding names_from
among-names_from letter first zero number from below = absurd (omega arith)
among-names_from letter first (suc count) number from below = by (cases_lt first number) (λ more. among-names_from letter (first + 1) count number (omega arith) (omega arith))
  where
    by : (first < number) ⊎ (number ≤ first) → (first < number → is_among bytes_eq (name_of letter number) (names_from letter (first + 1) count) ≡ true) → is_among bytes_eq (name_of letter number) (name_of letter first ∷ names_from letter (first + 1) count) ≡ true
    by (inl more) rest = or_right _ _ (rest more)
    by (inr le) rest =
        let same : number ≡ first = omega arith in
        or_left _ _ ((bytes_eq-Decides (name_of letter number) (name_of letter first)).1 (ap (name_of letter) same))

-- and none that differs from each of this letter
pub other-names_from : (name : List ℕ) (letter first count : ℕ) → ((number : ℕ) → bytes_eq name (name_of letter number) ≡ false) → is_among bytes_eq name (names_from letter first count) ≡ false
unfolding names_from
other-names_from name letter first zero differ = refl
other-names_from name letter first (suc count) differ =
    or_from _ _ (differ first) (other-names_from name letter (first + 1) count differ)
