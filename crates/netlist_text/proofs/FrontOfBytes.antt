-- What stands at the front of bytes: a word, a number and a name are read in one way, and are what was written.
use Rattle.std.proofs.Common.{◌≡◌, ◌≢◌, ◌<◌, ◌^◌, ◌+◌, ◌&&◌, ℕ, suc, Bool, true, false, cond, nat_le, nat_lt, nat_eq, true≢false, List, [], ◌∷◌, ◌++◌, length, take, drop, All, Option, Some, None, if◌then◌else◌, codes, decimal, refl, sym, ap, subst, ◌∙◌, arith, rules}
use Rattle.std.specs.Char.{is_ascii_digit}
use Rattle.std.specs.List.{prefix_len, list_all}
use Rattle.std.specs.Str.{bytes_eq, all_ascii_digits}
use Rattle.std.specs.Str.Parse.{digits_value}
use Rattle.std.proofs.lemmas.Bool.{le-leb, leb-true, ltb-true, lt-ltb}
use Rattle.std.proofs.lemmas.Fmt.{decimal_is_IsNumeral, digits_decimal, decimal_nonempty}
use Rattle.std.proofs.lemmas.List.{take-append-drop, take_at, drop_at}
use Rattle.std.proofs.lemmas.List.Elements.{All-nil, All-cons, All-head, All-tail}
use Rattle.std.proofs.lemmas.List.Folds.{length-prefix_len}
use Rattle.std.proofs.lemmas.Bool.Decides.{Decides-eqb}
use Rattle.std.proofs.lemmas.Slice.Eq.{bytes_eq-Decides}
use Rattle.std.proofs.lemmas.Str.Parse.{numerals_by_value, tells_all_ascii_digits}
use Rattle.net_base.specs.Name.{IsName, IsNameByte}
use Rattle.net_base.specs.declared.name.TheConstants.{MAX_NAME_BYTES}
use Rattle.netlist_text.specs.Lines.{IsSmall}
use Rattle.netlist_text.specs.Scanning.{◌>>◌, behind, number_of, number_at, field_at, is_name_byte, name_word_at, name_at}

-- Where scanning didn't fail, each of its two steps has read something.
pub goes_on : {A B : Type 0} (first : Option A) (go : A → Option B) (b : B) → (first >> go) ≡ Some b → (a : A) × (first ≡ Some a) × (go a ≡ Some b)
goes_on (Some a) go b is = (a, refl, is)
goes_on None go b is = absurd cc

pub same_some : {A : Type 0} {a b : A} → Some a ≡ Some b → a ≡ b
same_some is = cc

-- ---- words

pub behind-sound : (word bytes rest : List ℕ) → behind word bytes ≡ Some rest → bytes ≡ word ++ rest
unfolding behind
behind-sound word bytes rest = by (bytes_eq (take (length word) bytes) word) refl
  where
    by : (same : Bool) → bytes_eq (take (length word) bytes) word ≡ same → (if same then Some (drop (length word) bytes) else None) ≡ Some rest → bytes ≡ word ++ rest
    by true same is =
        let tail : drop (length word) bytes ≡ rest = cc in
        sym (take-append-drop (length word) bytes) ∙ ap (λ w. w ++ drop (length word) bytes) ((bytes_eq-Decides _ _).0 same) ∙ ap (λ t. word ++ t) tail
    by false same is = absurd cc

pub behind-complete : (word rest : List ℕ) → behind word (word ++ rest) ≡ Some rest
unfolding behind
behind-complete word rest = rw ((bytes_eq-Decides _ _).1 (take_at word rest (length word) refl), drop_at word rest (length word) refl) refl

-- ---- runs of bytes that pass a test

pub prefix_len-stop : (p : ℕ → Bool) (xs : List ℕ) (y : ℕ) (ys : List ℕ) → list_all p xs ≡ true → p y ≡ false → prefix_len p (xs ++ y ∷ ys) ≡ length xs
prefix_len-stop p [] y ys all stop = rw stop refl
prefix_len-stop p (x ∷ xs) y ys all stop = by (p x) (λ rest. prefix_len-stop p xs y ys rest stop) all
  where
    by : (one : Bool) → (list_all p xs ≡ true → prefix_len p (xs ++ y ∷ ys) ≡ length xs) → (one && list_all p xs) ≡ true → cond one (1 + prefix_len p (xs ++ y ∷ ys)) 0 ≡ suc (length xs)
    by true more rest = omega (arith, more rest)
    by false more rest = absurd cc

pub prefix-passes : (p : ℕ → Bool) (xs : List ℕ) → list_all p (take (prefix_len p xs) xs) ≡ true
prefix-passes p [] = refl
prefix-passes p (x ∷ xs) = by (p x) refl (prefix-passes p xs)
  where
    by : (one : Bool) → p x ≡ one → list_all p (take (prefix_len p xs) xs) ≡ true → list_all p (take (cond one (1 + prefix_len p xs) 0) (x ∷ xs)) ≡ true
    by true is more = let one_more : 1 + prefix_len p xs ≡ suc (prefix_len p xs) = omega arith in rw (one_more, is) more
    by false is more = refl

-- ---- numbers

-- Digits are those of a number of 32 bits.
pub record Spells (digits : List ℕ) (n : ℕ) : Type 0 where
  pub spelled : digits ≡ decimal n
  pub small : IsSmall n

pub number_of-sound : (digits : List ℕ) (n : ℕ) → number_of digits ≡ Some n → Spells digits n
unfolding number_of
number_of-sound digits n = by (digits_value 10 digits) (bytes_eq digits (decimal (digits_value 10 digits))) refl (nat_lt (digits_value 10 digits) (2 ^ 32)) refl
  where
    by : (v : ℕ) (same : Bool) → bytes_eq digits (decimal v) ≡ same → (small : Bool) → nat_lt v (2 ^ 32) ≡ small → (if same && small then Some v else None) ≡ Some n → Spells digits n
    by v true same true small is =
        let value : v ≡ n = cc in
        subst (Spells digits) value (record { spelled = (bytes_eq-Decides digits (decimal v)).0 same; small = ltb-true v (2 ^ 32) small })
    by v true same false small is = absurd cc
    by v false same small-is small is = absurd cc

pub number_of-complete : (n : ℕ) → IsSmall n → number_of (decimal n) ≡ Some n
unfolding number_of
number_of-complete n small =
    let value : digits_value 10 (decimal n) ≡ n = (decimal_is_IsNumeral n (omega arith)).1 in
    rw (value, (bytes_eq-Decides (decimal n) (decimal n)).1 refl, lt-ltb n (2 ^ 32) small) refl

pub number_of-none : (digits : List ℕ) → ((n : ℕ) → n < 2 ^ 32 → digits ≢ decimal n) → number_of digits ≡ None
number_of-none digits never = by (number_of digits) (λ n is. let spells = number_of-sound digits n is in never n spells.small spells.spelled)
  where
    by : (read : Option ℕ) → ((n : ℕ) → read ≡ Some n → ⊥) → read ≡ None
    by None none = refl
    by (Some n) none = absurd (none n refl)

all_digits : (ds : List ℕ) → all_ascii_digits ds ≡ true → list_all is_ascii_digit ds ≡ true
all_digits [] all = refl
all_digits (d ∷ ds) all = by (is_ascii_digit d) (all_digits ds) all
  where
    by : (one : Bool) → (all_ascii_digits ds ≡ true → list_all is_ascii_digit ds ≡ true) → (one && all_ascii_digits ds) ≡ true → (one && list_all is_ascii_digit ds) ≡ true
    by true more rest = more rest
    by false more rest = rest

pub decimal_digits : (n : ℕ) → IsSmall n → list_all is_ascii_digit (decimal n) ≡ true
decimal_digits n small =
    all_digits (decimal n) (digits_decimal (numerals_by_value (λ ds. all_ascii_digits ds ≡ true) tells_all_ascii_digits) n (omega arith))

-- The text of a number begins with a digit, so it doesn't begin as another word does.
record BeginsWithDigit (bytes : List ℕ) : Type 0 where
  digit : ℕ
  others : List ℕ
  whole : bytes ≡ digit ∷ others
  is : is_ascii_digit digit ≡ true

first_digit : (ds : List ℕ) → 0 < length ds → list_all is_ascii_digit ds ≡ true → BeginsWithDigit ds
first_digit [] some all = absurd (omega arith)
first_digit (d ∷ ds) some all = record { digit = d; others = ds; whole = refl; is = by (is_ascii_digit d) all }
  where
    by : (one : Bool) → (one && list_all is_ascii_digit ds) ≡ true → one ≡ true
    by true all = refl
    by false all = all

digit_is_other : (d b : ℕ) → is_ascii_digit d ≡ true → is_ascii_digit b ≡ false → nat_eq d b ≡ false
digit_is_other d b is other = by (nat_eq d b) (λ same. let e : d ≡ b = (Decides-eqb d b).0 same in true≢false (sym is ∙ ap is_ascii_digit e ∙ other))
  where
    by : (same : Bool) → (same ≡ true → ⊥) → same ≡ false
    by true never = absurd (never refl)
    by false never = refl

pub behind-number : (b : ℕ) (word : List ℕ) (n : ℕ) (rest : List ℕ) → is_ascii_digit b ≡ false → IsSmall n → behind (32 ∷ b ∷ word) (32 ∷ (decimal n ++ rest)) ≡ None
unfolding behind
behind-number b word n rest other small =
    let begins = first_digit (decimal n) (decimal_nonempty n (omega arith)) (decimal_digits n small) in
    rw (begins.whole, digit_is_other begins.digit b begins.is other) refl

-- A byte that is no digit stands at the front.
abbrev pub Stops : List ℕ → Type 0
Stops [] = ⊥
Stops (x ∷ xs) = is_ascii_digit x ≡ false

pub number_at-complete : (n : ℕ) (rest : List ℕ) → IsSmall n → Stops rest → number_at (decimal n ++ rest) ≡ Some (n, rest)
unfolding number_at
number_at-complete n [] small stops = absurd stops
number_at-complete n (y ∷ ys) small stops =
    let len : prefix_len is_ascii_digit (decimal n ++ y ∷ ys) ≡ length (decimal n) = prefix_len-stop is_ascii_digit (decimal n) y ys (decimal_digits n small) stops in
    rw (len, take_at (decimal n) (y ∷ ys) (length (decimal n)) refl, number_of-complete n small, drop_at (decimal n) (y ∷ ys) (length (decimal n)) refl) refl

pub number_at-sound : (bytes : List ℕ) (read : ℕ × List ℕ) → number_at bytes ≡ Some read → (bytes ≡ decimal read.0 ++ read.1) × IsSmall read.0
unfolding number_at
number_at-sound bytes read is =
    let len = prefix_len is_ascii_digit bytes in
    let step = goes_on (number_of (take len bytes)) (λ n. Some (n, drop len bytes)) read is in
    let spells = number_of-sound (take len bytes) step.0 step.1 in
    let P : ℕ × List ℕ → Type 0 = λ r. (bytes ≡ decimal r.0 ++ r.1) × IsSmall r.0 in
    subst P (same_some step.2) (sym (take-append-drop len bytes) ∙ ap (λ ds. ds ++ drop len bytes) spells.spelled, spells.small)

pub field_at-complete : (n : ℕ) (rest : List ℕ) → IsSmall n → Stops rest → field_at (32 ∷ (decimal n ++ rest)) ≡ Some (n, rest)
unfolding field_at
field_at-complete n rest small stops = rw (behind-complete (codes " ") (decimal n ++ rest)) (number_at-complete n rest small stops)

pub field_at-sound : (bytes : List ℕ) (read : ℕ × List ℕ) → field_at bytes ≡ Some read → (bytes ≡ 32 ∷ (decimal read.0 ++ read.1)) × IsSmall read.0
unfolding field_at
field_at-sound bytes read is =
    let step = goes_on (behind (codes " ") bytes) number_at read is in
    let number = number_at-sound step.0 read step.2 in
    (behind-sound (codes " ") bytes step.0 step.1 ∙ ap (λ rest. 32 ∷ rest) number.0, number.1)

-- ---- names

name_byte-true : (byte : ℕ) → is_name_byte byte ≡ true → IsNameByte byte
name_byte-true byte is = search rules

name_byte-from : (byte : ℕ) → IsNameByte byte → is_name_byte byte ≡ true
name_byte-from byte is = search rules

all_visible : (xs : List ℕ) → list_all is_name_byte xs ≡ true → All IsNameByte xs
all_visible [] all = All-nil IsNameByte
all_visible (x ∷ xs) all = by (is_name_byte x) refl (all_visible xs) all
  where
    by : (one : Bool) → is_name_byte x ≡ one → (list_all is_name_byte xs ≡ true → All IsNameByte xs) → (one && list_all is_name_byte xs) ≡ true → All IsNameByte (x ∷ xs)
    by true is more rest = All-cons IsNameByte x xs (name_byte-true x is) (more rest)
    by false is more rest = absurd cc

visible_all : (xs : List ℕ) → All IsNameByte xs → list_all is_name_byte xs ≡ true
visible_all [] all = refl
visible_all (x ∷ xs) all = rw (name_byte-from x (All-head IsNameByte x xs all)) (visible_all xs (All-tail IsNameByte x xs all))

-- A byte that may not stand in a name stands at the front.
abbrev pub EndsName : List ℕ → Type 0
EndsName [] = ⊥
EndsName (x ∷ xs) = is_name_byte x ≡ false

pub name_word_at-complete : (name rest : List ℕ) → IsName name → EndsName rest → name_word_at (name ++ rest) ≡ Some (name, rest)
unfolding name_word_at
name_word_at-complete name [] named ends = absurd ends
name_word_at-complete name (y ∷ ys) named ends =
    let len : prefix_len is_name_byte (name ++ y ∷ ys) ≡ length name = prefix_len-stop is_name_byte name y ys (visible_all name named.visible) ends in
    rw (len, le-leb 1 (length name) named.some, le-leb (length name) MAX_NAME_BYTES named.short, take_at name (y ∷ ys) (length name) refl, drop_at name (y ∷ ys) (length name) refl) refl

pub name_word_at-sound : (bytes : List ℕ) (read : List ℕ × List ℕ) → name_word_at bytes ≡ Some read → (bytes ≡ read.0 ++ read.1) × IsName read.0
unfolding name_word_at
name_word_at-sound bytes read is = by (nat_le 1 (prefix_len is_name_byte bytes)) refl (nat_le (prefix_len is_name_byte bytes) MAX_NAME_BYTES) refl is
  where
    by : (some : Bool) → nat_le 1 (prefix_len is_name_byte bytes) ≡ some → (short : Bool) → nat_le (prefix_len is_name_byte bytes) MAX_NAME_BYTES ≡ short
        → (if some && short then Some (take (prefix_len is_name_byte bytes) bytes, drop (prefix_len is_name_byte bytes) bytes) else None) ≡ Some read → (bytes ≡ read.0 ++ read.1) × IsName read.0
    by true some true short is =
        let len = prefix_len is_name_byte bytes in
        let count = length-prefix_len is_name_byte bytes in
        let long = leb-true 1 len some in
        let few = leb-true len MAX_NAME_BYTES short in
        let P : List ℕ × List ℕ → Type 0 = λ r. (bytes ≡ r.0 ++ r.1) × IsName r.0 in
        let name : IsName (take len bytes) = record { some = omega (arith, count, long); short = omega (arith, count, few); visible = all_visible (take len bytes) (prefix-passes is_name_byte bytes) } in
        subst P (same_some is) (sym (take-append-drop len bytes), name)
    by true some false short is = absurd cc
    by false some short-is short is = absurd cc

pub name_at-complete : (name rest : List ℕ) → IsName name → EndsName rest → name_at (32 ∷ (name ++ rest)) ≡ Some (name, rest)
unfolding name_at
name_at-complete name rest named ends = rw (behind-complete (codes " ") (name ++ rest)) (name_word_at-complete name rest named ends)

pub name_at-sound : (bytes : List ℕ) (read : List ℕ × List ℕ) → name_at bytes ≡ Some read → (bytes ≡ 32 ∷ (read.0 ++ read.1)) × IsName read.0
unfolding name_at
name_at-sound bytes read is =
    let step = goes_on (behind (codes " ") bytes) name_word_at read is in
    let name = name_word_at-sound step.0 read step.2 in
    (behind-sound (codes " ") bytes step.0 step.1 ∙ ap (λ rest. 32 ∷ rest) name.0, name.1)

-- ---- one step of scanning after another

module _ {B : Type 0} (bytes : List ℕ) (b : B) where
  pub record ReadsWord (word : List ℕ) (go : List ℕ → Option B) : Type 0 where
    pub rest : List ℕ
    pub whole : bytes ≡ word ++ rest
    pub next : go rest ≡ Some b

  pub then_word : (word : List ℕ) (go : List ℕ → Option B) → (behind word bytes >> go) ≡ Some b → ReadsWord word go
  then_word word go is =
      let step = goes_on (behind word bytes) go b is in
      record { rest = step.0; whole = behind-sound word bytes step.0 step.1; next = step.2 }

  pub record ReadsField (go : ℕ × List ℕ → Option B) : Type 0 where
    pub number : ℕ
    pub rest : List ℕ
    pub whole : bytes ≡ 32 ∷ (decimal number ++ rest)
    pub small : IsSmall number
    pub next : go (number, rest) ≡ Some b

  pub then_field : (go : ℕ × List ℕ → Option B) → (field_at bytes >> go) ≡ Some b → ReadsField go
  then_field go is =
      let step = goes_on (field_at bytes) go b is in
      let field = field_at-sound bytes step.0 step.1 in
      record { number = step.0.0; rest = step.0.1; whole = field.0; small = field.1; next = step.2 }

  pub record ReadsName (go : List ℕ × List ℕ → Option B) : Type 0 where
    pub name : List ℕ
    pub rest : List ℕ
    pub whole : bytes ≡ 32 ∷ (name ++ rest)
    pub named : IsName name
    pub next : go (name, rest) ≡ Some b

  pub then_name : (go : List ℕ × List ℕ → Option B) → (name_at bytes >> go) ≡ Some b → ReadsName go
  then_name go is =
      let step = goes_on (name_at bytes) go b is in
      let name = name_at-sound bytes step.0 step.1 in
      record { name = step.0.0; rest = step.0.1; whole = name.0; named = name.1; next = step.2 }
