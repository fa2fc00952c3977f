-- Tables that don't depend on some of their places, and those that get a place for a new leaf. What is said of all tables of
-- eight bits is evaluated at each of them.
use Rattle.std.proofs.Common.{mul_assoc, ◌≡◌, ◌<◌, ◌+◌, ◌-◌, ◌*◌, ◌%◌, ◌^◌, ◌==◌, ◌∙◌, ℕ, zero, suc, Bool, true, false, List, [], ◌∷◌, ◌++◌, length, refl, sym, ap, bit_and, bit_or, arith}
use Rattle.std.specs.Bool.{beq}
use Rattle.std.proofs.lemmas.Bool.{agree_below, agree_below_at, and_from, eqb-true, eq-eqb}
use Rattle.std.proofs.Math.Nat.{pow-suc}
use Rattle.std.proofs.lemmas.Nat.{mod-mul-add}
use Rattle.cut_word.specs.Table.{is_set, row_number, value_at}
use Rattle.cut_word.proofs.TableBits.{row_number-below}

-- ---- Tables that don't depend on the places from n on
doubled : (n k : ℕ) → n * 2 ^ suc k ≡ n * 2 ^ k * 2
doubled n k = ap (λ m. n * m) (pow-suc 2 k) ∙ sym (mul_assoc n (2 ^ k) 2)

row_number-append : (values more : List Bool) → row_number (values ++ more) ≡ row_number more * 2 ^ length values + row_number values
row_number-append [] more = omega arith
row_number-append (true ∷ values) more = omega (arith, row_number-append values more, doubled (row_number more) (length values))
row_number-append (false ∷ values) more = omega (arith, row_number-append values more, doubled (row_number more) (length values))

-- Its value doesn't depend on further values.
pub value_at-more : (table : ℕ) (values more : List Bool) → ((place : ℕ) → place < 8 → is_set table place ≡ is_set table (place % 2 ^ length values)) → row_number (values ++ more) < 8 → value_at table (values ++ more) ≡ value_at table values
value_at-more table values more steady short =
    steady (row_number (values ++ more)) short
    ∙ ap (is_set table) (ap (λ n. n % 2 ^ length values) (row_number-append values more) ∙ mod-mul-add (row_number more) (2 ^ length values) (row_number values) (row_number-below values))

-- ---- What is evaluated at each table of eight bits
agree_below-from : (f g : ℕ → Bool) (n : ℕ) → ((place : ℕ) → place < n → f place ≡ g place) → agree_below f g n ≡ true
agree_below-from f g zero same = refl
agree_below-from f g (suc n) same = and_from _ _ (beq-same (f n) (g n) (same n (omega arith))) (agree_below-from f g n (λ place h. same place (omega arith)))
  where
    beq-same : (a b : Bool) → a ≡ b → beq a b ≡ true
    beq-same true true e = refl
    beq-same false false e = refl
    beq-same true false e = cc
    beq-same false true e = cc

-- A table over one leaf is two bits four times, a table over two leaves four bits twice.
steady_over : ℕ → ℕ → Bool
steady_over n table = agree_below (is_set table) (λ place. is_set table (place % 2 ^ n)) 8

steady_over-from : (n table : ℕ) → ((place : ℕ) → place < 8 → is_set table place ≡ is_set table (place % 2 ^ n)) → steady_over n table ≡ true
unfolding steady_over
steady_over-from n table steady = agree_below-from (is_set table) (λ place. is_set table (place % 2 ^ n)) 8 steady

steady_over-at : (n table : ℕ) → steady_over n table ≡ true → (place : ℕ) → place < 8 → is_set table place ≡ is_set table (place % 2 ^ n)
unfolding steady_over
steady_over-at n table steady place h = agree_below_at (is_set table) (λ place. is_set table (place % 2 ^ n)) 8 place steady h

steady_over-1 : (table : ℕ) → table < 256 → steady_over 1 table ≡ (table == table % 4 * 0x55)
unfolding steady_over
steady_over-1 table h = agree_below_at (steady_over 1) (λ t. t == t % 4 * 0x55) 256 table refl h

steady_over-2 : (table : ℕ) → table < 256 → steady_over 2 table ≡ (table == table % 16 * 0x11)
unfolding steady_over
steady_over-2 table h = agree_below_at (steady_over 2) (λ t. t == t % 16 * 0x11) 256 table refl h

pub four_times : (table : ℕ) → table < 256 → ((place : ℕ) → place < 8 → is_set table place ≡ is_set table (place % 2 ^ 1)) → table ≡ table % 4 * 0x55
four_times table h steady = eqb-true table (table % 4 * 0x55) (sym (steady_over-1 table h) ∙ steady_over-from 1 table steady)

pub steady-four_times : (table : ℕ) → table ≡ table % 4 * 0x55 → (place : ℕ) → place < 8 → is_set table place ≡ is_set table (place % 2 ^ 1)
steady-four_times table e = steady_over-at 1 table (steady_over-1 table (omega arith) ∙ eq-eqb table (table % 4 * 0x55) e)

pub twice : (table : ℕ) → table < 256 → ((place : ℕ) → place < 8 → is_set table place ≡ is_set table (place % 2 ^ 2)) → table ≡ table % 16 * 0x11
twice table h steady = eqb-true table (table % 16 * 0x11) (sym (steady_over-2 table h) ∙ steady_over-from 2 table steady)

pub steady-twice : (table : ℕ) → table ≡ table % 16 * 0x11 → (place : ℕ) → place < 8 → is_set table place ≡ is_set table (place % 2 ^ 2)
steady-twice table e = steady_over-at 2 table (steady_over-2 table (omega arith) ∙ eq-eqb table (table % 16 * 0x11) e)

pub steady-once : (table place : ℕ) → place < 8 → is_set table place ≡ is_set table (place % 2 ^ 3)
steady-once table place h = let e : place ≡ place % 2 ^ 3 = omega arith in ap (is_set table) e

-- ---- A table that gets a place for a new leaf
-- what the code computes of a table's lower half
abbrev pub pairs_of : ℕ → ℕ
pairs_of table = bit_and (bit_or (bit_and table 0x0F) (bit_and table 0x0F * 2 ^ 2 % 2 ^ 64)) 0x33

abbrev pub bits_of : ℕ → ℕ
bits_of table = bit_and (bit_or (pairs_of table) (pairs_of table * 2 ^ 1 % 2 ^ 64)) 0x55

abbrev pub with_first : ℕ → ℕ
with_first table = bit_or (bits_of table) (bits_of table * 2 ^ 1 % 2 ^ 64)

abbrev pub with_second : ℕ → ℕ
with_second table = bit_or (pairs_of table) (pairs_of table * 2 ^ 2 % 2 ^ 64)

pub value_at-with_first : (table : ℕ) → table < 256 → (one two three : Bool) → value_at (with_first table) (one ∷ two ∷ three ∷ []) ≡ value_at table (two ∷ three ∷ [])
value_at-with_first table h false false false = agree_below_at (λ t. is_set (with_first t) 0) (λ t. is_set t 0) 256 table refl h
value_at-with_first table h true false false = agree_below_at (λ t. is_set (with_first t) 1) (λ t. is_set t 0) 256 table refl h
value_at-with_first table h false true false = agree_below_at (λ t. is_set (with_first t) 2) (λ t. is_set t 1) 256 table refl h
value_at-with_first table h true true false = agree_below_at (λ t. is_set (with_first t) 3) (λ t. is_set t 1) 256 table refl h
value_at-with_first table h false false true = agree_below_at (λ t. is_set (with_first t) 4) (λ t. is_set t 2) 256 table refl h
value_at-with_first table h true false true = agree_below_at (λ t. is_set (with_first t) 5) (λ t. is_set t 2) 256 table refl h
value_at-with_first table h false true true = agree_below_at (λ t. is_set (with_first t) 6) (λ t. is_set t 3) 256 table refl h
value_at-with_first table h true true true = agree_below_at (λ t. is_set (with_first t) 7) (λ t. is_set t 3) 256 table refl h

pub value_at-with_second : (table : ℕ) → table < 256 → (one two three : Bool) → value_at (with_second table) (one ∷ two ∷ three ∷ []) ≡ value_at table (one ∷ three ∷ [])
value_at-with_second table h false false false = agree_below_at (λ t. is_set (with_second t) 0) (λ t. is_set t 0) 256 table refl h
value_at-with_second table h true false false = agree_below_at (λ t. is_set (with_second t) 1) (λ t. is_set t 1) 256 table refl h
value_at-with_second table h false true false = agree_below_at (λ t. is_set (with_second t) 2) (λ t. is_set t 0) 256 table refl h
value_at-with_second table h true true false = agree_below_at (λ t. is_set (with_second t) 3) (λ t. is_set t 1) 256 table refl h
value_at-with_second table h false false true = agree_below_at (λ t. is_set (with_second t) 4) (λ t. is_set t 2) 256 table refl h
value_at-with_second table h true false true = agree_below_at (λ t. is_set (with_second t) 5) (λ t. is_set t 3) 256 table refl h
value_at-with_second table h false true true = agree_below_at (λ t. is_set (with_second t) 6) (λ t. is_set t 2) 256 table refl h
value_at-with_second table h true true true = agree_below_at (λ t. is_set (with_second t) 7) (λ t. is_set t 3) 256 table refl h

-- Values that are left out count as false.
pub value_at-two : (table : ℕ) (one two : Bool) → value_at table (one ∷ two ∷ []) ≡ value_at table (one ∷ two ∷ false ∷ [])
value_at-two table false false = refl
value_at-two table false true = refl
value_at-two table true false = refl
value_at-two table true true = refl

pub value_at-one : (table : ℕ) (one : Bool) → value_at table (one ∷ false ∷ []) ≡ value_at table (one ∷ [])
value_at-one table false = refl
value_at-one table true = refl
