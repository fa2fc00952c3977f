-- Tables of eight bits by their bits, and rows of values.
use Rattle.std.proofs.Common.{◌≡◌, ◌<◌, ◌≤◌, ◌+◌, ◌-◌, ◌*◌, ◌%◌, ◌/◌, ◌^◌, ◌==◌, ◌&&◌, ◌||◌, ◌∙◌, min, max, ℕ, zero, suc, Bool, true, false, not, List, [], ◌∷◌, length, map, slice_index_or, refl, ap, bit_and, bit_or, bit_xor, arith}
use Rattle.std.specs.Int.{bit_at}
use Rattle.std.proofs.lemmas.Bool.{agree_below, agree_below_at}
use Rattle.std.proofs.Math.Nat.{pow-succ'}
use Rattle.std.proofs.lemmas.Nat.Bits.{bit_at-suc, bit_at_and, bit_at_or, bit_at_xor, bit_at-lt, same_from_bits_below}
use Rattle.cut_word.specs.Table.{is_set, row_number, table_of}

-- ---- A bit is 0 or 1.
-- what is said of two bits holds where it holds of each pair
two_bits : (P : ℕ → ℕ → Type 0) → P 0 0 → P 0 1 → P 1 0 → P 1 1 → (x y : ℕ) → x < 2 → y < 2 → P x y
two_bits P a b c d zero zero p q = a
two_bits P a b c d zero (suc zero) p q = b
two_bits P a b c d (suc zero) zero p q = c
two_bits P a b c d (suc zero) (suc zero) p q = d
two_bits P a b c d (suc (suc x)) y p q = absurd (omega arith)
two_bits P a b c d zero (suc (suc y)) p q = absurd (omega arith)
two_bits P a b c d (suc zero) (suc (suc y)) p q = absurd (omega arith)

pub is_set-and : (s t place : ℕ) → is_set (bit_and s t) place ≡ (is_set s place && is_set t place)
is_set-and s t place =
    ap (λ n. n == 1) (bit_at_and s t place)
    ∙ two_bits (λ x y. (min x y == 1) ≡ ((x == 1) && (y == 1))) refl refl refl refl (bit_at s place) (bit_at t place) (bit_at-lt s place) (bit_at-lt t place)

pub is_set-or : (s t place : ℕ) → is_set (bit_or s t) place ≡ (is_set s place || is_set t place)
is_set-or s t place =
    ap (λ n. n == 1) (bit_at_or s t place)
    ∙ two_bits (λ x y. (max x y == 1) ≡ ((x == 1) || (y == 1))) refl refl refl refl (bit_at s place) (bit_at t place) (bit_at-lt s place) (bit_at-lt t place)

pub is_set-xor : (s t place : ℕ) → is_set (bit_xor s t) place ≡ ((is_set s place && not (is_set t place)) || (not (is_set s place) && is_set t place))
is_set-xor s t place =
    ap (λ n. n == 1) (bit_at_xor s t place)
    ∙ two_bits (λ x y. ((x + y) % 2 == 1) ≡ (((x == 1) && not (y == 1)) || (not (x == 1) && (y == 1)))) refl refl refl refl (bit_at s place) (bit_at t place) (bit_at-lt s place) (bit_at-lt t place)

-- Subtracting from all ones turns each bit: evaluated at each table.
turned : ℕ → Bool
turned table = agree_below (is_set (255 - table)) (λ place. not (is_set table place)) 8

pub is_set-complement : (table place : ℕ) → table < 256 → place < 8 → is_set (255 - table) place ≡ not (is_set table place)
unfolding turned
is_set-complement table place h k =
    agree_below_at (is_set (255 - table)) (λ place. not (is_set table place)) 8 place (agree_below_at turned (λ _. true) 256 table refl h) k

-- Two tables of the same eight bits are one.
pub same_table : (s t : ℕ) → s < 256 → t < 256 → ((place : ℕ) → place < 8 → is_set s place ≡ is_set t place) → s ≡ t
same_table s t p q bits =
    same_from_bits_below 8 s t p q (λ i h.
    two_bits (λ x y. (x == 1) ≡ (y == 1) → x ≡ y) (λ e. refl) (λ e. cc) (λ e. cc) (λ e. refl) (bit_at s i) (bit_at t i) (bit_at-lt s i) (bit_at-lt t i) (bits i h))

-- ---- Rows of values
pub row_number-cons : (value : Bool) (values : List Bool) → row_number (value ∷ values) / 2 ≡ row_number values
row_number-cons true values = omega arith
row_number-cons false values = omega arith

pub is_set-front : (value : Bool) (values : List Bool) → is_set (row_number (value ∷ values)) 0 ≡ value
is_set-front true values = ap (λ n. n == 1) (let e : (1 + 2 * row_number values) / 2 ^ 0 % 2 ≡ 1 = omega arith in e)
is_set-front false values = ap (λ n. n == 1) (let e : 2 * row_number values / 2 ^ 0 % 2 ≡ 0 = omega arith in e)

pub is_set-behind : (number place : ℕ) → is_set number (suc place) ≡ is_set (number / 2) place
is_set-behind number place = ap (λ n. n == 1) (bit_at-suc number place)

-- The bits of a row's number are the row.
pub is_set-row_number : (values : List Bool) (place : ℕ) → is_set (row_number values) place ≡ slice_index_or values place false
is_set-row_number [] zero = refl
is_set-row_number [] (suc place) = is_set-behind 0 place ∙ is_set-row_number [] place
is_set-row_number (value ∷ values) zero = is_set-front value values
is_set-row_number (value ∷ values) (suc place) =
    is_set-behind (row_number (value ∷ values)) place ∙ ap (λ n. is_set n place) (row_number-cons value values) ∙ is_set-row_number values place

pub row_number-below : (values : List Bool) → row_number values < 2 ^ length values
row_number-below [] = omega arith
row_number-below (true ∷ values) = let h : row_number values < 2 ^ length values = row_number-below values in omega (arith, pow-succ' 2 (length values))
row_number-below (false ∷ values) = let h : row_number values < 2 ^ length values = row_number-below values in omega (arith, pow-succ' 2 (length values))

-- Up to three values are a row of a table of eight bits.
pub row_number-fits : (values : List Bool) → length values ≤ 3 → row_number values < 8
row_number-fits [] few = omega arith
row_number-fits (x ∷ []) few = let h : row_number (x ∷ []) < 2 ^ 1 = row_number-below (x ∷ []) in omega arith
row_number-fits (x ∷ (y ∷ [])) few = let h : row_number (x ∷ y ∷ []) < 2 ^ 2 = row_number-below (x ∷ y ∷ []) in omega arith
row_number-fits (x ∷ (y ∷ (z ∷ []))) few = let h : row_number (x ∷ y ∷ z ∷ []) < 2 ^ 3 = row_number-below (x ∷ y ∷ z ∷ []) in omega arith
row_number-fits (x ∷ (y ∷ (z ∷ (u ∷ values)))) few = absurd (omega arith)

eight-bits : (bit : ℕ → Bool) (place : ℕ) → place < 8 → slice_index_or (map bit (0 ∷ 1 ∷ 2 ∷ 3 ∷ 4 ∷ 5 ∷ 6 ∷ 7 ∷ [])) place false ≡ bit place
eight-bits bit zero h = refl
eight-bits bit (suc zero) h = refl
eight-bits bit (suc (suc zero)) h = refl
eight-bits bit (suc (suc (suc zero))) h = refl
eight-bits bit (suc (suc (suc (suc zero)))) h = refl
eight-bits bit (suc (suc (suc (suc (suc zero))))) h = refl
eight-bits bit (suc (suc (suc (suc (suc (suc zero)))))) h = refl
eight-bits bit (suc (suc (suc (suc (suc (suc (suc zero))))))) h = refl
eight-bits bit (suc (suc (suc (suc (suc (suc (suc (suc place)))))))) h = absurd (omega arith)

-- A table that is made of bits has them, and no others.
pub table_of-bits : (bit : ℕ → Bool) (place : ℕ) → place < 8 → is_set (table_of bit) place ≡ bit place
unfolding table_of
table_of-bits bit place h = is_set-row_number (map bit (0 ∷ 1 ∷ 2 ∷ 3 ∷ 4 ∷ 5 ∷ 6 ∷ 7 ∷ [])) place ∙ eight-bits bit place h

pub table_of-below : (bit : ℕ → Bool) → table_of bit < 256
unfolding table_of
table_of-below bit = row_number-below (map bit (0 ∷ 1 ∷ 2 ∷ 3 ∷ 4 ∷ 5 ∷ 6 ∷ 7 ∷ []))
