-- Tables of cells over the tables of their parts: what the code computes, and that the order of the parts doesn't matter.
use Rattle.std.proofs.Common.{◌≡◌, ◌≢◌, ◌<◌, ◌≤◌, ◌-◌, ◌&&◌, ◌||◌, ◌∙◌, ℕ, Bool, true, false, not, List, [], ◌∷◌, length, map, refl, sym, ap, bit_and, bit_or, bit_xor, arith}
use Rattle.std.specs.List.Sorted.{IsPermutation}
use Rattle.std.proofs.lemmas.List.Sorted.{IsPermutation-map}
use Rattle.std.proofs.lemmas.Nat.{and_le_l, or_of_8, xor_of_8}
use Rattle.cell_lib.specs.declared.cell.Cell.{Cell}
use Rattle.cell_lib.specs.declared.cell.Cell.TheVariants.{Dro, Not, And, Or, Xor, Maj}
use Rattle.cell_lib.specs.Cell.{arity_of, cell_value}
use Rattle.cell_lib.proofs.CallerLemmas.{cell_value-IsPermutation}
use Rattle.cut_word.specs.Table.{is_set, value_at, row_number, table_of}
use Rattle.cut_word.proofs.CallerLemmas.{is_set-and, is_set-or, is_set-xor, is_set-complement, same_table, row_number-fits, table_of-bits, table_of-below}
use Rattle.pattern_table.specs.Formula.{table_over}

-- A table of eight bits whose bit at each place is the cell's value is the cell's table.
table-from : (cell : Cell) (tables : List ℕ) (t : ℕ) → t < 256 → ((place : ℕ) → place < 8 → is_set t place ≡ cell_value cell (map (λ table. is_set table place) tables)) → t ≡ table_over cell tables
unfolding table_over
table-from cell tables t h bits =
    same_table t (table_of (λ place. cell_value cell (map (λ table. is_set table place) tables))) h (table_of-below _)
    (λ place k. bits place k ∙ sym (table_of-bits (λ p. cell_value cell (map (λ table. is_set table p) tables)) place k))

pub table_over-below : (cell : Cell) (tables : List ℕ) → table_over cell tables < 256
unfolding table_over
table_over-below cell tables = table_of-below (λ place. cell_value cell (map (λ table. is_set table place) tables))

-- The value of a cell's table is the cell's, over the values of the parts' tables.
pub value_at-table_over : (cell : Cell) (tables : List ℕ) (values : List Bool) → length values ≤ 3 → value_at (table_over cell tables) values ≡ cell_value cell (map (λ table. value_at table values) tables)
unfolding table_over
value_at-table_over cell tables values few =
    table_of-bits (λ place. cell_value cell (map (λ table. is_set table place) tables)) (row_number values) (row_number-fits values few)

-- A cell has one table over the same parts in any order.
pub table_over-IsPermutation : (cell : Cell) (tables turned : List ℕ) → IsPermutation tables turned → table_over cell turned ≡ table_over cell tables
unfolding table_over
table_over-IsPermutation cell tables turned same =
    same_table (table_of (λ place. cell_value cell (map (λ table. is_set table place) turned))) (table_of (λ place. cell_value cell (map (λ table. is_set table place) tables))) (table_of-below _) (table_of-below _)
    (λ place k.
    table_of-bits (λ p. cell_value cell (map (λ table. is_set table p) turned)) place k
    ∙ cell_value-IsPermutation (map (λ table. is_set table place) tables) (map (λ table. is_set table place) turned) (IsPermutation-map (λ table. is_set table place) tables turned same) cell
    ∙ sym (table_of-bits (λ p. cell_value cell (map (λ table. is_set table p) tables)) place k))

-- ---- What the code computes
value-dro : (a : Bool) → a ≡ cell_value Dro (a ∷ [])
value-dro true = refl
value-dro false = refl

value-not : (a : Bool) → not a ≡ cell_value Not (a ∷ [])
value-not true = refl
value-not false = refl

value-and : (a b : Bool) → (a && b) ≡ cell_value And (a ∷ b ∷ [])
value-and true true = refl
value-and true false = refl
value-and false b = refl

value-or : (a b : Bool) → (a || b) ≡ cell_value Or (a ∷ b ∷ [])
value-or true b = refl
value-or false true = refl
value-or false false = refl

value-xor : (a b : Bool) → ((a && not b) || (not a && b)) ≡ cell_value Xor (a ∷ b ∷ [])
value-xor true true = refl
value-xor true false = refl
value-xor false true = refl
value-xor false false = refl

value-maj : (a b d : Bool) → ((a && b) || (d && (a || b))) ≡ cell_value Maj (a ∷ b ∷ d ∷ [])
value-maj true true true = refl
value-maj true true false = refl
value-maj true false true = refl
value-maj true false false = refl
value-maj false true true = refl
value-maj false true false = refl
value-maj false false true = refl
value-maj false false false = refl

pub table-dro : (s : ℕ) → s < 256 → s ≡ table_over Dro (s ∷ [])
table-dro s h = table-from Dro (s ∷ []) s h (λ place k. value-dro (is_set s place))

pub table-not : (s : ℕ) → s < 256 → 255 - s ≡ table_over Not (s ∷ [])
table-not s h = table-from Not (s ∷ []) (255 - s) (omega arith) (λ place k. is_set-complement s place h k ∙ value-not (is_set s place))

pub table-and : (s t : ℕ) → s < 256 → t < 256 → bit_and s t ≡ table_over And (s ∷ t ∷ [])
table-and s t h g =
    table-from And (s ∷ t ∷ []) (bit_and s t) (omega (arith, and_le_l s t)) (λ place k. is_set-and s t place ∙ value-and (is_set s place) (is_set t place))

pub table-or : (s t : ℕ) → s < 256 → t < 256 → bit_or s t ≡ table_over Or (s ∷ t ∷ [])
table-or s t h g = table-from Or (s ∷ t ∷ []) (bit_or s t) (or_of_8 s t h g) (λ place k. is_set-or s t place ∙ value-or (is_set s place) (is_set t place))

pub table-xor : (s t : ℕ) → s < 256 → t < 256 → bit_xor s t ≡ table_over Xor (s ∷ t ∷ [])
table-xor s t h g = table-from Xor (s ∷ t ∷ []) (bit_xor s t) (xor_of_8 s t h g) (λ place k. is_set-xor s t place ∙ value-xor (is_set s place) (is_set t place))

pub table-maj : (s t u : ℕ) → s < 256 → t < 256 → u < 256 → bit_or (bit_and s t) (bit_and u (bit_or s t)) ≡ table_over Maj (s ∷ t ∷ u ∷ [])
table-maj s t u h g f =
    table-from Maj (s ∷ t ∷ u ∷ []) (bit_or (bit_and s t) (bit_and u (bit_or s t)))
    (or_of_8 (bit_and s t) (bit_and u (bit_or s t)) (omega (arith, and_le_l s t)) (omega (arith, and_le_l u (bit_or s t))))
    (λ place k.
    is_set-or (bit_and s t) (bit_and u (bit_or s t)) place
    ∙ ap (λ b. b || is_set (bit_and u (bit_or s t)) place) (is_set-and s t place)
    ∙ ap (λ b. (is_set s place && is_set t place) || b) (is_set-and u (bit_or s t) place ∙ ap (λ b. is_set u place && b) (is_set-or s t place))
    ∙ value-maj (is_set s place) (is_set t place) (is_set u place))

-- The cell of one pin that is no NOT passes its pin on, and the cell of two pins that is neither an AND nor an OR is an XOR.
pub one_pin-other : (cell : Cell) (s : ℕ) → s < 256 → arity_of cell ≡ 1 → cell ≢ Not → s ≡ table_over cell (s ∷ [])
one_pin-other Dro s h pins other = table-dro s h
one_pin-other Not s h pins other = absurd (other refl)
one_pin-other And s h pins other = absurd (omega arith)
one_pin-other Or s h pins other = absurd (omega arith)
one_pin-other Xor s h pins other = absurd (omega arith)
one_pin-other Maj s h pins other = absurd (omega arith)

pub two_pins-other : (cell : Cell) (s t : ℕ) → s < 256 → t < 256 → arity_of cell ≡ 2 → cell ≢ And → cell ≢ Or → bit_xor s t ≡ table_over cell (s ∷ t ∷ [])
two_pins-other Dro s t h g pins no-and no-or = absurd (omega arith)
two_pins-other Not s t h g pins no-and no-or = absurd (omega arith)
two_pins-other And s t h g pins no-and no-or = absurd (no-and refl)
two_pins-other Or s t h g pins no-and no-or = absurd (no-or refl)
two_pins-other Xor s t h g pins no-and no-or = table-xor s t h g
two_pins-other Maj s t h g pins no-and no-or = absurd (omega arith)
