-- The cells: pins, rank, junctions, and the value of a cell over the list of its pins' values.
use Rattle.std.specs.Prelude.{ℕ, Bool, true, false, not, List, [], ◌∷◌, nat_le, count_by}
use Rattle.std.specs.List.{list_all, list_any}
use Rattle.cell_lib.specs.declared.cell.Cell.{Cell}
use Rattle.cell_lib.specs.declared.cell.Cell.TheVariants.{Dro, Not, And, Or, Xor, Maj}

-- how many pins a cell has
abbrev pub arity_of : Cell → ℕ
arity_of Dro = 1
arity_of Not = 1
arity_of And = 2
arity_of Or = 2
arity_of Xor = 2
arity_of Maj = 3

-- a cell's place among the cells, where two formulas cost the same
abbrev pub rank_of : Cell → ℕ
rank_of Dro = 0
rank_of Not = 1
rank_of And = 2
rank_of Or = 3
rank_of Xor = 4
rank_of Maj = 5

-- what a cell costs, in Josephson junctions
abbrev pub junctions_of : Cell → ℕ
junctions_of Dro = 6
junctions_of Not = 9
junctions_of And = 11
junctions_of Or = 9
junctions_of Xor = 11
junctions_of Maj = 13

-- an odd number of them is true
abbrev pub is_odd_count : List Bool → Bool
is_odd_count [] = false
is_odd_count (true ∷ values) = not (is_odd_count values)
is_odd_count (false ∷ values) = is_odd_count values

-- A cell's value over the values of its pins, whatever their order. An XOR is true where an odd number of its pins is, a
-- majority where two of them are, or all three.
abbrev pub cell_value : Cell → List Bool → Bool
cell_value Dro pins = list_all (λ pin. pin) pins
cell_value Not pins = not (list_all (λ pin. pin) pins)
cell_value And pins = list_all (λ pin. pin) pins
cell_value Or pins = list_any (λ pin. pin) pins
cell_value Xor pins = is_odd_count pins
cell_value Maj pins = nat_le 2 (count_by (λ pin. pin) pins)

-- whether a cell is a DRO; every other cell is a gate
abbrev pub is_dro : Cell → Bool
is_dro Dro = true
is_dro cell = false
