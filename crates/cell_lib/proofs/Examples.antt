-- The value of each cell at all values of its pins, the first pin first.
use Rattle.std.specs.Prelude.{◌≡◌, Bool, true, false, List, [], ◌∷◌, map, refl}
use Rattle.cell_lib.specs.declared.cell.Cell.TheVariants.{Dro, Not, And, Or, Xor, Maj}
use Rattle.cell_lib.specs.Cell.{cell_value}

-- the rows of one, two and three pins
one_pin : List (List Bool)
one_pin = (false ∷ []) ∷ (true ∷ []) ∷ []

two_pins : List (List Bool)
two_pins = (false ∷ false ∷ []) ∷ (false ∷ true ∷ []) ∷ (true ∷ false ∷ []) ∷ (true ∷ true ∷ []) ∷ []

three_pins : List (List Bool)
three_pins =
    (false ∷ false ∷ false ∷ []) ∷ (false ∷ false ∷ true ∷ []) ∷ (false ∷ true ∷ false ∷ []) ∷ (false ∷ true ∷ true ∷ [])
    ∷ (true ∷ false ∷ false ∷ []) ∷ (true ∷ false ∷ true ∷ []) ∷ (true ∷ true ∷ false ∷ []) ∷ (true ∷ true ∷ true ∷ []) ∷ []

dro-values : map (cell_value Dro) one_pin ≡ false ∷ true ∷ []
unfolding one_pin
dro-values = refl

not-values : map (cell_value Not) one_pin ≡ true ∷ false ∷ []
unfolding one_pin
not-values = refl

and-values : map (cell_value And) two_pins ≡ false ∷ false ∷ false ∷ true ∷ []
unfolding two_pins
and-values = refl

or-values : map (cell_value Or) two_pins ≡ false ∷ true ∷ true ∷ true ∷ []
unfolding two_pins
or-values = refl

xor-values : map (cell_value Xor) two_pins ≡ false ∷ true ∷ true ∷ false ∷ []
unfolding two_pins
xor-values = refl

maj-values : map (cell_value Maj) three_pins ≡ false ∷ false ∷ false ∷ true ∷ false ∷ true ∷ true ∷ true ∷ []
unfolding three_pins
maj-values = refl
