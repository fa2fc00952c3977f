-- Small designs by hand, with what the profile says of them: a false definition fails here.
-- Signals: 0 is `a`, 1 is `b`, 2 is `f`, 3 is `g`.
use Rattle.std.proofs.Common.{◌≡◌, ◌<◌, ℕ, Bool, true, false, List, [], ◌∷◌, length, get_or, drop, Ok, Err, refl, lit<, lit≤, arith}
use Rattle.std.proofs.lemmas.List.Elements.{All-cons, All-nil}
use Rattle.blif_model.specs.declared.design.Bit.TheVariants.{Zero, One, Any}
use Rattle.blif_model.specs.declared.design.Cube.{Cube}
use Rattle.blif_model.specs.declared.design.Table.{Table}
use Rattle.blif_model.specs.declared.design.Design.{Design}
use Rattle.blif_model.specs.Names.{number_of, with_name}
use Rattle.blif_model.specs.Regular.{IsTable, IsRegular}
use Rattle.blif_model.specs.Values.{table_value, signal_value}
use Rattle.blif_model.specs.Order.{DuplicateDriver, Undriven, Cycle, is_on_cycle, level_of, table_order}
use Rattle.blif_model.proofs.Levels.{distinct-range}

-- the names `a`, `b`, `f` and `g`
abbrev names : List (List ℕ)
names = (97 ∷ []) ∷ ((98 ∷ []) ∷ ((102 ∷ []) ∷ ((103 ∷ []) ∷ [])))

-- a name that is there keeps its number, and a new one goes last
number_kept : number_of (98 ∷ []) names ≡ 1
number_kept = refl

number_new : number_of (99 ∷ []) names ≡ 4
number_new = refl

name_kept : with_name (98 ∷ []) names ≡ names
name_kept = refl

name_new : with_name (98 ∷ []) ((97 ∷ []) ∷ []) ≡ (97 ∷ []) ∷ ((98 ∷ []) ∷ [])
name_new = refl

-- `.names a b f` with the row `11 1`: f = a and b
abbrev both : Table
both = record { line = 3; pins = 0 ∷ (1 ∷ []); target = 2; rows = record { bits = One ∷ (One ∷ []) } ∷ []; on = true }

both_true : table_value both (true ∷ (true ∷ [])) ≡ true
both_true = refl

both_false : table_value both (true ∷ (false ∷ [])) ≡ false
both_false = refl

-- `.names a f` with the row `0 1`: f = not a
abbrev inverter : Table
inverter = record { line = 3; pins = 0 ∷ []; target = 2; rows = record { bits = Zero ∷ [] } ∷ []; on = true }

inverter_true : table_value inverter (false ∷ []) ≡ true
inverter_true = refl

inverter_false : table_value inverter (true ∷ []) ≡ false
inverter_false = refl

-- `.names a b f` with the rows `1- 1` and `-1 1`: f = a or b
abbrev either : Table
either = record { line = 3; pins = 0 ∷ (1 ∷ []); target = 2; rows = record { bits = One ∷ (Any ∷ []) } ∷ (record { bits = Any ∷ (One ∷ []) } ∷ []); on = true }

either_first : table_value either (true ∷ (false ∷ [])) ≡ true
either_first = refl

either_second : table_value either (false ∷ (true ∷ [])) ≡ true
either_second = refl

either_none : table_value either (false ∷ (false ∷ [])) ≡ false
either_none = refl

-- `.names a b f` with the row `1- 0`: false where a is true, and else true
abbrev off : Table
off = record { line = 3; pins = 0 ∷ (1 ∷ []); target = 2; rows = record { bits = One ∷ (Any ∷ []) } ∷ []; on = false }

off_false : table_value off (true ∷ (true ∷ [])) ≡ false
off_false = refl

off_true : table_value off (false ∷ (true ∷ [])) ≡ true
off_true = refl

-- `.names a f` without a row is false
abbrev rowless : Table
rowless = record { line = 3; pins = 0 ∷ []; target = 2; rows = []; on = true }

rowless_false : table_value rowless (true ∷ []) ≡ false
rowless_false = refl

-- `.names f` with the row `1` is true, with the row `0` false, and without a row false
abbrev constant : Bool → Table
constant on = record { line = 3; pins = []; target = 2; rows = record { bits = [] } ∷ []; on = on }

constant_true : table_value (constant true) [] ≡ true
constant_true = refl

constant_false : table_value (constant false) [] ≡ false
constant_false = refl

empty_constant : table_value (record { line = 3; pins = []; target = 2; rows = []; on = true }) [] ≡ false
empty_constant = refl

-- a design `m` with the inputs a and b and the output f
abbrev design_of : List Table → Design
design_of tables = record { name = 109 ∷ []; names = names; inputs = 0 ∷ (1 ∷ []); outputs = 2 ∷ []; tables = tables }

-- f = not g is listed before g = a and b: the order is backwards
abbrev backwards : Design
backwards = design_of (
    record { line = 3; pins = 3 ∷ []; target = 2; rows = record { bits = Zero ∷ [] } ∷ []; on = true }
    ∷ (record { line = 5; pins = 0 ∷ (1 ∷ []); target = 3; rows = record { bits = One ∷ (One ∷ []) } ∷ []; on = true } ∷ []))

backwards_levels : level_of backwards.tables 2 ≡ 2
backwards_levels = refl

backwards_order : table_order backwards ≡ Ok (1 ∷ (0 ∷ []))
backwards_order = refl

backwards_value : signal_value (record { design = backwards; order = 1 ∷ (0 ∷ []) }) (true ∷ (false ∷ [])) 2 ≡ true
backwards_value = refl

backwards_other_value : signal_value (record { design = backwards; order = 1 ∷ (0 ∷ []) }) (true ∷ (true ∷ [])) 2 ≡ false
backwards_other_value = refl

-- tables of one level stand in the order of the file, and one without pins has level 1
two_of_a_level : table_order (design_of (constant true ∷ (record { line = 5; pins = 0 ∷ []; target = 3; rows = []; on = true } ∷ []))) ≡ Ok (0 ∷ (1 ∷ []))
two_of_a_level = refl

-- an output that is an input needs no table
no_tables : table_order (record { name = 109 ∷ []; names = names; inputs = 0 ∷ []; outputs = 0 ∷ []; tables = [] }) ≡ Ok []
no_tables = refl

-- f is driven twice, which comes before the undriven pin g
twice : table_order (design_of (inverter ∷ (record { line = 5; pins = 3 ∷ []; target = 2; rows = []; on = true } ∷ []))) ≡ Err (DuplicateDriver (102 ∷ []))
twice = refl

-- an input is driven by a table
input_driven : table_order (design_of (record { line = 3; pins = []; target = 1; rows = []; on = true } ∷ [])) ≡ Err (DuplicateDriver (98 ∷ []))
input_driven = refl

-- the pin g is driven by nothing, which comes before the cycle of f
undriven_pin : table_order (design_of (record { line = 3; pins = 2 ∷ (3 ∷ []); target = 2; rows = []; on = true } ∷ [])) ≡ Err (Undriven (103 ∷ []))
undriven_pin = refl

-- the output f is driven by nothing
undriven_output : table_order (design_of []) ≡ Err (Undriven (102 ∷ []))
undriven_output = refl

-- f is a pin of its own table
cycle_of_one : table_order (design_of (record { line = 3; pins = 0 ∷ (2 ∷ []); target = 2; rows = []; on = true } ∷ [])) ≡ Err (Cycle 3)
cycle_of_one = refl

-- f and g are pins of each other's tables: the first of both tables in the file is named
cycle_of_two : table_order (design_of (
    record { line = 3; pins = 3 ∷ []; target = 2; rows = []; on = true }
    ∷ (record { line = 4; pins = 2 ∷ []; target = 3; rows = []; on = true } ∷ []))) ≡ Err (Cycle 3)
cycle_of_two = refl

-- f reads g, which is on a cycle of one: the table of f stands behind a cycle and isn't on one
abbrev behind : Design
behind = design_of (
    record { line = 3; pins = 3 ∷ []; target = 2; rows = []; on = true }
    ∷ (record { line = 4; pins = 3 ∷ []; target = 3; rows = []; on = true } ∷ []))

behind_a_cycle : is_on_cycle behind.tables (record { line = 3; pins = 3 ∷ []; target = 2; rows = []; on = true }) ≡ false
behind_a_cycle = refl

behind_is_not_named : table_order behind ≡ Err (Cycle 4)
behind_is_not_named = refl

backwards_first : IsTable 4 (get_or backwards.tables 0 both)
backwards_first = record {
  target = lit< tt;
  pins = All-cons (λ pin. pin < 4) 3 [] (lit< tt) (All-nil (λ pin. pin < 4));
  few_pins = lit≤ tt;
  rows = All-cons (λ (row : Cube). length row.bits ≡ 1) (record { bits = Zero ∷ [] }) [] refl (All-nil (λ (row : Cube). length row.bits ≡ 1));
}

backwards_second : IsTable 4 (get_or backwards.tables 1 both)
backwards_second = record {
  target = lit< tt;
  pins = All-cons (λ pin. pin < 4) 0 (1 ∷ []) (lit< tt) (All-cons (λ pin. pin < 4) 1 [] (lit< tt) (All-nil (λ pin. pin < 4)));
  few_pins = lit≤ tt;
  rows = All-cons (λ (row : Cube). length row.bits ≡ 2) (record { bits = One ∷ (One ∷ []) }) [] refl (All-nil (λ (row : Cube). length row.bits ≡ 2));
}

-- A row of one bit for two pins makes no table.
short_row_is_none : IsTable 4 (record { line = 3; pins = 0 ∷ (1 ∷ []); target = 2; rows = record { bits = One ∷ [] } ∷ []; on = true }) → ⊥
short_row_is_none table = let one_is_two : ◌≡◌ {A = ℕ} 1 2 = table.rows 0 (record { bits = [] }) (lit< tt) in omega (arith, one_is_two)

-- `backwards` is regular: its four names are enough for all numbers, and its rows fit.
backwards_is_regular : IsRegular backwards
backwards_is_regular = record {
  inputs = record { named = All-cons (λ signal. signal < 4) 0 (1 ∷ []) (lit< tt) (All-cons (λ signal. signal < 4) 1 [] (lit< tt) (All-nil (λ signal. signal < 4))); distinct = distinct-range 0 2; few = lit≤ tt };
  outputs = record { named = All-cons (λ signal. signal < 4) 2 [] (lit< tt) (All-nil (λ signal. signal < 4)); distinct = distinct-range 2 1; few = lit≤ tt };
  tables = All-cons (IsTable 4) (get_or backwards.tables 0 both) (drop 1 backwards.tables) backwards_first (All-cons (IsTable 4) (get_or backwards.tables 1 both) [] backwards_second (All-nil (IsTable 4)));
  few_tables = lit≤ tt;
}
