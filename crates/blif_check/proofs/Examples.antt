-- Small designs by hand, with what the definitions say of them: a false definition fails here.
-- Signals: 0 is `a`, 1 is `f`, 2 is `g`.
use Rattle.std.proofs.Common.{◌≡◌, ℕ, true, false, List, [], ◌∷◌, Some, None, Err, refl}
use Rattle.blif_model.specs.declared.design.Table.{Table}
use Rattle.blif_model.specs.declared.design.Design.{Design}
use Rattle.blif_model.specs.Order.{DuplicateDriver as DrivenTwice, Undriven as NotDriven, Cycle as OnCycle}
use Rattle.blif_check.specs.declared.fault.OrderFault.TheVariants.{DuplicateDriver, Cycle, NoMemory}
use Rattle.blif_check.specs.Check.{told, tells, first_unmarked, driver_refusal, cycle_refusal}
use Rattle.blif_check.specs.Lookup.{driver_at}
use Rattle.blif_check.specs.Cycles.{first_cycle, all_pins}

-- a fault tells its cause, and want of memory none
cycle_told : told (Cycle 3) ≡ Some (Err (OnCycle 3))
cycle_told = refl

twice_told : tells (DuplicateDriver (97 ∷ [])) ≡ Some (Some (DrivenTwice (97 ∷ [])))
twice_told = refl

memory_told : told NoMemory ≡ None
memory_told = refl

-- the first signal without a mark, also past the last mark
second_unmarked : first_unmarked (true ∷ (false ∷ [])) (0 ∷ (1 ∷ [])) ≡ Some 1
second_unmarked = refl

past_unmarked : first_unmarked (true ∷ []) (0 ∷ (7 ∷ [])) ≡ Some 7
past_unmarked = refl

all_marked : first_unmarked (true ∷ []) (0 ∷ (0 ∷ [])) ≡ None
all_marked = refl

-- a table of a line without rows
abbrev table : ℕ → List ℕ → ℕ → Table
table line pins target = record { line = line; pins = pins; target = target; rows = []; on = true }

-- a design `m` with the input a and the output f
abbrev design_of : List Table → Design
design_of tables = record { name = 109 ∷ []; names = (97 ∷ []) ∷ ((102 ∷ []) ∷ ((103 ∷ []) ∷ [])); inputs = 0 ∷ []; outputs = 1 ∷ []; tables = tables }

-- the table at the place of a signal, and none where the place stands for none
driver_there : driver_at (None ∷ (Some 0 ∷ [])) (table 3 [] 1 ∷ []) 1 ≡ Some (table 3 [] 1)
driver_there = refl

input_undriven : driver_at (None ∷ (Some 0 ∷ [])) (table 3 [] 1 ∷ []) 0 ≡ None
input_undriven = refl

-- an input is driven by a table, which comes before the undriven pin g
input_driven : driver_refusal (design_of (table 3 (2 ∷ []) 0 ∷ [])) ≡ Some (DrivenTwice (97 ∷ []))
input_driven = refl

-- the pin g is driven by nothing
pin_undriven : driver_refusal (design_of (table 3 (2 ∷ []) 1 ∷ [])) ≡ Some (NotDriven (103 ∷ []))
pin_undriven = refl

-- the output f is driven by nothing
output_undriven : driver_refusal (design_of []) ≡ Some (NotDriven (102 ∷ []))
output_undriven = refl

-- all is driven, also on a cycle
all_driven : driver_refusal (design_of (table 3 (1 ∷ []) 1 ∷ [])) ≡ None
all_driven = refl

-- f reads g, which reads itself: the table of f stands behind a cycle and isn't on one
abbrev behind : List Table
behind = table 3 (2 ∷ []) 1 ∷ (table 4 (2 ∷ []) 2 ∷ [])

cycle_behind : first_cycle behind ≡ Some 4
cycle_behind = refl

cycle_refuses : cycle_refusal behind ≡ Some (OnCycle 4)
cycle_refuses = refl

no_cycle : first_cycle (table 3 (2 ∷ []) 1 ∷ (table 4 (0 ∷ []) 2 ∷ [])) ≡ None
no_cycle = refl

pins_of_all : all_pins behind ≡ 2 ∷ (2 ∷ [])
pins_of_all = refl
