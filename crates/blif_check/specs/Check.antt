-- What refuses an order, in two parts, and what a fault tells of it.
use Rattle.std.specs.Prelude.{ℕ, Bool, false, not, List, find, slice_index_or, Option, Some, None, Result, Err}
use Rattle.std.specs.Option.{option_map, option_or}
use Rattle.blif_model.specs.declared.design.Design.{Design}
use Rattle.blif_model.specs.declared.design.Table.{Table}
use Rattle.blif_model.specs.Order.{Refusal, DuplicateDriver as DrivenTwice, Undriven as NotDriven, Cycle as OnCycle, targets_of, driven_twice, undriven, name_of, is_on_cycle}
use Rattle.blif_check.specs.declared.fault.OrderFault.{OrderFault}
use Rattle.blif_check.specs.declared.fault.OrderFault.TheVariants.{DuplicateDriver, Undriven, Cycle, NoMemory}

-- the refusal that a fault tells; want of memory tells none
abbrev pub refusal_told : OrderFault → Option Refusal
refusal_told (DuplicateDriver name) = Some (DrivenTwice name)
refusal_told (Undriven name) = Some (NotDriven name)
refusal_told (Cycle line) = Some (OnCycle line)
refusal_told NoMemory = None

-- the answer that a fault tells
abbrev pub told : OrderFault → Option (Result (List ℕ) Refusal)
told fault = option_map (λ refusal. Err refusal) (refusal_told fault)

-- that something is refused, which a fault tells
abbrev pub tells : OrderFault → Option (Option Refusal)
tells fault = option_map (λ refusal. Some refusal) (refusal_told fault)

-- the first of some signals that is not marked
abbrev pub first_unmarked : List Bool → List ℕ → Option ℕ
first_unmarked marks signals = find (λ signal. not (slice_index_or marks signal false)) signals

-- what refuses an order for what drives the signals
abbrev pub driver_refusal : Design → Option Refusal
driver_refusal design =
    option_or (option_map (λ signal. DrivenTwice (name_of design signal)) (driven_twice design.inputs (targets_of design.tables)))
    (option_map (λ signal. NotDriven (name_of design signal)) (undriven design))

-- what refuses it for a cycle
abbrev pub cycle_refusal : List Table → Option Refusal
cycle_refusal tables = option_map (λ table. OnCycle table.line) (find (is_on_cycle tables) tables)
