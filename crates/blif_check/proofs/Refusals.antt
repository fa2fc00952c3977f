-- What refuses an order: what drives the signals, before a cycle.
use Rattle.std.proofs.Common.{◌≡◌, ◌++◌, ◌∙◌, ℕ, Bool, false, not, List, get_or, Option, Some, None, nat_eq, refl, sym, ap}
use Rattle.std.specs.Prelude.{find}
use Rattle.std.specs.List.{flat_map}
use Rattle.std.specs.Option.{option_map, option_or}
use Rattle.net_base.specs.Keys.{is_among}
use Rattle.blif_model.specs.declared.design.Table.{Table}
use Rattle.blif_model.specs.declared.design.Design.{Design}
use Rattle.blif_model.specs.Order.{DuplicateDriver as DrivenTwice, Undriven as NotDriven, targets_of, driven_signals, used_signals, driven_twice, undriven, name_of, is_on_cycle}
use Rattle.blif_check.specs.Check.{first_unmarked, driver_refusal}

-- Where what drives is marked, the first that is used and not marked isn't driven.
pub undriven-marked : (design : Design) (marks : List Bool) → ((signal : ℕ) → get_or marks signal false ≡ is_among nat_eq signal (driven_signals design))
    → first_unmarked marks (flat_map (λ (t : Table). t.pins) design.tables ++ design.outputs) ≡ undriven design
undriven-marked design marks same = λ i. find (λ signal. not (same signal i)) (used_signals design)

pub refused-undriven : (design : Design) (signal : ℕ) (name : List ℕ) → driven_twice design.inputs (targets_of design.tables) ≡ None → undriven design ≡ Some signal → name ≡ name_of design signal
    → driver_refusal design ≡ Some (NotDriven name)
refused-undriven design signal name once absent its =
    (λ i. option_or (option_map (λ s. DrivenTwice (name_of design s)) (once i)) (option_map (λ s. NotDriven (name_of design s)) (absent i)))
    ∙ ap (λ n. Some (NotDriven n)) (sym its)

-- Where nothing is refused for what drives, no target is driven twice.
pub driven_once : (design : Design) → driver_refusal design ≡ None → driven_twice design.inputs (targets_of design.tables) ≡ None
driven_once design none = by (driven_twice design.inputs (targets_of design.tables)) none
  where
    by : (twice : Option ℕ) → option_or (option_map (λ s. DrivenTwice (name_of design s)) twice) (option_map (λ s. NotDriven (name_of design s)) (undriven design)) ≡ None → twice ≡ None
    by None e = refl
    by (Some signal) e = cc

-- Where no line of a table on a cycle is found, there is no such table.
pub none-found : (tables : List Table) → option_map (λ (t : Table). t.line) (find (is_on_cycle tables) tables) ≡ None → find (is_on_cycle tables) tables ≡ None
none-found tables e = by (find (is_on_cycle tables) tables) e
  where
    by : (found : Option Table) → option_map (λ (t : Table). t.line) found ≡ None → found ≡ None
    by None e = refl
    by (Some table) e = cc
