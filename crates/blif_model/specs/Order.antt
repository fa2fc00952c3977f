-- The order of a design's tables: what drives a signal, cycles, levels, and what refuses an order.
use Rattle.std.specs.Prelude.{◌==◌, ◌<◌, ◌+◌, ℕ, zero, suc, Bool, IsTrue, not, nat_eq, max, List, [], ◌∷◌, ◌++◌, length, map, filter, find, slice_index, slice_index_or, Option, Some, None, Result, Ok, Err, if◌then◌else◌}
use Rattle.std.specs.List.{flat_map, list_any, range_with_len}
use Rattle.std.specs.Option.{option_map, option_or}
use Rattle.net_base.specs.Keys.{is_among}
use Rattle.blif_model.specs.declared.design.Table.{Table}
use Rattle.blif_model.specs.declared.design.Design.{Design}

-- the targets of tables
abbrev pub targets_of : List Table → List ℕ
targets_of tables = map (λ table. table.target) tables

-- the signals that something drives: the inputs, wherever they are listed, and the targets
abbrev pub driven_signals : Design → List ℕ
driven_signals design = design.inputs ++ targets_of design.tables

-- the signals that something uses, in the order of the file: the pins of the tables, then the outputs
abbrev pub used_signals : Design → List ℕ
used_signals design = flat_map (λ table. table.pins) design.tables ++ design.outputs

-- the first of these targets that is driven already: it is among these drivers, or an earlier target
abbrev pub driven_twice : List ℕ → List ℕ → Option ℕ
driven_twice drivers [] = None
driven_twice drivers (target ∷ targets) = if is_among nat_eq target drivers then Some target else driven_twice (drivers ++ target ∷ []) targets

-- the first signal that something uses and nothing drives
abbrev pub undriven : Design → Option ℕ
undriven design = find (λ signal. not (is_among nat_eq signal (driven_signals design))) (used_signals design)

-- the table that drives a signal: the one whose target it is; no table drives an input
abbrev pub driver_of : List Table → ℕ → Option Table
driver_of tables signal = find (λ table. signal == table.target) tables

-- the pins of a table, and none where there is no table
abbrev pub pins_of : Option Table → List ℕ
pins_of None = []
pins_of (Some table) = table.pins

-- a walk of n steps leads from one signal to another, each step from a signal to a pin of the table that drives it
abbrev pub leads : List Table → ℕ → ℕ → ℕ → Bool
leads tables zero from to = from == to
leads tables (suc steps) from to = list_any (λ pin. leads tables steps pin to) (pins_of (driver_of tables from))

-- A table is on a cycle where a walk of some steps, however many, leads from its target to itself.
abbrev pub IsOnCycle : List Table → Table → Type 0
IsOnCycle tables table = (steps : ℕ) × (0 < steps) × IsTrue (leads tables steps table.target table.target)

-- The test for it: the shortest such walk passes no table twice, so it has at most as many steps as there are tables.
abbrev pub is_on_cycle : List Table → Table → Bool
is_on_cycle tables table = list_any (λ steps. leads tables steps table.target table.target) (range_with_len 1 (length tables))

-- the largest of some numbers, 0 where there are none
abbrev pub largest : List ℕ → ℕ
largest [] = 0
largest (n ∷ ns) = max n (largest ns)

-- the level of what a table drives, from the levels of signals: 1 more than the largest level of its pins, and 0 where no
-- table drives it
abbrev pub level_behind : (ℕ → ℕ) → Option Table → ℕ
level_behind levels None = 0
level_behind levels (Some table) = 1 + largest (map levels table.pins)

-- the level of a signal, where at most this many tables behind one another are looked at
abbrev pub level_within : List Table → ℕ → ℕ → ℕ
level_within tables zero signal = 0
level_within tables (suc most) signal = level_behind (level_within tables most) (driver_of tables signal)

-- the level of a signal: without a cycle no walk passes more tables than there are
abbrev pub level_of : List Table → ℕ → ℕ
level_of tables signal = level_within tables (length tables) signal

-- the levels of tables, in the order of the file: a table has the level of its target
abbrev pub levels_of : List Table → List ℕ
levels_of tables = map (level_of tables) (targets_of tables)

-- the places of the tables of a level, in the order of the file
abbrev pub places_of_level : List Table → ℕ → List ℕ
places_of_level tables level = filter (λ place. slice_index (levels_of tables) place == level) (range_with_len 0 (length tables))

-- the places of all tables, by level, and within a level in the order of the file
abbrev pub places_by_level : List Table → List ℕ
places_by_level tables = flat_map (places_of_level tables) (range_with_len 1 (length tables))

-- what refuses an order: the name of a signal that is driven twice, or not at all, or the line of a table on a cycle
pub data Refusal : Type 0 where
  DuplicateDriver : List ℕ → Refusal
  Undriven : List ℕ → Refusal
  Cycle : ℕ → Refusal

-- the name of a signal of a design
abbrev pub name_of : Design → ℕ → List ℕ
name_of design signal = slice_index_or design.names signal []

-- The first refusal: a table whose target is an input or an earlier table's target, the first such in the file; else a
-- signal that is used and not driven; else a table on a cycle, the first such in the file.
abbrev pub refusal_of : Design → Option Refusal
refusal_of design =
    option_or (option_map (λ signal. DuplicateDriver (name_of design signal)) (driven_twice design.inputs (targets_of design.tables)))
    (option_or (option_map (λ signal. Undriven (name_of design signal)) (undriven design))
    (option_map (λ table. Cycle table.line) (find (is_on_cycle design.tables) design.tables)))

-- an order, unless it is refused
abbrev pub unless : Option Refusal → List ℕ → Result (List ℕ) Refusal
unless None order = Ok order
unless (Some refusal) order = Err refusal

-- the places of the tables by level and place, unless something refuses the order
abbrev pub table_order : Design → Result (List ℕ) Refusal
table_order design = unless (refusal_of design) (places_by_level design.tables)
