-- Tables that stand behind their drivers have an order.
--
-- A signal has a rank: its place among the inputs and the targets, in order. A pin of a table is an input or the target of a
-- table before, and the table's own target is neither; so the rank of a pin is lower than that of the target. Each step of a
-- walk goes from a target to a pin of its table, so it goes down, and no walk comes back to where it began.
use Rattle.std.proofs.Common.{◌≡◌, ◌<◌, ◌≤◌, ◌+◌, ◌++◌, ◌∙◌, ◌||◌, ℕ, zero, suc, Bool, true, false, not, cond, List, [], ◌∷◌, length, Option, Some, None, Ok, nat_eq, refl, sym, ap, subst, arith, true≢false, append_assoc, ⊎_elim}
use Rattle.std.specs.Prelude.{find}
use Rattle.std.specs.List.{flat_map, position_or_len, range_with_len}
use Rattle.std.proofs.lemmas.Bool.{or_cases, or_left, or_right, or_parts, eqb-true, false_from_ne_true}
use Rattle.std.proofs.lemmas.Option.{same_Some, none-some}
use Rattle.std.proofs.lemmas.List.Folds.{list_any-append}
use Rattle.net_base.specs.Keys.{is_among}
use Rattle.blif_model.specs.declared.design.Table.{Table}
use Rattle.blif_model.specs.declared.design.Design.{Design}
use Rattle.blif_model.specs.Order.{targets_of, driven_signals, used_signals, driven_twice, undriven, driver_of, pins_of, leads, is_on_cycle, places_by_level, table_order}
use Rattle.blif_model.proofs.CallerLemmas.{list_any-some, range-bounds}

-- Tables that stand behind their drivers, these signals being driven before, by numbers.
abbrev pub FollowNumbers : List ℕ → List Table → Type 0
FollowNumbers driven [] = Unit {0}
FollowNumbers driven (table ∷ tables) =
    ((pin : ℕ) → is_among nat_eq pin table.pins ≡ true → is_among nat_eq pin driven ≡ true)
    × (is_among nat_eq table.target driven ≡ false)
    × FollowNumbers (driven ++ table.target ∷ []) tables

-- No target is driven twice.
not_twice : (driven : List ℕ) (tables : List Table) → FollowNumbers driven tables → driven_twice driven (targets_of tables) ≡ None
not_twice driven [] follow = refl
not_twice driven (table ∷ tables) follow = rw (follow.1, not_twice (driven ++ table.target ∷ []) tables follow.2) refl

-- The pins are driven.
pins-driven : (driven : List ℕ) (tables : List Table) → FollowNumbers driven tables → (pin : ℕ) → is_among nat_eq pin (flat_map (λ (t : Table). t.pins) tables) ≡ true
    → is_among nat_eq pin (driven ++ targets_of tables) ≡ true
pins-driven driven [] follow pin e = absurd (true≢false (sym e))
pins-driven driven (table ∷ tables) follow pin e =
    ⊎_elim {C = is_among nat_eq pin (driven ++ targets_of (table ∷ tables)) ≡ true}
    (λ here. list_any-append (nat_eq pin) driven (targets_of (table ∷ tables)) ∙ or_left (is_among nat_eq pin driven) (is_among nat_eq pin (targets_of (table ∷ tables))) (follow.0 pin here))
    (λ there. ap (is_among nat_eq pin) (sym (append_assoc driven (table.target ∷ []) (targets_of tables))) ∙ pins-driven (driven ++ table.target ∷ []) tables follow.2 pin there)
    (or_cases (is_among nat_eq pin table.pins) (is_among nat_eq pin (flat_map (λ (t : Table). t.pins) tables)) (sym (list_any-append (nat_eq pin) table.pins (flat_map (λ (t : Table). t.pins) tables)) ∙ e))

-- Nothing is found where nothing passes.
find-none_passes : {X : Type 0} (p : X → Bool) (xs : List X) → ((x : X) → p x ≡ false) → find p xs ≡ None
find-none_passes p [] none = refl
find-none_passes p (x ∷ xs) none = rw (none x, find-none_passes p xs none) refl

find-none_among : (p : ℕ → Bool) (xs : List ℕ) → ((x : ℕ) → is_among nat_eq x xs ≡ true → p x ≡ false) → find p xs ≡ None
find-none_among p [] none = refl
find-none_among p (x ∷ xs) none =
    let here : p x ≡ false = none x (or_left (nat_eq x x) (is_among nat_eq x xs) (grind arith)) in
    rw (here, find-none_among p xs (λ y among. none y (or_right (nat_eq y x) (is_among nat_eq y xs) among))) refl

-- where a signal stands among others
abbrev rank : List ℕ → ℕ → ℕ
rank signals signal = position_or_len (nat_eq signal) signals

-- What is among the first of them stands there, and what isn't stands behind.
rank-first : (signal : ℕ) (xs ys : List ℕ) → is_among nat_eq signal xs ≡ true → rank (xs ++ ys) signal < length xs
rank-first signal [] ys e = absurd (true≢false (sym e))
rank-first signal (x ∷ xs) ys e = by (nat_eq signal x) (rank-first signal xs ys) e
  where
    by : (b : Bool) → (is_among nat_eq signal xs ≡ true → rank (xs ++ ys) signal < length xs) → (b || is_among nat_eq signal xs) ≡ true → cond (not b) (1 + rank (xs ++ ys) signal) 0 < length (x ∷ xs)
    by true rest e = omega arith
    by false rest e = omega (arith, rest e)

rank-behind : (signal : ℕ) (xs ys : List ℕ) → is_among nat_eq signal xs ≡ false → length xs ≤ rank (xs ++ ys) signal
rank-behind signal [] ys e = omega arith
rank-behind signal (x ∷ xs) ys e =
    let parts = or_parts (nat_eq signal x) (is_among nat_eq signal xs) e in
    rw parts.0 (omega (arith, rank-behind signal xs ys parts.1))

-- A pin of the table that drives a signal has a lower rank.
pin-lower : (driven : List ℕ) (tables : List Table) (signal : ℕ) (table : Table) (pin : ℕ) → FollowNumbers driven tables → driver_of tables signal ≡ Some table → is_among nat_eq pin table.pins ≡ true
    → rank (driven ++ targets_of tables) pin < rank (driven ++ targets_of tables) signal
pin-lower driven [] signal table pin follow drives among = absurd (none-some table drives)
pin-lower driven (first ∷ tables) signal table pin follow drives among =
    by (nat_eq signal first.target) refl drives (λ later. pin-lower (driven ++ first.target ∷ []) tables signal table pin follow.2 later among)
  where
    targets : List ℕ
    targets = targets_of (first ∷ tables)

    by : (b : Bool) → nat_eq signal first.target ≡ b → cond b (Some first) (driver_of tables signal) ≡ Some table
        → (driver_of tables signal ≡ Some table → rank ((driven ++ first.target ∷ []) ++ targets_of tables) pin < rank ((driven ++ first.target ∷ []) ++ targets_of tables) signal)
        → rank (driven ++ targets) pin < rank (driven ++ targets) signal
    by true here drives rest =
        let behind : is_among nat_eq signal driven ≡ false = subst (λ s. is_among nat_eq s driven ≡ false) (sym (eqb-true signal first.target here)) follow.1 in
        let before : is_among nat_eq pin driven ≡ true = follow.0 pin (ap (λ (t : Table). is_among nat_eq pin t.pins) (same_Some first table drives) ∙ among) in
        omega (arith, rank-first pin driven targets before, rank-behind signal driven targets behind)
    by false here drives rest = subst (λ all. rank all pin < rank all signal) (append_assoc driven (first.target ∷ []) (targets_of tables)) (rest drives)

module _ (driven : List ℕ) (tables : List Table) (follow : FollowNumbers driven tables) where
  abbrev signal_rank : ℕ → ℕ
  signal_rank = rank (driven ++ targets_of tables)

  -- A walk goes down.
  walk-down : (steps from to : ℕ) → leads tables steps from to ≡ true → signal_rank to + steps ≤ signal_rank from
  walk-down zero from to walk = let same : signal_rank from ≡ signal_rank to = ap signal_rank (eqb-true from to walk) in omega arith
  walk-down (suc steps) from to walk =
      by (driver_of tables from) refl (list_any-some (λ pin. leads tables steps pin to) (pins_of (driver_of tables from)) walk) (λ pin. walk-down steps pin to)
    where
      by : (driver : Option Table) → driver_of tables from ≡ driver
          → (pin : ℕ) × (is_among nat_eq pin (pins_of driver) ≡ true) × (leads tables steps pin to ≡ true)
          → ((pin : ℕ) → leads tables steps pin to ≡ true → signal_rank to + steps ≤ signal_rank pin)
          → signal_rank to + suc steps ≤ signal_rank from
      by None e step rest = absurd (true≢false (sym step.1))
      by (Some table) e step rest = omega (arith, rest step.0 step.2, pin-lower driven tables from table step.0 follow e step.1)

  off_cycle : (table : Table) → is_on_cycle tables table ≡ false
  off_cycle table =
      false_from_ne_true (is_on_cycle tables table) (λ found.
      let walk = list_any-some (λ steps. leads tables steps table.target table.target) (range_with_len 1 (length tables)) found in
      absurd (omega (arith, (range-bounds 1 (length tables) walk.0 walk.1).0, walk-down walk.0 table.target table.target walk.2)))

-- Nothing refuses the order of such tables, where the outputs are driven.
pub order-follows : (design : Design) → FollowNumbers design.inputs design.tables → ((output : ℕ) → is_among nat_eq output design.outputs ≡ true → is_among nat_eq output (driven_signals design) ≡ true)
    → table_order design ≡ Ok (places_by_level design.tables)
order-follows design follow outputs =
    let twice = not_twice design.inputs design.tables follow in
    let pins = flat_map (λ (t : Table). t.pins) design.tables in
    let used : (signal : ℕ) → is_among nat_eq signal (used_signals design) ≡ true → not (is_among nat_eq signal (driven_signals design)) ≡ false =
    λ signal among.
    ⊎_elim {C = not (is_among nat_eq signal (driven_signals design)) ≡ false}
    (λ pin. ap not (pins-driven design.inputs design.tables follow signal pin))
    (λ output. ap not (outputs signal output))
    (or_cases (is_among nat_eq signal pins) (is_among nat_eq signal design.outputs) (sym (list_any-append (nat_eq signal) pins design.outputs) ∙ among)) in
    let absent : undriven design ≡ None = find-none_among (λ s. not (is_among nat_eq s (driven_signals design))) (used_signals design) used in
    let cycle : find (is_on_cycle design.tables) design.tables ≡ None = find-none_passes (is_on_cycle design.tables) design.tables (off_cycle design.inputs design.tables follow) in
    rw (twice, absent, cycle) refl
