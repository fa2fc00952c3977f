-- Equal gates: the derived tests decide `≡`, and what the first place of a gate is after a push.
use Rattle.std.proofs.Common.{◌≡◌, ◌++◌, ◌∙◌, ℕ, Bool, true, false, cond, List, [], ◌∷◌, length, Option, Some, None, refl, sym, ap, subst, true≢false, is_some}
use Rattle.std.specs.Bool.{Decides}
use Rattle.std.specs.Cmp.Lexicographic.{pointwise, pointwise_decides}
use Rattle.std.proofs.lemmas.Bool.Decides.{Decides-like, Decides-and}
use denote.Enum.Bare.{sameb, same_true, true_same}
use Rattle.std.proofs.lemmas.Bool.{false_from_ne_true}
use Rattle.cell_lib.specs.contracts.cell.Cell.{the_type}
use Rattle.gate_net.specs.contracts.row.DriverPartialEq.TheImpl.{eq-value as driver_equal}
use Rattle.gate_net.specs.contracts.row.GateRowPartialEq.TheImpl.{eq-value as row_equal}
use Rattle.gate_net.specs.declared.row.Driver.{Driver}
use Rattle.gate_net.specs.declared.row.Driver.TheVariants.{Input, Gate}
use Rattle.gate_net.specs.declared.row.GateRow.{GateRow}
use Rattle.gate_net.specs.Rows.{same_driver, same_row, first_place}
use Rattle.gate_net.proofs.CallerLemmas.{same_driver-decides, row_from_parts, parts_from_row, same_row-decides}
use Rattle.gate_net.proofs.Places.{position-push_apart, position-push_present, position-push_new}

-- The derived `==` on drivers is the test of the specs.
driver_equal-is : (a b : Driver) → driver_equal.it a b ≡ same_driver a b
driver_equal-is (Input i) (Input j) = refl
driver_equal-is (Input i) (Gate k) = refl
driver_equal-is (Gate k) (Input i) = refl
driver_equal-is (Gate j) (Gate k) = refl

driver_equal-decides : (a b : Driver) → Decides (driver_equal.it a b) (a ≡ b)
driver_equal-decides a b = subst (λ t. Decides t (a ≡ b)) (sym (driver_equal-is a b)) (same_driver-decides a b)

row_equal-decides : (g h : GateRow) → Decides (row_equal.it g h) (g ≡ h)
row_equal-decides g h =
    Decides-like (row_equal.it g h) (row_from_parts g h) (parts_from_row g h)
    (Decides-and (sameb the_type g.cell h.cell) (pointwise driver_equal.it g.pins h.pins)
    (same_true the_type tt g.cell h.cell, true_same the_type g.cell h.cell)
    (pointwise_decides driver_equal-decides g.pins h.pins))

-- A gate that is pushed behind an equal one changes no first place.
pub first_place-push_present : (row other : GateRow) (rows : List GateRow) → is_some (first_place row rows) ≡ true → first_place other (rows ++ row ∷ []) ≡ first_place other rows
first_place-push_present row other rows found = by (same_row other row) refl (first_place row rows) refl
  where
    by : (b : Bool) → b ≡ same_row other row → (o : Option ℕ) → o ≡ first_place row rows → first_place other (rows ++ row ∷ []) ≡ first_place other rows
    by false apart o at = position-push_apart (same_row other) rows row (sym apart)
    by true same None at = absurd (true≢false (sym found ∙ sym (ap is_some at)))
    by true same (Some k) at =
        let one : row ≡ other = sym ((same_row-decides other row).0 (sym same)) in
        let there : first_place other rows ≡ Some k = sym (at ∙ ap (λ g. first_place g rows) one) in
        position-push_present (same_row other) rows row k there ∙ sym there

-- A gate that is pushed as the first of its kind is found at the end, and all others where they were.
pub first_place-push_new : (row other : GateRow) (rows : List GateRow) → is_some (first_place row rows) ≡ false → first_place other (rows ++ row ∷ []) ≡ cond (row_equal.it row other) (Some (length rows)) (first_place other rows)
first_place-push_new row other rows absent = by (row_equal.it row other) refl (first_place row rows) refl
  where
    by : (b : Bool) → b ≡ row_equal.it row other → (o : Option ℕ) → o ≡ first_place row rows → first_place other (rows ++ row ∷ []) ≡ cond b (Some (length rows)) (first_place other rows)
    by b same (Some k) at = absurd (true≢false (ap is_some at ∙ absent))
    by false apart None at =
        position-push_apart (same_row other) rows row (false_from_ne_true (same_row other row) (λ e.
        true≢false (sym ((row_equal-decides row other).1 (sym ((same_row-decides other row).0 e))) ∙ sym apart)))
    by true same None at =
        let one : row ≡ other = (row_equal-decides row other).0 (sym same) in
        position-push_new (same_row other) rows row (sym (at ∙ ap (λ g. first_place g rows) one)) ((same_row-decides other row).1 (sym one))
