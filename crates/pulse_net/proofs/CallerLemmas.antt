-- The lemmas that other crates cite: rows spread over ticks, a netlist that is wired breaks no rule, it unfolds to as many DROs
-- as it has, and what stays and what is added where elements follow elements.
use Rattle.std.proofs.Common.{◌≡◌, ◌≢◌, ◌+◌, ℕ, Bool, true, false, nat_eq, List, [], ◌∷◌, ◌++◌, refl, ap, ◌∙◌, arith}
use Rattle.std.specs.Prelude.{Option, Some, None, unwrap_or, is_some, if◌then◌else◌}
use Rattle.std.specs.Cmp.{nat_eq_equiv}
use Rattle.net_base.proofs.CallerLemmas.{lookup-found, lookup-push, lookup-behind}
use Rattle.cell_lib.specs.declared.cell.Cell.{Cell}
use Rattle.cell_lib.specs.declared.cell.Cell.TheVariants.{Dro}
use Rattle.cell_lib.proofs.CallerLemmas.{is_dro-other}
use Rattle.gate_net.specs.declared.row.Driver.{Driver}
use Rattle.pulse_net.specs.declared.net.Element.{Element}
use Rattle.pulse_net.specs.declared.net.Element.TheVariants.{Clocked, Split}
use Rattle.pulse_net.specs.Wires.{Wires, found, carried, element_wires, after_elements, cell_stage}
use Rattle.pulse_net.specs.Wired.{ElementsInTime}
use Rattle.pulse_net.specs.Unfolding.{Unfolding, with_wire, dro_driver, pass_dro, add_gate, unfold_cell, unfold_element, unfold_elements}
use Rattle.pulse_net.specs.Dros.{dros}
use Rattle.pulse_net.proofs.InsertedWires.{with_wire-new}
pub use Rattle.pulse_net.proofs.PulsesAreRowValues.SpreadRows.{spread-row, spread-clocked}
pub use Rattle.pulse_net.proofs.PulsesAreRowValues.WindowLemma.{same_tick}
pub use Rattle.pulse_net.proofs.UnbrokenIsWired.{unbroken}
pub use Rattle.pulse_net.proofs.UnfoldsItsDros.{unfolds_its_dros}

-- ---- what wires carry

-- A wire that is found carries what it is found with.
pub carried-found : {A : Type 0} (absent : A) (made : Wires A) (wire : ℕ) (a : A) → found made wire ≡ Some a → carried absent made wire ≡ a
carried-found {A} absent made wire a h = ap (λ (o : Option A). unwrap_or o absent) h

module _ {A : Type 0} (absent : A) (at_cell : Cell → ℕ → List A → A) where
  -- Behind elements come the wires of those that follow,
  pub after_elements-append : (made : Wires A) (xs ys : List Element) → after_elements absent at_cell made (xs ++ ys) ≡ after_elements absent at_cell (after_elements absent at_cell made xs) ys
  after_elements-append made [] ys = refl
  after_elements-append made (x ∷ xs) ys = after_elements-append (made ++ element_wires absent at_cell made x) xs ys

  -- a wire that is found stays found,
  pub after_elements-found : (made : Wires A) (elements : List Element) (wire : ℕ) (a : A) → found made wire ≡ Some a → found (after_elements absent at_cell made elements) wire ≡ Some a
  after_elements-found made [] wire a h = h
  after_elements-found made (x ∷ xs) wire a h =
      after_elements-found (made ++ element_wires absent at_cell made x) xs wire a (lookup-found (nat_eq wire) made (element_wires absent at_cell made x) a h)

  pub after_elements-more : (made : Wires A) (xs ys : List Element) (wire : ℕ) (a : A) → found (after_elements absent at_cell made xs) wire ≡ Some a → found (after_elements absent at_cell made (xs ++ ys)) wire ≡ Some a
  after_elements-more made xs ys wire a h =
      ap (λ (wires : Wires A). found wires wire) (after_elements-append made xs ys) ∙ after_elements-found (after_elements absent at_cell made xs) ys wire a h

  -- and one that isn't is looked up among those of the last element.
  pub after_elements-last : (made : Wires A) (elements : List Element) (element : Element) (wire : ℕ) → found (after_elements absent at_cell made elements) wire ≡ None →
      found (after_elements absent at_cell made (elements ++ element ∷ [])) wire ≡ found (element_wires absent at_cell (after_elements absent at_cell made elements) element) wire
  after_elements-last made elements element wire new =
      let before = after_elements absent at_cell made elements in
      ap (λ (wires : Wires A). found wires wire) (after_elements-append made elements (element ∷ []))
      ∙ lookup-behind (nat_eq wire) before (element_wires absent at_cell before element) new

-- Elements keep time where the first do, and those that follow do behind them.
pub ElementsInTime-append : (n : ℕ) (made : Wires ℕ) (xs ys : List Element) → ElementsInTime n made xs → ElementsInTime n (after_elements 0 cell_stage made xs) ys → ElementsInTime n made (xs ++ ys)
ElementsInTime-append n made [] ys before rest = rest
ElementsInTime-append n made (x ∷ xs) ys before rest = (before.0, ElementsInTime-append n (made ++ element_wires 0 cell_stage made x) xs ys before.1 rest)

-- The DROs of elements are those of the first and of the rest.
pub dros-append : (xs ys : List Element) → dros (xs ++ ys) ≡ dros xs + dros ys
dros-append [] ys = omega arith
dros-append (Clocked cell stage pins out ∷ xs) ys = let rest = dros-append xs ys in omega (arith, rest)
dros-append (Split from left right ∷ xs) ys = let rest = dros-append xs ys in omega (arith, rest)

-- ---- the unfolding

-- Elements are unfolded behind those before them.
pub unfold_elements-append : (xs ys : List Element) (so : Unfolding) → unfold_elements (xs ++ ys) so ≡ unfold_elements ys (unfold_elements xs so)
unfold_elements-append [] ys so = refl
unfold_elements-append (x ∷ xs) ys so = unfold_elements-append xs ys (unfold_element x so)

-- A cell that is no DRO is a gate.
pub unfold_cell-gate : (cell : Cell) (stage out : ℕ) (pins : List Driver) (so : Unfolding) → cell ≢ Dro → unfold_cell cell stage out pins so ≡ add_gate cell stage out pins so
unfold_cell-gate cell stage out pins so other = ap (λ dro. if dro then pass_dro out (dro_driver pins) so else add_gate cell stage out pins so) (is_dro-other cell other)

module _ (made : Wires Driver) (wire : ℕ) (driver : Driver) where
  -- Where a wire is made, those before keep their drivers,
  pub with_wire-keeps : (other : ℕ) (its : Driver) → found made other ≡ Some its → found (with_wire made wire driver) other ≡ Some its
  with_wire-keeps other its h = by (is_some (found made wire))
    where
      by : (here : Bool) → found (if here then made else made ++ (wire, driver) ∷ []) other ≡ Some its
      by true = h
      by false = lookup-found (nat_eq other) made ((wire, driver) ∷ []) its h

  -- one that is new has its driver,
  pub with_wire-found : found made wire ≡ None → found (with_wire made wire driver) wire ≡ Some driver
  with_wire-found new =
      ap (λ (more : Wires Driver). found more wire) (with_wire-new made wire driver new)
      ∙ lookup-push (nat_eq wire) made wire driver (nat_eq_equiv.refl wire) new

  -- and no other wire is made.
  pub with_wire-other : (other : ℕ) → nat_eq other wire ≡ false → found made wire ≡ None → found made other ≡ None → found (with_wire made wire driver) other ≡ None
  with_wire-other other differs new absent =
      ap (λ (more : Wires Driver). found more other) (with_wire-new made wire driver new)
      ∙ lookup-behind (nat_eq other) made ((wire, driver) ∷ []) absent
      ∙ ap (λ here. if here then Some driver else None) differs
