-- The lemmas that other crates cite: equal gates and their places, netlists as they grow, the drivers of pins, entries by
-- driver, the values of gates, and pins in ascending order.
use Rattle.std.proofs.Common.{◌≡◌, ◌==◌, ◌<◌, ◌≤◌, ◌+◌, ◌^◌, ◌++◌, ◌∙◌, ◌⊎◌, inl, inr, ℕ, suc, Bool, true, false, cond, List, [], ◌∷◌, length, get_or, take, map, All, Option, Some, None, is_some, refl, sym, ap, subst, arith, true≢false, ⊎_elim, length-append}
use Rattle.std.specs.Prelude.{unwrap_or, slice_get}
use Rattle.std.specs.Bool.{Decides}
use Rattle.std.specs.List.{flat_map}
use Rattle.std.specs.List.Sorted.{IsPermutation}
use Rattle.std.specs.Cmp.Lexicographic.{pointwise, pointwise_decides}
use Rattle.std.proofs.lemmas.Bool.{cases_lt}
use Rattle.std.proofs.lemmas.Bool.Decides.{Decides-eqb, Decides-like, Decides-and}
use Rattle.std.proofs.lemmas.List.{length_push, append-nil, get_or-map, get_or-take, get_or_past, get_or_append_left, get_or_push}
use Rattle.std.proofs.lemmas.List.Elements.{All-nil, All-cons, All-head, All-tail, All-append, All-weaker}
use Rattle.std.proofs.lemmas.List.Quantifiers.{position-Some}
use Rattle.std.proofs.lemmas.List.Sorted.{IsPermutation-refl, IsPermutation-trans, IsPermutation-cons, IsPermutation-swap, IsPermutation-map}
use Rattle.std.proofs.lemmas.Option.{get_or_from_slice_get, slice_get-get_or, slice_get_within}
use Rattle.cell_lib.specs.declared.cell.Cell.{Cell}
use Rattle.cell_lib.specs.Cell.{rank_of, cell_value}
use Rattle.cell_lib.proofs.CallerLemmas.{same_rank-decides, cell_value-IsPermutation}
use Rattle.net_base.proofs.CallerLemmas.{per_item-append, length-per_item, get_or-per_item, take-per_item-append}
use Rattle.gate_net.specs.declared.row.Driver.{Driver}
use Rattle.gate_net.specs.declared.row.Driver.TheVariants.{Input, Gate}
use Rattle.gate_net.specs.declared.row.End.{End}
use Rattle.gate_net.specs.declared.row.End.TheVariants.{Zero, One, From}
use Rattle.gate_net.specs.declared.row.GateRow.{GateRow}
use Rattle.gate_net.specs.declared.net.GateNet.{GateNet}
use Rattle.gate_net.specs.Rows.{same_driver, same_row, first_place, gate_place, with_row, IsFirstPlace}
use Rattle.gate_net.specs.Net.{IsThere, IsEndThere, IsGate, AreGates, IsGateNet, bare_net, with_gate, end_drivers, pin_drivers}
use Rattle.gate_net.specs.Entries.{entry_of}
use Rattle.gate_net.specs.Order.{is_before, insert_pin, ascending}
use Rattle.gate_net.specs.Values.{driver_value, gate_value, values_by}
use Rattle.gate_net.proofs.Places.{position-push_new}

-- The test on drivers decides whether two are one.
pub same_driver-decides : (a b : Driver) → Decides (same_driver a b) (a ≡ b)
same_driver-decides (Input i) (Input j) = Decides-like (i == j) (ap Input) (λ e. cc) (Decides-eqb i j)
same_driver-decides (Input i) (Gate k) = (λ e. cc, λ e. cc)
same_driver-decides (Gate k) (Input i) = (λ e. cc, λ e. cc)
same_driver-decides (Gate j) (Gate k) = Decides-like (j == k) (ap Gate) (λ e. cc) (Decides-eqb j k)

-- Two gates are one where their cells and their pins are,
pub row_from_parts : (g h : GateRow) → (g.cell ≡ h.cell) × (g.pins ≡ h.pins) → g ≡ h
row_from_parts g h p = λ i. record { cell = p.0 i; pins = p.1 i }

pub parts_from_row : (g h : GateRow) → g ≡ h → (g.cell ≡ h.cell) × (g.pins ≡ h.pins)
parts_from_row g h e = (ap (λ (r : GateRow). r.cell) e, ap (λ (r : GateRow). r.pins) e)

-- which the test on gates decides.
pub same_row-decides : (g h : GateRow) → Decides (same_row g h) (g ≡ h)
same_row-decides g h =
    Decides-like (same_row g h) (row_from_parts g h) (parts_from_row g h)
    (Decides-and (rank_of g.cell == rank_of h.cell) (pointwise same_driver g.pins h.pins)
    (same_rank-decides g.cell h.cell) (pointwise_decides same_driver-decides g.pins h.pins))

-- What `first_place` finds is the first place.
pub IsFirstPlace-from_Some : (row : GateRow) (rows : List GateRow) (k : ℕ) → first_place row rows ≡ Some k → IsFirstPlace row rows k
IsFirstPlace-from_Some row rows k e =
    let found = position-Some (same_row row) rows k row e in
    record {
      here = slice_get-get_or rows k row found.0 ∙ ap Some (sym ((same_row-decides row (get_or rows k row)).0 found.1));
      first = λ j below there. absurd (true≢false (
          sym ((same_row-decides row (get_or rows j row)).1 (sym (get_or_from_slice_get rows j row row there))) ∙ found.2 j below));
    }

-- A gate that is pushed as the first of its kind has the end as its first place.
pub IsFirstPlace-push : (row : GateRow) (rows : List GateRow) → first_place row rows ≡ None → IsFirstPlace row (rows ++ row ∷ []) (length rows)
IsFirstPlace-push row rows absent =
    IsFirstPlace-from_Some row (rows ++ row ∷ []) (length rows)
    (position-push_new (same_row row) rows row absent ((same_row-decides row row).1 refl))

-- the gate, where it isn't among the gates: what `with_row` adds
abbrev pub added : GateRow → List GateRow → List GateRow
added row rows = cond (is_some (first_place row rows)) [] (row ∷ [])

pub with_row-added : (row : GateRow) (rows : List GateRow) → with_row row rows ≡ rows ++ added row rows
with_row-added row rows = by (is_some (first_place row rows))
  where
    by : (b : Bool) → cond b rows (rows ++ row ∷ []) ≡ rows ++ cond b [] (row ∷ [])
    by true = sym (append-nil rows)
    by false = refl

-- A gate is at its place once it is added,
pub gate_place-here : (row : GateRow) (rows : List GateRow) → slice_get (with_row row rows) (gate_place row rows) ≡ Some row
gate_place-here row rows = by (first_place row rows) (IsFirstPlace-from_Some row rows) (IsFirstPlace-push row rows)
  where
    by : (o : Option ℕ) → ((k : ℕ) → o ≡ Some k → IsFirstPlace row rows k) → (o ≡ None → IsFirstPlace row (rows ++ row ∷ []) (length rows)) → slice_get (cond (is_some o) rows (rows ++ row ∷ [])) (unwrap_or o (length rows)) ≡ Some row
    by (Some k) found absent = (found k refl).here
    by None found absent = (absent refl).here

pub gate_place-within : (row : GateRow) (rows : List GateRow) → gate_place row rows < length (with_row row rows)
gate_place-within row rows = slice_get_within (with_row row rows) (gate_place row rows) row (gate_place-here row rows)

-- and there is one gate more at most, at that place.
pub length-with_row : (row : GateRow) (rows : List GateRow) → length (with_row row rows) ≤ length rows + 1
length-with_row row rows = by (is_some (first_place row rows))
  where
    by : (b : Bool) → length (cond b rows (rows ++ row ∷ [])) ≤ length rows + 1
    by true = omega arith
    by false = omega (arith, length_push rows row)

pub with_row-place : (row : GateRow) (rows : List GateRow) (k : ℕ) → k < length (with_row row rows) → (k < length rows) ⊎ (k ≡ gate_place row rows)
with_row-place row rows k = by (first_place row rows)
  where
    by : (o : Option ℕ) → k < length (cond (is_some o) rows (rows ++ row ∷ [])) → (k < length rows) ⊎ (k ≡ unwrap_or o (length rows))
    by (Some j) within = inl within
    by None within =
        ⊎_elim {C = (k < length rows) ⊎ (k ≡ length rows)} inl
        (λ behind. let longer = length_push rows row in inr (omega (arith, longer)))
        (cases_lt k (length rows))

-- The netlist without gates and outputs is well formed.
pub bare_net-formed : (inputs : ℕ) → IsGateNet (bare_net inputs)
bare_net-formed inputs = record {
  gates = λ place d within. absurd (omega arith);
  outputs = All-nil (IsEndThere inputs 0);
  few_gates = omega arith;
  few_outputs = omega arith;
}

-- A gate behind its drivers may be pushed.
pub AreGates-push : (inputs : ℕ) (rows : List GateRow) (row : GateRow) → AreGates inputs rows → IsGate inputs (length rows) row → AreGates inputs (rows ++ row ∷ [])
AreGates-push inputs rows row gates gate = λ place d within.
    ⊎_elim {C = IsGate inputs place (get_or (rows ++ row ∷ []) place d)}
    (λ before. subst (IsGate inputs place) (sym (get_or_append_left rows (row ∷ []) d place before)) (gates place d before))
    (λ behind.
    let last : length rows ≡ place = omega (arith, length_push rows row) in
    subst (IsGate inputs place) (sym (get_or_push rows row d place last)) (subst (λ n. IsGate inputs n row) last gate))
    (cases_lt place (length rows))

-- What is there stays there as gates are added.
pub IsThere-more : (inputs few many : ℕ) → few ≤ many → (driver : Driver) → IsThere inputs few driver → IsThere inputs many driver
IsThere-more inputs few many more (Input i) there = there
IsThere-more inputs few many more (Gate k) there = omega arith

pub IsEndThere-more : (inputs few many : ℕ) → few ≤ many → (end : End) → IsEndThere inputs few end → IsEndThere inputs many end
IsEndThere-more inputs few many more Zero there = there
IsEndThere-more inputs few many more One there = there
IsEndThere-more inputs few many more (From driver) there = IsThere-more inputs few many more driver there

outputs-push_gate : (inputs : ℕ) (rows : List GateRow) (row : GateRow) (outputs : List End) → All (IsEndThere inputs (length rows)) outputs → All (IsEndThere inputs (length (rows ++ row ∷ []))) outputs
outputs-push_gate inputs rows row outputs there =
    All-weaker (IsEndThere inputs (length rows)) (IsEndThere inputs (length (rows ++ row ∷ [])))
    (IsEndThere-more inputs (length rows) (length (rows ++ row ∷ [])) (omega (arith, length_push rows row))) outputs there

-- A well-formed netlist stays one where a gate is pushed that stands behind its drivers.
pub IsGateNet-push : (net : GateNet) (row : GateRow) → IsGateNet net → IsGate net.inputs (length net.gates) row → length net.gates + 1 < 2 ^ 31 → IsGateNet (record net { gates = net.gates ++ row ∷ [] })
IsGateNet-push net row formed gate room =
    record {
      gates = AreGates-push net.inputs net.gates row formed.gates gate;
      outputs = outputs-push_gate net.inputs net.gates row net.outputs formed.outputs;
      few_gates = omega (arith, length_push net.gates row);
      few_outputs = formed.few_outputs;
    }

-- So it does where a gate is added unless an equal one is there.
pub with_gate-formed : (net : GateNet) (row : GateRow) → IsGateNet net → IsGate net.inputs (length net.gates) row → length net.gates + 1 < 2 ^ 31 → IsGateNet (with_gate net row)
with_gate-formed net row formed gate room = by (is_some (first_place row net.gates))
  where
    by : (b : Bool) → IsGateNet (record net { gates = cond b net.gates (net.gates ++ row ∷ []) })
    by true = formed
    by false = IsGateNet-push net row formed gate room

-- The drivers of outputs that are no constants are there,
pub All-end_drivers : (inputs gates : ℕ) (outputs : List End) → All (IsEndThere inputs gates) outputs → All (IsThere inputs gates) (flat_map end_drivers outputs)
All-end_drivers inputs gates [] each = All-nil (IsThere inputs gates)
All-end_drivers inputs gates (end ∷ outputs) each =
    All-append (IsThere inputs gates) (end_drivers end) (flat_map end_drivers outputs)
    (at end (All-head (IsEndThere inputs gates) end outputs each))
    (All-end_drivers inputs gates outputs (All-tail (IsEndThere inputs gates) end outputs each))
  where
    at : (end : End) → IsEndThere inputs gates end → All (IsThere inputs gates) (end_drivers end)
    at Zero there = All-nil (IsThere inputs gates)
    at One there = All-nil (IsThere inputs gates)
    at (From driver) there = All-cons (IsThere inputs gates) driver [] there (All-nil (IsThere inputs gates))

-- and no more than the outputs; where none is a constant, they are the outputs' drivers.
pub length-end_drivers-le : (outputs : List End) → length (flat_map end_drivers outputs) ≤ length outputs
length-end_drivers-le [] = omega arith
length-end_drivers-le (end ∷ outputs) = omega (arith, length-append (end_drivers end) (flat_map end_drivers outputs), one end, length-end_drivers-le outputs)
  where
    one : (end : End) → length (end_drivers end) ≤ 1
    one Zero = omega arith
    one One = omega arith
    one (From driver) = omega arith

pub ends-drivers : {A : Type 0} (f : A → Driver) (items : List A) → flat_map end_drivers (map (λ item. From (f item)) items) ≡ map f items
ends-drivers f [] = refl
ends-drivers f (item ∷ items) = ap (λ drivers. f item ∷ drivers) (ends-drivers f items)

-- In a well-formed netlist the driver of each pin is there.
gate_drivers-there : (inputs gates : ℕ) (rows : List GateRow) → ((place : ℕ) (d : GateRow) → place < length rows → All (IsThere inputs gates) (get_or rows place d).pins) → All (IsThere inputs gates) (flat_map (λ (row : GateRow). row.pins) rows)
gate_drivers-there inputs gates [] each = All-nil (IsThere inputs gates)
gate_drivers-there inputs gates (row ∷ rows) each =
    All-append (IsThere inputs gates) row.pins (flat_map (λ (r : GateRow). r.pins) rows) (each 0 row (omega arith))
    (gate_drivers-there inputs gates rows (λ place d below. each (suc place) d (omega arith)))

pub pin_drivers-there : (net : GateNet) → IsGateNet net → All (IsThere net.inputs (length net.gates)) (pin_drivers net)
pin_drivers-there net formed =
    let gates = length net.gates in
    All-append (IsThere net.inputs gates) (flat_map (λ (row : GateRow). row.pins) net.gates) (flat_map end_drivers net.outputs)
    (gate_drivers-there net.inputs gates net.gates
    (λ place d below. All-weaker (IsThere net.inputs place) (IsThere net.inputs gates) (IsThere-more net.inputs place gates (omega arith)) (get_or net.gates place d).pins (formed.gates place d below).drivers))
    (All-end_drivers net.inputs gates net.outputs formed.outputs)

-- An entry is at most what all are,
pub entry_of-le : (entries : List ℕ) (most : ℕ) (driver : Driver) → All (λ entry. entry ≤ most) entries → entry_of entries driver ≤ most
entry_of-le entries most (Input i) bound = omega arith
entry_of-le entries most (Gate k) bound =
    ⊎_elim {C = get_or entries k 0 ≤ most}
    (λ within. bound k 0 within)
    (λ past. let none : get_or entries k 0 ≡ 0 = get_or_past entries k 0 past in omega arith)
    (cases_lt k (length entries))

-- an entry that is there is among the first entries what it is among all,
pub entry_of-take : (inputs k : ℕ) (entries : List ℕ) (driver : Driver) → IsThere inputs k driver → entry_of (take k entries) driver ≡ entry_of entries driver
entry_of-take inputs k entries (Input i) there = refl
entry_of-take inputs k entries (Gate j) there = get_or-take k entries j 0 there

-- and a function that keeps 0 goes through to it.
pub entry_of-map : (f : ℕ → ℕ) (inputs : ℕ) (entries : List ℕ) (driver : Driver) → f 0 ≡ 0 → IsThere inputs (length entries) driver → entry_of (map f entries) driver ≡ f (entry_of entries driver)
entry_of-map f inputs entries (Input i) none there = sym none
entry_of-map f inputs entries (Gate k) none there = get_or-map f entries k 0 0 there

-- Two functions that agree at each item make one list.
pub map-same : {A B : Type 0} (f g : A → B) (items : List A) → All (λ a. f a ≡ g a) items → map f items ≡ map g items
map-same f g [] all = refl
map-same f g (a ∷ items) all =
    let here : f a ≡ g a = All-head (λ a. f a ≡ g a) a items all in
    let rest : map f items ≡ map g items = map-same f g items (All-tail (λ a. f a ≡ g a) a items all) in
    λ i. here i ∷ rest i

module _ (bits : List Bool) where
  -- One gate more has its value behind those before,
  values-push : (gates : List GateRow) (row : GateRow) → values_by bits (gates ++ row ∷ []) ≡ values_by bits gates ++ gate_value bits (values_by bits gates) row ∷ []
  values-push gates row = per_item-append (gate_value bits) [] gates (row ∷ [])

  pub value-new : (gates : List GateRow) (row : GateRow) (k : ℕ) → length gates ≡ k → get_or (values_by bits (gates ++ row ∷ [])) k false ≡ gate_value bits (values_by bits gates) row
  value-new gates row k last =
      let long : length (values_by bits gates) ≡ k = omega (arith, length-per_item (gate_value bits) [] gates) in
      ap (λ values. get_or values k false) (values-push gates row) ∙ get_or_push (values_by bits gates) (gate_value bits (values_by bits gates) row) false k long

  -- a driver keeps its value as gates are added,
  pub driver-more : (inputs : ℕ) (gates more : List GateRow) (driver : Driver) → IsThere inputs (length gates) driver → driver_value bits (values_by bits (gates ++ more)) driver ≡ driver_value bits (values_by bits gates) driver
  driver-more inputs gates more (Input i) there = refl
  driver-more inputs gates more (Gate k) there =
      sym (get_or-take (length gates) (values_by bits (gates ++ more)) k false there)
      ∙ ap (λ values. get_or values k false) (take-per_item-append (gate_value bits) gates more)

  -- and so a gate that is there has the value of its cell over the values of its pins.
  driver_value-take : (inputs k : ℕ) (values : List Bool) (driver : Driver) → IsThere inputs k driver → driver_value bits (take k values) driver ≡ driver_value bits values driver
  driver_value-take inputs k values (Input i) there = refl
  driver_value-take inputs k values (Gate j) there = get_or-take k values j false there

  pub value-at : (inputs : ℕ) (gates : List GateRow) (k : ℕ) (d : GateRow) → AreGates inputs gates → k < length gates → get_or (values_by bits gates) k false ≡ gate_value bits (values_by bits gates) (get_or gates k d)
  value-at inputs gates k d formed within =
      let values = values_by bits gates in
      let row = get_or gates k d in
      get_or-per_item (gate_value bits) gates k false d within
      ∙ ap (cell_value row.cell)
      (map-same (driver_value bits (take k values)) (driver_value bits values) row.pins
      (All-weaker (IsThere inputs k) (λ driver. driver_value bits (take k values) driver ≡ driver_value bits values driver) (driver_value-take inputs k values) row.pins (formed k d within).drivers))

  pub value-here : (inputs : ℕ) (gates : List GateRow) (row : GateRow) (k : ℕ) → AreGates inputs gates → slice_get gates k ≡ Some row → get_or (values_by bits gates) k false ≡ gate_value bits (values_by bits gates) row
  value-here inputs gates row k formed e =
      value-at inputs gates k row formed (slice_get_within gates k row e) ∙ ap (gate_value bits (values_by bits gates)) (get_or_from_slice_get gates k row row e)

-- Pins in ascending order are the same pins,
IsPermutation-insert_pin : (pin : Driver) (pins : List Driver) → IsPermutation (pin ∷ pins) (insert_pin pin pins)
IsPermutation-insert_pin pin [] = IsPermutation-refl (pin ∷ [])
IsPermutation-insert_pin pin (next ∷ pins) = by (is_before next pin) (IsPermutation-insert_pin pin pins)
  where
    by : (b : Bool) → IsPermutation (pin ∷ pins) (insert_pin pin pins) → IsPermutation (pin ∷ next ∷ pins) (cond b (next ∷ insert_pin pin pins) (pin ∷ next ∷ pins))
    by true rest =
        IsPermutation-trans (pin ∷ next ∷ pins) (next ∷ pin ∷ pins) (next ∷ insert_pin pin pins)
        (IsPermutation-swap (pin ∷ next ∷ pins) (next ∷ pin ∷ pins) 0 1 (omega arith) (omega arith) refl)
        (IsPermutation-cons next (pin ∷ pins) (insert_pin pin pins) rest)
    by false rest = IsPermutation-refl (pin ∷ next ∷ pins)

pub IsPermutation-ascending : (pins : List Driver) → IsPermutation pins (ascending pins)
IsPermutation-ascending [] = IsPermutation-refl []
IsPermutation-ascending (pin ∷ pins) =
    IsPermutation-trans (pin ∷ pins) (pin ∷ ascending pins) (insert_pin pin (ascending pins))
    (IsPermutation-cons pin pins (ascending pins) (IsPermutation-ascending pins))
    (IsPermutation-insert_pin pin (ascending pins))

-- so a cell's value is what it is in their old order.
pub cell_value-ascending : (cell : Cell) (value : Driver → Bool) (pins : List Driver) → cell_value cell (map value (ascending pins)) ≡ cell_value cell (map value pins)
cell_value-ascending cell value pins =
    cell_value-IsPermutation (map value pins) (map value (ascending pins)) (IsPermutation-map value pins (ascending pins) (IsPermutation-ascending pins)) cell
