-- What the walk of a formula gives. By induction over its depth: its gates stand behind their drivers, those before stay, what
-- drives the formula is there, and its value is the table's, at values that the drivers of its leaves have. Leaves that don't
-- stand in it may have any values: the table doesn't depend on them.
use Rattle.std.proofs.Common.{◌≡◌, ◌≢◌, ◌≤◌, ◌+◌, ◌*◌, ◌++◌, ◌∙◌, ℕ, zero, suc, Bool, true, false, cond, List, [], ◌∷◌, Option, Some, None, is_some, get_or, length, map, All, refl, sym, ap, arith, true≢false}
use Rattle.std.specs.Prelude.{unwrap_or}
use Rattle.std.specs.List.{flat_map}
use Rattle.std.proofs.lemmas.List.{append-nil, append_assoc, length_push, length-append, map_push}
use Rattle.std.proofs.lemmas.List.Elements.{All-nil, All-cons, All-head, All-tail, All-append, All-push, All-weaker}
use Rattle.std.proofs.lemmas.List.Sorted.{length_permutation, All-permutation}
use Rattle.net_base.proofs.CallerLemmas.{All-left, All-right}
use Rattle.cell_lib.specs.declared.cell.Cell.{Cell}
use Rattle.cell_lib.specs.declared.cell.Cell.TheVariants.{Dro, Not, And, Or, Xor, Maj}
use Rattle.cell_lib.specs.Cell.{arity_of, cell_value}
use Rattle.cell_lib.proofs.CallerLemmas.{arity_of-few}
use Rattle.cut_word.specs.Table.{value_at}
use Rattle.pattern_table.specs.declared.formula.Formula.{Formula}
use Rattle.pattern_table.specs.Least.{least_formula, leaf_at, parts_of, has_formula}
use Rattle.pattern_table.specs.Laws.{IsHeadOf}
use Rattle.pattern_table.proofs.CallerLemmas.{formula-means, leaf-means}
use Rattle.gate_net.specs.declared.row.Driver.{Driver}
use Rattle.gate_net.specs.declared.row.Driver.TheVariants.{Input, Gate}
use Rattle.gate_net.specs.declared.row.GateRow.{GateRow}
use Rattle.gate_net.specs.Rows.{first_place, gate_place, with_row}
use Rattle.gate_net.specs.Order.{ascending}
use Rattle.gate_net.specs.Net.{IsThere, IsGate, AreGates}
use Rattle.gate_net.specs.Values.{driver_value, values_by}
use Rattle.gate_net.proofs.CallerLemmas.{added, with_row-added, gate_place-here, gate_place-within, length-with_row, AreGates-push, IsThere-more, map-same, driver-more, value-here, IsPermutation-ascending, cell_value-ascending}
use Rattle.balance_map.specs.Needed.{parts_in, places_in}
use Rattle.balance_map.specs.Cover.{Driven, with_cell, and_driver, with_parts, with_formula, walked}
use Rattle.balance_map.specs.Walks.{most_gates, IsLeafThere}

-- ---- A cell
module _ (inputs : ℕ) where
  -- gates that were added, so many at most, behind those before
  pub record IsGrown (before : List GateRow) (room : ℕ) (after : List GateRow) : Type 0 where
    pub formed : AreGates inputs after
    pub more : List GateRow
    pub tail : after ≡ before ++ more
    pub few : length after ≤ length before + room

  pub IsGrown-none : (gates : List GateRow) (room : ℕ) → AreGates inputs gates → IsGrown gates room gates
  IsGrown-none gates room formed = record { formed = formed; more = []; tail = sym (append-nil gates); few = omega arith }

  pub IsGrown-then : (first second third : List GateRow) (room more : ℕ) → IsGrown first room second → IsGrown second more third → IsGrown first (room + more) third
  IsGrown-then first second third room more one two = record {
    formed = two.formed;
    more = one.more ++ two.more;
    tail = two.tail ∙ ap (λ gates. gates ++ two.more) one.tail ∙ append_assoc first one.more two.more;
    few = omega (arith, one.few, two.few);
  }

  pub IsGrown-weaker : (before after : List GateRow) (few many : ℕ) → few ≤ many → IsGrown before few after → IsGrown before many after
  IsGrown-weaker before after few many le grown = record { formed = grown.formed; more = grown.more; tail = grown.tail; few = omega (arith, grown.few) }

  -- as gates are added, what is there stays there and has its value
  pub length-grown : (before after : List GateRow) (room : ℕ) → IsGrown before room after → length before ≤ length after
  length-grown before after room grown = omega (arith, ap length grown.tail, length-append before grown.more)

  pub IsThere-grown : (before after : List GateRow) (room : ℕ) → IsGrown before room after → (driver : Driver) → IsThere inputs (length before) driver → IsThere inputs (length after) driver
  IsThere-grown before after room grown = IsThere-more inputs (length before) (length after) (length-grown before after room grown)

  pub value-grown : (bits : List Bool) (before after : List GateRow) (room : ℕ) → IsGrown before room after → (driver : Driver) → IsThere inputs (length before) driver → driver_value bits (values_by bits after) driver ≡ driver_value bits (values_by bits before) driver
  value-grown bits before after room grown driver there =
      ap (λ gates. driver_value bits (values_by bits gates) driver) grown.tail ∙ driver-more bits inputs before grown.more driver there

  pub values-grown : (bits : List Bool) (before after : List GateRow) (room : ℕ) → IsGrown before room after → (drivers : List Driver) → All (IsThere inputs (length before)) drivers → map (driver_value bits (values_by bits after)) drivers ≡ map (driver_value bits (values_by bits before)) drivers
  values-grown bits before after room grown drivers there =
      map-same (driver_value bits (values_by bits after)) (driver_value bits (values_by bits before)) drivers
      (All-weaker (IsThere inputs (length before)) (λ driver. driver_value bits (values_by bits after) driver ≡ driver_value bits (values_by bits before) driver)
      (value-grown bits before after room grown) drivers there)

  -- a gate with its pins in ascending order is a gate where they are there, as many as its cell has
  pub IsGate-ascending : (place : ℕ) (cell : Cell) (pins : List Driver) → cell ≢ Dro → length pins ≡ arity_of cell → All (IsThere inputs place) pins → IsGate inputs place (record { cell = cell; pins = ascending pins })
  IsGate-ascending place cell pins other count there = record {
    not_dro = other;
    arity = length_permutation pins (ascending pins) (IsPermutation-ascending pins) ∙ count;
    drivers = All-permutation (IsThere inputs place) pins (ascending pins) (IsPermutation-ascending pins) there;
  }

  IsGrown-row : (gates : List GateRow) (row : GateRow) → AreGates inputs gates → IsGate inputs (length gates) row → IsGrown gates 1 (with_row row gates)
  IsGrown-row gates row formed gate = record {
    formed = by (is_some (first_place row gates));
    more = added row gates;
    tail = with_row-added row gates;
    few = length-with_row row gates;
  }
    where
      by : (b : Bool) → AreGates inputs (cond b gates (gates ++ row ∷ []))
      by true = formed
      by false = AreGates-push inputs gates row formed gate

  -- what a cell over drivers gives
  pub record IsCellOver (cell : Cell) (pins : Driven (List Driver)) (after : Driven Driver) : Type 0 where
    pub grown : IsGrown pins.gates 1 after.gates
    pub there : IsThere inputs (length after.gates) after.by
    pub value : (bits : List Bool) → driver_value bits (values_by bits after.gates) after.by ≡ cell_value cell (map (driver_value bits (values_by bits pins.gates)) pins.by)

  dro-over : (gates : List GateRow) (pins : List Driver) → AreGates inputs gates → All (IsThere inputs (length gates)) pins → length pins ≡ 1 → IsCellOver Dro (record { gates = gates; by = pins }) (record { gates = gates; by = get_or pins 0 (Input 0) })
  dro-over gates [] formed there count = absurd (omega arith)
  dro-over gates (pin ∷ (next ∷ pins)) formed there count = absurd (omega arith)
  dro-over gates (pin ∷ []) formed there count = record {
    grown = IsGrown-none gates 1 formed;
    there = All-head (IsThere inputs (length gates)) pin [] there;
    value = λ bits. same (driver_value bits (values_by bits gates) pin);
  }
    where
      same : (value : Bool) → value ≡ cell_value Dro (value ∷ [])
      same true = refl
      same false = refl

  gate-over : (cell : Cell) (gates : List GateRow) (pins : List Driver) → cell ≢ Dro → AreGates inputs gates → All (IsThere inputs (length gates)) pins → length pins ≡ arity_of cell → IsCellOver cell (record { gates = gates; by = pins }) (record { gates = with_row (record { cell = cell; pins = ascending pins }) gates; by = Gate (gate_place (record { cell = cell; pins = ascending pins }) gates) })
  gate-over cell gates pins other formed there count =
      let row : GateRow = record { cell = cell; pins = ascending pins } in
      let grown : IsGrown gates 1 (with_row row gates) = IsGrown-row gates row formed (IsGate-ascending (length gates) cell pins other count there) in
      record {
        grown = grown;
        there = gate_place-within row gates;
        value = λ bits.
            value-here bits inputs (with_row row gates) row (gate_place row gates) grown.formed (gate_place-here row gates)
            ∙ cell_value-ascending cell (driver_value bits (values_by bits (with_row row gates))) pins
            ∙ ap (cell_value cell) (values-grown bits gates (with_row row gates) 1 grown pins there);
      }

  pub cell-over : (cell : Cell) (pins : Driven (List Driver)) → AreGates inputs pins.gates → All (IsThere inputs (length pins.gates)) pins.by → length pins.by ≡ arity_of cell → IsCellOver cell pins (with_cell cell pins)
  cell-over Dro pins formed there count = dro-over pins.gates pins.by formed there count
  cell-over Not pins formed there count = gate-over Not pins.gates pins.by (λ e. cc) formed there count
  cell-over And pins formed there count = gate-over And pins.gates pins.by (λ e. cc) formed there count
  cell-over Or pins formed there count = gate-over Or pins.gates pins.by (λ e. cc) formed there count
  cell-over Xor pins formed there count = gate-over Xor pins.gates pins.by (λ e. cc) formed there count
  cell-over Maj pins formed there count = gate-over Maj pins.gates pins.by (λ e. cc) formed there count

-- ---- A formula over leaves
module _ (inputs : ℕ) (leaves : List Driver) where
  -- the drivers of the leaves at these places have the values at these places
  abbrev pub HaveValues : List Bool → List GateRow → List ℕ → List Bool → Type 0
  HaveValues bits gates places values = All (λ place. driver_value bits (values_by bits gates) (get_or leaves place (Input 0)) ≡ get_or values place false) places

  abbrev AreThere : List GateRow → List ℕ → Type 0
  AreThere gates places = All (IsLeafThere inputs (length gates) leaves) places

  AreThere-grown : (before after : List GateRow) (room : ℕ) → IsGrown inputs before room after → (places : List ℕ) → AreThere before places → AreThere after places
  AreThere-grown before after room grown places =
      All-weaker (IsLeafThere inputs (length before) leaves) (IsLeafThere inputs (length after) leaves) (λ place there. IsThere-grown inputs before after room grown (get_or leaves place (Input 0)) there) places

  HaveValues-grown : (bits : List Bool) (before after : List GateRow) (room : ℕ) → IsGrown inputs before room after → (places : List ℕ) (values : List Bool) → AreThere before places → HaveValues bits before places values → HaveValues bits after places values
  HaveValues-grown bits before after room grown places values there have place d within =
      value-grown inputs bits before after room grown (get_or leaves (get_or places place d) (Input 0)) (there place d within) ∙ have place d within

  -- What a walk gives: what drives it means a function of the leaves' values, whose leaves at these places are those that count.
  pub record IsWalked (gates : List GateRow) (room : ℕ) (places : List ℕ) (means : List Bool → Bool) (after : Driven Driver) : Type 0 where
    pub grown : IsGrown inputs gates room after.gates
    pub there : IsThere inputs (length after.gates) after.by
    pub value : (bits values : List Bool) → length values ≤ 3 → HaveValues bits gates places values → driver_value bits (values_by bits after.gates) after.by ≡ means values

  -- a table may be walked at a depth
  abbrev pub MayWalk : ℕ → List GateRow → ℕ → Type 0
  MayWalk depth gates table = (has_formula (length leaves) table depth ≡ true) × AreThere gates (places_in (length leaves) depth table)

  pub MayWalk-grown : (depth : ℕ) (before after : List GateRow) (room : ℕ) → IsGrown inputs before room after → (table : ℕ) → MayWalk depth before table → MayWalk depth after table
  MayWalk-grown depth before after room grown table may = (may.0, AreThere-grown before after room grown (places_in (length leaves) depth table) may.1)

  -- what the walks of parts give
  pub record ArePartsWalked (so : Driven (List Driver)) (room : ℕ) (places : ℕ → List ℕ) (tables : List ℕ) (after : Driven (List Driver)) : Type 0 where
    pub grown : IsGrown inputs so.gates (length tables * room) after.gates
    pub there : All (IsThere inputs (length after.gates)) after.by
    pub count : length after.by ≡ length so.by + length tables
    pub value : (bits values : List Bool) → length values ≤ 3 → HaveValues bits so.gates (flat_map places tables) values
        → map (driver_value bits (values_by bits after.gates)) after.by
        ≡ map (driver_value bits (values_by bits so.gates)) so.by ++ map (λ table. value_at table values) tables

  -- each table is walked at a depth
  abbrev pub WalksAt : ℕ → Type 0
  WalksAt depth = (gates : List GateRow) (table : ℕ) → AreGates inputs gates → MayWalk depth gates table
      → IsWalked gates (most_gates depth) (places_in (length leaves) depth table) (value_at table) (walked leaves depth gates table)

  pub parts-walked : (depth : ℕ) → WalksAt depth → (so : Driven (List Driver)) (tables : List ℕ) → AreGates inputs so.gates → All (IsThere inputs (length so.gates)) so.by → All (MayWalk depth so.gates) tables → ArePartsWalked so (most_gates depth) (places_in (length leaves) depth) tables (with_parts (walked leaves depth) so tables)
  parts-walked depth walks so [] formed there may = record {
    grown = IsGrown-none inputs so.gates (0 * most_gates depth) formed;
    there = there;
    count = omega arith;
    value = λ bits values few have. sym (append-nil (map (driver_value bits (values_by bits so.gates)) so.by));
  }
  parts-walked depth walks so (table ∷ tables) formed there may =
      let room : ℕ = most_gates depth in
      let after : Driven Driver = walked leaves depth so.gates table in
      let next : Driven (List Driver) = and_driver so.by after in
      let places : ℕ → List ℕ = places_in (length leaves) depth in
      let first : IsWalked so.gates room (places table) (value_at table) after = walks so.gates table formed (All-head (MayWalk depth so.gates) table tables may) in
      let kept : All (IsThere inputs (length after.gates)) so.by =
      All-weaker (IsThere inputs (length so.gates)) (IsThere inputs (length after.gates)) (IsThere-grown inputs so.gates after.gates room first.grown) so.by there in
      let rest : ArePartsWalked next room places tables (with_parts (walked leaves depth) next tables) =
      parts-walked depth walks next tables first.grown.formed
      (All-push (IsThere inputs (length after.gates)) so.by after.by kept first.there)
      (All-weaker (MayWalk depth so.gates) (MayWalk depth after.gates) (MayWalk-grown depth so.gates after.gates room first.grown) tables (All-tail (MayWalk depth so.gates) table tables may)) in
      let placed : AreThere so.gates (flat_map places tables) = placed-all tables (All-tail (MayWalk depth so.gates) table tables may) in
      record {
        grown =
            IsGrown-weaker inputs so.gates (with_parts (walked leaves depth) next tables).gates (room + length tables * room) (length (table ∷ tables) * room) (omega arith)
            (IsGrown-then inputs so.gates after.gates (with_parts (walked leaves depth) next tables).gates room (length tables * room) first.grown rest.grown);
        there = rest.there;
        count = omega (arith, rest.count, length_push so.by after.by);
        value = λ bits values few have.
            let here : driver_value bits (values_by bits after.gates) after.by ≡ value_at table values =
            first.value bits values few (All-left (λ place. driver_value bits (values_by bits so.gates) (get_or leaves place (Input 0)) ≡ get_or values place false) (places table) (flat_map places tables) have) in
            let later : HaveValues bits after.gates (flat_map places tables) values =
            HaveValues-grown bits so.gates after.gates room first.grown (flat_map places tables) values placed
            (All-right (λ place. driver_value bits (values_by bits so.gates) (get_or leaves place (Input 0)) ≡ get_or values place false) (places table) (flat_map places tables) have) in
            rest.value bits values few later
            ∙ ap (λ vs. vs ++ map (λ table. value_at table values) tables)
            (map_push (driver_value bits (values_by bits after.gates)) so.by after.by
            ∙ ap (λ vs. vs ++ driver_value bits (values_by bits after.gates) after.by ∷ []) (values-grown inputs bits so.gates after.gates room first.grown so.by there)
            ∙ ap (λ v. map (driver_value bits (values_by bits so.gates)) so.by ++ v ∷ []) here)
            ∙ append_assoc (map (driver_value bits (values_by bits so.gates)) so.by) (value_at table values ∷ []) (map (λ table. value_at table values) tables);
      }
    where
      placed-all : (tables : List ℕ) → All (MayWalk depth so.gates) tables → AreThere so.gates (flat_map (places_in (length leaves) depth) tables)
      placed-all [] may = All-nil (IsLeafThere inputs (length so.gates) leaves)
      placed-all (table ∷ tables) may =
          All-append (IsLeafThere inputs (length so.gates) leaves) (places_in (length leaves) depth table) (flat_map (places_in (length leaves) depth) tables)
          (All-head (MayWalk depth so.gates) table tables may).1 (placed-all tables (All-tail (MayWalk depth so.gates) table tables may))

  -- the tables of parts may be walked where a formula may, and each has one
  pub MayWalk-parts : (depth : ℕ) (gates : List GateRow) (tables : List ℕ) → All (λ part. has_formula (length leaves) part depth ≡ true) tables → AreThere gates (flat_map (places_in (length leaves) depth) tables) → All (MayWalk depth gates) tables
  MayWalk-parts depth gates [] each there = All-nil (MayWalk depth gates)
  MayWalk-parts depth gates (table ∷ tables) each there =
      let P : ℕ → Type 0 = λ part. has_formula (length leaves) part depth ≡ true in
      let Q : ℕ → Type 0 = IsLeafThere inputs (length gates) leaves in
      let mine : List ℕ = places_in (length leaves) depth table in
      let others : List ℕ = flat_map (places_in (length leaves) depth) tables in
      All-cons (MayWalk depth gates) table tables
      (All-head P table tables each, All-left Q mine others there)
      (MayWalk-parts depth gates tables (All-tail P table tables each) (All-right Q mine others there))

  leaf-walked : WalksAt zero
  leaf-walked gates table formed may = record {
    grown = IsGrown-none inputs gates 0 formed;
    there = All-head (IsLeafThere inputs (length gates) leaves) (unwrap_or (leaf_at (length leaves) table) 0) [] may.1;
    value = λ bits values few have. All-head (λ place. driver_value bits (values_by bits gates) (get_or leaves place (Input 0)) ≡ get_or values place false) (unwrap_or (leaf_at (length leaves) table) 0) [] have ∙ sym (by values few (leaf_at (length leaves) table) refl may.0);
  }
    where
      by : (values : List Bool) → length values ≤ 3 → (o : Option ℕ) → leaf_at (length leaves) table ≡ o → is_some o ≡ true → value_at table values ≡ get_or values (unwrap_or o 0) false
      by values few None e some = absurd (true≢false (sym some))
      by values few (Some leaf) e some = (leaf-means (length leaves) table leaf e).1 values few

  next-walked : (depth : ℕ) → WalksAt depth → WalksAt (suc depth)
  next-walked depth walks gates table formed may = by (least_formula (length leaves) table (suc depth)) refl may.0 may.1
    where
      by : (o : Option Formula) → least_formula (length leaves) table (suc depth) ≡ o → is_some o ≡ true → AreThere gates (flat_map (places_in (length leaves) depth) (parts_in o)) → IsWalked gates (most_gates (suc depth)) (flat_map (places_in (length leaves) depth) (parts_in o)) (value_at table) (with_formula (walked leaves depth) gates o)
      by None e some there = absurd (true≢false (sym some))
      by (Some head) e some there =
          let room : ℕ = most_gates depth in
          let is : IsHeadOf (length leaves) depth table head = formula-means (length leaves) table depth head e in
          let start : Driven (List Driver) = record { gates = gates; by = [] } in
          let after : Driven (List Driver) = with_parts (walked leaves depth) start (parts_of head) in
          let parts : ArePartsWalked start room (places_in (length leaves) depth) (parts_of head) after =
          parts-walked depth walks start (parts_of head) formed (All-nil (IsThere inputs (length gates))) (MayWalk-parts depth gates (parts_of head) is.each there) in
          let cell : IsCellOver inputs head.cell after (with_cell head.cell after) =
          cell-over inputs head.cell after parts.grown.formed parts.there (omega (arith, parts.count, is.parts)) in
          let few : length (parts_of head) ≤ 3 = omega (arith, is.parts, arity_of-few head.cell) in
          record {
            grown =
                IsGrown-weaker inputs gates (with_cell head.cell after).gates (length (parts_of head) * room + 1) (most_gates (suc depth)) (room-fits (length (parts_of head)) room few)
                (IsGrown-then inputs gates after.gates (with_cell head.cell after).gates (length (parts_of head) * room) 1 parts.grown cell.grown);
            there = cell.there;
            value = λ bits values few have. cell.value bits ∙ ap (cell_value head.cell) (parts.value bits values few have) ∙ sym (is.value values few);
          }
        where
          room-fits : (n room : ℕ) → n ≤ 3 → n * room + 1 ≤ 3 * room + 1
          room-fits n room few = grind arith

  -- So a walk gives what its table means.
  pub formula-walked : (depth : ℕ) → WalksAt depth
  formula-walked zero = leaf-walked
  formula-walked (suc depth) = next-walked depth (formula-walked depth)
