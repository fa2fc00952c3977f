-- Every gate and the sink are supplied from the source. A gate has a pin, whose driver is an input or an earlier gate; so what holds of
-- the source and goes on by pins holds of each gate, and of the sink where an output has a driver. Where none has, the last gate has no
-- use, since behind it stands no other. So potentials that rise on pins rise from the source to all of these, and a search from the
-- source meets them.
use Rattle.std.proofs.Common.{◌≡◌, ◌≢◌, ◌<◌, ◌+◌, ◌-◌, ◌++◌, ◌∙◌, ℕ, zero, suc, ℤ, pos, negsuc, ◌+ℤ◌, ◌-ℤ◌, ◌≤ℤ◌, List, [], ◌∷◌, length, get_or, map, All, IsTrue, refl, sym, ap, subst, arith, ⊎_elim}
use Rattle.std.specs.List.{flat_map, range_with_len}
use Rattle.std.proofs.lemmas.Bool.{cases_lt}
use Rattle.std.proofs.lemmas.Int.{ints}
use Rattle.std.proofs.lemmas.List.{get_or_past, nil_from_length}
use Rattle.std.proofs.lemmas.List.FromFn.{length-map-range_with_len, get_or-map-range_with_len}
use Rattle.std.proofs.lemmas.List.Elements.{All-nil, All-head, All-append, All-weaker, All-contains, All-get_or}
use Rattle.net_base.proofs.CallerLemmas.{All-left, All-right, All-unmap}
use Rattle.cell_lib.specs.declared.cell.Cell.TheVariants.{Not}
use Rattle.cell_lib.proofs.CallerLemmas.{arity_of-some}
use Rattle.gate_net.specs.declared.row.Driver.{Driver}
use Rattle.gate_net.specs.declared.row.Driver.TheVariants.{Input, Gate}
use Rattle.gate_net.specs.declared.row.GateRow.{GateRow}
use Rattle.gate_net.specs.declared.net.GateNet.{GateNet}
use Rattle.gate_net.specs.Net.{IsThere, IsGateNet, EachGateIsUsed, end_drivers, pin_drivers}
use Rattle.gate_net.proofs.CallerLemmas.{IsThere-more, All-end_drivers}
use Rattle.flow_net.specs.declared.uses.Use.{Use}
use Rattle.flow_net.specs.declared.net.Pin.{Pin}
use Rattle.flow_net.specs.declared.net.Net.{Net}
use Rattle.flow_net.specs.Uses.{use_by, gate_uses, uses_of, sink_of}
use Rattle.flow_net.specs.Network.{vertex_of, pin_of, network_of}
use Rattle.flow_net.specs.Arcs.{Arc, mirror_of, forward_arc, back_arc, arcs_of}
use Rattle.flow_net.specs.Epochs.{epoch_at}
use Rattle.flow_net.proofs.CallerLemmas.{drivers_are_numbered, IsLaid, network-laid}
use Rattle.stage_flow.specs.LawsOfEpochs.{AreRises, not_below, rise_to, epochs_by, PotentialsRise, SourceIsLowest, EveryVertexIsReached}
use Rattle.stage_flow.proofs.ResidualArcs.{IsMet, met-ways, adding-ways, All-pins}
use Rattle.stage_flow.proofs.Optimum.{from-below}

-- ---- Lists
-- What holds of the uses by gates holds of those by each.
uses-by_gate : (Q : Use → Type 0) (user : ℕ) (rows : List GateRow) → All Q (gate_uses user rows) → (k : ℕ) (d : GateRow) (at : ℕ) → k < length rows → at ≡ user + k → All (λ driver. Q (use_by at driver)) (get_or rows k d).pins
uses-by_gate Q user [] each k d at within is = absurd (omega arith)
uses-by_gate Q user (row ∷ rows) each zero d at within is =
    let same : user ≡ at = omega arith in
    subst (λ v. All (λ driver. Q (use_by v driver)) row.pins) same
    (All-unmap Q (use_by user) row.pins (All-left Q (map (use_by user) row.pins) (gate_uses (suc user) rows) each))
uses-by_gate Q user (row ∷ rows) each (suc k) d at within is =
    uses-by_gate Q (suc user) rows (All-right Q (map (use_by user) row.pins) (gate_uses (suc user) rows) each) k d at (omega arith) (omega arith)

-- What holds of the pins of each gate holds of all.
All-row_pins : (P : Driver → Type 0) (rows : List GateRow) → ((k : ℕ) (d : GateRow) → k < length rows → All P (get_or rows k d).pins) → All P (flat_map (λ (row : GateRow). row.pins) rows)
All-row_pins P [] each = All-nil P
All-row_pins P (row ∷ rows) each =
    All-append P row.pins (flat_map (λ (row : GateRow). row.pins) rows) (each 0 row (omega arith))
    (All-row_pins P rows (λ k d within. each (suc k) d (omega arith)))

-- ---- Supply
-- What holds of the source and goes on from the driver of each use to its user.
abbrev pub GoesOnByUses : (ℕ → Type 0) → GateNet → Type 0
GoesOnByUses Q net = All (λ (one : Use). Q (vertex_of one.driver) → Q one.user) (uses_of net)

module _ (net : GateNet) (Q : ℕ → Type 0) (formed : IsGateNet net) (source : Q 0) (goes : GoesOnByUses Q net) where
  abbrev GoesOn : Use → Type 0
  GoesOn one = Q (vertex_of one.driver) → Q one.user

  abbrev last_uses : List Use
  last_uses = map (use_by (sink_of net)) (flat_map end_drivers net.outputs)

  -- It holds of each gate, since a gate's first driver is an input or an earlier gate.
  gate-supplied : (most k : ℕ) → k < most → k < length net.gates → Q (suc k)
  gate-supplied zero k low within = absurd (omega arith)
  gate-supplied (suc most) k low within =
      let none : GateRow = record { cell = Not; pins = [] } in
      let row = get_or net.gates k none in
      let gate = formed.gates k none within in
      let some : 0 < length row.pins = omega (arith, gate.arity, arity_of-some row.cell) in
      by (λ j before. gate-supplied most j (omega arith) (omega arith)) (get_or row.pins 0 (Input 0)) (gate.drivers 0 (Input 0) some)
      (uses-by_gate GoesOn 1 net.gates (All-left GoesOn (gate_uses 1 net.gates) last_uses goes) k none (suc k) within (omega arith) 0 (Input 0) some)
    where
      by : ((j : ℕ) → j < k → Q (suc j)) → (driver : Driver) → IsThere net.inputs k driver → (Q (vertex_of driver) → Q (suc k)) → Q (suc k)
      by earlier (Input i) there on = on source
      by earlier (Gate j) there on = on (earlier j there)

  driver-supplied : (driver : Driver) → IsThere net.inputs (length net.gates) driver → Q (vertex_of driver)
  driver-supplied (Input i) there = source
  driver-supplied (Gate k) there = gate-supplied (suc k) k (omega arith) there

  -- The last gate drives no gate, so it drives an output.
  no-output : EachGateIsUsed net → flat_map end_drivers net.outputs ≡ [] → length net.gates ≡ 0
  no-output used none =
      ⊎_elim {C = length net.gates ≡ 0}
      (λ some.
      let last = length net.gates - 1 in
      let pins = flat_map (λ (row : GateRow). row.pins) net.gates in
      let before : All (IsThere net.inputs last) pins =
      All-row_pins (IsThere net.inputs last) net.gates
      (λ k d within. All-weaker (IsThere net.inputs k) (IsThere net.inputs last) (IsThere-more net.inputs k last (omega arith)) (get_or net.gates k d).pins (formed.gates k d within).drivers) in
      let all : All (IsThere net.inputs last) (pins ++ flat_map end_drivers net.outputs) =
      All-append (IsThere net.inputs last) pins (flat_map end_drivers net.outputs) before (subst (All (IsThere net.inputs last)) (sym none) (All-nil (IsThere net.inputs last))) in
      let itself : last < last = All-contains (IsThere net.inputs last) (pin_drivers net) (Gate last) all (used last (omega arith)) in
      absurd (omega arith))
      (λ few. omega arith)
      (cases_lt 0 (length net.gates))

  no-uses : EachGateIsUsed net → flat_map end_drivers net.outputs ≡ [] → uses_of net ≡ []
  no-uses used none =
      let gates : net.gates ≡ [] = nil_from_length net.gates (no-output used none) in
      λ i. gate_uses 1 (gates i) ++ map (use_by (sink_of net)) (none i)

  sink-supplied : EachGateIsUsed net → uses_of net ≢ [] → Q (suc (length net.gates))
  sink-supplied used some = by (flat_map end_drivers net.outputs) refl
      (All-end_drivers net.inputs (length net.gates) net.outputs formed.outputs)
      (All-unmap GoesOn (use_by (sink_of net)) (flat_map end_drivers net.outputs) (All-right GoesOn (gate_uses 1 net.gates) last_uses goes))
    where
      by : (drivers : List Driver) → flat_map end_drivers net.outputs ≡ drivers → All (IsThere net.inputs (length net.gates)) drivers → All (λ driver. GoesOn (use_by (sink_of net) driver)) drivers → Q (suc (length net.gates))
      by [] is there on = absurd (some (no-uses used is))
      by (driver ∷ drivers) is there on =
          All-head (λ driver. GoesOn (use_by (sink_of net) driver)) driver drivers on
          (driver-supplied driver (All-head (IsThere net.inputs (length net.gates)) driver drivers there))

  -- So it holds of source, gates and sink.
  pub all-supplied : EachGateIsUsed net → uses_of net ≢ [] → (vertex : ℕ) → vertex < length net.gates + 2 → Q vertex
  all-supplied used some zero within = source
  all-supplied used some (suc k) within =
      ⊎_elim {C = Q (suc k)} (λ gate. gate-supplied (suc k) k (omega arith) gate)
      (λ past. let last : length net.gates ≡ k = omega arith in subst (λ v. Q (suc v)) last (sink-supplied used some))
      (cases_lt k (length net.gates))

-- ---- Epochs of potentials
not_below-is : (z : ℤ) → pos 0 ≤ℤ z → z ≡ pos (not_below z)
not_below-is (pos n) low = refl
not_below-is (negsuc n) low = absurd (omega (arith, ints))

rise_to-is : (p : ℕ → ℤ) (vertex : ℕ) → p 0 ≤ℤ p vertex → p vertex ≡ p 0 +ℤ pos (rise_to p vertex)
rise_to-is p vertex low = let e = not_below-is (p vertex -ℤ p 0) (omega (arith, ints)) in omega (arith, ints)

pub epoch_at-epochs_by : (net : Net) (p : ℕ → ℤ) (vertex : ℕ) → vertex < net.gates + 2 → epoch_at (epochs_by net p) vertex ≡ rise_to p vertex
epoch_at-epochs_by net p zero within = let none : (p 0 -ℤ p 0) ≡ pos 0 = omega (arith, ints) in ap not_below (sym none)
epoch_at-epochs_by net p (suc k) within =
    let f = λ (gate : ℕ). rise_to p (suc gate) in
    ⊎_elim {C = epoch_at (epochs_by net p) (suc k) ≡ rise_to p (suc k)}
    (λ gate. get_or-map-range_with_len f 0 net.gates k k (f net.gates) gate (omega arith))
    (λ past.
    let last : net.gates ≡ k = omega arith in
    get_or_past (map f (range_with_len 0 net.gates)) k (f net.gates) (omega (arith, length-map-range_with_len f 0 net.gates)) ∙ ap f last)
    (cases_lt k net.gates)

-- Where potentials don't fall below the source's, epochs can be counted off them.
pub epochs_by-rise : (net : Net) (p : ℕ → ℤ) → ((vertex : ℕ) → vertex < net.gates + 2 → p 0 ≤ℤ p vertex) → AreRises net p (epochs_by net p)
epochs_by-rise net p low = record {
  each = length-map-range_with_len (λ gate. rise_to p (suc gate)) 0 net.gates;
  rises = λ vertex within. omega (arith, ints, rise_to-is p vertex (low vertex within), epoch_at-epochs_by net p vertex within);
}

-- ---- The laws
-- What follows from the forward arc of each pin follows of each use.
pub uses-by_pins : (net : GateNet) (phases : List ℕ) (P : Arc → Type 0) (Q : Use → Type 0) → ((at : ℕ) (one : Use) → P (forward_arc at (pin_of net phases one)) → Q one) → All P (arcs_of (network_of net phases)) → All Q (uses_of net)
uses-by_pins net phases P Q step each =
    let n = network_of net phases in
    let Both = λ (pin : Pin). (at : ℕ) × P (forward_arc at pin) × P (back_arc n at pin) in
    All-weaker (λ one. Both (pin_of net phases one)) Q (λ one h. step h.0 one h.1) (uses_of net)
    (All-unmap Both (pin_of net phases) (uses_of net) (All-pins P n 0 n.pins each))

-- Potentials that fit a flow rise on each pin, since its forward arc is a residual arc.
pub supplied-rise : PotentialsRise
supplied-rise net phases flow p formed used some fits =
    epochs_by-rise (network_of net phases) p
    (all-supplied net (λ vertex. p 0 ≤ℤ p vertex) formed (omega (arith, ints))
    (uses-by_pins net phases (IsMet flow p) (λ one. p 0 ≤ℤ p (vertex_of one.driver) → p 0 ≤ℤ p one.user) (λ at one met low. omega (arith, ints, met.rises)) (met-ways flow p (arcs_of (network_of net phases)) fits))
    used some)

-- A search from the source meets every vertex: source, gates and sink by pins, and the mirror of a driver by the back arc of a pin of
-- its, from the pin's user.
pub all-reached : EveryVertexIsReached
all-reached net phases flow met formed used some source goes vertex within =
    let n = network_of net phases in
    let On = λ (arc : Arc). IsTrue (met arc.tail) → IsTrue (met arc.head) in
    let arcs = adding-ways (λ way. IsTrue (met way.tail) → IsTrue (met way.head)) flow (arcs_of n) goes in
    let low = all-supplied net (λ v. IsTrue (met v)) formed source
    (uses-by_pins net phases On (λ one. IsTrue (met (vertex_of one.driver)) → IsTrue (met one.user)) (λ at one on. on) arcs) used some in
    ⊎_elim {C = IsTrue (met vertex)} (low vertex)
    (λ high.
    let driver = vertex - (n.gates + 2) in
    let pin = (drivers_are_numbered net phases formed).used used driver (omega arith) in
    let laid = All-get_or (IsLaid n) n.pins pin.0 pin.1 pin.2 (network-laid net phases formed) in
    let both = All-get_or (λ one. (at : ℕ) × On (forward_arc at one) × On (back_arc n at one)) n.pins pin.0 pin.1 pin.2 (All-pins On n 0 n.pins arcs) in
    let here : mirror_of n (get_or n.pins pin.0 pin.1).driver ≡ vertex = omega (arith, ap (λ (one : Pin). one.driver) pin.3, pin.4) in
    subst (λ v. IsTrue (met v)) here (both.2 (low (get_or n.pins pin.0 pin.1).to laid.ends)))
    (cases_lt vertex (n.gates + 2))

-- The mirror of a driver isn't below the driver, by the two arcs of a pin of its.
pub source-lowest : SourceIsLowest
source-lowest net phases flow p formed used some fits vertex within =
    let n = network_of net phases in
    let met = met-ways flow p (arcs_of n) fits in
    let low = all-supplied net (λ v. p 0 ≤ℤ p v) formed (omega (arith, ints))
    (uses-by_pins net phases (IsMet flow p) (λ one. p 0 ≤ℤ p (vertex_of one.driver) → p 0 ≤ℤ p one.user) (λ at one arc low. omega (arith, ints, arc.rises)) met) used some in
    ⊎_elim {C = p 0 ≤ℤ p vertex} (low vertex)
    (λ high.
    let driver = vertex - (n.gates + 2) in
    let pin = (drivers_are_numbered net phases formed).used used driver (omega arith) in
    let one = get_or n.pins pin.0 pin.1 in
    let laid = All-get_or (IsLaid n) n.pins pin.0 pin.1 pin.2 (network-laid net phases formed) in
    let both = All-get_or (λ one. (at : ℕ) × IsMet flow p (forward_arc at one) × IsMet flow p (back_arc n at one)) n.pins pin.0 pin.1 pin.2 (All-pins (IsMet flow p) n 0 n.pins met) in
    let here : mirror_of n one.driver ≡ vertex = omega (arith, ap (λ (one : Pin). one.driver) pin.3, pin.4) in
    let from = low one.from (from-below n (omega arith) one laid) in
    subst (λ v. p 0 ≤ℤ p v) here (omega (arith, ints, both.1.rises, both.2.rises)))
    (cases_lt vertex (n.gates + 2))
