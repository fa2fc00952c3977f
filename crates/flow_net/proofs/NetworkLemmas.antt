-- How many uses there are and what drives them, how long chains are, and how late the earliest epochs.
use Rattle.std.proofs.Common.{◌≡◌, ◌<◌, ◌≤◌, ◌+◌, ◌*◌, ◌/◌, ◌++◌, ◌==◌, ◌||◌, ◌∙◌, ℕ, zero, suc, Bool, true, false, cond, max, List, [], ◌∷◌, length, map, get_or, All, refl, sym, ap, arith, length-append, ⊎_elim, sum, ◌%◌}
use Rattle.std.specs.List.{flat_map, list_any}
use Rattle.std.proofs.Math.Nat.{div-le_self}
use Rattle.std.proofs.lemmas.Bool.{cases_lt}
use Rattle.std.proofs.lemmas.List.{length_push, length-map, get_or-map, map-append, get_or_past, nil_from_length}
use Rattle.std.proofs.lemmas.List.Elements.{All-nil, All-push, All-map, All-weaker}
use Rattle.std.proofs.lemmas.List.Sums.{sum_by-le, sum_by_push}
use Rattle.net_base.proofs.CallerLemmas.{bit-le}
use Rattle.cell_lib.proofs.CallerLemmas.{arity_of-some, arity_of-few}
use Rattle.gate_net.specs.declared.row.Driver.{Driver}
use Rattle.gate_net.specs.declared.row.Driver.TheVariants.{Input}
use Rattle.gate_net.specs.declared.row.GateRow.{GateRow}
use Rattle.gate_net.specs.declared.net.GateNet.{GateNet}
use Rattle.gate_net.specs.Rows.{same_driver}
use Rattle.gate_net.specs.Net.{IsGateNet, end_drivers, pin_drivers}
use Rattle.gate_net.specs.Entries.{entry_of}
use Rattle.gate_net.proofs.CallerLemmas.{length-end_drivers-le}
use Rattle.phase_rule.specs.Levels.{largest, levels_of, phases_of}
use Rattle.phase_rule.specs.Stages.{stage_of}
use Rattle.phase_rule.proofs.CallerLemmas.{length-levels_of, levels-le, largest-entries-le}
use Rattle.flow_net.specs.declared.uses.Use.{Use}
use Rattle.flow_net.specs.declared.net.Pin.{Pin}
use Rattle.flow_net.specs.declared.net.Net.{Net}
use Rattle.flow_net.specs.declared.net.Epochs.{Epochs}
use Rattle.flow_net.specs.Uses.{use_by, gate_uses, uses_of, sink_of, is_used, used_below}
use Rattle.flow_net.specs.Epochs.{epoch_at, need_of, chain_length, chain_lengths, dro_count, earliest_gates, earliest_epochs}

drivers-by_user : (user : ℕ) (drivers : List Driver) → map (λ (one : Use). one.driver) (map (use_by user) drivers) ≡ drivers
drivers-by_user user [] = refl
drivers-by_user user (driver ∷ drivers) = ap (λ (ds : List Driver). driver ∷ ds) (drivers-by_user user drivers)

drivers-gate_uses : (user : ℕ) (rows : List GateRow) → map (λ (one : Use). one.driver) (gate_uses user rows) ≡ flat_map (λ (row : GateRow). row.pins) rows
drivers-gate_uses user [] = refl
drivers-gate_uses user (row ∷ rows) =
    map-append (λ (one : Use). one.driver) (map (use_by user) row.pins) (gate_uses (suc user) rows)
    ∙ (λ i. drivers-by_user user row.pins i ++ drivers-gate_uses (suc user) rows i)

-- The drivers of uses are those of the pins, in order,
pub use_drivers-are-pin_drivers : (net : GateNet) → map (λ (one : Use). one.driver) (uses_of net) ≡ pin_drivers net
use_drivers-are-pin_drivers net =
    map-append (λ (one : Use). one.driver) (gate_uses 1 net.gates) (map (use_by (sink_of net)) (flat_map end_drivers net.outputs))
    ∙ (λ i. drivers-gate_uses 1 net.gates i ++ drivers-by_user (sink_of net) (flat_map end_drivers net.outputs) i)

-- so there are as many uses as pins,
pub length-uses_of : (net : GateNet) → length (uses_of net) ≡ length (pin_drivers net)
length-uses_of net = sym (length-map (uses_of net) (λ (one : Use). one.driver)) ∙ ap length (use_drivers-are-pin_drivers net)

is_used-any : (i : ℕ) (uses : List Use) → is_used i uses ≡ list_any (same_driver (Input i)) (map (λ (one : Use). one.driver) uses)
is_used-any i [] = refl
is_used-any i (one ∷ uses) = ap (λ b. same_driver (Input i) one.driver || b) (is_used-any i uses)

-- and an input is used exactly where it drives a pin.
pub is_used-uses_of : (net : GateNet) (i : ℕ) → is_used i (uses_of net) ≡ list_any (same_driver (Input i)) (pin_drivers net)
is_used-uses_of net i = is_used-any i (uses_of net) ∙ ap (list_any (same_driver (Input i))) (use_drivers-are-pin_drivers net)

-- No more inputs are used than there are.
pub used_below-le : (uses : List Use) (inputs : ℕ) → used_below uses inputs ≤ inputs
used_below-le uses zero = omega arith
used_below-le uses (suc i) = omega (arith, used_below-le uses i, bit-le (is_used i uses))

length-gate_uses : (user : ℕ) (rows : List GateRow) → ((k : ℕ) (d : GateRow) → k < length rows → (1 ≤ length (get_or rows k d).pins) × (length (get_or rows k d).pins ≤ 3)) → (length rows ≤ length (gate_uses user rows)) × (length (gate_uses user rows) ≤ 3 * length rows)
length-gate_uses user [] each = (omega arith, omega arith)
length-gate_uses user (row ∷ rows) each =
    let both = length-append (map (use_by user) row.pins) (gate_uses (suc user) rows) in
    let own = length-map row.pins (use_by user) in
    let first = each 0 row (omega arith) in
    let rest = length-gate_uses (suc user) rows (λ k d within. each (suc k) d (omega arith)) in
    (omega (arith, both, own, first.0, rest.0), omega (arith, both, own, first.1, rest.1))

-- A gate has one to three uses of drivers,
by_gates : (net : GateNet) → IsGateNet net → (length net.gates ≤ length (gate_uses 1 net.gates)) × (length (gate_uses 1 net.gates) ≤ 3 * length net.gates)
by_gates net formed =
    length-gate_uses 1 net.gates (λ k d within.
    let cell = (get_or net.gates k d).cell in
    let arity = (formed.gates k d within).arity in
    (omega (arith, arity, arity_of-some cell), omega (arith, arity, arity_of-few cell)))

-- so there are no more gates than uses,
pub gates-le-uses : (net : GateNet) → IsGateNet net → length net.gates ≤ length (uses_of net)
gates-le-uses net formed =
    omega (arith, length-append (gate_uses 1 net.gates) (map (use_by (sink_of net)) (flat_map end_drivers net.outputs)), (by_gates net formed).0)

-- and few uses where there are few gates and outputs.
pub length-uses_of-le : (net : GateNet) → IsGateNet net → length (uses_of net) ≤ 3 * length net.gates + length net.outputs
length-uses_of-le net formed =
    let drivers = flat_map end_drivers net.outputs in
    omega (
      arith,
      length-append (gate_uses 1 net.gates) (map (use_by (sink_of net)) drivers),
      length-map drivers (use_by (sink_of net)),
      (by_gates net formed).1,
      length-end_drivers-le net.outputs,
    )

-- One driver more adds its chain.
pub sum-chain_lengths : (epochs : Epochs) (pins : List Pin) (drivers : ℕ) → sum (chain_lengths epochs pins (drivers + 1)) ≡ sum (chain_lengths epochs pins drivers) + chain_length epochs pins drivers
sum-chain_lengths epochs pins drivers =
    let next : drivers + 1 ≡ suc drivers = omega arith in
    ap (λ k. sum (chain_lengths epochs pins k)) next ∙ sum_by_push (λ (length : ℕ). length) (chain_lengths epochs pins drivers) (chain_length epochs pins drivers)

-- There is a chain length per driver.
pub length-chain_lengths : (epochs : Epochs) (pins : List Pin) (drivers : ℕ) → length (chain_lengths epochs pins drivers) ≡ drivers
length-chain_lengths epochs pins zero = refl
length-chain_lengths epochs pins (suc drivers) =
    omega (arith, length_push (chain_lengths epochs pins drivers) (chain_length epochs pins drivers), length-chain_lengths epochs pins drivers)

epoch_at-le : (epochs : Epochs) (most vertex : ℕ) → All (λ epoch. epoch ≤ most) epochs.gates → epochs.sink ≤ most → epoch_at epochs vertex ≤ most
epoch_at-le epochs most zero bound last = omega arith
epoch_at-le epochs most (suc k) bound last =
    ⊎_elim {C = get_or epochs.gates k epochs.sink ≤ most}
    (λ within. bound k epochs.sink within)
    (λ past. let none : get_or epochs.gates k epochs.sink ≡ epochs.sink = get_or_past epochs.gates k epochs.sink past in omega arith)
    (cases_lt k (length epochs.gates))

chain_length-le : (epochs : Epochs) (most : ℕ) (pins : List Pin) (driver : ℕ) → All (λ epoch. epoch ≤ most) epochs.gates → epochs.sink ≤ most → chain_length epochs pins driver ≤ most
chain_length-le epochs most [] driver bound last = omega arith
chain_length-le epochs most (pin ∷ pins) driver bound last =
    let rest = chain_length epochs pins driver in
    let user = epoch_at-le epochs most pin.to bound last in
    by (pin.driver == driver) (need_of epochs pin) rest (omega arith) (chain_length-le epochs most pins driver bound last)
  where
    by : (b : Bool) (need rest : ℕ) → need ≤ most → rest ≤ most → cond b (max need rest) rest ≤ most
    by true need rest low short = omega arith
    by false need rest low short = short

-- A need is at most the epoch of the user, so a chain is at most the latest epoch.
pub chain_lengths-le : (epochs : Epochs) (most : ℕ) (pins : List Pin) (drivers : ℕ) → All (λ epoch. epoch ≤ most) epochs.gates → epochs.sink ≤ most → All (λ length. length ≤ most) (chain_lengths epochs pins drivers)
chain_lengths-le epochs most pins zero bound last = All-nil (λ length. length ≤ most)
chain_lengths-le epochs most pins (suc drivers) bound last =
    All-push (λ length. length ≤ most) (chain_lengths epochs pins drivers) (chain_length epochs pins drivers)
    (chain_lengths-le epochs most pins drivers bound last) (chain_length-le epochs most pins drivers bound last)

-- So there are no more DROs than drivers times the latest epoch.
pub dro_count-le : (net : Net) (epochs : Epochs) (most : ℕ) → All (λ epoch. epoch ≤ most) epochs.gates → epochs.sink ≤ most → dro_count net epochs ≤ net.drivers * most
dro_count-le net epochs most bound last =
    let lengths = chain_lengths epochs net.pins net.drivers in
    let short : sum lengths ≤ length lengths * most = sum_by-le (λ x. x) most lengths (chain_lengths-le epochs most net.pins net.drivers bound last) in
    let same : length lengths * most ≡ net.drivers * most = ap (λ k. k * most) (length-chain_lengths epochs net.pins net.drivers) in
    omega (arith, short, same)

-- The earliest epochs of gates are at most the number of gates, as levels are.
pub earliest_gates-le : (n : ℕ) (net : GateNet) → All (λ epoch. epoch ≤ length net.gates) (earliest_gates n net)
earliest_gates-le n net =
    All-map (λ epoch. epoch ≤ length net.gates) (λ level. level / n) (levels_of net)
    (All-weaker (λ level. level ≤ length net.gates) (λ level. level / n ≤ length net.gates) (λ level h. omega (arith, div-le_self level n)) (levels_of net) (levels-le net))

-- The sink stands 1 behind one of them, or behind the source.
pub earliest_sink-le : (n : ℕ) (net : GateNet) → (earliest_epochs n net).sink ≤ length net.gates + 1
earliest_sink-le n net =
    omega (arith, largest-entries-le (earliest_gates n net) (length net.gates) (flat_map end_drivers net.outputs) (earliest_gates-le n net))

-- With no use there is no driver of an output, so the sink stands 1 behind the source.
pub earliest_sink-unused : (n : ℕ) (net : GateNet) → uses_of net ≡ [] → (earliest_epochs n net).sink ≡ 1
earliest_sink-unused n net none =
    let drivers = flat_map end_drivers net.outputs in
    let gates = flat_map (λ (row : GateRow). row.pins) net.gates in
    let empty : drivers ≡ [] = nil_from_length drivers (omega (arith, length-uses_of net, length-append gates drivers, ap length none)) in
    ap (λ ds. 1 + largest (map (entry_of (earliest_gates n net)) ds)) empty

-- There is one earliest epoch for each gate.
pub length-earliest_gates : (n : ℕ) (net : GateNet) → length (earliest_epochs n net).gates ≡ length net.gates
length-earliest_gates n net = length-map (levels_of net) (λ level. level / n) ∙ length-levels_of net

-- A gate's stage is its level, split into its epoch and its phase.
pub earliest_stages-are-levels : (n : ℕ) (net : GateNet) (k : ℕ) → 0 < n → k < length net.gates → stage_of n (get_or (earliest_gates n net) k 0) (get_or (phases_of n (levels_of net)) k 0) ≡ get_or (levels_of net) k 0
earliest_stages-are-levels n net k some within =
    let levels = levels_of net in
    let place : k < length levels = omega (arith, length-levels_of net) in
    let level = get_or levels k 0 in
    let epoch : get_or (earliest_gates n net) k 0 ≡ level / n = get_or-map (λ x. x / n) levels k 0 0 place in
    let phase : get_or (phases_of n levels) k 0 ≡ level % n = get_or-map (λ x. x % n) levels k 0 0 place in
    let whole : n * (level / n) + level % n ≡ level = omega arith in
    (λ i. stage_of n (epoch i) (phase i)) ∙ whole
