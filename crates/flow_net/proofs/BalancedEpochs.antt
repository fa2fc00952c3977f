-- The earliest epochs are balanced. With epoch level / n and phase level % n a gate's stage is its level, and a gate's
-- level is above its drivers'; so stages are in order, and by the law on gaps the pin is balanced. The sink stands an
-- epoch behind each driver of an output, which no weight exceeds.
use Rattle.std.proofs.Common.{◌≡◌, ◌<◌, ◌≤◌, ◌+◌, ◌/◌, ◌%◌, ◌∙◌, ℕ, suc, List, [], ◌∷◌, length, map, get_or, All, subst, arith}
use Rattle.std.specs.List.{flat_map}
use Rattle.std.proofs.lemmas.List.{get_or-map, get_or_past, length-map}
use Rattle.std.proofs.lemmas.List.Elements.{All-nil, All-append, All-map}
use Rattle.gate_net.specs.declared.row.Driver.{Driver}
use Rattle.gate_net.specs.declared.row.Driver.TheVariants.{Input, Gate}
use Rattle.gate_net.specs.declared.row.GateRow.{GateRow}
use Rattle.gate_net.specs.declared.net.GateNet.{GateNet}
use Rattle.gate_net.specs.Net.{IsThere, IsGateNet, end_drivers}
use Rattle.gate_net.specs.Entries.{entry_of}
use Rattle.phase_rule.specs.Levels.{levels_of, phases_of}
use Rattle.phase_rule.specs.Stages.{weight_of}
use Rattle.phase_rule.proofs.CallerLemmas.{largest-ge, length-levels_of, entry_of-levels-lt, entry_of-phases, weight_of-le, balanced_from_levels}
use Rattle.gate_net.proofs.CallerLemmas.{IsThere-more, All-end_drivers, entry_of-map}
use Rattle.flow_net.specs.declared.uses.Use.{Use}
use Rattle.flow_net.specs.Uses.{use_by, gate_uses, uses_of, sink_of}
use Rattle.flow_net.specs.Network.{vertex_of, vertex_phase, pin_of}
use Rattle.flow_net.specs.Epochs.{epoch_at, IsPinBalanced, earliest_epochs, earliest_gates, EarliestEpochsAreBalanced}

driver_epoch-level : (n : ℕ) (levels : List ℕ) (sink : ℕ) (driver : Driver) (inputs : ℕ) → 0 < n → IsThere inputs (length levels) driver → epoch_at (record { gates = map (λ level. level / n) levels; sink = sink }) (vertex_of driver) ≡ entry_of levels driver / n
driver_epoch-level n levels sink (Input i) inputs some there = omega arith
driver_epoch-level n levels sink (Gate k) inputs some there = get_or-map (λ level. level / n) levels k 0 sink there

-- What holds of the uses by each gate holds of all uses by gates.
pub All-gate_uses : (P : Use → Type 0) (user : ℕ) (rows : List GateRow) → ((k u : ℕ) (d : GateRow) → u ≡ user + k → k < length rows → All (λ driver. P (use_by u driver)) (get_or rows k d).pins) → All P (gate_uses user rows)
All-gate_uses P user [] each = All-nil P
All-gate_uses P user (row ∷ rows) each =
    All-append P (map (use_by user) row.pins) (gate_uses (suc user) rows)
    (All-map P (use_by user) row.pins (each 0 user row (omega arith) (omega arith)))
    (All-gate_uses P (suc user) rows (λ k u d at within. each (suc k) u d (omega arith) (omega arith)))

-- a balance over equal numbers
carried : (from weight to a w b : ℕ) → from ≡ a → weight ≡ w → to ≡ b → a + w ≤ b → from + weight ≤ to
carried from weight to a w b p q r h = omega arith

module _ (n : ℕ) (net : GateNet) (some : 0 < n) (formed : IsGateNet net) where
  by_gates : All (λ (one : Use). IsPinBalanced (earliest_epochs n net) (pin_of net (phases_of n (levels_of net)) one)) (gate_uses 1 net.gates)
  by_gates =
      let levels = levels_of net in
      let phases = phases_of n levels in
      let epochs = earliest_epochs n net in
      let long : length levels ≡ length net.gates = length-levels_of net in
      All-gate_uses (λ (one : Use). IsPinBalanced epochs (pin_of net phases one)) 1 net.gates
      (λ k u d at within i e inside.
      let driver = get_or (get_or net.gates k d).pins i e in
      let before : IsThere net.inputs k driver = (formed.gates k d within).drivers i e inside in
      let there : IsThere net.inputs (length levels) driver = IsThere-more net.inputs k (length levels) (omega arith) driver before in
      let place : k < length levels = omega arith in
      let next : suc k ≡ u = omega arith in
      let user_phase : vertex_phase phases (suc k) ≡ get_or levels k 0 % n = get_or-map (λ level. level % n) levels k 0 0 place in
      let user_epoch : epoch_at epochs (suc k) ≡ get_or levels k 0 / n = get_or-map (λ level. level / n) levels k 0 epochs.sink place in
      let phase = entry_of-phases n levels driver net.inputs some there in
      let low = entry_of levels driver in
      let high = get_or levels k 0 in
      subst (λ v. IsPinBalanced epochs (pin_of net phases (use_by v driver))) next
      (carried (epoch_at epochs (vertex_of driver)) (weight_of (vertex_phase phases (suc k)) (entry_of phases driver)) (epoch_at epochs (suc k))
      (low / n) (weight_of (high % n) (low % n)) (high / n)
      (driver_epoch-level n levels epochs.sink driver net.inputs some there)
      (λ j. weight_of (user_phase j) (phase j))
      user_epoch
      (balanced_from_levels n low high some (entry_of-levels-lt net k d formed within i e inside))))

  by_sink : All (λ (one : Use). IsPinBalanced (earliest_epochs n net) (pin_of net (phases_of n (levels_of net)) one)) (map (use_by (sink_of net)) (flat_map end_drivers net.outputs))
  by_sink =
      let levels = levels_of net in
      let phases = phases_of n levels in
      let epochs = earliest_epochs n net in
      let drivers = flat_map end_drivers net.outputs in
      let long : length levels ≡ length net.gates = length-levels_of net in
      let past : length epochs.gates ≤ length net.gates = omega (arith, length-map levels (λ level. level / n)) in
      let last : epoch_at epochs (sink_of net) ≡ epochs.sink = get_or_past epochs.gates (length net.gates) epochs.sink past in
      All-map (λ (one : Use). IsPinBalanced epochs (pin_of net phases one)) (use_by (sink_of net)) drivers
      (λ i e inside.
      let driver = get_or drivers i e in
      let at : IsThere net.inputs (length net.gates) driver = All-end_drivers net.inputs (length net.gates) net.outputs formed.outputs i e inside in
      let there : IsThere net.inputs (length levels) driver = IsThere-more net.inputs (length net.gates) (length levels) (omega arith) driver at in
      let own = driver_epoch-level n levels epochs.sink driver net.inputs some there in
      let same : entry_of (earliest_gates n net) driver ≡ entry_of levels driver / n = entry_of-map (λ level. level / n) net.inputs levels driver (omega arith) there in
      let least = largest-ge (entry_of (earliest_gates n net)) drivers i e inside in
      omega (arith, own, same, least, last, weight_of-le (vertex_phase phases (sink_of net)) (entry_of phases driver)))

pub earliest-balanced : EarliestEpochsAreBalanced
earliest-balanced n net some formed =
    let phases = phases_of n (levels_of net) in
    let epochs = earliest_epochs n net in
    record {
      each = length-map (levels_of net) (λ level. level / n) ∙ length-levels_of net;
      pins = All-map (IsPinBalanced epochs) (pin_of net phases) (uses_of net)
          (All-append (λ (one : Use). IsPinBalanced epochs (pin_of net phases one)) (gate_uses 1 net.gates) (map (use_by (sink_of net)) (flat_map end_drivers net.outputs))
          (by_gates n net some formed) (by_sink n net some formed));
    }
