-- Chains that mean a netlist keep time: a pin's need leaves 1 to n ticks, whatever the phases.
use Rattle.std.proofs.Common.{◌≡◌, ◌≤◌, ◌<◌, ℕ, suc, ◌+◌, ◌-◌, ◌*◌, List, [], ◌∷◌, ◌++◌, length, get_or, map, All, refl, ap, sym, subst, ◌∙◌, arith, length-append, append_assoc}
use Rattle.std.proofs.lemmas.List.{append-nil, get_or_past, nil_from_length, length-map, map-append}
use Rattle.std.proofs.lemmas.List.Elements.{All-head, All-tail, All-weaker, recursion_from_All}
use Rattle.std.specs.Prelude.{flat_map}
use Rattle.std.specs.List.{AllByRecursion}
use Rattle.net_base.proofs.CallerLemmas.{get_or-below, AllByRecursion-middle}
use Rattle.gate_net.specs.declared.row.Driver.{Driver}
use Rattle.gate_net.specs.declared.row.Driver.TheVariants.{Input, Gate}
use Rattle.gate_net.specs.declared.row.GateRow.{GateRow}
use Rattle.gate_net.specs.declared.net.GateNet.{GateNet}
use Rattle.gate_net.specs.Net.{IsThere, end_drivers}
use Rattle.gate_net.specs.Entries.{entry_of}
use Rattle.gate_net.proofs.CallerLemmas.{IsThere-more, All-end_drivers}
use Rattle.phase_rule.specs.Stages.{stage_of, weight_of, need_over_epochs}
use Rattle.phase_rule.proofs.CallerLemmas.{need_gaps_agree, need_leaves_window}
use Rattle.flow_net.specs.declared.uses.Use.{Use}
use Rattle.flow_net.specs.declared.net.Epochs.{Epochs}
use Rattle.flow_net.specs.Uses.{use_by, gate_uses, sink_of, uses_of}
use Rattle.flow_net.specs.Network.{vertex_of, vertex_phase, pin_of}
use Rattle.flow_net.specs.Epochs.{epoch_at, IsPinBalanced, need_of}
use Rattle.flow_net.proofs.CallerLemmas.{length-uses_of}
use Rattle.dro_chains.specs.Chains.{chained_of, stages_of}
use Rattle.dro_chains.proofs.CallerLemmas.{get_or-stages}
use Rattle.pulse_net.specs.Wired.{IsInTime}
use Rattle.dro_chains.specs.declared.chain.Chained.{Chained}
use Rattle.splitters.specs.Elements.{gate_pins}
use Rattle.splitters.specs.Laws.{PinsInTime, GatesInTime, ChainsKeepTime, ChainsAreValid}
use Rattle.splitters.proofs.valid.Gates.{AreGatesFrom}
use Rattle.splitters.proofs.valid.Whole.{gates-all, layout_is_valid}

-- A pin behind the DROs that it needs is read in time.
need-in_time : (n user_epoch user_phase driver_epoch driver_phase : ℕ) → 0 < n → user_phase < n → driver_phase < n → driver_epoch + weight_of user_phase driver_phase ≤ user_epoch →
    IsInTime n (stage_of n driver_epoch driver_phase + n * need_over_epochs user_epoch driver_epoch (weight_of user_phase driver_phase)) (stage_of n user_epoch user_phase)
need-in_time n a p b q some pn qn balanced =
    let agree = need_gaps_agree n a p b q pn qn in
    let later : stage_of n b q < stage_of n a p = agree.0.1 balanced in
    let gap = stage_of n a p - stage_of n b q in
    let need = agree.1 balanced in
    let window = need_leaves_window n gap some (omega arith) in
    let same = ap (λ k. n * k) need in
    record { after = omega (arith, same, window.0, later); within = omega (arith, same, window.1, later) }

-- what the chains give, in the order of uses
record Chains (chained : Chained) (net : GateNet) (phases : List ℕ) (epochs : Epochs) : Type 0 where
  some : 0 < chained.n
  below : All (λ phase. phase < chained.n) phases
  stages : chained.stages ≡ stages_of chained.n epochs.gates phases
  needs : chained.needs ≡ map (need_of epochs) (map (pin_of net phases) (uses_of net))
  balanced : AllByRecursion (IsPinBalanced epochs) (map (pin_of net phases) (uses_of net))
  epochs_each : length epochs.gates ≡ length net.gates
  phases_each : length phases ≡ length net.gates

driver-stage : (chained : Chained) (net : GateNet) (phases : List ℕ) (epochs : Epochs) → Chains chained net phases epochs → (driver : Driver) → IsThere net.inputs (length net.gates) driver →
    entry_of chained.stages driver ≡ stage_of chained.n (epoch_at epochs (vertex_of driver)) (entry_of phases driver)
driver-stage chained net phases epochs chains (Input i) there = omega arith
driver-stage chained net phases epochs chains (Gate k) there =
    let e = chains.epochs_each in let p = chains.phases_each in
    ap (λ (s : List ℕ). get_or s k 0) chains.stages ∙ get_or-stages chained.n epochs.gates phases k epochs.sink (omega (arith, e)) (omega (arith, p))

driver-below : (chained : Chained) (net : GateNet) (phases : List ℕ) (epochs : Epochs) → Chains chained net phases epochs → (driver : Driver) → entry_of phases driver < chained.n
driver-below chained net phases epochs chains (Input i) = chains.some
driver-below chained net phases epochs chains (Gate k) = get_or-below chained.n phases k chains.some chains.below

-- The pins of one user, behind those of earlier users.
pins-timed : (chained : Chained) (net : GateNet) (phases : List ℕ) (epochs : Epochs) → Chains chained net phases epochs → (before after : List Use) (vertex pin user : ℕ) (drivers : List Driver) →
    uses_of net ≡ before ++ (map (use_by vertex) drivers ++ after) → pin ≡ length before →
    user ≡ stage_of chained.n (epoch_at epochs vertex) (vertex_phase phases vertex) → vertex_phase phases vertex < chained.n →
    All (IsThere net.inputs (length net.gates)) drivers → PinsInTime chained user pin drivers
pins-timed chained net phases epochs chains before after vertex pin user [] all here at low there = tt
pins-timed chained net phases epochs chains before after vertex pin user (driver ∷ drivers) all here at low there =
    let n = chained.n in
    let one = use_by vertex driver in
    let rest = map (use_by vertex) drivers ++ after in
    let f : Use → ℕ = λ (u : Use). need_of epochs (pin_of net phases u) in
    let balance : IsPinBalanced epochs (pin_of net phases one) =
    AllByRecursion-middle (IsPinBalanced epochs) (map (pin_of net phases) before) (map (pin_of net phases) rest) (pin_of net phases one)
    (subst (AllByRecursion (IsPinBalanced epochs)) (ap (map (pin_of net phases)) all ∙ map-append (pin_of net phases) before (one ∷ rest)) chains.balanced) in
    let need : get_or chained.needs pin 0 ≡ need_of epochs (pin_of net phases one) =
    (λ i. get_or (chains.needs i) (here i) 0) ∙ ap (λ (us : List Use). get_or (map (need_of epochs) (map (pin_of net phases) us)) (length before) 0) all
    ∙ get_or-pins epochs net phases before rest one in
    let timed = need-in_time n (epoch_at epochs vertex) (vertex_phase phases vertex) (epoch_at epochs (vertex_of driver)) (entry_of phases driver) chains.some low (driver-below chained net phases epochs chains driver) balance in
    let stage = driver-stage chained net phases epochs chains driver (All-head (IsThere net.inputs (length net.gates)) driver drivers there) in
    let next : pin + 1 ≡ length (before ++ one ∷ []) = omega (arith, here, length-append before (one ∷ [])) in (
      subst (λ u. IsInTime n (entry_of chained.stages driver + n * get_or chained.needs pin 0) u) (sym at)
          (subst (λ s. IsInTime n (s + n * get_or chained.needs pin 0) (stage_of n (epoch_at epochs vertex) (vertex_phase phases vertex))) (sym stage)
          (subst (λ k. IsInTime n (stage_of n (epoch_at epochs (vertex_of driver)) (entry_of phases driver) + n * k) (stage_of n (epoch_at epochs vertex) (vertex_phase phases vertex))) (sym need) timed)),
      pins-timed chained net phases epochs chains (before ++ one ∷ []) after vertex (pin + 1) user drivers (all ∙ sym (append_assoc before (one ∷ []) rest)) next at low (All-tail (IsThere net.inputs (length net.gates)) driver drivers there),
    )
  where
    get_or-pins : (epochs : Epochs) (net : GateNet) (phases : List ℕ) (before after : List Use) (x : Use) → get_or (map (need_of epochs) (map (pin_of net phases) (before ++ x ∷ after))) (length before) 0 ≡ need_of epochs (pin_of net phases x)
    get_or-pins epochs net phases [] after x = refl
    get_or-pins epochs net phases (y ∷ before) after x = get_or-pins epochs net phases before after x

-- the pins of all gates from one on
gates-timed : (chained : Chained) (net : GateNet) (phases : List ℕ) (epochs : Epochs) → Chains chained net phases epochs → (before after : List Use) (gate pin : ℕ) (rows : List GateRow) →
    uses_of net ≡ before ++ (gate_uses (suc gate) rows ++ after) → pin ≡ length before → gate + length rows ≡ length net.gates → AreGatesFrom net.inputs gate rows →
    GatesInTime chained gate pin rows
gates-timed chained net phases epochs chains before after gate pin [] all here each gates = tt
gates-timed chained net phases epochs chains before after gate pin (row ∷ rows) all here each gates =
    let mine = map (use_by (suc gate)) row.pins in
    let later = gate_uses (suc (suc gate)) rows in
    let inner = append_assoc mine later after in
    let whole : uses_of net ≡ before ++ (mine ++ (later ++ after)) = all ∙ ap (λ (us : List Use). before ++ us) inner in
    let e = chains.epochs_each in let p = chains.phases_each in
    let at : get_or chained.stages gate 0 ≡ stage_of chained.n (epoch_at epochs (suc gate)) (vertex_phase phases (suc gate)) =
    ap (λ (s : List ℕ). get_or s gate 0) chains.stages ∙ get_or-stages chained.n epochs.gates phases gate epochs.sink (omega (arith, e, each)) (omega (arith, p, each)) in
    let next : gate + 1 ≡ suc gate = omega arith in
    let many = length-map row.pins (use_by (suc gate)) in (
      pins-timed chained net phases epochs chains before (later ++ after) (suc gate) pin (get_or chained.stages gate 0) row.pins whole here at (get_or-below chained.n phases gate chains.some chains.below)
          (All-weaker (IsThere net.inputs gate) (IsThere net.inputs (length net.gates)) (IsThere-more net.inputs gate (length net.gates) (omega (arith, each))) row.pins gates.0.drivers),
      gates-timed chained net phases epochs chains (before ++ mine) after (gate + 1) (pin + length row.pins) rows
          (whole ∙ sym (append_assoc before mine (later ++ after)) ∙ ap (λ g. (before ++ mine) ++ (gate_uses (suc g) rows ++ after)) (sym next))
          (omega (arith, here, many, length-append before mine)) (omega (arith, each)) gates.1,
    )

length-gate_uses : (user : ℕ) (rows : List GateRow) → length (gate_uses user rows) ≡ gate_pins rows
length-gate_uses user [] = refl
length-gate_uses user (row ∷ rows) =
    let rest = length-gate_uses (suc user) rows in
    let many = length-map row.pins (use_by user) in
    omega (arith, rest, many, length-append (map (use_by user) row.pins) (gate_uses (suc user) rows))

-- Chains that mean a netlist keep time.
pub chains_keep_time : ChainsKeepTime
chains_keep_time net phases n epochs has =
    let chained = chained_of net phases n epochs in
    let formed = has.fits.network.formed in
    let e = has.fits.each in
    let p = has.fits.network.phased in
    let rows = net.gates in
    let ends = net.outputs in
    let outs = flat_map end_drivers ends in
    let sink = sink_of net in
    let some : 0 < chained.n = has.some_phase in
    let chains : Chains chained net phases epochs = record {
      some = some;
      below = has.phased.below;
      stages = refl;
      needs = refl;
      balanced = recursion_from_All (IsPinBalanced epochs) (map (pin_of net phases) (uses_of net)) has.balanced.pins;
      epochs_each = e;
      phases_each = p;
    } in
    let gates : AreGatesFrom net.inputs 0 rows = gates-all net.inputs rows formed.gates in
    let last = map (use_by sink) outs in
    let by_gates = gate_uses 1 rows in
    let timed_gates : GatesInTime chained 0 0 rows = gates-timed chained net phases epochs chains [] last 0 0 rows refl refl (omega arith) gates in
    let nil = append-nil last in
    let whole : uses_of net ≡ by_gates ++ (last ++ []) = ap (λ (us : List Use). by_gates ++ us) (sym nil) in
    let reading : chained.n * chained.latency ≡ stage_of chained.n (epoch_at epochs sink) (vertex_phase phases sink) =
    let at : epoch_at epochs sink ≡ epochs.sink = get_or_past epochs.gates (length rows) epochs.sink (omega (arith, e)) in
    let zero_phase : vertex_phase phases sink ≡ 0 = get_or_past phases (length rows) 0 (omega (arith, p)) in
    let same = ap (λ k. chained.n * k) (sym at) in
    omega (arith, same, zero_phase) in
    let timed_outs : PinsInTime chained (chained.n * chained.latency) (gate_pins rows) outs =
    pins-timed chained net phases epochs chains by_gates [] sink (gate_pins rows) (chained.n * chained.latency) outs whole (sym (length-gate_uses 1 rows)) reading
    (get_or-below chained.n phases (length net.gates) some chains.below) (All-end_drivers net.inputs (length rows) ends formed.outputs) in
    record {
      formed = formed;
      used = has.used;
      some_phase = some;
      few_phases = has.few_phases;
      latency = has.latency;
      gates = timed_gates;
      outputs = timed_outs;
      empty = λ none. has.empty (nil_from_length (uses_of net) (length-uses_of net ∙ ap length none));
    }

-- So they are laid out as a valid netlist.
pub chains_are_valid : ChainsAreValid
chains_are_valid net phases n epochs names has named = layout_is_valid (chained_of net phases n epochs) names (chains_keep_time net phases n epochs has) named
