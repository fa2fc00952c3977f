-- What gaps in ticks say in epochs, of every use in a valid netlist: the user's epoch is the weight or more above the driver's,
-- and its need is at most the number of the driver's DROs. A stage is n * epoch + phase, so a user that is reached after its
-- driver is balanced by the law on gaps, and a gap of no more than d + 1 windows needs no more than d DROs.
use Rattle.std.proofs.Common.{◌≡◌, ◌<◌, ◌≤◌, ◌+◌, ◌-◌, ◌*◌, ◌/◌, ◌%◌, ℕ, suc, List, length, map, get_or, All, sym, ap, subst, ◌∙◌, arith, ⊎_elim}
use Rattle.std.specs.Prelude.{flat_map}
use Rattle.std.proofs.Math.Nat.{mul-le-mul_left}
use Rattle.std.proofs.lemmas.Bool.{cases_lt}
use Rattle.std.proofs.lemmas.Nat.{mod_below}
use Rattle.std.proofs.lemmas.List.{length-map, get_or-map, get_or_past}
use Rattle.std.proofs.lemmas.List.Elements.{All-append, All-map}
use Rattle.gate_net.specs.declared.row.Driver.{Driver}
use Rattle.gate_net.specs.declared.row.Driver.TheVariants.{Input, Gate}
use Rattle.gate_net.specs.Net.{end_drivers}
use Rattle.gate_net.specs.Entries.{entry_of}
use Rattle.phase_rule.specs.Levels.{phases_of}
use Rattle.phase_rule.specs.Stages.{stage_of, weight_of, need_over_stages, need_over_epochs}
use Rattle.phase_rule.proofs.CallerLemmas.{need_gaps_agree, need_leaves_window, phase-back, epoch-back}
use Rattle.flow_net.specs.declared.uses.Use.{Use}
use Rattle.flow_net.specs.declared.net.Epochs.{Epochs}
use Rattle.flow_net.specs.Uses.{use_by, gate_uses, uses_of, sink_of}
use Rattle.flow_net.specs.Network.{vertex_of, vertex_phase}
use Rattle.flow_net.specs.Epochs.{epoch_at}
use Rattle.flow_net.proofs.CallerLemmas.{All-gate_uses}
use Rattle.pulse_net.specs.declared.net.PulseNet.{PulseNet}
use Rattle.pulse_net.specs.Validity.{IsValid}
use Rattle.pulse_net.specs.Unfolding.{end_of, epochs_of, unfolding_of, unfolded}
use Rattle.pulse_net.specs.Depths.{dros_behind}
use Rattle.pulse_net.proofs.StagesAndDrosFollowDepths.{HasStage, followed}
use Rattle.pulse_net.proofs.UsesInTime.{IsReached, pins_in_time, outputs_in_time}

-- A user that stands behind its driver, by d + 1 windows at most, is balanced, and needs d DROs at most.
met : (n user driver dros : ℕ) → 0 < n → driver < user → user ≤ driver + n * (dros + 1) →
    (driver / n + weight_of (user % n) (driver % n) ≤ user / n) × (need_over_epochs (user / n) (driver / n) (weight_of (user % n) (driver % n)) ≤ dros)
met n user driver dros some after within =
    let agree = need_gaps_agree n (user / n) (user % n) (driver / n) (driver % n) (mod_below user n some) (mod_below driver n some) in
    let gap = stage_of n (user / n) (user % n) - stage_of n (driver / n) (driver % n) in
    let balanced = agree.0.0 (omega arith) in
    let need = agree.1 balanced in
    let window = need_leaves_window n gap some (omega arith) in
    let short : n * need_over_stages n gap < n * (dros + 1) = omega (arith, window.0) in
    let few : need_over_stages n gap ≤ dros =
    ⊎_elim {C = need_over_stages n gap ≤ dros}
    (λ many. let more : dros + 1 ≤ need_over_stages n gap = omega arith in absurd (omega (arith, short, mul-le-mul_left n more)))
    (λ least. least)
    (cases_lt dros (need_over_stages n gap)) in
    (balanced, omega (arith, few, need))

-- The use of a driver is balanced, and the driver has the DROs that it needs.
pub record IsMet (phases : List ℕ) (epochs : Epochs) (dros : List Driver) (user : ℕ) (driver : Driver) : Type 0 where
  pub balanced : epoch_at epochs (vertex_of driver) + weight_of (vertex_phase phases user) (entry_of phases driver) ≤ epoch_at epochs user
  pub enough : need_over_epochs (epoch_at epochs user) (epoch_at epochs (vertex_of driver)) (weight_of (vertex_phase phases user) (entry_of phases driver)) ≤ dros_behind dros driver

module _ (n : ℕ) (some : 0 < n) (stages : List ℕ) (sink : ℕ) (dros : List Driver) where
  abbrev clocked : Epochs
  clocked = record { gates = epochs_of n stages; sink = sink }

  -- a driver's epoch and phase are those of its stage
  driver-epoch : (driver : Driver) → HasStage stages driver → epoch_at clocked (vertex_of driver) ≡ entry_of stages driver / n
  driver-epoch (Input i) there = omega arith
  driver-epoch (Gate k) there = get_or-map (λ stage. stage / n) stages k 0 sink there

  driver-phase : (driver : Driver) → HasStage stages driver → entry_of (phases_of n stages) driver ≡ entry_of stages driver % n
  driver-phase (Input i) there = omega arith
  driver-phase (Gate k) there = get_or-map (λ stage. stage % n) stages k 0 0 there

  -- and so are the user's, where its vertex has the epoch and phase of the user's stage
  use-met : (vertex user : ℕ) (driver : Driver) → epoch_at clocked vertex ≡ user / n → vertex_phase (phases_of n stages) vertex ≡ user % n → IsReached n stages dros user driver → IsMet (phases_of n stages) clocked dros vertex driver
  use-met vertex user driver epoch phase h =
      let low = entry_of stages driver in
      let weight : weight_of (vertex_phase (phases_of n stages) vertex) (entry_of (phases_of n stages) driver) ≡ weight_of (user % n) (low % n) = λ i. weight_of (phase i) (driver-phase driver h.there i) in
      let both = met n user low (dros_behind dros driver) some h.after h.within in
      let own = driver-epoch driver h.there in
      let need : need_over_epochs (epoch_at clocked vertex) (epoch_at clocked (vertex_of driver)) (weight_of (vertex_phase (phases_of n stages) vertex) (entry_of (phases_of n stages) driver)) ≡ need_over_epochs (user / n) (low / n) (weight_of (user % n) (low % n)) = λ i. need_over_epochs (epoch i) (own i) (weight i) in
      record {
        balanced = omega (arith, own, epoch, weight, both.0);
        enough = subst (λ k. k ≤ dros_behind dros driver) (sym need) both.1;
      }

-- In a valid netlist each use is met.
pub uses-met : (net : PulseNet) → IsValid net → All (λ (one : Use). IsMet (unfolded net).phases (unfolded net).epochs (unfolding_of net).dros one.user one.driver) (uses_of (unfolded net).gates)
uses-met net valid =
    let so = unfolding_of net in
    let n = net.phases in
    let some : 0 < n = valid.formed.some_phases in
    let gates = (unfolded net).gates in
    let phases = phases_of n so.stages in
    let epochs : Epochs = record { gates = epochs_of n so.stages; sink = net.latency } in
    let Met : Use → Type 0 = λ (one : Use). IsMet phases epochs so.dros one.user one.driver in
    let long : length so.stages ≡ length so.gates = (followed net valid).each_stage in
    let outs = flat_map end_drivers (map (end_of so.wires) net.outputs) in
    let by_gates : All Met (gate_uses 1 so.gates) =
    All-gate_uses Met 1 so.gates
    (λ k u d at within i e inside.
    let driver = get_or (get_or so.gates k d).pins i e in
    let place : k < length so.stages = omega arith in
    let next : suc k ≡ u = omega arith in
    let epoch : epoch_at epochs (suc k) ≡ get_or so.stages k 0 / n = get_or-map (λ stage. stage / n) so.stages k 0 net.latency place in
    let phase : vertex_phase phases (suc k) ≡ get_or so.stages k 0 % n = get_or-map (λ stage. stage % n) so.stages k 0 0 place in
    subst (λ v. IsMet phases epochs so.dros v driver) next
    (use-met n some so.stages net.latency so.dros (suc k) (get_or so.stages k 0) driver epoch phase (pins_in_time net valid k d within i e inside))) in
    let last : epoch_at epochs (sink_of gates) ≡ net.latency = get_or_past (epochs_of n so.stages) (length so.gates) net.latency (omega (arith, length-map so.stages (λ stage. stage / n))) in
    let zero_phase : vertex_phase phases (sink_of gates) ≡ 0 = get_or_past phases (length so.gates) 0 (omega (arith, length-map so.stages (λ stage. stage % n))) in
    let flat : stage_of n net.latency 0 ≡ n * net.latency = omega arith in
    let epoch : epoch_at epochs (sink_of gates) ≡ (n * net.latency) / n = last ∙ sym (epoch-back n net.latency 0 some) ∙ ap (λ s. s / n) flat in
    let phase : vertex_phase phases (sink_of gates) ≡ (n * net.latency) % n = zero_phase ∙ sym (phase-back n net.latency 0 some) ∙ ap (λ s. s % n) flat in
    let by_sink : All Met (map (use_by (sink_of gates)) outs) =
    All-map Met (use_by (sink_of gates)) outs
    (λ i e inside. use-met n some so.stages net.latency so.dros (sink_of gates) (n * net.latency) (get_or outs i e) epoch phase (outputs_in_time net valid i e inside)) in
    All-append Met (gate_uses 1 so.gates) (map (use_by (sink_of gates)) outs) by_gates by_sink
