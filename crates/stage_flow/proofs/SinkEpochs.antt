-- The sink is an epoch behind the source at least. The last driver has a pin, which leads upwards, so to the sink; and as the sink has
-- phase 0, which is greater than no phase, that pin weighs 1.
use Rattle.std.proofs.Common.{◌≡◌, ◌<◌, ◌≤◌, ◌+◌, ◌-◌, ◌∙◌, ℕ, suc, nat_lt, false, cond, List, length, get_or, All, true, ap, arith, ⊎_elim}
use Rattle.std.proofs.lemmas.Bool.{cases_lt, lt-ltb, le-ltb}
use Rattle.std.proofs.lemmas.List.{get_or_past}
use Rattle.std.proofs.lemmas.List.Elements.{All-map}
use Rattle.gate_net.specs.declared.net.GateNet.{GateNet}
use Rattle.gate_net.specs.Net.{IsGateNet, EachGateIsUsed}
use Rattle.gate_net.specs.Entries.{entry_of}
use Rattle.phase_rule.specs.Stages.{weight_of}
use Rattle.flow_net.specs.declared.uses.Use.{Use}
use Rattle.flow_net.specs.declared.net.Pin.{Pin}
use Rattle.flow_net.specs.declared.net.Net.{Net}
use Rattle.flow_net.specs.declared.net.Epochs.{Epochs}
use Rattle.flow_net.specs.Uses.{uses_of}
use Rattle.flow_net.specs.Network.{vertex_phase, pin_of, network_of}
use Rattle.flow_net.specs.Epochs.{epoch_at, IsBalanced}
use Rattle.flow_net.proofs.CallerLemmas.{home}
use Rattle.stage_flow.proofs.Linked.{networks-linked}

-- A pin of the sink weighs 1.
abbrev Weighs : Net → Pin → Type 0
Weighs net pin = pin.to ≡ net.gates + 1 → pin.weight ≡ 1

sink-pins_weigh : (net : GateNet) (phases : List ℕ) → length phases ≡ length net.gates → All (Weighs (network_of net phases)) (network_of net phases).pins
sink-pins_weigh net phases phased =
    All-map (Weighs (network_of net phases)) (pin_of net phases) (uses_of net)
    (λ k d within. weighs (get_or (uses_of net) k d))
  where
    weighs : (one : Use) → one.user ≡ length net.gates + 1 → weight_of (vertex_phase phases one.user) (entry_of phases one.driver) ≡ 1
    weighs one at =
        let here : one.user ≡ suc (length net.gates) = omega (arith, at) in
        let none : vertex_phase phases one.user ≡ 0 = ap (vertex_phase phases) here ∙ get_or_past phases (length net.gates) 0 (omega (arith, phased)) in
        let not_less : nat_lt (entry_of phases one.driver) 0 ≡ false = le-ltb (entry_of phases one.driver) 0 (omega arith) in
        ap (λ phase. weight_of phase (entry_of phases one.driver)) none ∙ ap (λ b. cond b 0 1) not_less

-- The last driver stands at the last gate's vertex, or at the source where there is no gate, so its pin ends at the sink.
last-home : (net : Net) → 0 < net.drivers → net.gates ≤ net.drivers → home net (net.drivers - 1) ≡ net.gates
last-home net some few =
    ⊎_elim {C = home net (net.drivers - 1) ≡ net.gates}
    (λ low.
    let test : nat_lt (net.drivers - 1) (net.drivers - net.gates) ≡ true = lt-ltb (net.drivers - 1) (net.drivers - net.gates) low in
    ap (λ b. cond b 0 (suc (net.drivers - 1 - (net.drivers - net.gates)))) test ∙ omega arith)
    (λ high.
    let test : nat_lt (net.drivers - 1) (net.drivers - net.gates) ≡ false = le-ltb (net.drivers - 1) (net.drivers - net.gates) high in
    ap (λ b. cond b 0 (suc (net.drivers - 1 - (net.drivers - net.gates)))) test ∙ omega arith)
    (cases_lt (net.drivers - 1) (net.drivers - net.gates))

pub sink-late : (net : GateNet) (phases : List ℕ) (epochs : Epochs) → IsGateNet net → EachGateIsUsed net → length phases ≡ length net.gates → 0 < (network_of net phases).drivers → IsBalanced (network_of net phases) epochs → 1 ≤ epochs.sink
sink-late net phases epochs formed each phased some balanced =
    let whole = network_of net phases in
    let linked = networks-linked net phases formed each in
    let (k, pin, within, there, is) = linked.used (whole.drivers - 1) (omega arith) in
    let up = linked.pins k pin within in
    let own = get_or whole.pins k pin in
    let driver : own.driver ≡ whole.drivers - 1 = ap (λ (p : Pin). p.driver) there ∙ is in
    let from : own.from ≡ whole.gates = up.laid.starts ∙ ap (home whole) driver ∙ last-home whole some linked.few in
    let to : own.to ≡ whole.gates + 1 = omega (arith, from, up.upward, up.laid.ends) in
    let weight = sink-pins_weigh net phases phased k pin within to in
    let late = balanced.pins k pin within in
    let sink : epoch_at epochs own.to ≡ epochs.sink = ap (epoch_at epochs) (to ∙ next) ∙ get_or_past epochs.gates whole.gates epochs.sink (omega (arith, balanced.each)) in
    omega (arith, weight, late, sink)
  where
    next : length net.gates + 1 ≡ suc (length net.gates)
    next = omega arith
