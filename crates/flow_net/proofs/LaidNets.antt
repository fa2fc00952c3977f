-- The network of a well-formed netlist is laid out by the numbers of drivers: each pin starts at the vertex that its driver's number
-- tells, and ends at a gate or the sink. Weights are 0 or 1.
use Rattle.std.proofs.Common.{◌≡◌, ◌<◌, ◌≤◌, ◌+◌, ◌-◌, ◌∙◌, ℕ, suc, true, false, cond, nat_lt, List, [], ◌∷◌, length, get_or, map, All, ap, sym, arith, ⊎_elim}
use Rattle.std.specs.List.{flat_map}
use Rattle.std.proofs.lemmas.Bool.{cases_lt}
use Rattle.std.proofs.lemmas.Bool.Decides.{nat_tests}
use Rattle.std.proofs.lemmas.List.Elements.{All-nil, All-append, All-map, All-weaker}
use Rattle.gate_net.specs.declared.row.Driver.{Driver}
use Rattle.gate_net.specs.declared.row.Driver.TheVariants.{Input, Gate}
use Rattle.gate_net.specs.declared.row.GateRow.{GateRow}
use Rattle.gate_net.specs.declared.net.GateNet.{GateNet}
use Rattle.gate_net.specs.Net.{IsGateNet, end_drivers}
use Rattle.gate_net.specs.Entries.{entry_of}
use Rattle.phase_rule.proofs.CallerLemmas.{weight_of-le}
use Rattle.flow_net.specs.declared.uses.Use.{Use}
use Rattle.flow_net.specs.declared.net.Pin.{Pin}
use Rattle.flow_net.specs.Uses.{use_by, gate_uses, uses_of, sink_of, used_inputs, driver_number}
use Rattle.flow_net.specs.Network.{vertex_of, vertex_phase, pin_of, network_of}
use Rattle.flow_net.specs.DriverNumbers.{IsNumbered}
use Rattle.flow_net.proofs.DriverNumbers.{uses-numbered, drivers_are_numbered}
use Rattle.flow_net.proofs.Potentials.{home, IsLaid}

-- The user of each use is a gate or the sink.
gate_users-low : (user : ℕ) (rows : List GateRow) → All (λ (one : Use). one.user < user + length rows) (gate_uses user rows)
gate_users-low user [] = All-nil (λ (one : Use). one.user < user + 0)
gate_users-low user (row ∷ rows) =
    let P = λ (one : Use). one.user < user + suc (length rows) in
    All-append P (map (use_by user) row.pins) (gate_uses (suc user) rows) (All-map P (use_by user) row.pins (λ k d within. omega arith))
    (All-weaker (λ (one : Use). one.user < suc user + length rows) P (λ one h. omega arith) (gate_uses (suc user) rows) (gate_users-low (suc user) rows))

pub users-low : (net : GateNet) → All (λ (one : Use). one.user < length net.gates + 2) (uses_of net)
users-low net =
    let P = λ (one : Use). one.user < length net.gates + 2 in
    let drivers = flat_map end_drivers net.outputs in
    All-append P (gate_uses 1 net.gates) (map (use_by (sink_of net)) drivers)
    (All-weaker (λ (one : Use). one.user < 1 + length net.gates) P (λ one h. omega arith) (gate_uses 1 net.gates) (gate_users-low 1 net.gates))
    (All-map P (use_by (sink_of net)) drivers (λ k d within. omega arith))

-- A used input's number isn't a gate's, so it is below the used inputs.
pub input-below : (net : GateNet) (i : ℕ) → IsGateNet net → IsNumbered net (Input i) → driver_number net (Input i) < used_inputs net
input-below net i formed numbered =
    let laws = drivers_are_numbered net [] formed in
    let number = driver_number net (Input i) in
    let low = laws.below (Input i) numbered in
    ⊎_elim {C = number < used_inputs net} (λ less. less)
    (λ past.
    let k = number - used_inputs net in
    let gate : k < length net.gates = omega (arith, low) in
    let same : number ≡ used_inputs net + k = omega arith in
    let clash : Input i ≡ Gate k = laws.distinct (Input i) (Gate k) numbered gate same in
    absurd (cc))
    (cases_lt number (used_inputs net))

-- A driver's vertex is the one that its number tells.
home-is_vertex : (net : GateNet) (phases : List ℕ) (driver : Driver) → IsGateNet net → IsNumbered net driver → vertex_of driver ≡ home (network_of net phases) (driver_number net driver)
home-is_vertex net phases (Input i) formed numbered =
    let inputs = used_inputs net + length net.gates - length net.gates in
    let number = driver_number net (Input i) in
    let low = input-below net i formed numbered in
    let test : nat_lt number inputs ≡ true = grind (arith, nat_tests) in
    sym (ap (λ b. cond b 0 (suc (number - inputs))) test)
home-is_vertex net phases (Gate k) formed numbered =
    let inputs = used_inputs net + length net.gates - length net.gates in
    let number = used_inputs net + k in
    let test : nat_lt number inputs ≡ false = grind (arith, nat_tests) in
    let same : suc (number - inputs) ≡ suc k = omega arith in
    sym (ap (λ b. cond b 0 (suc (number - inputs))) test ∙ same)

-- The pin of each use is laid out,
pub use-laid : (net : GateNet) (phases : List ℕ) → IsGateNet net → (k : ℕ) (d : Use) → k < length (uses_of net) → IsLaid (network_of net phases) (pin_of net phases (get_or (uses_of net) k d))
use-laid net phases formed k d within =
    let one = get_or (uses_of net) k d in
    let numbered = uses-numbered net formed k d within in
    record {
      numbered = (drivers_are_numbered net phases formed).below one.driver numbered;
      starts = home-is_vertex net phases one.driver formed numbered;
      ends = users-low net k d within;
    }

-- and so is each pin.
pub network-laid : (net : GateNet) (phases : List ℕ) → IsGateNet net → All (IsLaid (network_of net phases)) (network_of net phases).pins
network-laid net phases formed = All-map (IsLaid (network_of net phases)) (pin_of net phases) (uses_of net) (use-laid net phases formed)

pub weights-few : (net : GateNet) (phases : List ℕ) → All (λ pin. pin.weight ≤ 1) (network_of net phases).pins
weights-few net phases =
    All-map (λ (pin : Pin). pin.weight ≤ 1) (pin_of net phases) (uses_of net)
    (λ k d within.
    let one = get_or (uses_of net) k d in
    weight_of-le (vertex_phase phases one.user) (entry_of phases one.driver))
