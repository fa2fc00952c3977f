-- The network of a netlist is linked: each driver has a pin, and each pin leads upwards from its driver's vertex to a gate or the
-- sink. Where there is a driver there is a used input, since nothing but an input can drive the first gate.
use Rattle.std.proofs.Common.{◌≡◌, ◌<◌, ◌≤◌, ◌+◌, ℕ, List, [], ◌∷◌, ◌++◌, length, get_or, map, All, Any, refl, arith, ⊎_elim}
use Rattle.std.specs.List.{flat_map}
use Rattle.std.proofs.lemmas.Bool.{cases_lt}
use Rattle.std.proofs.lemmas.List.Elements.{All-append, All-map}
use Rattle.cell_lib.proofs.CallerLemmas.{arity_of-some}
use Rattle.gate_net.specs.declared.row.Driver.{Driver}
use Rattle.gate_net.specs.declared.row.Driver.TheVariants.{Input, Gate}
use Rattle.gate_net.specs.declared.row.GateRow.{GateRow}
use Rattle.gate_net.specs.declared.net.GateNet.{GateNet}
use Rattle.gate_net.specs.Net.{IsThere, IsGateNet, EachGateIsUsed, end_drivers}
use Rattle.gate_net.proofs.CallerLemmas.{All-end_drivers}
use Rattle.flow_net.specs.declared.uses.Use.{Use}
use Rattle.flow_net.specs.declared.net.Pin.{Pin}
use Rattle.flow_net.specs.declared.net.Net.{Net}
use Rattle.flow_net.specs.Uses.{use_by, gate_uses, uses_of, sink_of, used_inputs}
use Rattle.flow_net.specs.Network.{vertex_of, pin_of, network_of}
use Rattle.flow_net.specs.DriverNumbers.{IsNumbered}
use Rattle.flow_net.proofs.CallerLemmas.{uses-numbered, drivers_are_numbered, gates-le-uses, IsLaid, input-below, use-laid, All-gate_uses}

-- a pin of a driver with a number, from the driver's vertex upwards to a gate or the sink
pub record IsUpward (net : Net) (pin : Pin) : Type 0 where
  pub laid : IsLaid net pin
  pub upward : pin.from < pin.to

-- a use's user stands behind its driver, and no further than the sink
abbrev IsBehind : ℕ → Use → Type 0
IsBehind sink one = (vertex_of one.driver < one.user) × (one.user ≤ sink)

vertex_of-le : (inputs gates : ℕ) (driver : Driver) → IsThere inputs gates driver → vertex_of driver ≤ gates
vertex_of-le inputs gates (Input i) there = omega arith
vertex_of-le inputs gates (Gate k) there = omega arith

users-behind : (net : GateNet) → IsGateNet net → All (IsBehind (sink_of net)) (uses_of net)
users-behind net formed =
    let P = IsBehind (sink_of net) in
    let drivers = flat_map end_drivers net.outputs in
    All-append P (gate_uses 1 net.gates) (map (use_by (sink_of net)) drivers)
    (All-gate_uses P 1 net.gates
    (λ k u d at within i e inside.
    let low = vertex_of-le net.inputs k (get_or (get_or net.gates k d).pins i e) ((formed.gates k d within).drivers i e inside) in
    (omega arith, omega arith)))
    (All-map P (use_by (sink_of net)) drivers
    (λ i e inside.
    let low = vertex_of-le net.inputs (length net.gates) (get_or drivers i e) (All-end_drivers net.inputs (length net.gates) net.outputs formed.outputs i e inside) in
    (omega arith, omega arith)))

pub pins-upward : (net : GateNet) (phases : List ℕ) → IsGateNet net → All (IsUpward (network_of net phases)) (network_of net phases).pins
pins-upward net phases formed =
    All-map (IsUpward (network_of net phases)) (pin_of net phases) (uses_of net)
    (λ k d within.
    record { laid = use-laid net phases formed k d within; upward = (users-behind net formed k d within).0 })

-- The first use is by the first gate, which only an input can drive; so where there is a gate an input is used.
first_user : (rows : List GateRow) (rest : List Use) (d : Use) → 0 < length rows → ((row : GateRow) → 1 ≤ length (get_or rows 0 row).pins) → (get_or (gate_uses 1 rows ++ rest) 0 d).user ≡ 1
first_user [] rest d some pinned = absurd (omega arith)
first_user (row ∷ rows) rest d some pinned = by row.pins (pinned row)
  where
    by : (pins : List Driver) → 1 ≤ length pins → (get_or ((map (use_by 1) pins ++ gate_uses 2 rows) ++ rest) 0 d).user ≡ 1
    by [] h = absurd (omega arith)
    by (pin ∷ pins) h = refl

inputs-used : (net : GateNet) → IsGateNet net → 0 < length net.gates → 0 < used_inputs net
inputs-used net formed some =
    let d = use_by 0 (Input 0) in
    let first = get_or (uses_of net) 0 d in
    let within : 0 < length (uses_of net) = omega (arith, gates-le-uses net formed) in
    let user : first.user ≡ 1 = first_user net.gates (map (use_by (sink_of net)) (flat_map end_drivers net.outputs)) d some
    (λ row. omega (arith, (formed.gates 0 row some).arity, arity_of-some (get_or net.gates 0 row).cell)) in
    let behind = users-behind net formed 0 d within in
    by first.driver (omega (arith, behind.0, user)) (uses-numbered net formed 0 d within)
  where
    by : (driver : Driver) → vertex_of driver < 1 → IsNumbered net driver → 0 < used_inputs net
    by (Input i) low numbered = omega (arith, input-below net i formed numbered)
    by (Gate k) low numbered = absurd (omega arith)

-- a network in which each pin leads upwards, each driver has a pin, and an input is used where there is a driver
pub record IsLinked (net : Net) : Type 0 where
  pub few : net.gates ≤ net.drivers
  pub pins : All (IsUpward net) net.pins
  pub used : (driver : ℕ) → driver < net.drivers → Any (λ pin. pin.driver ≡ driver) net.pins
  pub entered : 0 < net.drivers → net.gates < net.drivers

-- The network of a netlist in which each gate has a use is linked.
pub networks-linked : (net : GateNet) (phases : List ℕ) → IsGateNet net → EachGateIsUsed net → IsLinked (network_of net phases)
networks-linked net phases formed each = record {
  few = omega arith;
  pins = pins-upward net phases formed;
  used = λ driver low. (drivers_are_numbered net phases formed).used each driver low;
  entered = λ some.
      ⊎_elim {C = length net.gates < used_inputs net + length net.gates} (λ gates. omega (arith, inputs-used net formed gates)) (λ none. omega arith)
      (cases_lt 0 (length net.gates));
}
