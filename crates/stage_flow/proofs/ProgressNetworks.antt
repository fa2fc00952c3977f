-- What is known of a network that `net_of` answers: how many vertices it has, where its pins lead, and how long its arcs are.
use Rattle.std.proofs.Common.{◌<◌, ◌≤◌, ◌^◌, pos, negsuc, ◌≤ℤ◌, All, sym, subst, arith}
use Rattle.std.proofs.lemmas.Int.{ints}
use Rattle.flow_net.specs.declared.net.Net.{Net}
use Rattle.flow_net.specs.declared.net.Flow.{Flow}
use Rattle.flow_net.specs.Uses.{uses_of}
use Rattle.flow_net.specs.Arcs.{Arc, arcs_of}
use Rattle.flow_net.proofs.CallerLemmas.{used_below-le-uses, gates-le-uses, weights-few}
use Rattle.stage_flow.specs.Residual.{ways_of, vertex_count}
use Rattle.stage_flow.specs.Given.{IsNetwork}
use Rattle.stage_flow.specs.LawsOfWalks.{EndsAreVertices}
use Rattle.stage_flow.proofs.Linked.{IsUpward, pins-upward}
use Rattle.stage_flow.proofs.Counting.{arcs-among}
use Rattle.stage_flow.proofs.ResidualArcs.{All-ways, All-arcs_by}

pub gates-few : (net : Net) → IsNetwork net → net.gates ≤ net.drivers
gates-few net is =
    let e = is.is in
    subst (λ (n : Net). n.gates ≤ n.drivers) (sym e) (omega arith)

-- The numbers of vertices fit.
pub vertices-few : (net : Net) → IsNetwork net → vertex_count net < 2 ^ 32
vertices-few net is =
    let gates = is.gates in
    subst (λ (n : Net). vertex_count n < 2 ^ 32) (sym is.is)
    (omega (arith, used_below-le-uses (uses_of gates) gates.inputs, gates-le-uses gates is.formed.formed, is.formed.few_pins))

pub upward : (net : Net) → IsNetwork net → All (IsUpward net) net.pins
upward net is = subst (λ (n : Net). All (IsUpward n) n.pins) (sym is.is) (pins-upward is.gates is.phases is.formed.formed)

pub light : (net : Net) → IsNetwork net → All (λ pin. pin.weight ≤ 1) net.pins
light net is = subst (λ (n : Net). All (λ pin. pin.weight ≤ 1) n.pins) (sym is.is) (weights-few is.gates is.phases)

pub ends-among : (net : Net) → IsNetwork net → EndsAreVertices net
ends-among net is = arcs-among net (upward net is)

-- No residual arc is longer than 1, nor shorter than -1.
pub ways-short : (net : Net) (flow : Flow) → IsNetwork net → All (λ way. (way.length ≤ℤ pos 1) × (negsuc 0 ≤ℤ way.length)) (ways_of net flow)
ways-short net flow is =
    let P = λ (arc : Arc). (arc.length ≤ℤ pos 1) × (negsuc 0 ≤ℤ arc.length) in
    All-ways P (λ way. (way.length ≤ℤ pos 1) × (negsuc 0 ≤ℤ way.length)) flow (λ arc h. (h, (omega (arith, ints, h.1), omega (arith, ints, h.0)))) (arcs_of net)
    (All-arcs_by (λ arc. Unit {0}) P (λ pin. pin.weight ≤ 1) net
    (λ at pin light forward back. ((omega (arith, ints), omega (arith, ints)), (omega (arith, ints), omega (arith, ints))))
    0 net.pins (light net is) (λ k d within. tt))
