-- Weak duality: full flows against balanced epochs. First in every network whose pins are laid out by the numbers of drivers,
-- then in the network of a netlist, whose pins are.
use Rattle.std.proofs.Common.{◌≡◌, ◌<◌, ◌≤◌, ◌+◌, ◌*◌, ◌==◌, ◌∙◌, ℕ, pos, ◌≤ℤ◌, cond, List, get_or, All, refl, arith}
use Rattle.std.specs.List.{sum_by}
use Rattle.std.proofs.lemmas.Int.{ints}
use Rattle.std.proofs.lemmas.List.Elements.{All-weaker}
use Rattle.std.proofs.lemmas.List.Recursion.{is_sum_by}
use Rattle.flow_net.specs.declared.net.Pin.{Pin}
use Rattle.flow_net.specs.declared.net.Net.{Net}
use Rattle.flow_net.specs.declared.net.Flow.{Flow}
use Rattle.flow_net.specs.declared.net.Epochs.{Epochs}
use Rattle.flow_net.specs.Network.{network_of}
use Rattle.flow_net.specs.Arcs.{Arc, arcs_of, forward_arc, back_arc}
use Rattle.flow_net.specs.Flows.{units_on, IsFullFlow, flow_value}
use Rattle.flow_net.specs.Epochs.{dro_count, IsBalanced}
use Rattle.flow_net.specs.Duality.{WeakDuality}
use Rattle.flow_net.proofs.LaidNets.{network-laid}
use Rattle.flow_net.proofs.Sums.{total, below, exchanged}
use Rattle.flow_net.proofs.FullFlows.{in_is_out_and_count}
use Rattle.flow_net.proofs.Potentials.{home-low, IsLaid, potential, All-arcs_from, potentials-rise, value-le_rise}

-- the vertices of each arc are among the first of these
abbrev AreLow : ℕ → Arc → Type 0
AreLow bound arc = (arc.tail < bound) × (arc.head < bound)

low-arcs : (net : Net) → net.gates ≤ net.drivers → All (IsLaid net) net.pins → All (AreLow (net.gates + 2 + net.drivers)) (arcs_of net)
low-arcs net few laid =
    All-arcs_from (AreLow (net.gates + 2 + net.drivers)) net 0 net.pins (λ k d within at. low (get_or net.pins k d) (laid k d within) at)
  where
    low : (pin : Pin) → IsLaid net pin → (at : ℕ) → AreLow (net.gates + 2 + net.drivers) (forward_arc at pin) × AreLow (net.gates + 2 + net.drivers) (back_arc net at pin)
    low pin laid at =
        let from : pin.from < net.gates + 2 = (let low = home-low net pin.driver few laid.numbered in omega (arith, laid.starts)) in
        let to : pin.to < net.gates + 2 = laid.ends in
        let driver : pin.driver < net.drivers = laid.numbered in
        ((omega arith, omega arith), (omega arith, omega arith))

-- A sum over arcs at the potentials of some end of theirs, gathered by vertices.
pub gathered : (flow : Flow) (p : ℕ → ℕ) (end : Arc → ℕ) (bound : ℕ) (arcs : List Arc) → All (λ arc. end arc < bound) arcs → total (λ arc. p (end arc) * units_on flow arc) arcs ≡ below (λ v. p v * sum_by (λ arc. cond (end arc == v) (units_on flow arc) 0) arcs) bound
gathered flow p end bound arcs low =
    exchanged end (units_on flow) p bound arcs low
    ∙ (λ i. below (λ v. p v * is_sum_by (total (λ arc. cond (end arc == v) (units_on flow arc) 0)) (λ arc. cond (end arc == v) (units_on flow arc) 0) refl (λ x xs. refl) arcs i) bound)

-- In a full flow the units gain just the count in potential, whatever the epochs.
pub rise-is_count : (net : Net) (flow : Flow) (epochs : Epochs) → net.gates ≤ net.drivers → All (IsLaid net) net.pins → IsFullFlow net flow → total (λ arc. potential net epochs arc.head * units_on flow arc) (arcs_of net) ≡ total (λ arc. potential net epochs arc.tail * units_on flow arc) (arcs_of net) + dro_count net epochs
rise-is_count net flow epochs few laid full =
    let p = potential net epochs in
    let arcs = arcs_of net in
    let bound = net.gates + 2 + net.drivers in
    let low = low-arcs net few laid in
    let tails = gathered flow p (λ arc. arc.tail) bound arcs (All-weaker (AreLow bound) (λ arc. arc.tail < bound) (λ arc h. h.0) arcs low) in
    let heads = gathered flow p (λ arc. arc.head) bound arcs (All-weaker (AreLow bound) (λ arc. arc.head < bound) (λ arc h. h.1) arcs low) in
    omega (arith, tails, heads, in_is_out_and_count net flow epochs few full)

-- Weak duality. Each vertex has a potential that rises on each arc by the arc's length or more (`potentials-rise`). So a flow
-- is worth at most what its units gain in potential from tail to head (`value-le_rise`). Gathered by vertices (`gathered`), this
-- is each vertex's potential times the units in less the units out. In a full flow the source, at potential 0, and the sink give
-- nothing, each gate gives up its epoch, and each mirror brings in the epoch of its driver and the length of its chain. The
-- drivers are the used inputs, at epoch 0, and the gates, each once: the epochs cancel, and the chains are left, which are the
-- DRO count (`rise-is_count`). Of the network this takes only that each pin starts at the vertex that its driver's number tells.
pub value-le_count : (net : Net) (flow : Flow) (epochs : Epochs) → net.gates ≤ net.drivers → All (IsLaid net) net.pins → IsFullFlow net flow → IsBalanced net epochs → flow_value net flow ≤ℤ pos (dro_count net epochs)
value-le_count net flow epochs few laid full balanced =
    omega (
      arith,
      ints,
      value-le_rise flow (potential net epochs) (arcs_of net) (potentials-rise net epochs few laid balanced),
      rise-is_count net flow epochs few laid full,
    )

pub weak-duality : WeakDuality
weak-duality net phases flow epochs formed = value-le_count (network_of net phases) flow epochs (omega arith) (network-laid net phases formed)
