-- In a valid netlist the user of each driver comes after it, by no more ticks than the driver's DROs and one window more
-- make up. A pin's wire is read 1 to n ticks after its stage; it stands at its driver's stage or behind it by n ticks for
-- each DRO that it passed, and its driver has so many.
use Rattle.std.proofs.Common.{◌≡◌, ◌<◌, ◌≤◌, ◌+◌, ◌*◌, ℕ, zero, suc, List, [], ◌∷◌, ◌++◌, length, map, get_or, All, sym, ap, subst, arith}
use Rattle.std.specs.Prelude.{Some, flat_map}
use Rattle.std.specs.List.{AllByRecursion}
use Rattle.std.proofs.Math.Nat.{mul-le-mul_left}
use Rattle.std.proofs.lemmas.List.Elements.{All-from_recursion}
use Rattle.cell_lib.specs.declared.cell.Cell.TheVariants.{Dro}
use Rattle.gate_net.specs.declared.row.Driver.{Driver}
use Rattle.gate_net.specs.declared.row.Driver.TheVariants.{Input}
use Rattle.gate_net.specs.declared.row.GateRow.{GateRow}
use Rattle.gate_net.specs.Net.{end_drivers}
use Rattle.gate_net.specs.Entries.{entry_of}
use Rattle.pulse_net.specs.declared.net.Element.{Element}
use Rattle.pulse_net.specs.declared.net.Element.TheVariants.{Clocked, Split}
use Rattle.pulse_net.specs.declared.net.Outlet.{Outlet}
use Rattle.pulse_net.specs.declared.net.Outlet.TheVariants.{Zero, One, Wire}
use Rattle.pulse_net.specs.declared.net.PulseNet.{PulseNet}
use Rattle.pulse_net.specs.Wires.{Wires, found, element_wires, after_elements, input_entries, input_stage, cell_stage, stages_of}
use Rattle.pulse_net.specs.Validity.{IsValid}
use Rattle.pulse_net.specs.Wired.{ArrivesInTime, ArriveInTime, ElementsInTime, OutletsInTime}
use Rattle.pulse_net.specs.Unfolding.{Unfolding, driver_of, end_of, unfolding_of}
use Rattle.pulse_net.specs.Depths.{depths_of, dros_behind}
use Rattle.pulse_net.proofs.CallerLemmas.{after_elements-found}
use Rattle.pulse_net.proofs.RelatedWires.{related-found}
use Rattle.pulse_net.proofs.UnbrokenIsWired.{wired}
use Rattle.pulse_net.proofs.StagesAndDrosFollowDepths.{HasStage, Follow, followed}
use Rattle.pulse_net.proofs.UnfoldedElements.{gate_row, gate_stage, stands}

-- A driver that has its stage is read after it, by the windows of its DROs and one more at most, where windows have n ticks.
pub record IsReached (n : ℕ) (stages : List ℕ) (dros : List Driver) (user : ℕ) (driver : Driver) : Type 0 where
  pub there : HasStage stages driver
  pub after : entry_of stages driver < user
  pub within : user ≤ entry_of stages driver + n * (dros_behind dros driver + 1)

-- a depth counts for no more windows than the DROs
windows : (n depth dros : ℕ) → depth ≤ dros → n * depth + n ≤ n * (dros + 1)
windows n depth dros few =
    let e : n * (dros + 1) ≡ n * dros + n = grind arith in
    omega (arith, e, mul-le-mul_left n few)

module _ (n : ℕ) (so : Unfolding) (made depths : Wires ℕ) (p : Follow n so.stages so.dros made depths so.wires) where
  -- a wire that arrives in time
  wire-reached : (user wire : ℕ) → ArrivesInTime n made user wire → IsReached n so.stages so.dros user (driver_of so.wires wire)
  wire-reached user wire h =
      let time = h.2 in
      let behind = related-found 0 (Input 0) wire h.0 p h.1 in
      let few = windows n _ _ behind.counted in
      record {
        there = behind.there;
        after = omega (arith, behind.after, time.after);
        within = omega (arith, behind.within, time.within, few);
      }

  -- the pins of a gate, which arrive in time among the wires that were made before it
  pins-reached : (a : Wires ℕ) → ((wire stage : ℕ) → found a wire ≡ Some stage → found made wire ≡ Some stage) → (user : ℕ) (pins : List ℕ) → ArriveInTime n a user pins → AllByRecursion (IsReached n so.stages so.dros user) (map (driver_of so.wires) pins)
  pins-reached a keep user [] h = tt
  pins-reached a keep user (pin ∷ pins) h = (wire-reached user pin (h.0.0, keep pin h.0.0 h.0.1, h.0.2), pins-reached a keep user pins h.1)

  -- the gates among elements
  gates-reached : (a : Wires ℕ) (elements : List Element) → ((wire stage : ℕ) → found (after_elements 0 cell_stage a elements) wire ≡ Some stage → found made wire ≡ Some stage) → ElementsInTime n a elements → (k : ℕ) (d : GateRow) → k < length (flat_map (gate_row (driver_of so.wires)) elements) →
      All (IsReached n so.stages so.dros (get_or (flat_map gate_stage elements) k 0)) (get_or (flat_map (gate_row (driver_of so.wires)) elements) k d).pins
  gates-reached a [] keep h k d within = absurd (omega arith)
  gates-reached a (Clocked Dro stage pins out ∷ elements) keep h k d within = gates-reached (a ++ element_wires 0 cell_stage a (Clocked Dro stage pins out)) elements keep h.1 k d within
  gates-reached a (Clocked cell stage pins out ∷ elements) keep h zero d within =
      All-from_recursion (IsReached n so.stages so.dros stage) (map (driver_of so.wires) pins)
      (pins-reached a (λ wire s here. keep wire s (after_elements-found 0 cell_stage a (Clocked cell stage pins out ∷ elements) wire s here)) stage pins h.0)
  gates-reached a (Clocked cell stage pins out ∷ elements) keep h (suc k) d within = gates-reached (a ++ element_wires 0 cell_stage a (Clocked cell stage pins out)) elements keep h.1 k d (omega arith)
  gates-reached a (Split from left right ∷ elements) keep h k d within = gates-reached (a ++ element_wires 0 cell_stage a (Split from left right)) elements keep h.1 k d within

  -- and the outputs
  outlets-reached : (user : ℕ) (outlets : List Outlet) → OutletsInTime n user made outlets → AllByRecursion (IsReached n so.stages so.dros user) (flat_map end_drivers (map (end_of so.wires) outlets))
  outlets-reached user [] h = tt
  outlets-reached user (Zero ∷ outlets) h = outlets-reached user outlets h.1
  outlets-reached user (One ∷ outlets) h = outlets-reached user outlets h.1
  outlets-reached user (Wire wire ∷ outlets) h = (wire-reached user wire h.0, outlets-reached user outlets h.1)

-- In a valid netlist the pins of each gate are reached by its stage,
pub pins_in_time : (net : PulseNet) → IsValid net → (k : ℕ) (d : GateRow) → k < length (unfolding_of net).gates →
    All (IsReached net.phases (unfolding_of net).stages (unfolding_of net).dros (get_or (unfolding_of net).stages k 0)) (get_or (unfolding_of net).gates k d).pins
pins_in_time net valid k d within =
    let so = unfolding_of net in
    let all = stands net valid in
    let P : List ℕ → List GateRow → Type 0 = λ stages gates. All (IsReached net.phases so.stages so.dros (get_or stages k 0)) (get_or gates k d).pins in
    let reached = gates-reached net.phases so (stages_of net) (depths_of net) (followed net valid).wires (input_entries input_stage 0 net.inputs) net.elements (λ wire stage made. made) (wired net valid.unbroken).elements k d (omega (arith, ap length all.gates)) in
    subst (λ (stages : List ℕ). P stages so.gates) (sym all.stages)
    (subst (λ (gates : List GateRow). P (flat_map gate_stage net.elements) gates) (sym all.gates) reached)

-- and the outputs at the reading.
pub outputs_in_time : (net : PulseNet) → IsValid net → All (IsReached net.phases (unfolding_of net).stages (unfolding_of net).dros (net.phases * net.latency)) (flat_map end_drivers (map (end_of (unfolding_of net).wires) net.outputs))
outputs_in_time net valid =
    let so = unfolding_of net in
    All-from_recursion (IsReached net.phases so.stages so.dros (net.phases * net.latency)) (flat_map end_drivers (map (end_of so.wires) net.outputs))
    (outlets-reached net.phases so (stages_of net) (depths_of net) (followed net valid).wires (net.phases * net.latency) net.outputs (wired net valid.unbroken).outputs)
