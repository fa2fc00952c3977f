-- The rules on wires said of the netlist as it stands: each wire is made once and used once, and each is read in time.
use Rattle.std.specs.Prelude.{◌≡◌, ℕ, ◌+◌, ◌*◌, ◌<◌, ◌≤◌, ◌||◌, ◌==◌, List, [], ◌∷◌, ◌++◌, Some, IsTrue, nat_eq, flat_map, option_to_list, ⊤}
use Rattle.std.specs.List.{IsDistinct, list_any}
use Rattle.pulse_net.specs.declared.net.Element.{Element}
use Rattle.pulse_net.specs.declared.net.Element.TheVariants.{Clocked, Split}
use Rattle.pulse_net.specs.declared.net.Outlet.{Outlet}
use Rattle.pulse_net.specs.declared.net.Outlet.TheVariants.{Zero, One, Wire}
use Rattle.pulse_net.specs.declared.net.PulseNet.{PulseNet}
use Rattle.pulse_net.specs.Wires.{Wires, found, input_entries, element_wires, input_stage, cell_stage, stages_of, used_wires}
use Rattle.net_base.specs.Keys.{is_among}
use Rattle.pulse_net.specs.Validity.{has_wire}

-- the wires that an element makes, from the left
abbrev pub element_makes : Element → List ℕ
element_makes (Clocked cell stage pins out) = out ∷ []
element_makes (Split from left right) = left ∷ (right ∷ [])

-- the wires that are made by inputs and elements, in order
abbrev pub makes_of : PulseNet → List ℕ
makes_of net = flat_map option_to_list net.inputs ++ flat_map element_makes net.elements

-- with n phases a wire of this stage is read in time: its user stands 1 to n ticks later
pub record IsInTime (n stage user : ℕ) : Type 0 where
  pub after : stage < user
  pub within : user ≤ stage + n

-- a wire is made so far, and its user stands 1 to n ticks later
abbrev pub ArrivesInTime : ℕ → Wires ℕ → ℕ → ℕ → Type 0
ArrivesInTime n made user wire = (stage : ℕ) × (found made wire ≡ Some stage) × IsInTime n stage user

-- each of these pins arrives in time
abbrev pub ArriveInTime : ℕ → Wires ℕ → ℕ → List ℕ → Type 0
ArriveInTime n made user [] = ⊤
ArriveInTime n made user (pin ∷ pins) = ArrivesInTime n made user pin × ArriveInTime n made user pins

-- the pins of a clocked cell arrive in time, and the source of a splitter is made so far
abbrev pub ElementInTime : ℕ → Wires ℕ → Element → Type 0
ElementInTime n made (Clocked cell stage pins out) = ArriveInTime n made stage pins
ElementInTime n made (Split from left right) = (stage : ℕ) × (found made from ≡ Some stage)

-- the same of all elements in order, where each finds what the earlier ones made
abbrev pub ElementsInTime : ℕ → Wires ℕ → List Element → Type 0
ElementsInTime n made [] = ⊤
ElementsInTime n made (element ∷ elements) =
    ElementInTime n made element × ElementsInTime n (made ++ element_wires 0 cell_stage made element) elements

-- the wire of an output that isn't constant arrives in time for the reading
abbrev pub OutletInTime : ℕ → ℕ → Wires ℕ → Outlet → Type 0
OutletInTime n user made Zero = ⊤
OutletInTime n user made One = ⊤
OutletInTime n user made (Wire wire) = ArrivesInTime n made user wire

abbrev pub OutletsInTime : ℕ → ℕ → Wires ℕ → List Outlet → Type 0
OutletsInTime n user made [] = ⊤
OutletsInTime n user made (outlet ∷ outlets) = OutletInTime n user made outlet × OutletsInTime n user made outlets

-- A netlist is wired: each element's sources are made before it and read in time, and so are the outputs, at stage n * E;
-- no wire is made twice, none is used twice, and each that is made is used; and a netlist that reads no wire has latency 1.
pub record IsWired (net : PulseNet) : Type 0 where
  pub elements : ElementsInTime net.phases (input_entries input_stage 0 net.inputs) net.elements
  pub outputs : OutletsInTime net.phases (net.phases * net.latency) (stages_of net) net.outputs
  pub made_once : IsDistinct nat_eq (makes_of net)
  pub used_once : IsDistinct nat_eq (used_wires net)
  pub all_used : (wire : ℕ) → IsTrue (is_among nat_eq wire (makes_of net)) → IsTrue (is_among nat_eq wire (used_wires net))
  pub latency : IsTrue (net.latency == 1 || list_any has_wire net.outputs)
