-- The rules on the wires of a netlist, and the first that is broken.
use Rattle.std.specs.Prelude.{ℕ, ◌+◌, ◌*◌, Bool, true, false, ◌&&◌, ◌||◌, List, [], ◌∷◌, ◌++◌, Option, Some, None, Result, Ok, Err, IsOk, if◌then◌else◌, ◌==◌, nat_lt, nat_le, pos, ◌-ℤ◌, nat_eq}
use Rattle.std.specs.List.{list_any}
use Rattle.std.specs.Map.{keys_of}
use Rattle.net_base.specs.Answers.{◌>>=◌}
use Rattle.net_base.specs.Keys.{is_among}
use Rattle.pulse_net.specs.declared.net.Element.{Element}
use Rattle.pulse_net.specs.declared.net.Element.TheVariants.{Clocked, Split}
use Rattle.pulse_net.specs.declared.net.Outlet.{Outlet}
use Rattle.pulse_net.specs.declared.net.Outlet.TheVariants.{Zero, One, Wire}
use Rattle.pulse_net.specs.declared.net.PulseNet.{PulseNet}
use Rattle.pulse_net.specs.declared.fault.Place.{Place}
use Rattle.pulse_net.specs.declared.fault.Place.TheVariants.{Input, Element as AtElement, Output, Latency, Close}
use Rattle.pulse_net.specs.declared.fault.Wrong.{Wrong}
use Rattle.pulse_net.specs.declared.fault.Wrong.TheVariants.{Unmade, MadeTwice, UsedTwice, Gap, Unused, NoWires}
use Rattle.pulse_net.specs.declared.fault.Invalid.{Invalid}
use Rattle.pulse_net.specs.Formed.{IsFormed}
use Rattle.pulse_net.specs.Wires.{Wires, found}

-- the wires made so far, each with its stage, and the wires used so far
pub record Wiring : Type 0 where
  pub made : Wires ℕ
  pub used : List ℕ

-- the rule is broken at this place
abbrev pub at : {A : Type 0} → Place → Result A Wrong → Result A Invalid
at place (Ok a) = Ok a
at place (Err cause) = Err (record { place = place; cause = cause })

-- a wire may be made once
abbrev pub made_once : Wiring → ℕ → ℕ → Option ℕ → Result Wiring Wrong
made_once wiring wire stage (Some before) = Err (MadeTwice wire)
made_once wiring wire stage None = Ok (record { made = wiring.made ++ (wire, stage) ∷ []; used = wiring.used })

-- a wire is made at a stage
abbrev pub make_wire : ℕ → ℕ → Wiring → Result Wiring Wrong
make_wire wire stage wiring = made_once wiring wire stage (found wiring.made wire)

-- a wire may be used once, after it is made: its stage
abbrev pub used_once : ℕ → Option ℕ → Bool → Result ℕ Wrong
used_once wire None used = Err (Unmade wire)
used_once wire (Some stage) true = Err (UsedTwice wire)
used_once wire (Some stage) false = Ok stage

-- the stage of a wire that may be used
abbrev pub source_stage : Wiring → ℕ → Result ℕ Wrong
source_stage wiring wire = used_once wire (found wiring.made wire) (is_among nat_eq wire wiring.used)

-- from the stage of a wire to that of its user are 1 to n ticks, for n phases
abbrev pub is_gap : ℕ → ℕ → ℕ → Bool
is_gap n stage user = nat_lt stage user && nat_le user (stage + n)

-- a wire is used, whatever its stage
abbrev pub with_used : Wiring → ℕ → Wiring
with_used wiring wire = record { made = wiring.made; used = wiring.used ++ wire ∷ [] }

-- a wire is used where its gap is 1 to n ticks, for n phases
abbrev pub used_in_time : Wiring → ℕ → ℕ → ℕ → Bool → Result Wiring Wrong
used_in_time wiring wire stage user true = Ok (with_used wiring wire)
used_in_time wiring wire stage user false = Err (Gap wire (pos user -ℤ pos stage))

-- a wire is used at a stage
abbrev pub use_wire : ℕ → ℕ → ℕ → Wiring → Result Wiring Wrong
use_wire n user wire wiring =
    source_stage wiring wire >>= λ stage. used_in_time wiring wire stage user (is_gap n stage user)

-- the pins of a cell are used from the left
abbrev pub use_pins : ℕ → ℕ → List ℕ → Wiring → Result Wiring Wrong
use_pins n user [] wiring = Ok wiring
use_pins n user (pin ∷ pins) wiring = use_wire n user pin wiring >>= use_pins n user pins

-- an element uses its pins, and then makes its outputs, both from the left
abbrev pub wire_element : ℕ → Element → Wiring → Result Wiring Wrong
wire_element n (Clocked cell stage pins out) wiring = use_pins n stage pins wiring >>= make_wire out stage
wire_element n (Split from left right) wiring =
    source_stage wiring from >>= λ stage. make_wire left stage (with_used wiring from) >>= make_wire right stage

-- an output that isn't constant uses its wire at the stage of its reading
abbrev pub wire_output : ℕ → ℕ → Outlet → Wiring → Result Wiring Wrong
wire_output n latency Zero wiring = Ok wiring
wire_output n latency One wiring = Ok wiring
wire_output n latency (Wire wire) wiring = use_wire n (n * latency) wire wiring

-- inputs, elements and outputs in order, from a place on
abbrev pub wire_inputs : ℕ → List (Option ℕ) → Wiring → Result Wiring Invalid
wire_inputs place [] wiring = Ok wiring
wire_inputs place (None ∷ inputs) wiring = wire_inputs (place + 1) inputs wiring
wire_inputs place (Some wire ∷ inputs) wiring =
    at (Input place) (make_wire wire 0 wiring) >>= wire_inputs (place + 1) inputs

abbrev pub wire_elements : ℕ → ℕ → List Element → Wiring → Result Wiring Invalid
wire_elements n place [] wiring = Ok wiring
wire_elements n place (element ∷ elements) wiring =
    at (AtElement place) (wire_element n element wiring) >>= wire_elements n (place + 1) elements

abbrev pub wire_outputs : ℕ → ℕ → ℕ → List Outlet → Wiring → Result Wiring Invalid
wire_outputs n latency place [] wiring = Ok wiring
wire_outputs n latency place (outlet ∷ outlets) wiring =
    at (Output place) (wire_output n latency outlet wiring) >>= wire_outputs n latency (place + 1) outlets

-- an output has a wire
abbrev pub has_wire : Outlet → Bool
has_wire Zero = false
has_wire One = false
has_wire (Wire wire) = true

-- where no output has a wire, the latency is 1
abbrev pub check_latency : ℕ → Bool → Wiring → Result Wiring Invalid
check_latency latency true wiring = Ok wiring
check_latency latency false wiring = at Latency (Err (NoWires latency))

-- the lesser of a wire and another, if there is another
abbrev pub lesser : ℕ → Option ℕ → ℕ
lesser wire None = wire
lesser wire (Some other) = if nat_lt wire other then wire else other

-- the least wire so far, with this one if it isn't used
abbrev pub with_unused : List ℕ → ℕ → Option ℕ → Option ℕ
with_unused used wire least = if is_among nat_eq wire used then least else Some (lesser wire least)

-- the least of these wires that isn't used, or the one found before
abbrev pub least_unused : List ℕ → Option ℕ → List ℕ → Option ℕ
least_unused used least [] = least
least_unused used least (wire ∷ wires) = least_unused used (with_unused used wire least) wires

-- at the end each wire is used
abbrev pub close_at : Wiring → Option ℕ → Result Wiring Invalid
close_at wiring None = Ok wiring
close_at wiring (Some wire) = at Close (Err (Unused wire))

abbrev pub close_wires : Wiring → Result Wiring Invalid
close_wires wiring = close_at wiring (least_unused wiring.used None (keys_of wiring.made))

-- nothing is made, and nothing is used
abbrev pub unwired : Wiring
unwired = record { made = []; used = [] }

-- The wiring of a netlist, or the first rule that is broken: in inputs, elements, outputs, the latency, and at the close.
abbrev pub wiring_of : PulseNet → Result Wiring Invalid
wiring_of net =
    wire_inputs 0 net.inputs unwired
    >>= wire_elements net.phases 0 net.elements
    >>= wire_outputs net.phases net.latency 0 net.outputs
    >>= check_latency net.latency (net.latency == 1 || list_any has_wire net.outputs)
    >>= close_wires

-- a netlist is valid: it is formed, and no rule is broken
pub record IsValid (net : PulseNet) : Type 0 where
  pub formed : IsFormed net
  pub unbroken : IsOk (wiring_of net)
