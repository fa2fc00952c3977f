-- The arcs of a network. Each pin has a forward arc, from its driver's vertex to its user, of length weight, and a back arc,
-- from its user to the mirror of its driver, of length minus weight. The mirrors stand behind the sink, one per driver, in
-- driver order.
use Rattle.std.specs.Prelude.{◌+◌, ◌*◌, ◌-ℤ◌, ℕ, ℤ, pos, List, [], ◌∷◌}
use Rattle.flow_net.specs.declared.net.Pin.{Pin}
use Rattle.flow_net.specs.declared.net.Net.{Net}

-- an arc from its tail to its head, with its length and its number
pub record Arc : Type 0 where
  pub tail : ℕ
  pub head : ℕ
  pub length : ℤ
  pub number : ℕ

-- the mirror of a driver
abbrev pub mirror_of : Net → ℕ → ℕ
mirror_of net driver = net.gates + 2 + driver

-- the forward arc of the pin at a place, and its back arc
abbrev pub forward_arc : ℕ → Pin → Arc
forward_arc place pin = record { tail = pin.from; head = pin.to; length = pos pin.weight; number = 2 * place }

abbrev pub back_arc : Net → ℕ → Pin → Arc
back_arc net place pin = record { tail = pin.to; head = mirror_of net pin.driver; length = pos 0 -ℤ pos pin.weight; number = 2 * place + 1 }

-- the arcs of pins, the first of which stands at a place
abbrev pub arcs_from : Net → ℕ → List Pin → List Arc
arcs_from net place [] = []
arcs_from net place (pin ∷ pins) = forward_arc place pin ∷ (back_arc net place pin ∷ arcs_from net (place + 1) pins)

-- all arcs of a network, in the order of their numbers
abbrev pub arcs_of : Net → List Arc
arcs_of net = arcs_from net 0 net.pins
