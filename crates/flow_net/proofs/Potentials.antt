-- Potentials of vertices. The source, the gates and the sink have their epochs. The mirror of a driver has the driver's epoch
-- and the length of its chain: the epoch up to which the chain keeps the driver's pulse. No arc is longer than the potential
-- rises on it. On forward arcs that is balance. A back arc goes from a user to the mirror, and what it leaves, the user's epoch
-- less the weight less the driver's epoch, is the pin's need, at most the chain.
use Rattle.std.proofs.Common.{◌≡◌, ◌<◌, ◌≤◌, ◌+◌, ◌-◌, ◌*◌, ◌==◌, ◌∙◌, ℕ, suc, ℤ, pos, negsuc, ◌+ℤ◌, ◌*ℤ◌, ◌≤ℤ◌, Bool, true, false, cond, max, nat_lt, List, [], ◌∷◌, get_or, All, ap, arith}
use Rattle.std.specs.Cmp.{nat_eq_equiv}
use Rattle.std.proofs.Math.Nat.{mul-le-mul_right}
use Rattle.std.proofs.lemmas.Bool.Decides.{nat_tests}
use Rattle.std.proofs.lemmas.Int.{ints}
use Rattle.std.proofs.lemmas.List.Elements.{All-nil, All-cons, All-head, All-tail, All-weaker}
use Rattle.flow_net.specs.declared.net.Pin.{Pin}
use Rattle.flow_net.specs.declared.net.Net.{Net}
use Rattle.flow_net.specs.declared.net.Flow.{Flow}
use Rattle.flow_net.specs.declared.net.Epochs.{Epochs}
use Rattle.flow_net.specs.Arcs.{Arc, mirror_of, forward_arc, back_arc, arcs_from, arcs_of}
use Rattle.flow_net.specs.Flows.{units_on, value_on}
use Rattle.flow_net.specs.Epochs.{epoch_at, need_of, chain_length, IsPinBalanced, IsBalanced}
use Rattle.flow_net.proofs.Sums.{total}

-- the vertex of a driver by its number: the source, of the used inputs, and then the gates in order
abbrev pub home : Net → ℕ → ℕ
home net driver = cond (nat_lt driver (net.drivers - net.gates)) 0 (suc (driver - (net.drivers - net.gates)))

-- a pin that starts at its driver's vertex and ends at a gate or the sink
pub record IsLaid (net : Net) (pin : Pin) : Type 0 where
  pub numbered : pin.driver < net.drivers
  pub starts : pin.from ≡ home net pin.driver
  pub ends : pin.to < net.gates + 2

abbrev pub potential : Net → Epochs → ℕ → ℕ
potential net epochs vertex =
    cond (nat_lt vertex (net.gates + 2)) (epoch_at epochs vertex)
    (epoch_at epochs (home net (vertex - (net.gates + 2))) + chain_length epochs net.pins (vertex - (net.gates + 2)))

pub potential-vertex : (net : Net) (epochs : Epochs) (vertex : ℕ) → vertex < net.gates + 2 → potential net epochs vertex ≡ epoch_at epochs vertex
potential-vertex net epochs vertex low =
    let test : nat_lt vertex (net.gates + 2) ≡ true = grind (arith, nat_tests) in
    let mirror = vertex - (net.gates + 2) in
    ap (λ b. cond b (epoch_at epochs vertex) (epoch_at epochs (home net mirror) + chain_length epochs net.pins mirror)) test

pub potential-mirror : (net : Net) (epochs : Epochs) (driver : ℕ) → potential net epochs (mirror_of net driver) ≡ epoch_at epochs (home net driver) + chain_length epochs net.pins driver
potential-mirror net epochs driver =
    let vertex = net.gates + 2 + driver in
    let test : nat_lt vertex (net.gates + 2) ≡ false = grind (arith, nat_tests) in
    let same : vertex - (net.gates + 2) ≡ driver = omega arith in
    let reach = λ (d : ℕ). epoch_at epochs (home net d) + chain_length epochs net.pins d in
    ap (λ b. cond b (epoch_at epochs vertex) (reach (vertex - (net.gates + 2)))) test ∙ ap reach same

-- A driver stands at the source or at a gate.
pub home-low : (net : Net) (driver : ℕ) → net.gates ≤ net.drivers → driver < net.drivers → home net driver < net.gates + 2
home-low net driver few low = by (nat_lt driver (net.drivers - net.gates)) (suc (driver - (net.drivers - net.gates))) (omega arith)
  where
    by : (b : Bool) (vertex : ℕ) → vertex < net.gates + 2 → cond b 0 vertex < net.gates + 2
    by true vertex h = omega arith
    by false vertex h = h

-- A pin's need is at most the chain of its driver.
chain_length-more : (epochs : Epochs) (pin : Pin) (pins : List Pin) (driver : ℕ) → chain_length epochs pins driver ≤ chain_length epochs (pin ∷ pins) driver
chain_length-more epochs pin pins driver = by (pin.driver == driver) (need_of epochs pin) (chain_length epochs pins driver)
  where
    by : (b : Bool) (need rest : ℕ) → rest ≤ cond b (max need rest) rest
    by true need rest = omega arith
    by false need rest = omega arith

needs-le_chains : (epochs : Epochs) (pins : List Pin) → All (λ pin. need_of epochs pin ≤ chain_length epochs pins pin.driver) pins
needs-le_chains epochs [] = All-nil (λ pin. need_of epochs pin ≤ 0)
needs-le_chains epochs (pin ∷ pins) =
    let most = λ (one : Pin). chain_length epochs (pin ∷ pins) one.driver in
    All-cons (λ one. need_of epochs one ≤ most one) pin pins
    (by (pin.driver == pin.driver) (need_of epochs pin) (chain_length epochs pins pin.driver) (nat_eq_equiv.refl pin.driver))
    (All-weaker (λ one. need_of epochs one ≤ chain_length epochs pins one.driver) (λ one. need_of epochs one ≤ most one)
    (λ one h. omega (arith, chain_length-more epochs pin pins one.driver)) pins (needs-le_chains epochs pins))
  where
    by : (b : Bool) (need rest : ℕ) → b ≡ true → need ≤ cond b (max need rest) rest
    by b need rest test = rw test (omega arith)

-- What holds of both arcs of each pin holds of all arcs.
pub All-arcs_from : (P : Arc → Type 0) (net : Net) (place : ℕ) (pins : List Pin) → All (λ pin. (at : ℕ) → P (forward_arc at pin) × P (back_arc net at pin)) pins → All P (arcs_from net place pins)
All-arcs_from P net place [] each = All-nil P
All-arcs_from P net place (pin ∷ pins) each =
    let own = All-head (λ one. (at : ℕ) → P (forward_arc at one) × P (back_arc net at one)) pin pins each place in
    let rest = All-arcs_from P net (place + 1) pins (All-tail (λ one. (at : ℕ) → P (forward_arc at one) × P (back_arc net at one)) pin pins each) in
    All-cons P (forward_arc place pin) (back_arc net place pin ∷ arcs_from net (place + 1) pins) own.0
    (All-cons P (back_arc net place pin) (arcs_from net (place + 1) pins) own.1 rest)

-- the potential rises by the arc's length or more
abbrev pub Rises : (ℕ → ℕ) → Arc → Type 0
Rises p arc = (arc.length +ℤ pos (p arc.tail)) ≤ℤ pos (p arc.head)

pub potentials-rise : (net : Net) (epochs : Epochs) → net.gates ≤ net.drivers → All (IsLaid net) net.pins → IsBalanced net epochs → All (Rises (potential net epochs)) (arcs_of net)
potentials-rise net epochs few laid balanced =
    All-arcs_from (Rises (potential net epochs)) net 0 net.pins
    (λ k d within at. rises (get_or net.pins k d) (laid k d within) (balanced.pins k d within) (needs-le_chains epochs net.pins k d within) at)
  where
    rises : (pin : Pin) → IsLaid net pin → IsPinBalanced epochs pin → need_of epochs pin ≤ chain_length epochs net.pins pin.driver → (at : ℕ) → Rises (potential net epochs) (forward_arc at pin) × Rises (potential net epochs) (back_arc net at pin)
    rises pin laid gap need at =
        let from : potential net epochs pin.from ≡ epoch_at epochs pin.from = potential-vertex net epochs pin.from (let low = home-low net pin.driver few laid.numbered in omega (arith, laid.starts)) in
        let to : potential net epochs pin.to ≡ epoch_at epochs pin.to = potential-vertex net epochs pin.to laid.ends in
        let back : potential net epochs (mirror_of net pin.driver) ≡ epoch_at epochs (home net pin.driver) + chain_length epochs net.pins pin.driver = potential-mirror net epochs pin.driver in
        let starts : epoch_at epochs pin.from ≡ epoch_at epochs (home net pin.driver) = ap (epoch_at epochs) laid.starts in
        (omega (arith, ints), omega (arith, ints))

-- One arc at units: its length is at most the rise, taken as often as there are units.
priced : (length : ℤ) (tail head units : ℕ) → (length +ℤ pos tail) ≤ℤ pos head → (length *ℤ pos units +ℤ pos (tail * units)) ≤ℤ pos (head * units)
priced (pos gain) tail head units rise =
    let h : gain + tail ≤ head = omega (arith, ints) in
    let more : (gain + tail) * units ≤ head * units = mul-le-mul_right units h in
    omega (arith, ints, more)
priced (negsuc loss) tail head units rise =
    let h : tail ≤ head + suc loss = omega (arith, ints) in
    let more : tail * units ≤ (head + suc loss) * units = mul-le-mul_right units h in
    omega (arith, ints, more)

-- So a flow is worth at most what it gains in potential.
pub value-le_rise : (flow : Flow) (p : ℕ → ℕ) (arcs : List Arc) → All (Rises p) arcs → (value_on flow arcs +ℤ pos (total (λ arc. p arc.tail * units_on flow arc) arcs)) ≤ℤ pos (total (λ arc. p arc.head * units_on flow arc) arcs)
value-le_rise flow p [] rise = omega (arith, ints)
value-le_rise flow p (arc ∷ arcs) rise =
    omega (
      arith,
      ints,
      priced arc.length (p arc.tail) (p arc.head) (units_on flow arc) (All-head (Rises p) arc arcs rise),
      value-le_rise flow p arcs (All-tail (Rises p) arc arcs rise),
    )
