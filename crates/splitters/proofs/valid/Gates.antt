-- The gates: each takes the wires of its pins, which wait since drivers stand before users, and then comes its chain.
use Rattle.std.proofs.Common.{◌≡◌, ◌≤◌, ◌<◌, ℕ, suc, ◌+◌, Bool, true, false, List, [], ◌∷◌, ◌++◌, length, get_or, take, drop, All, refl, ap, sym, subst, ◌∙◌, arith, append_assoc, drop-cons, length-append}
use Rattle.std.proofs.lemmas.Bool.{lt-ltb, ne_eqb, le-ltb}
use Rattle.std.proofs.lemmas.List.Elements.{All-head, All-tail}
use Rattle.std.proofs.lemmas.List.Folds.{list_any_at}
use Rattle.std.specs.Prelude.{⊤, nat_lt, slice_index, Contains, flat_map}
use Rattle.std.specs.Cmp.{nat_eq_equiv}
use Rattle.cell_lib.specs.Cell.{arity_of}
use Rattle.gate_net.specs.declared.row.Driver.{Driver}
use Rattle.gate_net.specs.declared.row.Driver.TheVariants.{Input, Gate}
use Rattle.gate_net.specs.declared.row.GateRow.{GateRow}
use Rattle.gate_net.specs.Rows.{same_driver}
use Rattle.gate_net.specs.Net.{IsThere, IsGate, pin_drivers}
use Rattle.gate_net.proofs.CallerLemmas.{same_driver-decides}
use Rattle.pulse_net.specs.declared.net.Element.TheVariants.{Clocked}
use Rattle.pulse_net.specs.Wires.{Wires}
use Rattle.pulse_net.specs.Wired.{ArriveInTime}
use Rattle.dro_chains.specs.declared.chain.Chained.{Chained}
use Rattle.splitters.specs.Elements.{Layout, with_cell, with_chain, with_gate, with_gates, gate_pins}
use Rattle.splitters.specs.Taps.{with_pin, tap_count, taps_at}
use Rattle.splitters.specs.Laws.{tap_stage, PinsInTime, GatesInTime}
use Rattle.splitters.proofs.tapped.Taps.{tap_count-some}
use Rattle.splitters.proofs.valid.Multiplicity.{once, times, times-append, after, nat_lt-next}
use Rattle.splitters.proofs.valid.Frontier.{IsLaid-waits, IsLaid-cell}
use Rattle.splitters.proofs.valid.Pins.{Marks, held, AreStaged, MarksAgree-all}
use Rattle.splitters.proofs.tapped.Takers.{DrivesNone}
use Rattle.splitters.proofs.valid.Chains.{Stands, Stands-agree, AreStaged-step, GoesOn, by_driver, and_driver, Stands-chain}

-- the wires of these pins, from a number on
abbrev pub pin_wires : List ℕ → ℕ → List Driver → List ℕ
pin_wires taken pin [] = []
pin_wires taken pin (driver ∷ drivers) = get_or taken pin 0 ∷ pin_wires taken (pin + 1) drivers

pub pin_wires-take : (taken : List ℕ) (pin : ℕ) (drivers : List Driver) → pin + length drivers ≤ length taken → pin_wires taken pin drivers ≡ take (length drivers) (drop pin taken)
pin_wires-take taken pin [] room = refl
pin_wires-take taken pin (driver ∷ drivers) room =
    let next : pin + 1 ≡ suc pin = omega arith in
    ap (λ ws. get_or taken pin 0 ∷ ws) (pin_wires-take taken (pin + 1) drivers (omega arith) ∙ ap (λ p. take (length drivers) (drop p taken)) next)
    ∙ ap (take (suc (length drivers))) (sym (drop-cons taken pin 0 (omega arith)))

length-pin_wires : (taken : List ℕ) (pin : ℕ) (drivers : List Driver) → length (pin_wires taken pin drivers) ≡ length drivers
length-pin_wires taken pin [] = refl
length-pin_wires taken pin (driver ∷ drivers) = ap suc (length-pin_wires taken (pin + 1) drivers)

-- the drivers of these pins are reached
abbrev pub AreReached : (Driver → Bool) → List Driver → Type 0
AreReached reached [] = ⊤
AreReached reached (driver ∷ drivers) = (reached driver ≡ true) × AreReached reached drivers

-- Pins whose drivers are reached wait with their wires, in front of the later ones.
pub held-reached : (reached : Driver → Bool) (needs taken : List ℕ) (pin : ℕ) (mine rest : List Driver) → AreReached reached mine →
    held (by_driver reached) needs taken pin (mine ++ rest) ≡ pin_wires taken pin mine ++ held (by_driver reached) needs taken (pin + length mine) rest
held-reached reached needs taken pin [] rest all = let e : pin ≡ pin + 0 = omega arith in ap (λ p. held (by_driver reached) needs taken p rest) e
held-reached reached needs taken pin (driver ∷ mine) rest all =
    let e : (pin + 1) + length mine ≡ pin + suc (length mine) = omega arith in
    ap (λ b. with_pin b (get_or taken pin 0) (held (by_driver reached) needs taken (pin + 1) (mine ++ rest))) all.0
    ∙ ap (λ ws. get_or taken pin 0 ∷ ws) (held-reached reached needs taken (pin + 1) mine rest all.1 ∙ ap (λ p. pin_wires taken (pin + 1) mine ++ held (by_driver reached) needs taken p rest) e)

pub AreStaged-behind : {A : Type 0} (made : Wires A) (stage : Driver → ℕ → A) (marks : Marks) (needs taken : List ℕ) (pin : ℕ) (mine rest : List Driver) →
    AreStaged made stage marks needs taken pin (mine ++ rest) → AreStaged made stage marks needs taken (pin + length mine) rest
AreStaged-behind made stage marks needs taken pin [] rest h = let e : pin ≡ pin + 0 = omega arith in subst (λ p. AreStaged made stage marks needs taken p rest) e h
AreStaged-behind made stage marks needs taken pin (driver ∷ mine) rest h =
    let e : (pin + 1) + length mine ≡ pin + suc (length mine) = omega arith in
    subst (λ p. AreStaged made stage marks needs taken p rest) e (AreStaged-behind made stage marks needs taken (pin + 1) mine rest h.1)

-- They arrive in time where the taps do.
ArriveInTime-pins : (chained : Chained) (made : Wires ℕ) (reached : Driver → Bool) (taken : List ℕ) (user pin : ℕ) (mine rest : List Driver) → AreReached reached mine →
    PinsInTime chained user pin mine → AreStaged made (tap_stage chained) (by_driver reached) chained.needs taken pin (mine ++ rest) →
    ArriveInTime chained.n made user (pin_wires taken pin mine)
ArriveInTime-pins chained made reached taken user pin [] rest all timed h = tt
ArriveInTime-pins chained made reached taken user pin (driver ∷ mine) rest all timed h =
    ((tap_stage chained driver (get_or chained.needs pin 0), h.0 all.0, timed.0), ArriveInTime-pins chained made reached taken user (pin + 1) mine rest all.1 timed.1 h.1)

pub tap_count-gate : (chained : Chained) (gate : ℕ) → Contains (pin_drivers chained.gates) (Gate gate) → 1 ≤ tap_count chained.needs (Gate gate) 0 (pin_drivers chained.gates)
tap_count-gate chained gate h =
    (tap_count-some chained.needs (Gate gate) 0 (pin_drivers chained.gates)).0
    (list_any_at (same_driver (Gate gate)) (pin_drivers chained.gates) h.0 (Gate gate) h.1 (ap (same_driver (Gate gate)) h.2 ∙ nat_eq_equiv.refl gate))

-- the inputs are reached, and the gates below one
abbrev pub before_gate : ℕ → Driver → Bool
before_gate gate (Input i) = true
before_gate gate (Gate k) = nat_lt k gate

pub before_gate-there : (inputs gate : ℕ) (drivers : List Driver) → All (IsThere inputs gate) drivers → AreReached (before_gate gate) drivers
before_gate-there inputs gate [] all = tt
before_gate-there inputs gate (driver ∷ drivers) all = (by driver (All-head (IsThere inputs gate) driver drivers all), before_gate-there inputs gate drivers (All-tail (IsThere inputs gate) driver drivers all))
  where
    by : (driver : Driver) → IsThere inputs gate driver → before_gate gate driver ≡ true
    by (Input i) there = refl
    by (Gate k) there = lt-ltb k gate there

pub DrivesNone-there : (inputs gate later : ℕ) (drivers : List Driver) → gate ≤ later → All (IsThere inputs gate) drivers → DrivesNone (Gate later) drivers
DrivesNone-there inputs gate later [] low all = tt
DrivesNone-there inputs gate later (driver ∷ drivers) low all = (by driver (All-head (IsThere inputs gate) driver drivers all), DrivesNone-there inputs gate later drivers low (All-tail (IsThere inputs gate) driver drivers all))
  where
    by : (driver : Driver) → IsThere inputs gate driver → same_driver (Gate later) driver ≡ false
    by (Input i) there = refl
    by (Gate k) there = ne_eqb later k (λ e. omega arith)

pub DrivesNone-append : (driver : Driver) (xs ys : List Driver) → DrivesNone driver xs → DrivesNone driver ys → DrivesNone driver (xs ++ ys)
DrivesNone-append driver [] ys before rest = rest
DrivesNone-append driver (x ∷ xs) ys before rest = (before.0, DrivesNone-append driver xs ys before.1 rest)

-- one gate more
pub before_gate-next : (gate : ℕ) (driver : Driver) → before_gate (gate + 1) driver ≡ and_driver (before_gate gate) (Gate gate) driver
before_gate-next gate (Input i) = refl
before_gate-next gate (Gate k) = nat_lt-next k gate

pub before_gate-late : (gate : ℕ) (other : Driver) → same_driver (Gate gate) other ≡ true → before_gate gate other ≡ false
before_gate-late gate other same = ap (before_gate gate) (sym ((same_driver-decides (Gate gate) other).0 same)) ∙ le-ltb gate gate (omega arith)

pub tap_stage-same : (chained : Chained) (driver other : Driver) (its : ℕ) → same_driver driver other ≡ true → tap_stage chained other its ≡ tap_stage chained driver its
tap_stage-same chained driver other its same = ap (λ d. tap_stage chained d its) (sym ((same_driver-decides driver other).0 same))

-- A gate whose pins wait, and its chain: behind it the later pins wait.
Stands-gate : (chained : Chained) (first : ℕ) (start : Wires ℕ) (used rest : List Driver) (gate pin : ℕ) (row : GateRow) (layout : Layout) →
    1 ≤ chained.n →
    pin ≡ length used →
    pin_drivers chained.gates ≡ (used ++ row.pins) ++ rest →
    length row.pins ≡ arity_of row.cell →
    AreReached (before_gate gate) row.pins →
    DrivesNone (Gate gate) (used ++ row.pins) →
    PinsInTime chained (slice_index chained.stages gate) pin row.pins →
    1 ≤ tap_count chained.needs (Gate gate) 0 (pin_drivers chained.gates) →
    Stands chained.n first start (tap_stage chained) chained.needs pin (row.pins ++ rest) (by_driver (before_gate gate)) (λ w. 0) layout →
    Stands chained.n first start (tap_stage chained) chained.needs (pin + length row.pins) rest (by_driver (before_gate (gate + 1))) (λ w. 0) (with_gate chained gate pin row layout)
Stands-gate chained first start used rest gate pin row layout some here all each reached none timed tapped h =
    let n = chained.n in
    let mine = row.pins in
    let user = slice_index chained.stages gate in
    let marks = by_driver (before_gate gate) in
    let room = h.room in
    let joined = length-append mine rest in
    let wires = pin_wires layout.taken pin mine in
    let taken_by : wires ≡ take (length mine) (drop pin layout.taken) = pin_wires-take layout.taken pin mine (omega (arith, joined, room)) in
    let next = pin + length mine in
    let cell = IsLaid-cell n first start layout.elements layout.next (λ w. times w (held marks chained.needs layout.taken next rest)) row.cell user wires
    (IsLaid-waits n first start layout.elements layout.next (λ w. 0 + times w (held marks chained.needs layout.taken pin (mine ++ rest))) (λ w. times w wires + times w (held marks chained.needs layout.taken next rest))
    (λ w. let e = ap (times w) (held-reached (before_gate gate) chained.needs layout.taken pin mine rest reached) in
    let f = times-append w wires (held marks chained.needs layout.taken next rest) in omega (arith, e, f)) h.laid)
    (length-pin_wires layout.taken pin mine ∙ each)
    (ArriveInTime-pins chained (after start layout.elements) (before_gate gate) layout.taken user pin mine rest reached timed h.staged) in
    let line = Clocked row.cell user wires layout.next in
    let begun : GoesOn n first start (tap_stage chained) chained.needs next rest marks (λ w. 0) (with_cell row.cell user wires layout) layout.next user = record {
      stands = record {
        laid = IsLaid-waits n first start (layout.elements ++ line ∷ []) (layout.next + 1) (λ w. once w layout.next + times w (held marks chained.needs layout.taken next rest))
            (λ w. (once w layout.next + 0) + times w (held marks chained.needs layout.taken next rest)) (λ w. omega arith) cell.0;
        staged = AreStaged-step start layout.elements (line ∷ []) (tap_stage chained) marks chained.needs layout.taken next rest
            (AreStaged-behind (after start layout.elements) (tap_stage chained) marks chained.needs layout.taken pin mine rest h.staged);
        room = omega (arith, joined, room);
      };
      source = cell.1;
    } in
    let at : next ≡ length (used ++ mine) = omega (arith, here, length-append used mine) in
    let tapped_here : 1 ≤ tap_count chained.needs (Gate gate) 0 ((used ++ mine) ++ rest) = subst (λ (ds : List Driver). 1 ≤ tap_count chained.needs (Gate gate) 0 ds) all tapped in
    let done = Stands-chain n first start (tap_stage chained) chained.needs (used ++ mine) rest (before_gate gate) (λ w. 0) (Gate gate) user layout.next (with_cell row.cell user wires layout)
    some none (before_gate-late gate) (tap_stage-same chained (Gate gate)) tapped_here
    (subst (λ p. GoesOn n first start (tap_stage chained) chained.needs p rest marks (λ w. 0) (with_cell row.cell user wires layout) layout.next user) at begun) in
    let whole : Stands n first start (tap_stage chained) chained.needs next rest (by_driver (and_driver (before_gate gate) (Gate gate))) (λ w. 0) (with_chain n user layout.next (taps_at chained.needs (pin_drivers chained.gates) (Gate gate)) (with_cell row.cell user (take (length mine) (drop pin layout.taken)) layout)) =
    subst (λ (ws : List ℕ). Stands n first start (tap_stage chained) chained.needs next rest (by_driver (and_driver (before_gate gate) (Gate gate))) (λ w. 0) (with_chain n user layout.next (taps_at chained.needs (pin_drivers chained.gates) (Gate gate)) (with_cell row.cell user ws layout))) taken_by
    (subst (λ (ds : List Driver). Stands n first start (tap_stage chained) chained.needs next rest (by_driver (and_driver (before_gate gate) (Gate gate))) (λ w. 0) (with_chain n user layout.next (taps_at chained.needs ds (Gate gate)) (with_cell row.cell user wires layout))) (sym all)
    (subst (λ p. Stands n first start (tap_stage chained) chained.needs p rest (by_driver (and_driver (before_gate gate) (Gate gate))) (λ w. 0) (with_chain n user layout.next (taps_at chained.needs ((used ++ mine) ++ rest) (Gate gate)) (with_cell row.cell user wires layout))) (sym at) done)) in
    Stands-agree n first start (tap_stage chained) chained.needs next rest (by_driver (and_driver (before_gate gate) (Gate gate))) (by_driver (before_gate (gate + 1))) (λ w. 0) (with_gate chained gate pin row layout)
    (MarksAgree-all (by_driver (and_driver (before_gate gate) (Gate gate))) (by_driver (before_gate (gate + 1))) chained.needs next rest (λ driver need. before_gate-next gate driver)) whole

-- the rows that are left, of which the first is this gate
abbrev pub AreGatesFrom : ℕ → ℕ → List GateRow → Type 0
AreGatesFrom inputs gate [] = ⊤
AreGatesFrom inputs gate (row ∷ rows) = IsGate inputs gate row × AreGatesFrom inputs (gate + 1) rows

-- All gates from one on: at the end the pins of the outputs wait.
pub Stands-gates : (chained : Chained) (first : ℕ) (start : Wires ℕ) (used rest : List Driver) (gate pin : ℕ) (rows : List GateRow) (layout : Layout) →
    1 ≤ chained.n →
    pin ≡ length used →
    pin_drivers chained.gates ≡ used ++ (flat_map (λ row. row.pins) rows ++ rest) →
    AreGatesFrom chained.gates.inputs gate rows →
    ((later : ℕ) → gate ≤ later → DrivesNone (Gate later) used) →
    ((k : ℕ) → gate ≤ k → k < gate + length rows → 1 ≤ tap_count chained.needs (Gate k) 0 (pin_drivers chained.gates)) →
    GatesInTime chained gate pin rows →
    Stands chained.n first start (tap_stage chained) chained.needs pin (flat_map (λ row. row.pins) rows ++ rest) (by_driver (before_gate gate)) (λ w. 0) layout →
    Stands chained.n first start (tap_stage chained) chained.needs (pin + gate_pins rows) rest (by_driver (before_gate (gate + length rows))) (λ w. 0) (with_gates chained gate pin rows layout)
Stands-gates chained first start used rest gate pin [] layout some here all gates none tapped timed h =
    let p : pin ≡ pin + 0 = omega arith in
    let g : gate ≡ gate + 0 = omega arith in
    subst (λ k. Stands chained.n first start (tap_stage chained) chained.needs (pin + 0) rest (by_driver (before_gate k)) (λ w. 0) layout) g
    (subst (λ k. Stands chained.n first start (tap_stage chained) chained.needs k rest (by_driver (before_gate gate)) (λ w. 0) layout) p h)
Stands-gates chained first start used rest gate pin (row ∷ rows) layout some here all gates none tapped timed h =
    let mine = row.pins in
    let later = flat_map (λ (row : GateRow). row.pins) rows in
    let split : (mine ++ later) ++ rest ≡ mine ++ (later ++ rest) = append_assoc mine later rest in
    let whole : pin_drivers chained.gates ≡ (used ++ mine) ++ (later ++ rest) = all ∙ ap (λ (l : List Driver). used ++ l) split ∙ sym (append_assoc used mine (later ++ rest)) in
    let mine_none : (k : ℕ) → gate ≤ k → DrivesNone (Gate k) (used ++ mine) =
    λ k low. DrivesNone-append (Gate k) used mine (none k low) (DrivesNone-there chained.gates.inputs gate k mine low gates.0.drivers) in
    let step = Stands-gate chained first start used (later ++ rest) gate pin row layout some here whole gates.0.arity
    (before_gate-there chained.gates.inputs gate mine gates.0.drivers) (mine_none gate (omega arith)) timed.0 (tapped gate (omega arith) (omega arith))
    (subst (λ (l : List Driver). Stands chained.n first start (tap_stage chained) chained.needs pin l (by_driver (before_gate gate)) (λ w. 0) layout) split h) in
    let done = Stands-gates chained first start (used ++ mine) rest (gate + 1) (pin + length mine) rows (with_gate chained gate pin row layout) some (omega (arith, here, length-append used mine)) whole gates.1
    (λ k low. mine_none k (omega arith)) (λ k low high. tapped k (omega arith) (omega arith)) timed.1 step in
    let p : (pin + length mine) + gate_pins rows ≡ pin + (length mine + gate_pins rows) = omega arith in
    let g : (gate + 1) + length rows ≡ gate + suc (length rows) = omega arith in
    let lay = with_gates chained (gate + 1) (pin + length mine) rows (with_gate chained gate pin row layout) in
    subst (λ k. Stands chained.n first start (tap_stage chained) chained.needs (pin + (length mine + gate_pins rows)) rest (by_driver (before_gate k)) (λ w. 0) lay) g
    (subst (λ k. Stands chained.n first start (tap_stage chained) chained.needs k rest (by_driver (before_gate ((gate + 1) + length rows))) (λ w. 0) lay) p done)
