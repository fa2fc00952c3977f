-- One tick of a simulator: it shows the pulses of the netlist, and stands for the pulses so far with those of the tick.
--
-- The sites are gone over in order, and beside them the signals of the netlist under all pulses with those of the tick.
-- What is known of the wires before an element is what their signals do at this tick. A splitter hands on what it has. A
-- cell at its clock looks at its bits, which hold what pulsed from its last clock on: that is what pulsed in the n ticks
-- before (`kept-at_clock`), and signals at those ticks don't depend on the pulses of this one. Then its clock clears the
-- bits, and each pin takes the pulse of its wire, which was made before: so the bits hold what pulsed from the last clock
-- tick on, this tick included.
use Rattle.std.proofs.Common.{◌≡◌, ℕ, zero, suc, ◌≤◌, ◌+◌, ◌*◌, ◌/◌, ◌%◌, Bool, true, false, not, ◌&&◌, ◌||◌, List, [], ◌∷◌, ◌++◌, length, map, take, get_or, nat_eq, refl, sym, ap, ap₂, ◌∙◌, arith, append_assoc, append-nil, length-append, add_assoc}
use Rattle.std.specs.Prelude.{Option, Some, None, ◌==◌, if◌then◌else◌, slice_get, flat_map, All}
use Rattle.std.specs.List.{position, AllByRecursion}
use Rattle.std.specs.Map.{keys_of}
use Rattle.std.proofs.Math.Seq.{get_or-append_seam}
use Rattle.std.proofs.Math.Nat.{mul-add-mod_self_left, div-add-mod}
use Rattle.std.proofs.lemmas.Bool.{eqb-true}
use Rattle.std.proofs.lemmas.List.{map-append}
use Rattle.std.proofs.lemmas.List.Elements.{recursion_from_All}
use Rattle.std.proofs.Math.Bool.{or_comm}
use Rattle.cell_lib.specs.declared.cell.Cell.{Cell}
use Rattle.cell_lib.specs.declared.cell.Cell.TheVariants.{Dro, Not, And, Or, Xor, Maj}
use Rattle.cell_lib.specs.Cell.{arity_of, cell_value}
use Rattle.pulse_net.specs.declared.net.Element.{Element}
use Rattle.pulse_net.specs.declared.net.Element.TheVariants.{Clocked, Split}
use Rattle.pulse_net.specs.declared.net.Outlet.{Outlet}
use Rattle.pulse_net.specs.declared.net.Outlet.TheVariants.{Zero, One, Wire}
use Rattle.pulse_net.specs.declared.net.PulseNet.{PulseNet}
use Rattle.pulse_net.specs.Formed.{HasItsPins}
use Rattle.pulse_net.specs.Wires.{Wires, found, carried, input_entries, element_wires, after_elements, input_stage, cell_stage, stages_of}
use Rattle.pulse_net.specs.Wired.{element_makes, makes_of, IsWired, ArriveInTime, ElementInTime, ElementsInTime, OutletInTime, OutletsInTime}
use Rattle.pulse_net.specs.Pulses.{Signal, silence, pulsed_within, input_signal, on_clock, window_value, cell_signal, signals_of, signal_of, outlet_signal}
use Rattle.pulse_net.proofs.CallerLemmas.{carried-found, after_elements-found}
use Rattle.pulse_sim.specs.declared.site.Part.{Part}
use Rattle.pulse_sim.specs.declared.site.Site.{Site}
use Rattle.pulse_sim.specs.declared.site.Tap.{Tap}
use Rattle.pulse_sim.specs.Sites.{Sweep, pulse_at, cell_pulse, next_bit, site_pulses, next_site, sweep}
use Rattle.pulse_sim.specs.Simulators.{SimState, StandsFor, place_of, since_clock, pin_bit, pin_place, part_of, bits_of, site_of, tap_of, used_inputs, input_pulses, swept, tap_pulse, tap_pulses, next_state, output_pulses}
use Rattle.pulse_sim.proofs.PairedWires.{Paired, none, more, paired-append, paired-found}
use Rattle.pulse_sim.proofs.LaterPulses.{Agree, within-agrees, signals_ignore_later_pulses}
use Rattle.pulse_sim.proofs.ClockWindow.{kept-at_clock, pulsed_within-none}
use Rattle.pulse_sim.proofs.PlacesOfWires.{keys-elements, keys-wires, doing, pulse_at-place}

or-false : (a : Bool) → (a || false) ≡ a
or-false true = refl
or-false false = refl

-- a pin that isn't there is never set
unset : (here : Bool) → ((not here && false) || false) ≡ false
unset true = refl
unset false = refl

-- The clock clears what is kept, and the pulse of the tick is added.
kept-next : (here : Bool) (before signal : Signal) (tick kept : ℕ) (pulse : Bool) → Agree tick before signal → pulse ≡ signal tick → ((not here && pulsed_within before tick kept) || pulse) ≡ pulsed_within signal (suc tick) (if here then 1 else kept + 1)
kept-next true before signal tick kept pulse same e = e ∙ sym (ap (λ q. signal tick || q) (pulsed_within-none signal tick) ∙ or-false (signal tick))
kept-next false before signal tick kept pulse same e =
    let up : kept + 1 ≡ suc kept = omega arith in
    or_comm (pulsed_within before tick kept) pulse
    ∙ ap₂ (λ p q. p || q) e (within-agrees tick before signal same tick kept (omega arith))
    ∙ sym (ap (pulsed_within signal (suc tick)) up)

-- the bits of as many pins as there are
few-bits : (bit : Option ℕ → Bool) (pins : List ℕ) → length pins ≤ 3 → take (length pins) (bit (slice_get pins 0) ∷ (bit (slice_get pins 1) ∷ (bit (slice_get pins 2) ∷ []))) ≡ map (λ pin. bit (Some pin)) pins
few-bits bit [] few = refl
few-bits bit (a ∷ []) few = refl
few-bits bit (a ∷ (b ∷ [])) few = refl
few-bits bit (a ∷ (b ∷ (c ∷ []))) few = refl
few-bits bit (a ∷ (b ∷ (c ∷ (d ∷ pins)))) few = absurd (omega arith)

few-pins : (cell : Cell) → arity_of cell ≤ 3
few-pins Dro = omega arith
few-pins Not = omega arith
few-pins And = omega arith
few-pins Or = omega arith
few-pins Xor = omega arith
few-pins Maj = omega arith

-- sites with the same bits
alike : (part : Part) {a a' b b' c c' : Bool} → a ≡ a' → b ≡ b' → c ≡ c' → (let site : Site = record { part = part; bits = record { first = a; second = b; third = c } } in site) ≡ (let site : Site = record { part = part; bits = record { first = a'; second = b'; third = c' } } in site)
alike part {a} {a'} {b} {b'} {c} {c'} e f g =
    let site : Bool → Bool → Bool → Site = λ a b c. record { part = part; bits = record { first = a; second = b; third = c } } in
    ap (λ x. site x b c) e ∙ ap (λ x. site a' x c) f ∙ ap (λ x. site a' b' x) g

-- stages and signals of the same wires
abbrev Both : Wires ℕ → Wires Signal → Type 0
Both made wires = Paired (λ (stage : ℕ) (signal : Signal). Unit {0}) made wires

module _ (net : PulseNet) (pulses : List (List Bool)) (row : List Bool) (some : 1 ≤ net.phases) where
  abbrev later : List (List Bool)
  later = pulses ++ row ∷ []

  abbrev tick : ℕ
  tick = length pulses

  longer : length later ≡ suc tick
  longer = let long = length-append pulses (row ∷ []) in omega (arith, long)

  both-wires : (made : Wires ℕ) (wires : Wires Signal) (element : Element) → Both (element_wires 0 cell_stage made element) (element_wires silence (cell_signal net.phases) wires element)
  both-wires made wires (Clocked cell stage pins out) = more out _ _ [] [] tt none
  both-wires made wires (Split from left right) = more left _ _ _ _ tt (more right _ _ [] [] tt none)

  -- these are the signals of the first wires, and these elements make the rest
  abbrev Begins : Wires Signal → List Element → Type 0
  Begins wires rest = after_elements silence (cell_signal net.phases) wires rest ≡ signals_of net later

  module _ (wires : Wires Signal) (rest : List Element) (begins : Begins wires rest) (wire : ℕ) (signal : Signal) (made : found wires wire ≡ Some signal) where
    signal-is : signal_of net later wire ≡ signal
    signal-is = carried-found silence (signals_of net later) wire signal (ap (λ (all : Wires Signal). found all wire) (sym begins) ∙ after_elements-found silence (cell_signal net.phases) wires rest wire signal made)

    place-does : pulse_at (doing tick wires) (place_of net wire) ≡ signal tick
    place-does =
        let keys : makes_of net ≡ keys_of wires ++ flat_map element_makes rest = sym (keys-wires silence (input_signal later) (cell_signal net.phases) net) ∙ ap keys_of (sym begins) ∙ keys-elements silence (cell_signal net.phases) rest wires in
        ap (λ (keys : List ℕ). pulse_at (doing tick wires) (position (nat_eq wire) keys)) keys ∙ pulse_at-place tick wire signal (flat_map element_makes rest) wires made

  earlier : (wire : ℕ) → Agree tick (signal_of net pulses wire) (signal_of net later wire)
  earlier wire t early = signals_ignore_later_pulses net pulses (row ∷ []) wire t early

  module _ (made : Wires ℕ) (wires : Wires Signal) (both : Both made wires) (rest : List Element) (begins : Begins wires rest) where
    -- at its clock a cell sees what pulsed on its pins in the n ticks before
    pins-seen : (stage user : ℕ) → tick % net.phases ≡ stage % net.phases → (pins : List ℕ) → ArriveInTime net.phases made user pins → map (λ pin. pin_bit net pulses stage (Some pin)) pins ≡ map (λ pin. pulsed_within pin tick net.phases) (map (carried silence wires) pins)
    pins-seen stage user here [] h = refl
    pins-seen stage user here (pin ∷ pins) h =
        let its = paired-found pin h.0.0 both h.0.1 in
        let one = kept-at_clock net.phases some stage (signal_of net pulses pin) tick here
        ∙ within-agrees tick (signal_of net pulses pin) (signal_of net later pin) (earlier pin) tick net.phases (omega arith)
        ∙ ap (λ (s : Signal). pulsed_within s tick net.phases) (signal-is wires rest begins pin its.0 its.1 ∙ sym (carried-found silence wires pin its.0 its.1)) in
        ap₂ (λ v vs. v ∷ vs) one (pins-seen stage user here pins h.1)

    pulse-right : (here : Bool) (cell : Cell) (stage : ℕ) (pins : List ℕ) (out : ℕ) → (tick % net.phases == stage % net.phases) ≡ here → length pins ≡ arity_of cell → ArriveInTime net.phases made stage pins → cell_pulse here cell (bits_of net pulses (Clocked cell stage pins out)) ≡ on_clock here (window_value net.phases cell (map (carried silence wires) pins)) tick
    pulse-right false cell stage pins out e many h = refl
    pulse-right true cell stage pins out e many h =
        let few : length pins ≤ 3 = (let a = few-pins cell in omega (arith, a, many)) in
        ap (λ k. cell_value cell (take k (pin_bit net pulses stage (slice_get pins 0) ∷ (pin_bit net pulses stage (slice_get pins 1) ∷ (pin_bit net pulses stage (slice_get pins 2) ∷ []))))) (sym many)
        ∙ ap (cell_value cell) (few-bits (pin_bit net pulses stage) pins few ∙ pins-seen stage stage (eqb-true (tick % net.phases) (stage % net.phases) e) pins h)

    -- each pin keeps what pulsed from the last clock tick on, this tick included
    pin-next : (stage user : ℕ) (pins : List ℕ) → ArriveInTime net.phases made user pins → (k : ℕ) → next_bit (tick % net.phases == stage % net.phases) (doing tick wires) (pin_place net (slice_get pins k)) (pin_bit net pulses stage (slice_get pins k)) ≡ pin_bit net later stage (slice_get pins k)
    pin-next stage user [] h k = unset (tick % net.phases == stage % net.phases)
    pin-next stage user (pin ∷ pins) h zero =
        let its = paired-found pin h.0.0 both h.0.1 in
        kept-next (tick % net.phases == stage % net.phases) (signal_of net pulses pin) (signal_of net later pin) tick (since_clock net.phases stage tick) (pulse_at (doing tick wires) (place_of net pin)) (earlier pin)
        (place-does wires rest begins pin its.0 its.1 ∙ sym (ap (λ (s : Signal). s tick) (signal-is wires rest begins pin its.0 its.1)))
        ∙ sym (ap (λ ticks. pulsed_within (signal_of net later pin) ticks (since_clock net.phases stage ticks)) longer)
    pin-next stage user (pin ∷ pins) h (suc k) = pin-next stage user pins h.1 k

    element-pulses : (element : Element) → HasItsPins element → ElementInTime net.phases made element → site_pulses (tick % net.phases) (doing tick wires) (site_of net pulses element) ≡ doing tick (element_wires silence (cell_signal net.phases) wires element)
    element-pulses (Clocked cell stage pins out) many h = ap (λ p. p ∷ []) (pulse-right (tick % net.phases == stage % net.phases) cell stage pins out refl many h)
    element-pulses (Split from left right) many h =
        let its = paired-found from h.0 both h.1 in
        let does : pulse_at (doing tick wires) (place_of net from) ≡ carried silence wires from tick = place-does wires rest begins from its.0 its.1 ∙ ap (λ (s : Signal). s tick) (sym (carried-found silence wires from its.0 its.1)) in
        ap (λ p. p ∷ (p ∷ [])) does

    element-next : (element : Element) → ElementInTime net.phases made element → next_site (tick % net.phases) (doing tick wires) (site_of net pulses element) ≡ site_of net later element
    element-next (Clocked cell stage pins out) h =
        alike (part_of net (Clocked cell stage pins out)) (pin-next stage stage pins h 0) (pin-next stage stage pins h 1) (pin-next stage stage pins h 2)
    element-next (Split from left right) h = refl

  -- the induction over the elements
  sweep-right : (rest : List Element) (made : Wires ℕ) (wires : Wires Signal) (done : List Site) → Both made wires → Begins wires rest → AllByRecursion HasItsPins rest → ElementsInTime net.phases made rest →
      sweep (tick % net.phases) (map (site_of net pulses) rest) (record { seen = doing tick wires; sites = done }) ≡ record { seen = doing tick (signals_of net later); sites = done ++ map (site_of net later) rest }
  sweep-right [] made wires done both begins pins h =
      ap₂ (λ (seen : List Bool) (sites : List Site). let so : Sweep = record { seen = seen; sites = sites } in so) (ap (doing tick) begins) (sym (append-nil done))
  sweep-right (element ∷ rest) made wires done both begins pins h =
      let its = element_wires silence (cell_signal net.phases) wires element in
      let seen : doing tick wires ++ site_pulses (tick % net.phases) (doing tick wires) (site_of net pulses element) ≡ doing tick (wires ++ its) =
      ap (λ p. doing tick wires ++ p) (element-pulses made wires both (element ∷ rest) begins element pins.0 h.0) ∙ sym (map-append (λ (e : ℕ × Signal). e.1 tick) wires its) in
      ap₂ (λ (seen : List Bool) (site : Site). sweep (tick % net.phases) (map (site_of net pulses) rest) (record { seen = seen; sites = done ++ site ∷ [] })) seen (element-next made wires both (element ∷ rest) begins element h.0)
      ∙ sweep-right rest (made ++ element_wires 0 cell_stage made element) (wires ++ its) (done ++ site_of net later element ∷ []) (paired-append both (both-wires made wires element)) begins pins.1 h.1
      ∙ ap (λ (sites : List Site). let so : Sweep = record { seen = doing tick (signals_of net later); sites = sites } in so) (append_assoc done (site_of net later element ∷ []) (map (site_of net later) rest))

  row-now : get_or later tick [] ≡ row
  row-now = get_or-append_seam pulses row [] []

  -- the used inputs do what is in the row
  inputs-right : (inputs : List (Option ℕ)) (place : ℕ) → input_pulses row (used_inputs place inputs) ≡ doing tick (input_entries (input_signal later) place inputs)
  inputs-right [] place = refl
  inputs-right (None ∷ inputs) place = inputs-right inputs (place + 1)
  inputs-right (Some wire ∷ inputs) place = ap₂ (λ p ps. p ∷ ps) (sym (ap (λ r. get_or r place false) row-now)) (inputs-right inputs (place + 1))

  both-inputs : (inputs : List (Option ℕ)) (place : ℕ) → Both (input_entries input_stage place inputs) (input_entries (input_signal later) place inputs)
  both-inputs [] place = none
  both-inputs (None ∷ inputs) place = both-inputs inputs (place + 1)
  both-inputs (Some wire ∷ inputs) place = more wire _ _ _ _ tt (both-inputs inputs (place + 1))

  both-elements : (elements : List Element) (made : Wires ℕ) (wires : Wires Signal) → Both made wires → Both (after_elements 0 cell_stage made elements) (after_elements silence (cell_signal net.phases) wires elements)
  both-elements [] made wires both = both
  both-elements (element ∷ elements) made wires both = both-elements elements (made ++ element_wires 0 cell_stage made element) (wires ++ element_wires silence (cell_signal net.phases) wires element) (paired-append both (both-wires made wires element))

  both-all : Both (stages_of net) (signals_of net later)
  both-all = both-elements net.elements _ _ (both-inputs net.inputs 0)

  tap-right : (user : ℕ) (outlet : Outlet) → OutletInTime net.phases user (stages_of net) outlet → tap_pulse (tick % net.phases) (doing tick (signals_of net later)) (tap_of net outlet) ≡ outlet_signal net.phases (signals_of net later) outlet tick
  tap-right user Zero h = refl
  tap-right user One h = refl
  tap-right user (Wire wire) h =
      let its = paired-found wire h.0 both-all h.1 in
      place-does (signals_of net later) [] refl wire its.0 its.1 ∙ ap (λ (s : Signal). s tick) (sym (carried-found silence (signals_of net later) wire its.0 its.1))

  taps-right : (user : ℕ) (outlets : List Outlet) → OutletsInTime net.phases user (stages_of net) outlets → map (tap_pulse (tick % net.phases) (doing tick (signals_of net later))) (map (tap_of net) outlets) ≡ map (λ outlet. outlet_signal net.phases (signals_of net later) outlet tick) outlets
  taps-right user [] h = refl
  taps-right user (outlet ∷ outlets) h = ap₂ (λ p ps. p ∷ ps) (tap-right user outlet h.0) (taps-right user outlets h.1)

  tick-next : (tick % net.phases + 1) % net.phases ≡ length later % net.phases
  tick-next =
      let n = net.phases in
      let q = div-add-mod tick n in
      sym (mul-add-mod_self_left n (tick / n) (tick % n + 1)) ∙ ap (λ t. t % n) (sym (add_assoc (n * (tick / n)) (tick % n) 1) ∙ ap (λ t. t + 1) q ∙ (let e : tick + 1 ≡ length later = omega (arith, longer) in e))

  module _ (sim : SimState) (stands : StandsFor net sim pulses) (wired : IsWired net) (pins : All HasItsPins net.elements) where
    -- in one tick the simulator does what the netlist does
    swept-right : swept sim row ≡ record { seen = doing tick (signals_of net later); sites = map (site_of net later) net.elements }
    swept-right =
        ap (λ t. sweep t sim.sites (record { seen = input_pulses row sim.inputs; sites = [] })) stands.tick
        ∙ ap (λ (sites : List Site). sweep (tick % net.phases) sites (record { seen = input_pulses row sim.inputs; sites = [] })) stands.sites
        ∙ ap (λ (seen : List Bool). sweep (tick % net.phases) (map (site_of net pulses) net.elements) (record { seen = seen; sites = [] })) (ap (input_pulses row) stands.inputs ∙ inputs-right net.inputs 0)
        ∙ sweep-right net.elements (input_entries input_stage 0 net.inputs) (input_entries (input_signal later) 0 net.inputs) [] (both-inputs net.inputs 0) refl (recursion_from_All HasItsPins net.elements pins) wired.elements

    -- Its outputs are those of the netlist at this tick,
    pub outputs-shown : tap_pulses sim row ≡ output_pulses net later tick
    outputs-shown =
        ap (λ (so : Sweep). map (tap_pulse sim.tick so.seen) sim.taps) swept-right
        ∙ ap (λ t. map (tap_pulse t (doing tick (signals_of net later))) sim.taps) stands.tick
        ∙ ap (λ (taps : List Tap). map (tap_pulse (tick % net.phases) (doing tick (signals_of net later))) taps) stands.taps
        ∙ taps-right (net.phases * net.latency) net.outputs wired.outputs

    -- and then it stands for the pulses with those of the tick.
    pub stands-next : StandsFor net (next_state sim row) later
    stands-next = record {
      phases = stands.phases;
      tick = ap (λ t. (t + 1) % sim.phases) stands.tick ∙ ap (λ n. (tick % net.phases + 1) % n) stands.phases ∙ tick-next;
      inputs = stands.inputs;
      sites = ap (λ (so : Sweep). so.sites) swept-right;
      taps = stands.taps;
    }
