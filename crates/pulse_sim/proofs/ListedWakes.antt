-- What is listed for a phase: of sites and places that are there, and found at the phase's number.
use Rattle.std.proofs.Common.{◌≡◌, ℕ, ◌<◌, ◌≤◌, ◌+◌, Bool, true, false, List, [], ◌∷◌, ◌++◌, length, get_or, sym, ap, ◌∙◌, arith}
use Rattle.std.specs.Prelude.{Option, Some, None, ◌==◌, if◌then◌else◌, slice_get, All}
use Rattle.std.proofs.lemmas.Option.{get_or_from_slice_get}
use Rattle.std.proofs.lemmas.List.Elements.{All-nil, All-cons, All-append}
use Rattle.std.proofs.lemmas.List.FromFn.{length-map-range_with_len, get_or-map-range_with_len}
use Rattle.pulse_sim.specs.declared.site.PinBits.{PinBits}
use Rattle.pulse_sim.specs.declared.site.Part.{Part}
use Rattle.pulse_sim.specs.declared.site.Part.TheVariants.{Clocked, Split}
use Rattle.pulse_sim.specs.declared.site.Site.{Site}
use Rattle.pulse_sim.specs.declared.root.Root.{Root}
use Rattle.pulse_sim.specs.declared.wakes.Firing.{Firing}
use Rattle.pulse_sim.specs.declared.wakes.Delivery.{Delivery}
use Rattle.pulse_sim.specs.declared.wakes.Wakes.{Wakes}
use Rattle.pulse_sim.specs.Sites.{part_wires, site_wires}
use Rattle.pulse_sim.specs.Roots.{parts_of, root_at, part_roots}
use Rattle.pulse_sim.specs.Wakes.{part_firings, firings_from, is_of, first_pin, second_pin, third_pin, pin_deliveries, part_deliveries, deliveries_from, phase_wakes, all_wakes}

module _ (phase sites places : ℕ) where
  abbrev pub Fits : Firing → Type 0
  Fits firing = (firing.at < sites) × (firing.place < places)

  part-fits : (at place : ℕ) (part : Part) → at < sites → place + part_wires part ≤ places → All Fits (part_firings phase at place part)
  part-fits at place (Split from) low room = All-nil Fits
  part-fits at place (Clocked cell its_phase pins) low room = by (phase == its_phase)
    where
      by : (here : Bool) → All Fits (if here then record { at = at; place = place } ∷ [] else [])
      by true = All-cons Fits (record { at = at; place = place }) [] (low, omega arith) (All-nil Fits)
      by false = All-nil Fits

  -- a firing is of a site and a place that are there
  pub firings-fit : (its : List Site) (at place : ℕ) → at + length its ≤ sites → place + site_wires its ≤ places → All Fits (firings_from phase at place (parts_of its))
  firings-fit [] at place low room = All-nil Fits
  firings-fit (site ∷ its) at place low room =
      All-append Fits (part_firings phase at place site.part) (firings_from phase (at + 1) (place + part_wires site.part) (parts_of its)) (part-fits at place site.part (omega arith) (omega arith)) (firings-fit its (at + 1) (place + part_wires site.part) (omega arith) (omega arith))

module _ (clock : Option ℕ) (sites : ℕ) where
  abbrev pub Reaches : Delivery → Type 0
  Reaches delivery = delivery.at < sites

  pin-reaches : (at : ℕ) (pin : PinBits) (root : Option Root) → at < sites → All Reaches (pin_deliveries clock at pin root)
  pin-reaches at pin None low = All-nil Reaches
  pin-reaches at pin (Some root) low = by (is_of clock root.clock)
    where
      by : (here : Bool) → All Reaches (if here then record { root = root.place; at = at; pin = pin } ∷ [] else [])
      by true = All-cons Reaches (record { root = root.place; at = at; pin = pin }) [] low (All-nil Reaches)
      by false = All-nil Reaches

  part-reaches : (at : ℕ) (roots : List (Option Root)) (part : Part) → at < sites → All Reaches (part_deliveries clock at roots part)
  part-reaches at roots (Split from) low = All-nil Reaches
  part-reaches at roots (Clocked cell its_phase pins) low =
      let first = pin_deliveries clock at first_pin (root_at roots pins.first) in
      let second = pin_deliveries clock at second_pin (root_at roots pins.second) in
      let third = pin_deliveries clock at third_pin (root_at roots pins.third) in
      All-append Reaches first (second ++ third) (pin-reaches at first_pin (root_at roots pins.first) low)
      (All-append Reaches second third (pin-reaches at second_pin (root_at roots pins.second) low) (pin-reaches at third_pin (root_at roots pins.third) low))

  -- a delivery is to a site that is there
  pub deliveries-reach : (its : List Site) (at : ℕ) (roots : List (Option Root)) → at + length its ≤ sites → All Reaches (deliveries_from clock at roots (parts_of its))
  deliveries-reach [] at roots low = All-nil Reaches
  deliveries-reach (site ∷ its) at roots low =
      All-append Reaches (part_deliveries clock at roots site.part) (deliveries_from clock (at + 1) (roots ++ part_roots roots site.part) (parts_of its)) (part-reaches at roots site.part (omega arith)) (deliveries-reach its (at + 1) (roots ++ part_roots roots site.part) (omega arith))

pub wakes-counted : (phases inputs : ℕ) (parts : List Part) → length (all_wakes phases inputs parts) ≡ phases
wakes-counted phases inputs parts = length-map-range_with_len (phase_wakes inputs parts) 0 phases

-- what is taken for a phase is that of the phase
pub wakes-taken : (phases inputs : ℕ) (parts : List Part) (phase : ℕ) (wakes : List Wakes) (taken : Wakes) → wakes ≡ all_wakes phases inputs parts → phase < phases → slice_get wakes phase ≡ Some taken → taken ≡ phase_wakes inputs parts phase
wakes-taken phases inputs parts phase wakes taken all below got =
    sym (get_or_from_slice_get wakes phase taken taken got) ∙ ap (λ (w : List Wakes). get_or w phase taken) all ∙ get_or-map-range_with_len (phase_wakes inputs parts) 0 phases phase phase taken below (omega arith)
