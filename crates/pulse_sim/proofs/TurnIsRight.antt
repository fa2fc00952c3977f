-- A tick in which the cells of its phase fire, and their pulses and those of the inputs are then delivered, comes to the same as to
-- take the sites in order.
--
-- In order, each wire does what its root does: an input and a cell are their own roots, and a splitter hands on what its source does.
-- What the roots do is known once the cells have fired. A pin's root is an input or a cell of one phase, so at most one of the two
-- deliveries brings its pulse; and each pin loses its old bit before either comes.
use Rattle.std.proofs.Common.{◌≡◌, ℕ, ◌<◌, ◌≤◌, ◌+◌, Bool, true, false, ◌||◌, ◌&&◌, List, [], ◌∷◌, ◌++◌, length, map, get_or, take, drop, refl, sym, ap, ap₂, ◌∙◌, arith, append_assoc, append-nil, length-append, length-drop}
use Rattle.std.specs.Prelude.{Option, Some, None, ◌==◌, if◌then◌else◌}
use Rattle.std.specs.List.{fold, range_with_len}
use Rattle.std.proofs.Math.Seq.{get_or-append_seam}
use Rattle.std.proofs.Math.ListN.{get_or-map, get_or-append}
use Rattle.std.proofs.lemmas.List.FromFn.{length-map-range_with_len}
use Rattle.std.proofs.lemmas.List.{map-append, take-append-drop, length-take-le, get_or-take}
use Rattle.std.proofs.Math.Bool.{or_assoc}
use Rattle.pulse_sim.specs.declared.site.PinBits.{PinBits}
use Rattle.pulse_sim.specs.declared.site.Part.{Part}
use Rattle.pulse_sim.specs.declared.site.Part.TheVariants.{Clocked, Split}
use Rattle.pulse_sim.specs.declared.site.Site.{Site}
use Rattle.pulse_sim.specs.declared.root.Root.{Root}
use Rattle.pulse_sim.specs.Sites.{Sweep, pulse_at, cell_pulse, next_bits, part_pulses, part_bits, next_site, sweep, part_wires, site_wires}
use Rattle.pulse_sim.specs.Roots.{parts_of, root_at, part_roots, input_root, input_roots, roots_behind, roots_of, root_pulse}
use Rattle.pulse_sim.specs.Wakes.{no_bits, firings_of, deliveries_of, fired, delivered}
use Rattle.pulse_sim.proofs.FiredSites.{so_far, site_with, wires_after, bits_after, site_after, pulses_after, wires-counted, wires-left, fire-right}
use Rattle.pulse_sim.proofs.DeliveredPulses.{same-bits, coming, woken_bits, woken, deliver-right, parts-woken, none-woken, inputs-silent}

or-false : (bit : Bool) → (bit || false) ≡ bit
or-false true = refl
or-false false = refl

module _ (phase : ℕ) (pulses : List Bool) where
  -- the wire at a place does what its root does
  pub pulse_at-root : (roots : List (Option Root)) (place : Option ℕ) → pulse_at (map (root_pulse phase pulses) roots) place ≡ root_pulse phase pulses (root_at roots place)
  pulse_at-root roots None = refl
  pulse_at-root roots (Some place) = get_or-map (root_pulse phase pulses) roots place None

  -- what stands at a part's wires behind the firings is what its roots do
  part-seen : (roots : List (Option Root)) (before rest old : List Bool) (part : Part) (bits : PinBits) → length roots ≡ length before → pulses ≡ before ++ (wires_after phase part bits old ++ rest) → part_pulses phase (map (root_pulse phase pulses) roots) part bits ≡ map (root_pulse phase pulses) (part_roots roots part)
  part-seen roots before rest old (Split from) bits long all = ap (λ p. p ∷ (p ∷ [])) (pulse_at-root roots from)
  part-seen roots before rest old (Clocked cell its_phase pins) bits long all = ap (λ p. p ∷ []) (by (phase == its_phase) there)
    where
      there : get_or pulses (length roots) false ≡ (if phase == its_phase then cell_pulse true cell bits else get_or old 0 false)
      there = ap₂ (λ k (p : List Bool). get_or p k false) long all ∙ get_or-append_seam before (if phase == its_phase then cell_pulse true cell bits else get_or old 0 false) rest false

      by : (here : Bool) → get_or pulses (length roots) false ≡ (if here then cell_pulse true cell bits else get_or old 0 false) → cell_pulse here cell bits ≡ (here && get_or pulses (length roots) false)
      by true e = sym e
      by false e = refl

  -- the sites behind a tick, by what the roots do
  abbrev next_sites : List (Option Root) → List Site → List Site
  next_sites roots [] = []
  next_sites roots (site ∷ sites) = next_site phase (map (root_pulse phase pulses) roots) site ∷ next_sites (roots ++ part_roots roots site.part) sites

  roots-counted : (roots : List (Option Root)) (part : Part) → length (part_roots roots part) ≡ part_wires part
  roots-counted roots (Clocked cell its_phase pins) = refl
  roots-counted roots (Split from) = refl

  -- the induction over the sites in order
  sweep-right : (sites done : List Site) (roots : List (Option Root)) (before old : List Bool) → length roots ≡ length before → length old ≡ site_wires sites → pulses ≡ before ++ pulses_after phase sites old
      → sweep phase sites (so_far (map (root_pulse phase pulses) roots) done) ≡ so_far (map (root_pulse phase pulses) (roots_behind roots (parts_of sites))) (done ++ next_sites roots sites)
  sweep-right [] done roots before old long room all = ap (so_far (map (root_pulse phase pulses) roots)) (sym (append-nil done))
  sweep-right (site ∷ sites) done roots before old long room all =
      let its = wires_after phase site.part site.bits old in
      let rest = pulses_after phase sites (drop (part_wires site.part) old) in
      let more = part_roots roots site.part in
      let seen = map (root_pulse phase pulses) roots in
      let next = next_site phase seen site in
      let wide = wires-counted phase site.part site.bits old in
      let longer : length (roots ++ more) ≡ length (before ++ its) = (let a = length-append roots more in let b = length-append before its in let c = roots-counted roots site.part in omega (arith, a, b, c, wide, long)) in
      ap (λ p. sweep phase sites (so_far p (done ++ next ∷ []))) (ap (λ p. seen ++ p) (part-seen roots before rest old site.part site.bits long all) ∙ sym (map-append (root_pulse phase pulses) roots more))
      ∙ sweep-right sites (done ++ next ∷ []) (roots ++ more) (before ++ its) (drop (part_wires site.part) old) longer (wires-left phase site.part old (site_wires sites) room) (all ∙ sym (append_assoc before its rest))
      ∙ ap (so_far (map (root_pulse phase pulses) (roots_behind (roots ++ more) (parts_of sites)))) (append_assoc done (next ∷ []) (next_sites (roots ++ more) sites))

  -- of a cell of the phase and an input, a root is at most one
  coming-both : (root : Option Root) → (coming (Some phase) pulses root || coming None pulses root) ≡ root_pulse phase pulses root
  coming-both None = refl
  coming-both (Some root) = by root.clock
    where
      by : (clock : Option ℕ) → (coming (Some phase) pulses (Some (record { place = root.place; clock = clock })) || coming None pulses (Some (record { place = root.place; clock = clock }))) ≡ root_pulse phase pulses (Some (record { place = root.place; clock = clock }))
      by None = refl
      by (Some its_phase) = or-false (phase == its_phase && get_or pulses root.place false)

  bit-next : (bit : Bool) (roots : List (Option Root)) (place : Option ℕ) → ((bit || coming (Some phase) pulses (root_at roots place)) || coming None pulses (root_at roots place)) ≡ (bit || pulse_at (map (root_pulse phase pulses) roots) place)
  bit-next bit roots place = or_assoc bit (coming (Some phase) pulses (root_at roots place)) (coming None pulses (root_at roots place)) ∙ ap (λ p. bit || p) (coming-both (root_at roots place) ∙ sym (pulse_at-root roots place))

  part-next : (roots : List (Option Root)) (part : Part) (bits : PinBits) → woken_bits None pulses roots part (woken_bits (Some phase) pulses roots part (bits_after phase part bits)) ≡ part_bits phase (map (root_pulse phase pulses) roots) part bits
  part-next roots (Split from) bits = refl
  part-next roots (Clocked cell its_phase pins) bits = by (phase == its_phase)
    where
      by : (here : Bool) → woken_bits None pulses roots (Clocked cell its_phase pins) (woken_bits (Some phase) pulses roots (Clocked cell its_phase pins) (if here then no_bits else bits)) ≡ next_bits here (map (root_pulse phase pulses) roots) pins bits
      by true = same-bits (bit-next false roots pins.first) (bit-next false roots pins.second) (bit-next false roots pins.third)
      by false = same-bits (bit-next bits.first roots pins.first) (bit-next bits.second roots pins.second) (bit-next bits.third roots pins.third)

  woken-both : (sites : List Site) (roots : List (Option Root)) → woken None pulses roots (woken (Some phase) pulses roots (map (site_after phase) sites)) ≡ next_sites roots sites
  woken-both [] roots = refl
  woken-both (site ∷ sites) roots = ap₂ (λ (bits : PinBits) (rest : List Site). site_with site.part bits ∷ rest) (part-next roots site.part site.bits) (woken-both sites (roots ++ part_roots roots site.part))

-- the used inputs are their own roots
inputs-seen : (phase : ℕ) (first its rest : List Bool) → map (root_pulse phase (first ++ (its ++ rest))) (map input_root (range_with_len (length first) (length its))) ≡ its
inputs-seen phase first [] rest = refl
inputs-seen phase first (p ∷ its) rest =
    let up : length first + 1 ≡ length (first ++ p ∷ []) = sym (length-append first (p ∷ [])) in
    ap₂ (λ q (qs : List Bool). q ∷ qs) (get_or-append_seam first p (its ++ rest) false)
    (ap₂ (λ (all : List Bool) n. map (root_pulse phase all) (map input_root (range_with_len n (length its)))) (sym (append_assoc first (p ∷ []) (its ++ rest))) up ∙ inputs-seen phase (first ++ p ∷ []) its rest)

parts-after : (phase : ℕ) (sites : List Site) → parts_of (map (site_after phase) sites) ≡ parts_of sites
parts-after phase [] = refl
parts-after phase (site ∷ sites) = ap (λ (parts : List Part). site.part ∷ parts) (parts-after phase sites)

module _ (phase inputs : ℕ) (sites : List Site) (old : List Bool) (room : inputs + site_wires sites ≡ length old) where
  abbrev before : List Bool
  before = take inputs old

  abbrev behind : List Bool
  behind = drop inputs old

  abbrev parts : List Part
  parts = parts_of sites

  -- what the roots do once the cells have fired
  abbrev pub pulses_now : List Bool
  pulses_now = before ++ pulses_after phase sites behind

  first-long : length before ≡ inputs
  first-long = length-take-le inputs old (omega (arith, room))

  behind-long : length behind ≡ site_wires sites
  behind-long = (let all = length-drop inputs old in omega (arith, all, room))

  fired-right : fold fired (so_far old sites) (firings_of phase inputs parts) ≡ so_far pulses_now (map (site_after phase) sites)
  fired-right =
      ap₂ (λ (seen : List Bool) n. fold fired (so_far seen sites) (firings_of phase n parts)) (sym (take-append-drop inputs old)) (sym first-long)
      ∙ fire-right phase sites [] before behind behind-long

  first-seen : map (root_pulse phase pulses_now) (input_roots inputs) ≡ before
  first-seen = ap (λ n. map (root_pulse phase pulses_now) (input_roots n)) (sym first-long) ∙ inputs-seen phase [] before (pulses_after phase sites behind)

  swept-right : sweep phase sites (so_far before []) ≡ so_far (map (root_pulse phase pulses_now) (roots_of inputs parts)) (next_sites phase pulses_now (input_roots inputs) sites)
  swept-right =
      ap (λ seen. sweep phase sites (so_far seen [])) (sym first-seen)
      ∙ sweep-right phase pulses_now sites [] (input_roots inputs) before behind (length-map-range_with_len input_root 0 inputs ∙ sym first-long) behind-long refl

  silent-now : ((place : ℕ) → place < inputs → get_or old place false ≡ false) → (place : ℕ) → 0 ≤ place → place < 0 + inputs → get_or pulses_now place false ≡ false
  silent-now h place low high =
      let within : place < inputs = omega arith in
      get_or-append before (pulses_after phase sites behind) false place (omega (arith, first-long)) ∙ get_or-take inputs old place false within ∙ h place within

  -- The three steps of a tick, with what each leaves behind, do what the sites in order do.
  module _ (pulses : List Bool) (cleared awake after : List Site)
      (fires : fold fired (so_far old sites) (firings_of phase inputs parts) ≡ so_far pulses cleared)
      (delivers : fold (delivered pulses) cleared (deliveries_of (Some phase) inputs parts) ≡ awake) where
    pulses-are : pulses ≡ pulses_now
    pulses-are = ap (λ (so : Sweep). so.seen) (sym fires ∙ fired-right)

    cleared-are : cleared ≡ map (site_after phase) sites
    cleared-are = ap (λ (so : Sweep). so.sites) (sym fires ∙ fired-right)

    awake-are : awake ≡ woken (Some phase) pulses_now (input_roots inputs) (map (site_after phase) sites)
    awake-are =
        sym delivers
        ∙ ap₂ (λ (p : List Bool) (s : List Site). fold (delivered p) s (deliveries_of (Some phase) inputs parts)) pulses-are cleared-are
        ∙ ap (λ (its : List Part). fold (delivered pulses_now) (map (site_after phase) sites) (deliveries_of (Some phase) inputs its)) (sym (parts-after phase sites))
        ∙ deliver-right (Some phase) pulses_now (map (site_after phase) sites) [] (input_roots inputs)

    awake-parts : parts_of awake ≡ parts
    awake-parts = ap parts_of awake-are ∙ parts-woken (Some phase) pulses_now (map (site_after phase) sites) (input_roots inputs) ∙ parts-after phase sites

    fed-are : (fed : Bool) → (fed ≡ false → (place : ℕ) → place < inputs → get_or old place false ≡ false) → (if fed then fold (delivered pulses) awake (deliveries_of None inputs parts) else awake) ≡ after → after ≡ woken None pulses_now (input_roots inputs) awake
    fed-are true silent e =
        sym e
        ∙ ap₂ (λ (p : List Bool) (its : List Part). fold (delivered p) awake (deliveries_of None inputs its)) pulses-are (sym awake-parts)
        ∙ deliver-right None pulses_now awake [] (input_roots inputs)
    fed-are false silent e = sym e ∙ sym (none-woken pulses_now awake (input_roots inputs) (inputs-silent pulses_now 0 inputs (silent-now (silent refl))))

    module _ (fed : Bool) (silent : fed ≡ false → (place : ℕ) → place < inputs → get_or old place false ≡ false) (feeds : (if fed then fold (delivered pulses) awake (deliveries_of None inputs parts) else awake) ≡ after) where
      pub turn-right : sweep phase sites (so_far (take inputs old) []) ≡ so_far (map (root_pulse phase pulses) (roots_of inputs parts)) after
      turn-right =
          swept-right
          ∙ ap₂ (λ (p : List Bool) (s : List Site). so_far (map (root_pulse phase p) (roots_of inputs parts)) s) (sym pulses-are)
          (sym (fed-are fed silent feeds ∙ ap (woken None pulses_now (input_roots inputs)) awake-are ∙ woken-both phase pulses_now sites (input_roots inputs)))

      pub turn-parts : parts_of after ≡ parts
      turn-parts = ap parts_of (fed-are fed silent feeds) ∙ parts-woken None pulses_now awake (input_roots inputs) ∙ awake-parts

-- how many wires parts make
abbrev total : List Part → ℕ
total [] = 0
total (part ∷ parts) = part_wires part + total parts

counted : (sites : List Site) → site_wires sites ≡ total (parts_of sites)
counted [] = refl
counted (site ∷ sites) = ap (λ n. part_wires site.part + n) (counted sites)

pub wires-of_parts : (sites others : List Site) → parts_of sites ≡ parts_of others → site_wires sites ≡ site_wires others
wires-of_parts sites others e = counted sites ∙ ap total e ∙ sym (counted others)
