-- To fire the cells of a phase one after the other comes to the same as to take each site once: the wire of a cell of the phase does
-- what the cell's bits say, and these are cleared; all else stays.
use Rattle.std.proofs.Common.{◌≡◌, ℕ, ◌+◌, Bool, true, false, List, [], ◌∷◌, ◌++◌, length, map, get_or, set, drop, refl, sym, ap, ap₂, ◌∙◌, arith, append_assoc, length-append}
use Rattle.std.specs.Prelude.{◌==◌, if◌then◌else◌}
use Rattle.std.specs.List.{fold}
use Rattle.std.proofs.Math.Seq.{get_or-append_seam, set-append_seam}
use Rattle.std.proofs.lemmas.List.Sums.{fold-append}
use Rattle.pulse_sim.specs.declared.site.PinBits.{PinBits}
use Rattle.pulse_sim.specs.declared.site.Part.{Part}
use Rattle.pulse_sim.specs.declared.site.Part.TheVariants.{Clocked, Split}
use Rattle.pulse_sim.specs.declared.site.Site.{Site}
use Rattle.pulse_sim.specs.Sites.{Sweep, cell_pulse, part_wires, site_wires}
use Rattle.pulse_sim.specs.Roots.{parts_of}
use Rattle.pulse_sim.specs.Wakes.{part_firings, firings_from, nobody, no_bits, cleared, part_fires, fired}

abbrev pub so_far : List Bool → List Site → Sweep
so_far seen sites = record { seen = seen; sites = sites }

abbrev pub site_with : Part → PinBits → Site
site_with part bits = record { part = part; bits = bits }

module _ (phase : ℕ) where
  -- what stands at the wires of a part behind the firings, where this stood there and at the wires behind
  abbrev pub wires_after : Part → PinBits → List Bool → List Bool
  wires_after (Clocked cell its_phase pins) bits old = (if phase == its_phase then cell_pulse true cell bits else get_or old 0 false) ∷ []
  wires_after (Split from) bits old = get_or old 0 false ∷ (get_or old 1 false ∷ [])

  abbrev pub bits_after : Part → PinBits → PinBits
  bits_after (Clocked cell its_phase pins) bits = if phase == its_phase then no_bits else bits
  bits_after (Split from) bits = bits

  abbrev pub site_after : Site → Site
  site_after site = site_with site.part (bits_after site.part site.bits)

  abbrev pub pulses_after : List Site → List Bool → List Bool
  pulses_after [] old = old
  pulses_after (site ∷ sites) old = wires_after site.part site.bits old ++ pulses_after sites (drop (part_wires site.part) old)

  pub wires-counted : (part : Part) (bits : PinBits) (old : List Bool) → length (wires_after part bits old) ≡ part_wires part
  wires-counted (Clocked cell its_phase pins) bits old = refl
  wires-counted (Split from) bits old = refl

  pub wires-left : (part : Part) (old : List Bool) (rest : ℕ) → length old ≡ part_wires part + rest → length (drop (part_wires part) old) ≡ rest
  wires-left (Clocked cell its_phase pins) [] rest h = absurd (omega arith)
  wires-left (Clocked cell its_phase pins) (p ∷ old) rest h = omega arith
  wires-left (Split from) [] rest h = absurd (omega arith)
  wires-left (Split from) (p ∷ []) rest h = absurd (omega arith)
  wires-left (Split from) (p ∷ (q ∷ old)) rest h = omega arith

  -- one part, behind the sites that are done
  one-fires : (done sites : List Site) (before old : List Bool) (rest : ℕ) (part : Part) (bits : PinBits) → length old ≡ part_wires part + rest
      → fold fired (so_far (before ++ old) (done ++ site_with part bits ∷ sites)) (part_firings phase (length done) (length before) part) ≡ so_far (before ++ (wires_after part bits old ++ drop (part_wires part) old)) (done ++ site_with part (bits_after part bits) ∷ sites)
  one-fires done sites before [] rest (Clocked cell its_phase pins) bits h = absurd (omega arith)
  one-fires done sites before (p ∷ old) rest (Clocked cell its_phase pins) bits h = by (phase == its_phase)
    where
      by : (here : Bool) → fold fired (so_far (before ++ p ∷ old) (done ++ site_with (Clocked cell its_phase pins) bits ∷ sites)) (if here then record { at = length done; place = length before } ∷ [] else []) ≡ so_far (before ++ ((if here then cell_pulse true cell bits else p) ∷ old)) (done ++ site_with (Clocked cell its_phase pins) (if here then no_bits else bits) ∷ sites)
      by true =
          ap (λ (s : Site). so_far (set (before ++ p ∷ old) (length before) (part_fires s.part s.bits)) (set (done ++ site_with (Clocked cell its_phase pins) bits ∷ sites) (length done) (cleared s))) (get_or-append_seam done (site_with (Clocked cell its_phase pins) bits) sites nobody)
          ∙ ap₂ so_far (set-append_seam before p old (cell_pulse true cell bits)) (set-append_seam done (site_with (Clocked cell its_phase pins) bits) sites (site_with (Clocked cell its_phase pins) no_bits))
      by false = refl
  one-fires done sites before [] rest (Split from) bits h = absurd (omega arith)
  one-fires done sites before (p ∷ []) rest (Split from) bits h = absurd (omega arith)
  one-fires done sites before (p ∷ (q ∷ old)) rest (Split from) bits h = refl

  -- the induction over the sites
  pub fire-right : (sites done : List Site) (before old : List Bool) → length old ≡ site_wires sites
      → fold fired (so_far (before ++ old) (done ++ sites)) (firings_from phase (length done) (length before) (parts_of sites)) ≡ so_far (before ++ pulses_after sites old) (done ++ map site_after sites)
  fire-right [] done before old h = refl
  fire-right (site ∷ sites) done before old h =
      let its = wires_after site.part site.bits old in
      let wide = wires-counted site.part site.bits old in
      let at : length done + 1 ≡ length (done ++ site_after site ∷ []) = sym (length-append done (site_after site ∷ [])) in
      let place : length before + part_wires site.part ≡ length (before ++ its) = (let all = length-append before its in omega (arith, all, wide)) in
      fold-append fired (so_far (before ++ old) (done ++ site ∷ sites)) (part_firings phase (length done) (length before) site.part) (firings_from phase (length done + 1) (length before + part_wires site.part) (parts_of sites))
      ∙ ap (λ (so : Sweep). fold fired so (firings_from phase (length done + 1) (length before + part_wires site.part) (parts_of sites))) (one-fires done sites before old (site_wires sites) site.part site.bits h)
      ∙ ap₂ (λ seen (all : List Site). fold fired (so_far seen all) (firings_from phase (length done + 1) (length before + part_wires site.part) (parts_of sites))) (sym (append_assoc before its (drop (part_wires site.part) old))) (sym (append_assoc done (site_after site ∷ []) sites))
      ∙ ap₂ (λ n m. fold fired (so_far ((before ++ its) ++ drop (part_wires site.part) old) ((done ++ site_after site ∷ []) ++ sites)) (firings_from phase n m (parts_of sites))) at place
      ∙ fire-right sites (done ++ site_after site ∷ []) (before ++ its) (drop (part_wires site.part) old) (wires-left site.part old (site_wires sites) h)
      ∙ ap₂ so_far (append_assoc before its (pulses_after sites (drop (part_wires site.part) old))) (append_assoc done (site_after site ∷ []) (map site_after sites))
