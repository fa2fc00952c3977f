-- To deliver the pulses of a clock one after the other comes to the same as to take each site once: each pin takes what its root
-- does, where its root is of that clock.
use Rattle.std.proofs.Common.{◌≡◌, ℕ, zero, suc, ◌<◌, ◌≤◌, ◌+◌, Bool, true, false, ◌||◌, ◌&&◌, List, [], ◌∷◌, ◌++◌, length, map, get_or, set, refl, sym, ap, ap₂, ◌∙◌, arith, append_assoc, length-append}
use Rattle.std.specs.Prelude.{Option, Some, None, if◌then◌else◌}
use Rattle.std.specs.List.{fold, range_with_len}
use Rattle.std.proofs.Math.Seq.{get_or-append_seam, set-append_seam}
use Rattle.std.proofs.lemmas.List.Sums.{fold-append}
use Rattle.std.proofs.Math.Bool.{or-false}
use Rattle.pulse_sim.specs.declared.site.PinBits.{PinBits}
use Rattle.pulse_sim.specs.declared.site.Part.{Part}
use Rattle.pulse_sim.specs.declared.site.Part.TheVariants.{Clocked, Split}
use Rattle.pulse_sim.specs.declared.site.Site.{Site}
use Rattle.pulse_sim.specs.declared.root.Root.{Root}
use Rattle.pulse_sim.specs.Roots.{parts_of, root_at, part_roots, input_root}
use Rattle.pulse_sim.specs.Wakes.{is_of, first_pin, second_pin, third_pin, pin_deliveries, part_deliveries, deliveries_from, nobody, with_pulse, delivered}
use Rattle.pulse_sim.proofs.FiredSites.{site_with}

pub same-bits : {a a' b b' c c' : Bool} → a ≡ a' → b ≡ b' → c ≡ c' → (let bits : PinBits = record { first = a; second = b; third = c } in bits) ≡ (let bits : PinBits = record { first = a'; second = b'; third = c' } in bits)
same-bits {a} {a'} {b} {b'} {c} {c'} e f g =
    let bits : Bool → Bool → Bool → PinBits = λ a b c. record { first = a; second = b; third = c } in
    ap (λ x. bits x b c) e ∙ ap (λ x. bits a' x c) f ∙ ap (λ x. bits a' b' x) g

-- a pulse for another pin, and one for this pin
other-pin : (bit pulse : Bool) → (bit || (pulse && false)) ≡ bit
other-pin true true = refl
other-pin true false = refl
other-pin false true = refl
other-pin false false = refl

this-pin : (bit pulse : Bool) → (bit || (pulse && true)) ≡ (bit || pulse)
this-pin bit true = refl
this-pin bit false = refl

-- each of three pins takes its own pulse
three-pins : (bits : PinBits) (p q r : Bool) → with_pulse (with_pulse (with_pulse bits first_pin p) second_pin q) third_pin r ≡ record { first = bits.first || p; second = bits.second || q; third = bits.third || r }
three-pins bits p q r =
    same-bits
    (other-pin ((bits.first || (p && true)) || (q && false)) r ∙ other-pin (bits.first || (p && true)) q ∙ this-pin bits.first p)
    (other-pin ((bits.second || (p && false)) || (q && true)) r ∙ ap (λ x. x || (q && true)) (other-pin bits.second p) ∙ this-pin bits.second q)
    (this-pin ((bits.third || (p && false)) || (q && false)) r ∙ ap (λ x. x || r) (other-pin (bits.third || (p && false)) q ∙ other-pin bits.third p))

module _ (clock : Option ℕ) (pulses : List Bool) where
  -- what comes from a root
  abbrev pub coming : Option Root → Bool
  coming None = false
  coming (Some root) = is_of clock root.clock && get_or pulses root.place false

  abbrev pub woken_bits : List (Option Root) → Part → PinBits → PinBits
  woken_bits roots (Clocked cell its_phase pins) bits = record {
    first = bits.first || coming (root_at roots pins.first);
    second = bits.second || coming (root_at roots pins.second);
    third = bits.third || coming (root_at roots pins.third);
  }
  woken_bits roots (Split from) bits = bits

  -- the sites behind the wires with these roots
  abbrev pub woken : List (Option Root) → List Site → List Site
  woken roots [] = []
  woken roots (site ∷ sites) = site_with site.part (woken_bits roots site.part site.bits) ∷ woken (roots ++ part_roots roots site.part) sites

  pin-right : (done sites : List Site) (part : Part) (bits pin : PinBits) (root : Option Root) → fold (delivered pulses) (done ++ site_with part bits ∷ sites) (pin_deliveries clock (length done) pin root) ≡ done ++ site_with part (with_pulse bits pin (coming root)) ∷ sites
  pin-right done sites part bits pin None = ap (λ (b : PinBits). done ++ site_with part b ∷ sites) (sym (same-bits (or-false bits.first) (or-false bits.second) (or-false bits.third)))
  pin-right done sites part bits pin (Some root) = by (is_of clock root.clock)
    where
      by : (here : Bool) → fold (delivered pulses) (done ++ site_with part bits ∷ sites) (if here then record { root = root.place; at = length done; pin = pin } ∷ [] else []) ≡ done ++ site_with part (with_pulse bits pin (here && get_or pulses root.place false)) ∷ sites
      by true =
          ap (λ (s : Site). set (done ++ site_with part bits ∷ sites) (length done) (site_with s.part (with_pulse s.bits pin (get_or pulses root.place false)))) (get_or-append_seam done (site_with part bits) sites nobody)
          ∙ set-append_seam done (site_with part bits) sites (site_with part (with_pulse bits pin (get_or pulses root.place false)))
      by false = ap (λ (b : PinBits). done ++ site_with part b ∷ sites) (sym (same-bits (or-false bits.first) (or-false bits.second) (or-false bits.third)))

  part-right : (done sites : List Site) (roots : List (Option Root)) (part : Part) (bits : PinBits) → fold (delivered pulses) (done ++ site_with part bits ∷ sites) (part_deliveries clock (length done) roots part) ≡ done ++ site_with part (woken_bits roots part bits) ∷ sites
  part-right done sites roots (Split from) bits = refl
  part-right done sites roots (Clocked cell its_phase pins) bits =
      let part = Clocked cell its_phase pins in
      let at = length done in
      let one = pin_deliveries clock at first_pin (root_at roots pins.first) in
      let two = pin_deliveries clock at second_pin (root_at roots pins.second) in
      let three = pin_deliveries clock at third_pin (root_at roots pins.third) in
      let p = coming (root_at roots pins.first) in
      let q = coming (root_at roots pins.second) in
      let r = coming (root_at roots pins.third) in
      fold-append (delivered pulses) (done ++ site_with part bits ∷ sites) one (two ++ three)
      ∙ ap (λ (s : List Site). fold (delivered pulses) s (two ++ three)) (pin-right done sites part bits first_pin (root_at roots pins.first))
      ∙ fold-append (delivered pulses) (done ++ site_with part (with_pulse bits first_pin p) ∷ sites) two three
      ∙ ap (λ (s : List Site). fold (delivered pulses) s three) (pin-right done sites part (with_pulse bits first_pin p) second_pin (root_at roots pins.second))
      ∙ pin-right done sites part (with_pulse (with_pulse bits first_pin p) second_pin q) third_pin (root_at roots pins.third)
      ∙ ap (λ (b : PinBits). done ++ site_with part b ∷ sites) (three-pins bits p q r)

  -- the induction over the sites
  pub deliver-right : (sites done : List Site) (roots : List (Option Root)) → fold (delivered pulses) (done ++ sites) (deliveries_from clock (length done) roots (parts_of sites)) ≡ done ++ woken roots sites
  deliver-right [] done roots = refl
  deliver-right (site ∷ sites) done roots =
      let its = site_with site.part (woken_bits roots site.part site.bits) in
      let next = roots ++ part_roots roots site.part in
      let at : length done + 1 ≡ length (done ++ its ∷ []) = sym (length-append done (its ∷ [])) in
      fold-append (delivered pulses) (done ++ site ∷ sites) (part_deliveries clock (length done) roots site.part) (deliveries_from clock (length done + 1) next (parts_of sites))
      ∙ ap (λ (s : List Site). fold (delivered pulses) s (deliveries_from clock (length done + 1) next (parts_of sites))) (part-right done sites roots site.part site.bits ∙ sym (append_assoc done (its ∷ []) sites))
      ∙ ap (λ n. fold (delivered pulses) ((done ++ its ∷ []) ++ sites) (deliveries_from clock n next (parts_of sites))) at
      ∙ deliver-right sites (done ++ its ∷ []) next
      ∙ append_assoc done (its ∷ []) (woken next sites)

  pub parts-woken : (sites : List Site) (roots : List (Option Root)) → parts_of (woken roots sites) ≡ parts_of sites
  parts-woken [] roots = refl
  parts-woken (site ∷ sites) roots = ap (λ (parts : List Part). site.part ∷ parts) (parts-woken sites (roots ++ part_roots roots site.part))

  -- ---- where nothing comes from any root, the sites stay as they are

  abbrev pub Silent : List (Option Root) → Type 0
  Silent [] = Unit {0}
  Silent (root ∷ roots) = (coming root ≡ false) × Silent roots

  silent-at : (roots : List (Option Root)) → Silent roots → (place : ℕ) → coming (get_or roots place None) ≡ false
  silent-at [] h place = refl
  silent-at (root ∷ roots) h zero = h.0
  silent-at (root ∷ roots) h (suc place) = silent-at roots h.1 place

  silent-root : (roots : List (Option Root)) → Silent roots → (place : Option ℕ) → coming (root_at roots place) ≡ false
  silent-root roots h None = refl
  silent-root roots h (Some place) = silent-at roots h place

  silent-append : (roots more : List (Option Root)) → Silent roots → Silent more → Silent (roots ++ more)
  silent-append [] more h g = g
  silent-append (root ∷ roots) more h g = (h.0, silent-append roots more h.1 g)

  unwoken : (bit : Bool) {pulse : Bool} → pulse ≡ false → (bit || pulse) ≡ bit
  unwoken bit {pulse} e = ap (λ p. bit || p) e ∙ or-false bit

-- No input pulses, so nothing comes from one.
module _ (pulses : List Bool) where
  silent-part : (roots : List (Option Root)) → Silent None pulses roots → (part : Part) → Silent None pulses (part_roots roots part)
  silent-part roots h (Clocked cell its_phase pins) = (refl, tt)
  silent-part roots h (Split from) = (silent-root None pulses roots h from, (silent-root None pulses roots h from, tt))

  still : (roots : List (Option Root)) → Silent None pulses roots → (part : Part) (bits : PinBits) → woken_bits None pulses roots part bits ≡ bits
  still roots h (Clocked cell its_phase pins) bits = same-bits (unwoken None pulses bits.first (silent-root None pulses roots h pins.first)) (unwoken None pulses bits.second (silent-root None pulses roots h pins.second)) (unwoken None pulses bits.third (silent-root None pulses roots h pins.third))
  still roots h (Split from) bits = refl

  pub none-woken : (sites : List Site) (roots : List (Option Root)) → Silent None pulses roots → woken None pulses roots sites ≡ sites
  none-woken [] roots h = refl
  none-woken (site ∷ sites) roots h =
      ap₂ (λ (bits : PinBits) (rest : List Site). site_with site.part bits ∷ rest) (still roots h site.part site.bits)
      (none-woken sites (roots ++ part_roots roots site.part) (silent-append None pulses roots (part_roots roots site.part) h (silent-part roots h site.part)))

  pub inputs-silent : (first inputs : ℕ) → ((place : ℕ) → first ≤ place → place < first + inputs → get_or pulses place false ≡ false) → Silent None pulses (map input_root (range_with_len first inputs))
  inputs-silent first zero h = tt
  inputs-silent first (suc inputs) h = (h first (omega arith) (omega arith), inputs-silent (first + 1) inputs (λ place low high. h place (omega arith) (omega arith)))
