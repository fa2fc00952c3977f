-- Steps one after another: of the four residual arcs of a pin, and of all pins.
use Rattle.std.proofs.Common.{◌≡◌, ◌<◌, ◌+◌, ◌∙◌, ◌==◌, ℕ, ℤ, pos, ◌-ℤ◌, Bool, true, not, List, length, get_or, refl, sym, ap, subst, arith}
use Rattle.flow_net.specs.declared.net.Pin.{Pin}
use Rattle.flow_net.specs.declared.net.Units.{Units}
use Rattle.flow_net.specs.declared.net.Net.{Net}
use Rattle.flow_net.specs.declared.net.Flow.{Flow}
use Rattle.flow_net.specs.Arcs.{mirror_of}
use Rattle.stage_flow.specs.Residual.{Way}
use Rattle.stage_flow.specs.Search.{way_by, no_pin, none_on, HoldsAtPin, HoldsBelow}
use Rattle.stage_flow.specs.Passes.{OffersNoBetter, AreUnder, Nears, Brings, Stepped}
use Rattle.stage_flow.proofs.SearchTests.{at-pin, holds-more}

module _ (far : ℕ → ℤ) (hops : ℕ → ℕ) where
  pub nears-none : (now : List ℤ) (counts : List ℕ) → AreUnder far hops now counts → Nears far hops now counts now counts
  nears-none now counts under = record { under = under; stays = λ vertex within same. same }

  module _ (start now after : List ℤ) (starts counts afters : List ℕ) (sized : length now ≡ length start) (sized' : length after ≡ length now) where
    nears-on : Nears far hops start starts now counts → Nears far hops now counts after afters → Nears far hops start starts after afters
    nears-on first second = record {
      under = second.under;
      stays = λ vertex low same. second.stays vertex low (first.stays vertex (omega (arith, low, sized')) same);
    }

    -- what an arc brought stays
    brings-later : Nears far hops now counts after afters → (way : Way) → Brings far hops start starts now counts way → Brings far hops start starts after afters way
    brings-later second way brings = λ there from held tight same.
        second.stays way.head there (brings (omega (arith, there, sized')) (omega (arith, from, sized')) held tight same)

    -- and what stood at the start stands when an arc brings it on
    brings-earlier : Nears far hops start starts now counts → (way : Way) → Brings far hops now counts after afters way → Brings far hops start starts after afters way
    brings-earlier first way brings = λ there from held tight same.
        brings there from held tight (first.stays way.tail (omega (arith, from, sized')) same)

    pub next : (flag : Bool) (way : Way) → (flag ≡ true → OffersNoBetter far hops way) → Nears far hops start starts now counts → Stepped far hops now counts after afters flag way
        → Nears far hops start starts after afters × Nears far hops now counts after afters × (flag ≡ true → Brings far hops start starts after afters way)
    next flag way fits first step =
        let done = step fits first.under in
        (nears-on first done.0, done.0, λ is. brings-earlier first way (done.1 is))

    pub pin-later : Nears far hops now counts after afters → (mirror : ℕ) (pin : Pin) (units : Units) → HoldsAtPin (Brings far hops start starts now counts) mirror pin units → HoldsAtPin (Brings far hops start starts after afters) mirror pin units
    pin-later second mirror pin units brings = record {
      forward = brings-later second (way_by pin.from pin.to (pos pin.weight)) brings.forward;
      taken = λ some. brings-later second (way_by pin.to pin.from (pos 0 -ℤ pos pin.weight)) (brings.taken some);
      back = brings-later second (way_by pin.to mirror (pos 0 -ℤ pos pin.weight)) brings.back;
      returned = λ some. brings-later second (way_by mirror pin.to (pos 0 -ℤ (pos 0 -ℤ pos pin.weight))) (brings.returned some);
    }

    pub pin-earlier : Nears far hops start starts now counts → (mirror : ℕ) (pin : Pin) (units : Units) → HoldsAtPin (Brings far hops now counts after afters) mirror pin units → HoldsAtPin (Brings far hops start starts after afters) mirror pin units
    pin-earlier first mirror pin units brings = record {
      forward = brings-earlier first (way_by pin.from pin.to (pos pin.weight)) brings.forward;
      taken = λ some. brings-earlier first (way_by pin.to pin.from (pos 0 -ℤ pos pin.weight)) (brings.taken some);
      back = brings-earlier first (way_by pin.to mirror (pos 0 -ℤ pos pin.weight)) brings.back;
      returned = λ some. brings-earlier first (way_by mirror pin.to (pos 0 -ℤ (pos 0 -ℤ pos pin.weight))) (brings.returned some);
    }

  -- the four steps of a pin
  module _ (f0 f1 f2 f3 f4 : List ℤ) (h0 h1 h2 h3 h4 : List ℕ) (s1 : length f1 ≡ length f0) (s2 : length f2 ≡ length f1) (s3 : length f3 ≡ length f2) (s4 : length f4 ≡ length f3) where
    pub pin-stepped : (mirror : ℕ) (pin : Pin) (units : Units) (gain loss back : ℤ) → gain ≡ pos pin.weight → loss ≡ pos 0 -ℤ pos pin.weight → back ≡ pos 0 -ℤ (pos 0 -ℤ pos pin.weight)
        → Stepped far hops f0 h0 f1 h1 true (way_by pin.from pin.to gain)
        → Stepped far hops f1 h1 f2 h2 (not (units.forward == 0)) (way_by pin.to pin.from loss)
        → Stepped far hops f2 h2 f3 h3 true (way_by pin.to mirror loss)
        → Stepped far hops f3 h3 f4 h4 (not (units.back == 0)) (way_by mirror pin.to back)
        → HoldsAtPin (OffersNoBetter far hops) mirror pin units → AreUnder far hops f0 h0
        → Nears far hops f0 h0 f4 h4 × HoldsAtPin (Brings far hops f0 h0 f4 h4) mirror pin units
    pin-stepped mirror pin units gain loss back gain_is loss_is back_is one two three four fits under =
        let a = next f0 f0 f1 h0 h0 h1 refl s1 true (way_by pin.from pin.to gain) (λ is. subst (λ l. OffersNoBetter far hops (way_by pin.from pin.to l)) (sym gain_is) fits.forward) (nears-none f0 h0 under) one in
        let b = next f0 f1 f2 h0 h1 h2 s1 s2 (not (units.forward == 0)) (way_by pin.to pin.from loss) (λ is. subst (λ l. OffersNoBetter far hops (way_by pin.to pin.from l)) (sym loss_is) (fits.taken is)) a.0 two in
        let c = next f0 f2 f3 h0 h2 h3 (s2 ∙ s1) s3 true (way_by pin.to mirror loss) (λ is. subst (λ l. OffersNoBetter far hops (way_by pin.to mirror l)) (sym loss_is) fits.back) b.0 three in
        let e = next f0 f3 f4 h0 h3 h4 (s3 ∙ s2 ∙ s1) s4 (not (units.back == 0)) (way_by mirror pin.to back) (λ is. subst (λ l. OffersNoBetter far hops (way_by mirror pin.to l)) (sym back_is) (fits.returned is)) c.0 four in
        let last = λ (way : Way) (brings : Brings far hops f0 h0 f3 h3 way). brings-later f0 f3 f4 h0 h3 h4 (s3 ∙ s2 ∙ s1) s4 e.1 way brings in
        let third = λ (way : Way) (brings : Brings far hops f0 h0 f2 h2 way). last way (brings-later f0 f2 f3 h0 h2 h3 (s2 ∙ s1) s3 c.1 way brings) in
        let second = λ (way : Way) (brings : Brings far hops f0 h0 f1 h1 way). third way (brings-later f0 f1 f2 h0 h1 h2 s1 s2 b.1 way brings) in (
          e.0,
          at-pin (Brings far hops f0 h0 f4 h4) mirror pin units gain loss back gain_is loss_is back_is
              (second (way_by pin.from pin.to gain) (a.2 refl))
              (λ some. third (way_by pin.to pin.from loss) (b.2 some))
              (last (way_by pin.to mirror loss) (c.2 refl))
              (λ some. e.2 some),
        )

  -- a pin more
  pub pins-stepped : (net : Net) (flow : Flow) (place mirror : ℕ) (items : List Pin) (units : List Units) (start now after : List ℤ) (starts counts afters : List ℕ) → length now ≡ length start → length after ≡ length now
      → items ≡ net.pins → units ≡ flow.pins → mirror ≡ mirror_of net (get_or items place no_pin).driver → place < length items
      → (HoldsAtPin (OffersNoBetter far hops) mirror (get_or items place no_pin) (get_or units place none_on) → AreUnder far hops now counts → Nears far hops now counts after afters × HoldsAtPin (Brings far hops now counts after afters) mirror (get_or items place no_pin) (get_or units place none_on))
      → HoldsBelow (OffersNoBetter far hops) net flow (length net.pins)
      → Nears far hops start starts now counts × HoldsBelow (Brings far hops start starts now counts) net flow place
      → Nears far hops start starts after afters × HoldsBelow (Brings far hops start starts after afters) net flow (place + 1)
  pins-stepped net flow place mirror items units start now after starts counts afters sized sized' items_is units_is mirror_is within step fits so_far =
      let many = ap (λ (xs : List Pin). length xs) items_is in
      let pin : get_or items place no_pin ≡ get_or net.pins place no_pin = ap (λ xs. get_or xs place no_pin) items_is in
      let unit : get_or units place none_on ≡ get_or flow.pins place none_on = ap (λ xs. get_or xs place none_on) units_is in
      let there : mirror ≡ mirror_of net (get_or net.pins place no_pin).driver = mirror_is ∙ ap (λ (one : Pin). mirror_of net one.driver) pin in
      let own : HoldsAtPin (OffersNoBetter far hops) mirror (get_or items place no_pin) (get_or units place none_on) =
      subst (λ m. HoldsAtPin (OffersNoBetter far hops) m (get_or items place no_pin) (get_or units place none_on)) (sym there)
      (subst (λ one. HoldsAtPin (OffersNoBetter far hops) (mirror_of net (get_or net.pins place no_pin).driver) one (get_or units place none_on)) (sym pin)
      (subst (λ one. HoldsAtPin (OffersNoBetter far hops) (mirror_of net (get_or net.pins place no_pin).driver) (get_or net.pins place no_pin) one) (sym unit) (fits place (omega (arith, within, many))))) in
      let done = step own so_far.0.under in (
        nears-on start now after starts counts afters sized sized' so_far.0 done.0,
        holds-more (Brings far hops start starts after afters) net flow place mirror items units items_is units_is mirror_is
            (λ at low. pin-later start now after starts counts afters sized sized' done.0 _ _ _ (so_far.1 at low))
            (pin-earlier start now after starts counts afters sized sized' so_far.0 mirror (get_or items place no_pin) (get_or units place none_on) done.1),
      )
