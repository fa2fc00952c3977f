use Rattle.std.proofs.Common.{◌≡◌, ◌<◌, ◌+◌, ◌++◌, ◌∙◌, ◌∷◌, [], ℕ, true, Option, Some, None, take, get_or, length, set, sym, ap, subst, arith}
use Rattle.std.specs.Prelude.{slice_get, not}
use Rattle.std.specs.Option.{is_some}
use Rattle.std.proofs.lemmas.List.{take_more, get_or_default, length-set}
use Rattle.std.proofs.lemmas.Option.{slice_get-get_or}
use Rattle.blif_model.specs.declared.design.Table.{Table}
use Rattle.blif_check.proofs.DriverPlaces.{AreDriversAmong, drivers-kept, drivers-came}
use Rattle.blif_check.proofs.lookup.drivers.Goals as goal
use Rattle.blif_check.proofs.lookup.drivers.Goals.{then-is_none, else-is_none}

is_some-none : (o : Option ℕ) → is_some o ≡ not true → o ≡ None
is_some-none None e = λ i. None
is_some-none (Some x) e = cc

pub loop-place-preserved : goal.loop-place-preserved
loop-place-preserved c =
    let places = c.loop-place.drivers.items in
    let tables = c.args.tables.now in
    let place = c.loop-place.place in
    let table = c.index-tables-place.result in
    let more : take (place + 1) tables ≡ take place tables ++ table ∷ [] =
    take_more tables place table c.loop-place-test.true ∙ ap (λ (t : Table). take place tables ++ t ∷ []) (sym c.index-tables-place.is) in
    let at : slice_get tables place ≡ Some table = slice_get-get_or tables place table c.loop-place-test.true ∙ ap (λ (t : Table). Some t) (sym c.index-tables-place.is) in
    let within : table.target < length places =
    omega (arith, c.loop-place.invariant.0, ap (λ (t : Table). t.target) c.index-tables-place.is, (c.requires.named place table c.loop-place-test.true).target) in
    let read : c.index.result.now ≡ get_or places table.target None = c.index.ensures ∙ get_or_default places table.target c.index.result.now None within in
    elim c.if-is_none.branch [
      | then-is_none w ↦
          let new : c.if-is_none.drivers.items ≡ set places table.target (Some place) = ap (λ v. v.items) w.drivers-is in (
            ap length new ∙ length-set places table.target (Some place) ∙ c.loop-place.invariant.0,
            subst (λ ps. AreDriversAmong ps tables (take (place + 1) tables)) (sym new)
                (subst (AreDriversAmong (set places table.target (Some place)) tables) (sym more)
                (drivers-came places tables (take place tables) table place at within
                (is_some-none (get_or places table.target None) (ap is_some (sym read) ∙ c.is_none.ensures ∙ ap not w.if-is_none.true)) c.loop-place.invariant.1)),
          )
      | else-is_none w ↦
          let new : c.if-is_none.drivers.items ≡ places = ap (λ v. v.items) w.drivers-is in (
            ap length new ∙ c.loop-place.invariant.0,
            subst (λ ps. AreDriversAmong ps tables (take (place + 1) tables)) (sym new)
                (subst (AreDriversAmong places tables) (sym more)
                (drivers-kept places tables (take place tables) table (ap is_some (sym read) ∙ c.is_none.ensures ∙ ap not w.if-is_none.false) c.loop-place.invariant.1)),
          )
    ]
