use Rattle.std.proofs.Common.{◌≡◌, ◌||◌, ◌∙◌, ℕ, List, [], nat_eq, sym, ap}
use Rattle.net_base.specs.Keys.{is_among}
use Rattle.net_base.proofs.CallerLemmas.{keys-among}
use Rattle.blif_model.specs.declared.design.Table.{Table}
use Rattle.blif_model.specs.Order.{driver_of, pins_of}
use Rattle.indexmap.specs.IndexSet.{insert_all}
use Rattle.blif_check.proofs.Reached.{pins-listed, back-reached, reached-back}
use Rattle.blif_check.proofs.cycles.reaches_itself.Goals as goal

-- What is reached first are the pins of the table that drives the signal.
first-pins : (tables : List Table) (signal x : ℕ) (keys pins first : List ℕ) → keys ≡ [] → pins ≡ pins_of (driver_of tables signal) → first ≡ insert_all nat_eq keys pins
    → is_among nat_eq x first ≡ is_among nat_eq x (pins_of (driver_of tables signal))
first-pins tables signal x keys pins first none its made =
    ap (is_among nat_eq x) made ∙ keys-among keys pins x ∙ ap (λ ks. is_among nat_eq x ks || is_among nat_eq x pins) none ∙ ap (is_among nat_eq x) its

pub reach_on-requires-clause-listed : goal.reach_on-requires-clause-listed
reach_on-requires-clause-listed c = λ x among.
    pins-listed c.args.tables.now c.args.signal x
    (sym (first-pins c.args.tables.now c.args.signal x c.args.reached.now.keys c.pins.result.now c.reach_all.new.reached.keys c.requires.empty c.pins.ensures c.in_ok-reach_all.ensures) ∙ among)

pub returns : goal.returns
returns c =
    let tables = c.args.tables.now in
    let signal = c.args.signal in
    let first = c.reach_all.new.reached.keys in
    let reached = c.reach_on.new.reached.keys in
    let same = λ (x : ℕ). first-pins tables signal x c.args.reached.now.keys c.pins.result.now first c.requires.empty c.pins.ensures c.in_ok-reach_all.ensures in (
      λ found. back-reached tables first reached signal same c.in_ok-reach_on.ensures (sym c.contains.ensures ∙ found),
      λ cycle. c.contains.ensures ∙ reached-back tables first reached signal same c.in_ok-reach_on.ensures cycle,
    )
