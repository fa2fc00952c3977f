use Rattle.std.proofs.Common.{◌≡◌, ◌+◌, ◌∙◌, rules, nat_eq, get_or, sym, ap, subst, arith}
use Rattle.indexmap.specs.IndexSet.{insert_all}
use Rattle.blif_model.specs.Order.{driver_of, pins_of}
use Rattle.blif_check.proofs.Reached.{ReachesOn, reaches-first, reaches-next, reaches-few}
use Rattle.blif_check.proofs.cycles.reach_on.Goals as goal

pub loop-next-init : goal.loop-next-init
loop-next-init c = reaches-first c.args.tables.now c.args.reached.now.keys c.requires.listed

pub loop-next-smaller : goal.loop-next-smaller
loop-next-smaller c =
    omega (arith, c.len.ensures.len, c.loop-next-test.true, reaches-few c.args.tables.now c.args.reached.now.keys c.loop-next.reached.keys c.loop-next.next c.len.ensures.unique c.loop-next.invariant)

pub loop-next-preserved : goal.loop-next-preserved
loop-next-preserved c =
    let tables = c.args.tables.now in
    let first = c.args.reached.now.keys in
    let keys = c.loop-next.reached.keys in
    let signal = get_or keys c.loop-next.next 0 in
    let new : c.reach_all.new.reached.keys ≡ insert_all nat_eq keys (pins_of (driver_of tables signal)) =
    c.in_ok-reach_all.ensures ∙ ap (insert_all nat_eq keys) (c.pins.ensures ∙ ap (λ s. pins_of (driver_of tables (get_or s c.loop-next.next 0))) c.as_slice.ensures.keys) in
    subst (λ ks. ReachesOn tables first ks (c.loop-next.next + 1)) (sym new)
    (reaches-next tables first keys c.loop-next.next signal (omega (arith, c.len.ensures.len, c.loop-next-test.true)) (search rules) c.loop-next.invariant)
