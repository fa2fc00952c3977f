use Rattle.std.proofs.Common.{◌≡◌, ◌≢◌, ◌<◌, ◌-◌, ℕ, suc, List, length, get_or, sym, ap, subst, arith, OnOk}
use Rattle.pattern_table.specs.Least.{parts_of}
use Rattle.gate_net.specs.declared.net.GateNet.{GateNet}
use Rattle.balance_map.specs.Walks.{IsReady}
use Rattle.balance_map.proofs.WalkSteps.{part-ready, part-room, cell-room, cell-pins, walk-all, walk-rest}
use Rattle.balance_map.proofs.walking.+walk.Goals as goal

-- a depth that isn't 0 is one more than the depth below
deep : (depth : ℕ) → depth ≢ 0 → depth ≡ suc (depth - 1)
deep depth some = omega arith

pub walk-requires : goal.walk-requires
walk-requires t c =
    let net = c.args.net.now in
    let below : ℕ = c.args.depth - 1 in
    let parts = c.loop-part.invariant.0 in
    let within : c.loop-part.part-index < length (parts_of c.in-Some.head.now) = omega (arith, ap length parts, c.loop-part-test.true) in
    let is = deep c.args.depth c.if-depth-eq0.false in (
      omega (arith, c.decreases, c.if-depth-eq0.false),
      (
        c.loop-part.invariant.1.formed,
        (
          subst (λ (ps : List ℕ). IsReady c.loop-part.net.inputs (length c.loop-part.net.gates) c.args.leaves.now below (get_or ps c.loop-part.part-index 0)) (sym parts)
              (part-ready net c.args.leaves.now below c.in-Some.head.now c.args.depth c.args.table is (sym c.in-Some.ensures) c.requires.net c.requires.ready c.requires.room c.loop-part.part-index 0 c.loop-part.net c.loop-part.pins within c.loop-part.invariant.1),
          part-room net c.args.leaves.now below c.in-Some.head.now c.args.depth c.args.table is (sym c.in-Some.ensures) c.requires.net c.requires.ready c.requires.room c.loop-part.part-index c.loop-part.net c.loop-part.pins within c.loop-part.invariant.1,
        ),
      ),
    )

pub with_cell-requires-clause-pins : goal.with_cell-requires-clause-pins
with_cell-requires-clause-pins t c =
    cell-pins c.args.net.now c.args.leaves.now (c.args.depth - 1) c.in-Some.head.now c.args.depth c.args.table (deep c.args.depth c.if-depth-eq0.false) (sym c.in-Some.ensures) c.requires.net c.requires.ready c.requires.room c.loop-part.part-index c.loop-part.net c.loop-part.pins c.loop-part.invariant.1

pub with_cell-requires-clause-room : goal.with_cell-requires-clause-room
with_cell-requires-clause-room t c =
    let parts = c.loop-part.invariant.0 in
    cell-room c.args.net.now c.args.leaves.now (c.args.depth - 1) c.in-Some.head.now c.args.depth c.args.table (deep c.args.depth c.if-depth-eq0.false) (sym c.in-Some.ensures) c.requires.net c.requires.ready c.requires.room c.loop-part.part-index c.loop-part.net c.loop-part.pins
    (omega (arith, ap length parts, c.loop-part-test.false, c.loop-part.auto.part-index-end)) c.loop-part.invariant.1

pub returns-clause-by : goal.returns-clause-by
returns-clause-by t c =
    let parts = c.loop-part.invariant.0 in
    let all = walk-all c.args.net.now c.args.leaves.now (c.args.depth - 1) c.in-Some.head.now c.args.depth c.args.table (deep c.args.depth c.if-depth-eq0.false) (sym c.in-Some.ensures) c.requires.net c.requires.ready c.requires.room c.loop-part.part-index c.loop-part.net c.loop-part.pins
    (omega (arith, ap length parts, c.loop-part-test.false, c.loop-part.auto.part-index-end)) c.loop-part.invariant.1 in
    rw (sym all) c.with_cell.ensures.by

pub returns-clause-ok : goal.returns-clause-ok
returns-clause-ok t c =
    let parts = c.loop-part.invariant.0 in
    subst (λ (net : GateNet). OnOk c.with_cell.result (c.with_cell.new.net ≡ net))
    (walk-rest c.args.net.now c.args.leaves.now (c.args.depth - 1) c.in-Some.head.now c.args.depth c.args.table (deep c.args.depth c.if-depth-eq0.false) (sym c.in-Some.ensures) c.requires.net c.requires.ready c.requires.room c.loop-part.part-index c.loop-part.net c.loop-part.pins
    (omega (arith, ap length parts, c.loop-part-test.false, c.loop-part.auto.part-index-end)) c.loop-part.invariant.1) c.with_cell.ensures.ok
