use Rattle.std.proofs.Common.{◌≡◌, ◌<◌, length, ap, rules, arith}
use Rattle.std.proofs.lemmas.Int.{ints}
use Rattle.flow_cert.specs.Verdicts.{vertices}
use Rattle.flow_cert.proofs.Balances.{balance_on-all, balance_on-lists}
use Rattle.flow_cert.proofs.vertices.send_all.Goals as goal

pub loop-i-init : goal.loop-i-init
loop-i-init c = (
  c.requires.wide,
  (λ v low. omega (arith, ints, c.requires.empty v low, balance_on-all c.args.net.now c.args.flow.now v)),
  (λ v low. (omega (arith, ints, c.requires.empty v low), omega (arith, ints, c.requires.empty v low))),
)

pub send-requires-in-loop-i-clause-room : goal.send-requires-in-loop-i-clause-room
send-requires-in-loop-i-clause-room c v low =
    let within : c.loop-i.i < length c.args.net.now.pins = omega (arith, c.loop-i-test.true, ap length c.as_slice-pins.ensures) in
    let there : v < length c.loop-i.balances = search (rules, low) in
    let place : v < vertices c.args.net.now = omega (arith, there, c.loop-i.invariant.0) in
    let bound = c.loop-i.invariant.2 v place in
    let near = c.send.ensures.near v there in
    (omega (arith, ints, near.0, bound.0, within, c.requires.bounded.few_pins), omega (arith, ints, near.1, bound.1, within, c.requires.bounded.few_pins))

pub loop-i-preserved : goal.loop-i-preserved
loop-i-preserved c =
    let net = c.args.net.now in
    let flow = c.args.flow.now in
    let pins = c.as_slice-pins.result.now in
    let units = c.as_slice-units.result.now in
    let i = c.loop-i.i in
    let within : i < length net.pins = omega (arith, c.loop-i-test.true, ap length c.as_slice-pins.ensures) in
    let wide : length c.send-in-loop-i.new.balances ≡ vertices net = search (rules, c.loop-i.invariant.0) in (
      wide,
      (λ v low.
          let first : v < length c.loop-i.balances = omega (arith, low, c.loop-i.invariant.0) in
          let second : v < length c.send.new.balances = search (rules, first) in
          let step = balance_on-lists net flow pins units v i c.as_slice-pins.ensures c.as_slice-units.ensures within c.requires.each in
          omega (arith, ints, step, c.loop-i.invariant.1 v low, c.send.ensures.sent v first, c.send-in-loop-i.ensures.sent v second)),
      (λ v low.
          let first : v < length c.loop-i.balances = omega (arith, low, c.loop-i.invariant.0) in
          let second : v < length c.send.new.balances = search (rules, first) in
          let bound = c.loop-i.invariant.2 v low in
          let near = c.send.ensures.near v first in
          let again = c.send-in-loop-i.ensures.near v second in
          (omega (arith, ints, near.0, again.0, bound.0), omega (arith, ints, near.1, again.1, bound.1))),
    )
