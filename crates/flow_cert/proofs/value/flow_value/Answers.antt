use Rattle.std.proofs.Common.{◌≡◌, ◌<◌, ◌∙◌, pos, ◌*ℤ◌, ◌-ℤ◌, length, get_or, ap, arith}
use Rattle.std.proofs.lemmas.Int.{ints}
use Rattle.flow_cert.proofs.Balances.{no_pin, no_units, value_on-pin}
use Rattle.flow_cert.proofs.value.flow_value.Goals as goal

pub loop-i-preserved : goal.loop-i-preserved
loop-i-preserved c =
    let net = c.args.net.now in
    let flow = c.args.flow.now in
    let i = c.loop-i.i in
    let within : i < length net.pins = omega (arith, c.loop-i-test.true, ap length c.as_slice-pins.ensures) in
    let worth : c.pin_value-value.result ≡ pos (get_or net.pins i no_pin).weight *ℤ (pos (get_or flow.pins i no_units).forward -ℤ pos (get_or flow.pins i no_units).back) =
    c.pin_value-value.ensures.value
    ∙ (λ j. pos (get_or (c.as_slice-pins.ensures j) i no_pin).weight *ℤ (pos (get_or (c.as_slice-units.ensures j) i no_units).forward -ℤ pos (get_or (c.as_slice-units.ensures j) i no_units).back)) in
    let step = value_on-pin net flow i within c.requires.each (c.requires.bounded.weights i no_pin within) in
    let value = c.pin_value-value.ensures in (
      omega (arith, ints, worth, step, c.loop-i.invariant.0, value.low, value.high),
      omega (arith, ints, c.loop-i.invariant.1, value.low, value.high),
      omega (arith, ints, c.loop-i.invariant.2, value.low, value.high),
    )
