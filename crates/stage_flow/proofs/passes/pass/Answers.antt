use Rattle.std.proofs.Common.{List, length, refl, ap, arith}
use Rattle.flow_net.specs.declared.net.Pin.{Pin}
use Rattle.stage_flow.proofs.PassPins.{nears-none, pins-stepped}
use Rattle.stage_flow.proofs.passes.pass.Goals as goal

pub loop-place-init : goal.loop-place-init
loop-place-init c = record {
  each = (refl, c.requires.each);
  nears = λ lengths counts fits under. (nears-none lengths counts c.args.far.now c.args.hops.now under, λ place low. absurd (omega (arith, low)));
}

pub loop-place-preserved : goal.loop-place-preserved
loop-place-preserved c =
    let before = c.loop-place.invariant.each in
    let own = c.step_pin.ensures.each in record {
      each = (omega (arith, before.0, own.0), omega (arith, before.0, own.1));
      nears = λ lengths counts fits under.
          pins-stepped lengths counts c.args.net.now c.args.flow.now c.loop-place.place c.mirror.result c.as_slice-pin-items.result.now c.as_slice-units.result.now
          c.args.far.now c.loop-place.far c.step_pin.new.far c.args.hops.now c.loop-place.hops c.step_pin.new.hops before.0 own.0
          c.as_slice-pin-items.ensures c.as_slice-units.ensures c.mirror.ensures.value c.loop-place-test.true (c.step_pin.ensures.nears lengths counts) fits
          (c.loop-place.invariant.nears lengths counts fits under);
    }

pub returns-clause-nears : goal.returns-clause-nears
returns-clause-nears c = λ lengths counts fits under.
    let done = c.loop-place.invariant.nears lengths counts fits under in
    let many = ap (λ (xs : List Pin). length xs) c.as_slice-pin-items.ensures in
    (done.0, λ place low. done.1 place (omega (arith, low, many, c.loop-place-test.false)))
