use Rattle.std.proofs.Common.{arith}
use Rattle.std.proofs.lemmas.Int.{ints}
use Rattle.stage_flow.proofs.PassPins.{pin-stepped}
use Rattle.stage_flow.proofs.passes.step_pin.Goals as goal

pub returns-clause-nears : goal.returns-clause-nears
returns-clause-nears c = λ lengths counts.
    pin-stepped lengths counts c.args.far.now c.step.new.far c.step-2.new.far c.step-3.new.far c.step-4.new.far
    c.args.hops.now c.step.new.hops c.step-2.new.hops c.step-3.new.hops c.step-4.new.hops
    c.step.ensures.each.0 c.step-2.ensures.each.0 c.step-3.ensures.each.0 c.step-4.ensures.each.0
    c.args.mirror c.args.pin.now c.args.units.now _ _ _
    (omega (arith, ints, c.from-gain.ensures)) (omega (arith, ints, c.from-gain.ensures)) (omega (arith, ints, c.from-gain.ensures))
    (c.step.ensures.nears lengths counts) (c.step-2.ensures.nears lengths counts) (c.step-3.ensures.nears lengths counts) (c.step-4.ensures.nears lengths counts)
