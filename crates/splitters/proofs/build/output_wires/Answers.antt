use Rattle.std.proofs.Common.{ap, arith}
use Rattle.splitters.specs.Elements.{gate_pins}
use Rattle.splitters.proofs.wires.Steps.{gate_pins-le}
use Rattle.splitters.proofs.build.output_wires.Goals as goal

pub gate_pins-first-requires : goal.gate_pins-first-requires
gate_pins-first-requires c = omega (arith, ap gate_pins c.as_slice.ensures, gate_pins-le c.args.chained.now.gates, c.requires.few_pins)

pub outlets-requires-clause-few : goal.outlets-requires-clause-few
outlets-requires-clause-few c = omega (arith, c.gate_pins-first.ensures, ap gate_pins c.as_slice.ensures, gate_pins-le c.args.chained.now.gates, c.requires.few_pins)
