use Rattle.std.proofs.Common.{◌∙◌}
use Rattle.std.proofs.lemmas.List.{length-set}
use Rattle.gate_net.specs.declared.row.Driver.TheVariants.{Input}
use Rattle.splitters.proofs.dros.Lengths.{Lengthens-pin}
use Rattle.splitters.proofs.fits.chain_lengths.Goals as goal

pub loop-pin-preserved : goal.loop-pin-preserved
loop-pin-preserved c = record {
  count = length-set c.loop-pin.lengths.items c.slot-place.result c.max.result ∙ c.loop-pin.invariant.count;
  lengthens =
      Lengthens-pin c.args.inputs c.args.gates c.args.needs.now c.args.drivers.now c.loop-pin.lengths.items c.loop-pin.pin c.slot-place.result c.need.result c.index.result.now c.max.result
      c.loop-pin-test.true (c.requires.there c.loop-pin.pin (Input 0) c.loop-pin-test.true) c.slot-place.ensures c.loop-pin.invariant.count
      c.need.ensures c.index.ensures c.max.ensures c.loop-pin.invariant.lengthens;
}
