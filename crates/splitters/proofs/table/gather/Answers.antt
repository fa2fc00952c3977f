use Rattle.std.proofs.Common.{◌∙◌, subst}
use Rattle.std.proofs.lemmas.List.{length-set, drop_all}
use Rattle.gate_net.specs.declared.row.Driver.TheVariants.{Input}
use Rattle.splitters.proofs.tapped.Table.{Gathers, Gathers-pin, HasTaps-gathered}
use Rattle.splitters.proofs.table.gather.Goals as goal

pub loop-pin-preserved : goal.loop-pin-preserved
loop-pin-preserved c = record {
  count = length-set c.loop-pin.table.items c.slot.result c.add.new.self ∙ c.loop-pin.invariant.count;
  gathers =
      Gathers-pin c.args.inputs c.args.gates c.args.needs.now c.args.drivers.now c.loop-pin.table.items c.loop-pin.pin c.slot.result c.need.result c.add.new.self c.index_mut.result.now
      c.loop-pin-test.true (c.requires.there c.loop-pin.pin (Input 0) c.loop-pin-test.true) c.slot.ensures c.loop-pin.invariant.count
      c.need.ensures c.index_mut.ensures.value c.in_ok-add.ensures.count c.in_ok-add.ensures.pins c.loop-pin.invariant.gathers;
}

pub returns-clause-taps : goal.returns-clause-taps
returns-clause-taps c =
    HasTaps-gathered c.args.inputs c.args.gates c.args.needs.now c.args.drivers.now c.loop-pin.table.items c.loop-pin.pin
    (subst (Gathers c.args.inputs c.args.gates c.args.needs.now c.args.drivers.now c.loop-pin.table.items c.loop-pin.pin) (drop_all c.loop-pin.pin c.args.drivers.now c.loop-pin-test.false) c.loop-pin.invariant.gathers)
