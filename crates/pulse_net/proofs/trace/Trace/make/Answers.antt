use Rattle.std.proofs.Common.{refl, sym, ap, ◌∙◌}
use Rattle.pulse_net.specs.Unfolding.{make_driven}
use Rattle.pulse_net.proofs.InsertedWires.{make_driven-inserted}
use Rattle.pulse_net.proofs.trace.Trace.make.Goals as goal

pub returns : goal.returns
returns c =
    let new = sym c.contains_key.ensures ∙ c.if-contains_key.false in
    make_driven-inserted c.self.inside.wires (record { wires = c.self.inside.wires.entries; gates = c.self.inside.gates; stages = c.self.inside.stages; dros = c.self.inside.dros }) c.args.wire c.args.driver c.insert.new.self.entries refl new c.in_ok-insert.ensures.entries
    ∙ ap (make_driven c.args.wire c.args.driver) c.self.view_is
