use Rattle.std.proofs.Common.{sym, ap, ◌∙◌}
use Rattle.pulse_net.specs.Validity.{make_wire}
use Rattle.pulse_net.proofs.InsertedWires.{make_wire-inserted}
use Rattle.pulse_net.proofs.wires.Wires.make.Goals as goal

pub returns : goal.returns
returns c =
    let new = sym c.contains_key.ensures ∙ c.if-contains_key.false in
    ap (make_wire c.args.wire c.args.stage) (sym c.self.view_is) ∙ make_wire-inserted c.self.inside.made c.self.inside.used.keys c.args.wire c.args.stage c.insert.new.self.entries new c.in_ok-insert.ensures.entries
