use Rattle.std.proofs.Common.{ap, ◌∙◌, nat_eq}
use Rattle.net_base.specs.Keys.{is_among}
use Rattle.pulse_net.specs.Validity.{Wiring, with_used}
use Rattle.pulse_net.proofs.InsertedWires.{with_used-inserted}
use Rattle.pulse_net.proofs.wires.Wires.mark_used.Goals as goal

pub returns : goal.returns
returns c =
    let new = ap (λ (w : Wiring). is_among nat_eq c.args.wire w.used) c.self.view_is ∙ c.requires in
    with_used-inserted (record { made = c.self.inside.made.entries; used = c.self.inside.used.keys }) c.args.wire c.insert.new.self.keys new c.in_ok-insert.ensures.keys ∙ ap (λ (w : Wiring). with_used w c.args.wire) c.self.view_is
