use Rattle.std.proofs.Common.{refl, sym, length, ◌∙◌}
use Rattle.gate_net.specs.declared.row.Driver.TheVariants.{Input}
use Rattle.gate_net.specs.Net.{pin_drivers}
use Rattle.flow_net.proofs.CallerLemmas.{is_used-uses_of}
use Rattle.splitters.proofs.tapped.Taps.{is_used-taps}
use Rattle.splitters.proofs.tapped.Table.{taps_at-read}
use Rattle.splitters.proofs.build.is_used.Goals as goal

pub returns : goal.returns
returns c =
    let net = c.args.chained.now.gates in
    let needs = c.args.chained.now.needs in
    is_used-taps needs (pin_drivers net) (Input c.args.i) c.index-table-i.result c.is_empty.result
    (taps_at-read net.inputs (length net.gates) needs (pin_drivers net) c.args.table.now (Input c.args.i) c.args.i c.index-table-i.result
    c.requires.tapped.taps c.requires.tapped.each c.requires.there refl c.index-table-i.is)
    c.is_empty.ensures
    ∙ sym (is_used-uses_of net c.args.i)
