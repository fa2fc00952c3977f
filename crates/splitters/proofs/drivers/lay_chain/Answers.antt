use Rattle.std.proofs.Common.{◌≡◌, ◌∙◌, ℕ, List, length, sym, subst, ap, arith}
use Rattle.gate_net.specs.Net.{pin_drivers}
use Rattle.gate_net.specs.Entries.{entry_of}
use Rattle.splitters.specs.Taps.{tap_count}
use Rattle.splitters.proofs.tapped.Taps.{AreBelow, taps_at-below, length-taps_at, chain-fits}
use Rattle.splitters.proofs.tapped.Table.{taps_at-read}
use Rattle.splitters.proofs.drivers.lay_chain.Goals as goal

pub lay_chain-requires-clause-below : goal.lay_chain-requires-clause-below
lay_chain-requires-clause-below c =
    let net = c.args.chained.now.gates in
    subst (λ (taps : List (List ℕ)). AreBelow (length c.args.layout.now.taken) taps) (sym c.as_slice-2.ensures)
    (subst (λ (n : ℕ). AreBelow n c.index-table-slot.result) (sym c.requires.pins)
    (subst (AreBelow (length (pin_drivers net)))
    (sym
    (taps_at-read net.inputs (length net.gates) c.args.chained.now.needs (pin_drivers net) c.args.table.now c.args.driver c.slot.result c.index-table-slot.result
    c.requires.tapped.taps c.requires.tapped.each c.requires.there c.slot.ensures c.index-table-slot.is))
    (taps_at-below c.args.chained.now.needs (pin_drivers net) c.args.driver)))

pub lay_chain-requires-clause-fits : goal.lay_chain-requires-clause-fits
lay_chain-requires-clause-fits c =
    let net = c.args.chained.now.gates in
    let many : length c.as_slice-2.result.now ≡ tap_count c.args.chained.now.needs c.args.driver 0 (pin_drivers net) =
    ap length
    (c.as_slice-2.ensures
    ∙ taps_at-read net.inputs (length net.gates) c.args.chained.now.needs (pin_drivers net) c.args.table.now c.args.driver c.slot.result c.index-table-slot.result
    c.requires.tapped.taps c.requires.tapped.each c.requires.there c.slot.ensures c.index-table-slot.is)
    ∙ length-taps_at c.args.chained.now.needs (pin_drivers net) c.args.driver in
    chain-fits (entry_of c.args.chained.now.stages) c.args.chained.now.n c.args.chained.now.needs c.args.driver (pin_drivers net) c.entry.result (length c.as_slice-2.result.now)
    (c.entry.ensures ∙ ap (λ (stages : List ℕ). entry_of stages c.args.driver) c.as_slice.ensures) (omega arith) many c.requires.tapped.fits
