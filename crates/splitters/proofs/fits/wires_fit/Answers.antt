use Rattle.std.proofs.Common.{◌≡◌, ℕ, List, All, length, sum, ap, sym, subst, arith}
use Rattle.gate_net.specs.declared.row.Driver.{Driver}
use Rattle.gate_net.specs.Net.{IsThere, pin_drivers}
use Rattle.splitters.specs.Taps.{chain_dros}
use Rattle.splitters.specs.Table.{HasLengths}
use Rattle.gate_net.proofs.CallerLemmas.{pin_drivers-there}
use Rattle.splitters.proofs.dros.Lengths.{lengths-sum}
use Rattle.splitters.proofs.fits.wires_fit.Goals as goal

pub chain_lengths-requires-clause-there : goal.chain_lengths-requires-clause-there
chain_lengths-requires-clause-there c =
    let net = c.args.chained.now.gates in
    subst (λ (drivers : List Driver). All (IsThere net.inputs c.len-gates.result) drivers) (sym c.requires.drivers)
    (subst (λ (n : ℕ). All (IsThere net.inputs n) (pin_drivers net)) (sym c.len-gates.ensures) (pin_drivers-there net c.requires.formed))

pub returns : goal.returns
returns c =
    let chained = c.args.chained.now in
    let net = chained.gates in
    let gates = c.len-gates.ensures in
    let has : HasLengths net.inputs (length net.gates) chained.needs (pin_drivers net) c.in_ok-lengths.lengths.items =
    subst (λ (needs : List ℕ). HasLengths net.inputs (length net.gates) needs (pin_drivers net) c.in_ok-lengths.lengths.items) c.as_slice.ensures
    (subst (λ (drivers : List Driver). HasLengths net.inputs (length net.gates) c.as_slice.result.now drivers c.in_ok-lengths.lengths.items) c.requires.drivers
    (subst (λ (n : ℕ). HasLengths net.inputs n c.as_slice.result.now c.args.drivers.now c.in_ok-lengths.lengths.items) gates c.in_ok-lengths.ensures.each)) in
    let total : sum c.in_ok-lengths.lengths.items ≡ chain_dros chained = lengths-sum chained c.in_ok-lengths.lengths.items (omega (arith, gates, c.in_ok-lengths.ensures.count)) has in
    let read = ap sum c.as_slice-2.ensures.value in
    let pins = ap length c.requires.drivers in (
      λ below. let less = c.is_sum_below.ensures.0 below in omega (arith, less, read, total, gates, pins, c.saturating_sub-left.ensures),
      λ few. c.is_sum_below.ensures.1 (omega (arith, few, read, total, gates, pins, c.saturating_sub-left.ensures)),
    )
