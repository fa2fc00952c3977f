use Rattle.std.proofs.Common.{ℕ, List, All, sym, subst}
use Rattle.gate_net.specs.declared.row.Driver.{Driver}
use Rattle.gate_net.specs.Net.{IsThere, pin_drivers}
use Rattle.gate_net.proofs.CallerLemmas.{pin_drivers-there}
use Rattle.splitters.proofs.build.tap_table.Goals as goal

pub gather-requires-clause-there : goal.gather-requires-clause-there
gather-requires-clause-there c =
    let net = c.args.chained.now.gates in
    subst (λ (drivers : List Driver). All (IsThere net.inputs c.len.result) drivers) (sym c.requires.drivers)
    (subst (λ (n : ℕ). All (IsThere net.inputs n) (pin_drivers net)) (sym c.len.ensures) (pin_drivers-there net c.requires.formed))
