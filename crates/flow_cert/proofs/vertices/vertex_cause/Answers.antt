use Rattle.std.proofs.Common.{◌≡◌, ◌+◌, ◌∙◌, ap, arith}
use Rattle.flow_net.specs.Flows.{out_minus_in}
use Rattle.flow_cert.specs.Verdicts.{vertices}
use Rattle.flow_cert.specs.Sums.{balance_cause}
use Rattle.flow_cert.proofs.Balances.{balance_cause-is}
use Rattle.flow_cert.proofs.vertices.vertex_cause.Goals as goal

pub returns : goal.returns
returns c =
    let net = c.args.net.now in
    let flow = c.args.flow.now in
    let balances = c.in_ok-balances.balances.items in
    c.balance_cause.ensures ∙ ap (balance_cause net 0) c.as_slice.ensures.value
    ∙ balance_cause-is net flow balances 0 (vertices net) c.in_ok-balances.ensures.each
    (λ v low. let same : v ≡ 0 + v = omega arith in c.in_ok-balances.ensures.here v low ∙ ap (out_minus_in net flow) same)
