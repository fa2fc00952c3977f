use Rattle.std.proofs.Common.{length, ap, arith}
use Rattle.flow_net.proofs.CallerLemmas.{length-chain_lengths}
use Rattle.flow_cert.proofs.value.cost.Goals as goal

pub total-requires : goal.total-requires
total-requires c =
    let net = c.args.net.now in
    omega (arith, c.requires, ap length c.as_slice.ensures, ap length c.in_ok-lengths.ensures.value, length-chain_lengths c.args.epochs.now net.pins net.drivers)
