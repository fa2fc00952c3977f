use Rattle.std.proofs.Common.{◌≡◌, ◌∙◌, ap, arith}
use Rattle.std.proofs.lemmas.List.{at_drop_all}
use Rattle.flow_net.specs.Epochs.{chain_length, chain_lengths}
use Rattle.flow_net.proofs.Lengths.{chain_lengths-from_entries}
use Rattle.flow_net.proofs.count.chain_lengths.Goals as goal

pub returns-clause-value : goal.returns-clause-value
returns-clause-value c =
    let net = c.args.net.now in
    let epochs = c.args.epochs.now in
    let pins = c.as_slice-pin-items.result.now in
    let lengths : c.loop-pin.lengths.items ≡ chain_lengths epochs pins net.drivers =
    chain_lengths-from_entries epochs pins net.drivers c.loop-pin.lengths.items c.loop-pin.invariant.0
    (λ d below. omega (
      arith,
      c.loop-pin.invariant.1 d below,
      at_drop_all (λ pins. chain_length epochs pins d) pins c.loop-pin.pin-index c.loop-pin-test.false,
    )) in
    c.from_vec.ensures ∙ lengths ∙ ap (λ pins. chain_lengths epochs pins net.drivers) c.as_slice-pin-items.ensures
