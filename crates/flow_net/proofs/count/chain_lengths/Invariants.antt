use Rattle.std.proofs.Common.{◌≡◌, ◌<◌, ℕ, length, drop, max, get_or}
use Rattle.flow_net.specs.Epochs.{chain_length}
use Rattle.flow_net.proofs.count.chain_lengths.Given as goal

abbrev pub invariant-loop-pin : goal.invariant-loop-pin
invariant-loop-pin l = (length l.lengths.items ≡ l.net.drivers) × ((d : ℕ) → d < l.net.drivers → max (get_or l.lengths.items d 0) (chain_length l.epochs (drop l.pin-index l.pin-items) d) ≡ chain_length l.epochs l.pin-items d)
