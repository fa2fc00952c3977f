use Rattle.std.proofs.Common.{◌<◌, ◌+◌, ◌*◌, ◌^◌, ℕ, get_or}
use Rattle.gate_net.specs.declared.row.Driver.{Driver}
use Rattle.gate_net.specs.Entries.{entry_of}
use Rattle.splitters.proofs.fits.stages_fit.Given as goal

abbrev pub invariant-loop-pin : goal.invariant-loop-pin
invariant-loop-pin l = (k : ℕ) (d : Driver) → k < l.pin → entry_of l.chained.stages (get_or l.drivers k d) + l.chained.n * get_or l.chained.needs k 0 < 2 ^ 32
