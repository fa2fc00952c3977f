use Rattle.std.proofs.Common.{◌≡◌, ◌+◌, take, sum}
use Rattle.splitters.proofs.fits.is_sum_below.Given as goal

abbrev pub invariant-loop-number : goal.invariant-loop-number
invariant-loop-number l = l.left + sum (take l.number-index l.numbers) ≡ l.limit
