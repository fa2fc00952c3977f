use Rattle.std.proofs.Common.{◌≡◌, map, take}
use Rattle.pulse_sim.specs.Rows.{is_one}
use Rattle.pulse_sim.proofs.rows.bits_of.Given as goal

abbrev pub invariant-loop-byte : goal.invariant-loop-byte
invariant-loop-byte l = l.row ≡ map is_one (take l.byte-index l.bytes)
