use Rattle.std.proofs.Common.{◌≡◌, ◌++◌, map, drop}
use Rattle.blif_read.specs.Rows.{bit_of}
use Rattle.blif_read.proofs.row.bits_of.Given as goal

-- the bits so far, then those of the other bytes, are those of all
abbrev pub invariant-loop-byte : goal.invariant-loop-byte
invariant-loop-byte l = l.bits.items ++ map bit_of (drop l.byte-index l.bytes) ≡ map bit_of l.bytes
