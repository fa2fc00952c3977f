use Rattle.std.proofs.Common.{arith}
use Rattle.blif_read.proofs.WordLengths.{Unsupported-is_short}
use Rattle.blif_read.proofs.reader.unsupported.Goals as goal

pub of-requires : goal.of-requires
of-requires c = record {
  some = omega (arith, c.requires.some);
  short = Unsupported-is_short c.args.token.now c.requires.word;
  visible = c.requires.visible;
}
