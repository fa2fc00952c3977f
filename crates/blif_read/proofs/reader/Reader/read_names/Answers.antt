use Rattle.std.proofs.Common.{length, ap, arith, length-drop}
use Rattle.blif_read.proofs.TokenSteps.{length-signals_of}
use Rattle.blif_read.specs.Words.{further_tokens}
use Rattle.blif_read.proofs.reader.Reader.read_names.Goals as goal

pub table_of-requires : goal.table_of-requires
table_of-requires c =
    omega (arith, ap length c.in_ok-signals.ensures.signals, length-signals_of (further_tokens c.args.line.now.tokens) c.close.new.self.names, length-drop 1 c.args.line.now.tokens)
