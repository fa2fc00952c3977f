use Rattle.std.proofs.Common.{sym, ap, ◌∙◌}
use Rattle.blif_read.specs.Words.{word_of, first_token}
use Rattle.blif_read.specs.Readers.{state_of}
use Rattle.blif_read.proofs.FaultRows.{fault_of-behind_end, fault_of-unsupported, fault_of-unknown}
use Rattle.blif_read.proofs.reader.Reader.read_line.Goals as goal

pub returns-in_default : goal.returns-in_default
returns-in_default c = record {
  fault =
      fault_of-behind_end c.args.line.now (state_of c.args.self.now) c.requires.good (word_of (first_token c.args.line.now.tokens))
      (λ is. c.in_default.not-Model (c.word_of.ensures ∙ ap word_of c.token.ensures.bytes ∙ is)) c.if-self.true;
  state = tt;
}

pub returns-in-Unsupported : goal.returns-in-Unsupported
returns-in-Unsupported c =
    let is = sym (c.in-Unsupported.ensures ∙ ap word_of c.token.ensures.bytes) in
    record {
      fault = rw (is, fault_of-unsupported c.args.line.now (state_of c.args.self.now) c.requires.good c.if-self.false, ← c.token-in-Unsupported.ensures.bytes) c.unsupported.ensures;
      state = tt;
    }

pub returns-in-Unknown : goal.returns-in-Unknown
returns-in-Unknown c =
    let is = sym (c.in-Unknown.ensures ∙ ap word_of c.token.ensures.bytes) in
    record {
      fault = rw is (fault_of-unknown c.args.line.now (state_of c.args.self.now) c.requires.good c.if-self.false);
      state = tt;
    }
