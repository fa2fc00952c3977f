use Rattle.std.proofs.Common.{◌≡◌, ◌<◌, ◌≤◌, ◌+◌, ◌++◌, length}
use Rattle.blif_lex.specs.LogicalLines.{tokens_at}
use Rattle.blif_lex.specs.declared.lines.TheConstants.{MAX_TEXT_BYTES}
use Rattle.blif_lex.proofs.lines.push_tokens.Given as goal

-- the tokens so far and those of the rest are those of the whole
abbrev pub invariant-loop-rest : goal.invariant-loop-rest
invariant-loop-rest l = record {
  whole : l.tokens ++ tokens_at l.at l.rest ≡ l.initial.tokens ++ tokens_at l.start l.bytes;
  short : 0 < length l.rest → l.at + length l.rest ≤ MAX_TEXT_BYTES;
}

abbrev pub decreases-loop-rest : goal.decreases-loop-rest
decreases-loop-rest l = length l.rest
