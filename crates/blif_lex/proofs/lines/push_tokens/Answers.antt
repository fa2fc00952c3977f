use Rattle.std.proofs.Common.{◌≡◌, ◌<◌, ◌≤◌, ◌+◌, ◌++◌, length, drop, arith, sym, ap, ◌∙◌, append-nil, length-drop}
use Rattle.std.proofs.lemmas.Bool.Decides.{nat_tests}
use Rattle.blif_lex.specs.LogicalLines.{tokens_at}
use Rattle.blif_lex.specs.declared.lines.TheConstants.{MAX_TEXT_BYTES}
use Rattle.blif_lex.proofs.Tokens.{tokens_at-none, add-blank, add-word}
use Rattle.blif_lex.proofs.lines.push_tokens.Goals as goal
use Rattle.blif_lex.proofs.lines.push_tokens.Goals.{then-len-gt0+in_ok-push, else-len-gt0}

pub loop-rest-preserved : goal.loop-rest-preserved
loop-rest-preserved c =
    let some : 0 < length c.loop-rest.rest.now = grind (arith, nat_tests) in
    let len = c.word_len-len.result in
    let rest = c.loop-rest.rest.now in
    let turn : c.if-len-gt0.tokens ++ tokens_at (c.loop-rest.at + (len + 1)) (drop (len + 1) rest) ≡ c.loop-rest.tokens ++ tokens_at c.loop-rest.at rest =
    elim c.if-len-gt0.branch [
      | then-len-gt0+in_ok-push w ↦
          let word : 0 < len = omega arith in
          rw (w.tokens-is, w.in_ok-push.ensures.ok) (add-word c.loop-rest.at rest len c.word_len-len.ensures.count some c.loop-rest.tokens word)
      | else-len-gt0 w ↦
          let none : len ≡ 0 = omega arith in
          rw w.tokens-is (add-blank c.loop-rest.at rest len c.word_len-len.ensures.count some c.loop-rest.tokens none)
    ] in
    record {
      whole = rw c.behind-rest.ensures (turn ∙ c.loop-rest.invariant.whole);
      short = rw c.behind-rest.ensures (λ more.
          let within : c.loop-rest.at + length rest ≤ MAX_TEXT_BYTES = c.loop-rest.invariant.short some in
          omega (arith, length-drop (len + 1) rest));
    }

pub returns : goal.returns
returns c =
    let none : length c.loop-rest.rest.now ≡ 0 = grind (arith, nat_tests) in
    let nil = tokens_at-none c.loop-rest.at c.loop-rest.rest.now none in
    sym (append-nil c.loop-rest.tokens) ∙ ap (λ spans. c.loop-rest.tokens ++ spans) (sym nil) ∙ c.loop-rest.invariant.whole
