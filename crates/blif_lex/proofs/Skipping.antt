-- One turn of the loop over logical lines: a line is given or skipped.
use Rattle.std.proofs.Common.{◌≡◌, ◌≤◌, ℕ, true, false, List, [], ◌∷◌, length, refl}
use Rattle.blif_lex.specs.declared.line.LogicalLine.{LogicalLine}
use Rattle.blif_lex.specs.LogicalLines.{all_from, lines_from, is_given}
use Rattle.blif_lex.proofs.Joining.{all_from-end}

module _ (number at other behind : ℕ) (text : List ℕ) (line : LogicalLine) (is : all_from number at text ≡ line ∷ all_from other behind text) where
  pub lines_from-given : is_given line ≡ true → lines_from number at text ≡ line ∷ lines_from other behind text
  unfolding lines_from
  lines_from-given given = rw (is, given) refl

  pub lines_from-skipped : is_given line ≡ false → lines_from number at text ≡ lines_from other behind text
  unfolding lines_from
  lines_from-skipped skipped = rw (is, skipped) refl

pub lines_from-end : (number at : ℕ) (text : List ℕ) → length text ≤ at → lines_from number at text ≡ []
unfolding lines_from
lines_from-end number at text beyond = rw (all_from-end number at text beyond) refl
