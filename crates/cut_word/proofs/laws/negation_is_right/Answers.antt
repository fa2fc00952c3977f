use Rattle.std.proofs.Common.{◌∙◌, not, ap}
use Rattle.cut_word.proofs.CallerLemmas.{IsCut-negated, value_over-negated}
use Rattle.cut_word.proofs.laws.negation_is_right.Goals as goal

pub returns : goal.returns
returns c = λ values f cut is right. (IsCut-negated cut is, λ row. value_over-negated (values row) cut is ∙ ap not (right row))
