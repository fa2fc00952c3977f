use Rattle.std.proofs.Common.{◌∙◌, ◌&&◌, ap}
use Rattle.cut_word.specs.Cut.{value_over}
use Rattle.cut_word.proofs.CallerLemmas.{IsCut-merged, value_over-merged}
use Rattle.cut_word.proofs.laws.merge_is_right.Goals as goal

pub returns : goal.returns
returns c = λ values f g a b cut is-a is-b is right-a right-b. (
  IsCut-merged a b cut is-a is-b is,
  λ row. value_over-merged a b cut (values row) is ∙ ap (λ v. v && value_over (values row) b) (right-a row) ∙ ap (λ v. f row && v) (right-b row),
)
