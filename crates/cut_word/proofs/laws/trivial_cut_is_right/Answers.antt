use Rattle.cut_word.proofs.CallerLemmas.{IsCut-trivial, value_over-trivial}
use Rattle.cut_word.proofs.laws.trivial_cut_is_right.Goals as goal

pub returns : goal.returns
returns c = λ values leaf low. (IsCut-trivial leaf low, λ row. value_over-trivial (values row) leaf)
