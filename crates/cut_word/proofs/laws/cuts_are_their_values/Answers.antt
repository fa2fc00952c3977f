use Rattle.cut_word.proofs.CallerLemmas.{same_cut-values}
use Rattle.cut_word.proofs.laws.cuts_are_their_values.Goals as goal

pub returns : goal.returns
returns c = same_cut-values
