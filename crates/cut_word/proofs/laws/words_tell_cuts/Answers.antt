use Rattle.cut_word.proofs.CallerLemmas.{same_cut-words}
use Rattle.cut_word.proofs.laws.words_tell_cuts.Goals as goal

pub returns : goal.returns
returns c = same_cut-words
