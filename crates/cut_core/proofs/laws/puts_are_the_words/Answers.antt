use Rattle.cut_core.proofs.Histories.{puts_words}
use Rattle.cut_core.proofs.laws.puts_are_the_words.Goals as goal

pub returns : goal.returns
returns c = puts_words
