use Rattle.rsfq_main.proofs.KeyWords.{words_spell_numbers}
use Rattle.rsfq_main.proofs.keys.words_spell_numbers.Goals as goal

pub returns : goal.returns
returns c = words_spell_numbers
