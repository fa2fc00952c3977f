use Rattle.blif_lex.proofs.TokensOfText as law
use Rattle.blif_lex.proofs.laws.tokens_stand_between_separators.Goals as goal

pub returns : goal.returns
returns c = law.tokens_stand_between_separators
