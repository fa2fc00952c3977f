use Rattle.std.proofs.Common.{refl}
use Rattle.cut_word.proofs.WordParts.{AreOfCut-from}
use Rattle.cut_word.proofs.cut.from_words.Goals as goal

pub invariant_of-result : goal.invariant_of-result
invariant_of-result c = AreOfCut-from c.args.a c.args.b (c.are_words.ensures.0 c.if-are_words.true)

pub returns-then-are_words-clause-some : goal.returns-then-are_words-clause-some
returns-then-are_words-clause-some c = ((invariant_of-result c).whole, refl)

pub returns-then-are_words-clause-cut : goal.returns-then-are_words-clause-cut
returns-then-are_words-clause-cut c = (invariant_of-result c).cut
