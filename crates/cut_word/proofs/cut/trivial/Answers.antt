use Rattle.std.proofs.Common.{◌≡◌, ◌+◌, ◌*◌, ◌∙◌, ap, refl, [], ◌∷◌}
use Rattle.cut_word.specs.Cut.{value_over, trivial_cut}
use Rattle.cut_word.specs.Word.{first_word}
use Rattle.cut_word.proofs.CallerLemmas.{IsCut-trivial, value_over-trivial}
use Rattle.cut_word.proofs.WordParts.{first_word-trivial, AreOfCut-made, cut_of-made}
use Rattle.cut_word.proofs.cut.trivial.Goals as goal

word-is : (c : goal.After-from) → 4611686018427387904 + (c.from.result + 1) * 1099511627776 ≡ first_word (c.args.id ∷ [])
word-is c = first_word-trivial c.args.id c.from.result c.from.ensures

pub invariant_of-result : goal.invariant_of-result
invariant_of-result c = AreOfCut-made (trivial_cut c.args.id) (IsCut-trivial c.args.id c.requires) _ _ (word-is c) refl

pub returns-clause-value : goal.returns-clause-value
returns-clause-value c = cut_of-made (trivial_cut c.args.id) (IsCut-trivial c.args.id c.requires) _ _ (word-is c) refl

pub returns-clause-meaning : goal.returns-clause-meaning
returns-clause-meaning c = λ values. ap (value_over values) (returns-clause-value c) ∙ value_over-trivial values c.args.id

pub returns-clause-cut : goal.returns-clause-cut
returns-clause-cut c = (invariant_of-result c).cut
