use Rattle.std.proofs.Common.{◌∙◌, ap, not}
use Rattle.cut_word.specs.Cut.{value_over}
use Rattle.cut_word.specs.Word.{cut_of}
use Rattle.cut_word.proofs.CallerLemmas.{IsCut-negated, value_over-negated}
use Rattle.cut_word.proofs.cut.negate.Goals as goal

pub invariant_of-result : goal.invariant_of-result
invariant_of-result c = record {
  cut = IsCut-negated (cut_of c.c.inside.leaves c.c.inside.table) c.c.invariant.cut;
  whole = c.c.invariant.whole;
}

pub returns-clause-complement : goal.returns-clause-complement
returns-clause-complement c = λ values.
    value_over-negated values (cut_of c.c.inside.leaves c.c.inside.table) c.c.invariant.cut ∙ ap (λ v. not (value_over values v)) c.c.view_is

pub returns-clause-cut : goal.returns-clause-cut
returns-clause-cut c = IsCut-negated (cut_of c.c.inside.leaves c.c.inside.table) c.c.invariant.cut
