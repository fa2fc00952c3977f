use Rattle.std.proofs.Common.{◌∙◌, ◌∷◌, [], ap, false}
use Rattle.cut_word.specs.Table.{value_at}
use Rattle.cut_word.proofs.Tables.{value_at-one, value_at-two}
use Rattle.cut_word.proofs.merging.widened.Goals as goal
use Rattle.cut_word.proofs.merging.widened.Goals.{then-has, else-has}

pub returns-else-has-2-clause-value : goal.returns-else-has-2-clause-value
returns-else-has-2-clause-value c = λ one two three. rw c.if-has-2.false (elim c.if-has.branch [
  | then-has w ↦ rw w.if-has.true (c.with_second.ensures.value one two three ∙ ap (λ t. value_at t (one ∷ three ∷ [])) w.table-is)
  | else-has w ↦ rw w.if-has.false (
      c.with_second.ensures.value one two three
      ∙ ap (λ t. value_at t (one ∷ three ∷ [])) w.table-is
      ∙ value_at-two w.with_first-table.result one three
      ∙ w.with_first-table.ensures.value one three false
      ∙ value_at-one c.args.table three)
])
