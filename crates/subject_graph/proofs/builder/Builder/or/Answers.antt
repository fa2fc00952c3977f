use Rattle.std.proofs.Common.{◌∙◌, ◌||◌, not}
use Rattle.std.proofs.lemmas.Result.{err_from_is_err_and, IfOk-weaker}
use Rattle.net_base.specs.NodeValues.{ref_value}
use Rattle.subject_graph.specs.Laws.{HasValue}
use Rattle.subject_graph.specs.Steps.{with_neg, with_or}
use Rattle.subject_graph.proofs.Growth.{Refuses-more, first-grows, second-refused, neither-refused}
use Rattle.subject_graph.proofs.Steps.{or-meaning}
use Rattle.subject_graph.proofs.builder.Builder.or.Goals as goal

pub returns-in_err-first-clause-made : goal.returns-in_err-first-clause-made
returns-in_err-first-clause-made c =
    let p = err_from_is_err_and c.from_residual.result c.from_residual.ensures.1 in
    let graph = c.args.self.now in
    rw (p.1, p.2) (Refuses-more c.in_err-first.field-0.0 (with_neg graph c.args.x).graph (with_or graph c.args.x c.args.y).graph (first-grows graph c.args.x c.args.y) c.in_err-first.ensures.made)

pub returns-in_err-second-clause-made : goal.returns-in_err-second-clause-made
returns-in_err-second-clause-made c =
    let p = err_from_is_err_and c.from_residual-in_err-second.result c.from_residual-in_err-second.ensures.1 in
    rw (p.1, p.2) (second-refused c.args.self.now c.neg.new.self c.args.x c.args.y c.in_ok-first.first c.in_ok-first.ensures.made c.in_err-second.field-0.0 c.in_err-second.ensures.made)

pub returns-in_err-neither-clause-made : goal.returns-in_err-neither-clause-made
returns-in_err-neither-clause-made c =
    let p = err_from_is_err_and c.from_residual-in_err-neither.result c.from_residual-in_err-neither.ensures.1 in
    rw (p.1, p.2) (neither-refused c.args.self.now c.neg.new.self c.args.x c.args.y c.in_ok-first.first c.in_ok-first.ensures.made c.neg-2.new.self c.in_ok-second.second c.in_ok-second.ensures.made c.in_err-neither.field-0.0 c.in_err-neither.ensures.made)

pub returns-clause-value : goal.returns-clause-value
returns-clause-value c =
    let graph = c.args.self.now in
    let last = c.neg-3.new.self in
    IfOk-weaker c.neg-3.result (λ z. HasValue last z (λ row. not (ref_value c.and.new.self row c.in_ok-neither.neither))) (λ z. HasValue last z (λ row. ref_value graph row c.args.x || ref_value graph row c.args.y))
    (λ z value row. value row ∙ or-meaning graph c.neg.new.self c.neg-2.new.self c.and.new.self c.args.x c.args.y c.in_ok-first.first c.in_ok-second.second c.in_ok-neither.neither row
    c.neg.ensures.kept c.neg-2.ensures.kept c.requires.second c.in_ok-first.ensures.there c.in_ok-first.ensures.value c.in_ok-second.ensures.value c.in_ok-neither.ensures.value)
    c.neg-3.ensures.value
