use Rattle.std.proofs.Common.{◌≤◌, ◌∙◌, length, take, drop, sym, ap, subst, arith}
use Rattle.std.proofs.lemmas.Bool.{eqb-false}
use Rattle.std.proofs.lemmas.Result.{err_from_is_err_and}
use Rattle.subject_graph.specs.Answers.{Refuses, Makes}
use Rattle.subject_graph.specs.Steps.{folded}
use Rattle.subject_graph.proofs.Halves.{front-refused, back-refused, fold-joined}
use Rattle.subject_graph.proofs.folds.+fold.Goals as goal

pub returns-in_err-first-clause-made : goal.returns-in_err-first-clause-made
returns-in_err-first-clause-made t c =
    let p = err_from_is_err_and c.from_residual.result c.from_residual.ensures.1 in
    let many : 2 ≤ length c.args.signals.now = omega (arith, eqb-false (length c.args.signals.now) 0 (sym c.if-is_empty.ensures)) in
    let fault = c.in_err-first.field-0.0 in
    rw (p.1, p.2) (front-refused c.args.kind c.args.builder.now c.args.signals.now many fault
    (subst (λ s. Refuses fault (folded c.args.kind c.args.builder.now s).graph) (c.split_at.ensures.front ∙ ap (λ half. take half c.args.signals.now) c.first_half.ensures) c.in_err-first.ensures.made))

pub returns-in_err-rest-clause-made : goal.returns-in_err-rest-clause-made
returns-in_err-rest-clause-made t c =
    let p = err_from_is_err_and c.from_residual-in_err-rest.result c.from_residual-in_err-rest.ensures.1 in
    let many : 2 ≤ length c.args.signals.now = omega (arith, eqb-false (length c.args.signals.now) 0 (sym c.if-is_empty.ensures)) in
    let fault = c.in_err-rest.field-0.0 in
    rw (p.1, p.2) (back-refused c.args.kind c.args.builder.now c.args.signals.now many c.fold.new.builder c.in_ok-first.first
    (ap (folded c.args.kind c.args.builder.now) (sym (c.split_at.ensures.front ∙ ap (λ half. take half c.args.signals.now) c.first_half.ensures)) ∙ c.in_ok-first.ensures.made) fault
    (subst (λ s. Refuses fault (folded c.args.kind c.fold.new.builder s).graph) (c.split_at.ensures.back ∙ ap (λ half. drop half c.args.signals.now) c.first_half.ensures) c.in_err-rest.ensures.made))

pub returns-clause-made : goal.returns-clause-made
returns-clause-made t c =
    let many : 2 ≤ length c.args.signals.now = omega (arith, eqb-false (length c.args.signals.now) 0 (sym c.if-is_empty.ensures)) in
    subst (Makes c.two.result c.two.new.builder)
    (fold-joined c.args.kind c.args.builder.now c.args.signals.now many c.fold.new.builder c.in_ok-first.first
    (ap (folded c.args.kind c.args.builder.now) (sym (c.split_at.ensures.front ∙ ap (λ half. take half c.args.signals.now) c.first_half.ensures)) ∙ c.in_ok-first.ensures.made)
    c.fold-2.new.builder c.in_ok-rest.rest
    (ap (folded c.args.kind c.fold.new.builder) (sym (c.split_at.ensures.back ∙ ap (λ half. drop half c.args.signals.now) c.first_half.ensures)) ∙ c.in_ok-rest.ensures.made))
    c.two.ensures.made
