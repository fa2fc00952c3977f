use Rattle.std.proofs.Common.{◌<◌, length, get_or, arith, false}
use Rattle.std.proofs.lemmas.List.{get_or_default}
use Rattle.std.proofs.lemmas.Result.{err_from_is_err_and}
use Rattle.net_base.specs.declared.graph.Ref.TheVariants.{Const}
use Rattle.blif_model.specs.declared.design.Bit.TheVariants.{Zero}
use Rattle.subject_graph.proofs.Loops.{literals-refused}
use Rattle.subject_graph.proofs.rows.push_literals.Goals as goal

pub returns-in_err-push_literal-clause-made : goal.returns-in_err-push_literal-clause-made
returns-in_err-push_literal-clause-made c =
    let p = err_from_is_err_and c.from_residual.result c.from_residual.ensures.1 in
    let place = c.loop-place.place in
    let bits = c.args.bits.now in
    let pins = c.args.pins.now in
    let within : place < length bits = c.loop-place-test.true in
    let also : place < length pins = omega (arith, c.requires.fit) in
    rw (p.1, p.2) (literals-refused c.args.builder.now c.args.literals.now bits pins c.loop-place.builder c.loop-place.literals place (get_or bits place Zero) (get_or pins place (Const false)) c.in_err-push_literal.field-0.0 c.loop-place.invariant within c.requires.fit
    (get_or_default bits place Zero (get_or bits place Zero) within) (get_or_default pins place (Const false) (get_or pins place (Const false)) also) c.in_err-push_literal.ensures.made)
