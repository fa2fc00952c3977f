use Rattle.std.proofs.Common.{◌++◌, ◌∙◌, List, [], ◌∷◌, length, ap, sym, arith}
use Rattle.net_base.specs.declared.graph.GNode.{GNode}
use Rattle.net_base.specs.declared.graph.GNode.TheVariants.{Inp}
use Rattle.subject_graph.proofs.Places.{input-new, length-inputs, inputs-push}
use Rattle.subject_graph.proofs.builder.push_inputs.Goals as goal

pub push-requires-clause-new : goal.push-requires-clause-new
push-requires-clause-new c = rw c.loop-number.invariant (input-new c.loop-number.number)

pub push-requires-clause-room : goal.push-requires-clause-room
push-requires-clause-room c = omega (arith, ap length c.loop-number.invariant ∙ length-inputs c.loop-number.number)

pub loop-number-preserved : goal.loop-number-preserved
loop-number-preserved c =
    c.in_ok-push.ensures.ok ∙ ap (λ (ns : List GNode). ns ++ Inp c.loop-number.number ∷ []) c.loop-number.invariant ∙ sym (inputs-push c.loop-number.number)
