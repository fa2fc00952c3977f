use Rattle.std.proofs.Common.{subst, sym}
use Rattle.net_base.specs.Graph.{IsProper}
use Rattle.subject_graph.proofs.Formed.{input-proper}
use Rattle.subject_graph.proofs.builder.Builder.new.Goals as goal

pub invariant_of-result : goal.invariant_of-result
invariant_of-result c =
    subst (λ nodes. IsProper (record { inputs = c.args.inputs; nodes = nodes })) (sym c.in_ok-push_inputs.ensures) (input-proper c.args.inputs c.requires)

pub returns-clause-proper : goal.returns-clause-proper
returns-clause-proper c =
    subst (λ nodes. IsProper (record { inputs = c.args.inputs; nodes = nodes })) (sym c.in_ok-push_inputs.ensures) (input-proper c.args.inputs c.requires)
