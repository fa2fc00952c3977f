use Rattle.std.proofs.Common.{◌≡◌, ◌∙◌, Bool, List, map, sym, subst}
use Rattle.net_base.specs.declared.graph.Subject.{Subject}
use Rattle.net_base.specs.NodeValues.{ref_value}
use Rattle.blif_model.specs.Values.{signal_value}
use Rattle.subject_graph.proofs.Drawing.{subject_has_values}
use Rattle.subject_graph.proofs.building.build.Goals as goal

pub returns-clause-value : goal.returns-clause-value
returns-clause-value c =
    let ordered = c.args.ordered.now in
    subst (λ (subject : Subject). (row : List Bool) → map (ref_value subject.graph row) subject.outputs ≡ map (signal_value ordered row) ordered.design.outputs)
    (c.in_ok-outputs.ensures.made ∙ sym c.finish.ensures.value) (λ row. subject_has_values ordered row c.requires.regular)
