use Rattle.std.proofs.Common.{◌∙◌, ap}
use Rattle.net_base.specs.declared.graph.Subject.{Subject}
use Rattle.subject_graph.proofs.CallerLemmas.{subject_of-inputs}
use Rattle.synth.proofs.reading.subject_of.Goals as goal

pub returns-clause-inputs : goal.returns-clause-inputs
returns-clause-inputs c = ap (λ (s : Subject). s.graph.inputs) c.in_ok-subject.ensures.built ∙ subject_of-inputs c.args.ordered.now
