-- What a call that makes what is defined tells of its answer.
use Rattle.std.proofs.Common.{Bool, List, length, subst}
use Rattle.std.specs.Prelude.{Result, Ok, Err, IfOk}
use Rattle.net_base.specs.declared.graph.Ref.{Ref}
use Rattle.net_base.specs.declared.graph.Graph.{Graph}
use Rattle.net_base.specs.Graph.{IsRefThere}
use Rattle.subject_graph.specs.declared.fault.GraphFault.{GraphFault}
use Rattle.subject_graph.specs.Steps.{Made}
use Rattle.subject_graph.specs.Laws.{HasValue}
use Rattle.subject_graph.specs.Answers.{Makes}
use Rattle.subject_graph.proofs.Steps.{Means}

-- The answer has the value that is meant, and is there.
pub value-of : (old : Graph) (result : Result Ref GraphFault) (graph : Graph) (made : Made Ref) (meaning : List Bool → Bool) → Means old made meaning → Makes result graph made → IfOk result (λ x. HasValue graph x meaning)
value-of old (Ok x) graph made meaning means is = subst (λ (m : Made Ref). HasValue m.graph m.answer meaning) is means.value
value-of old (Err fault) graph made meaning means is = tt

pub there-of : (old : Graph) (result : Result Ref GraphFault) (graph : Graph) (made : Made Ref) (meaning : List Bool → Bool) → Means old made meaning → Makes result graph made → IfOk result (IsRefThere (length graph.nodes))
there-of old (Ok x) graph made meaning means is = subst (λ (m : Made Ref). IsRefThere (length m.graph.nodes) m.answer) is means.there
there-of old (Err fault) graph made meaning means is = tt
