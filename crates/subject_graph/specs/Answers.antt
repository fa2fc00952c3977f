-- Calls that make what is defined, unless it has too many nodes or memory runs out.
use Rattle.std.specs.Prelude.{◌≡◌, ◌<◌, List, Result, length, MatchResult}
use Rattle.net_base.specs.declared.graph.Ref.{Ref}
use Rattle.net_base.specs.declared.graph.Graph.{Graph}
use Rattle.net_base.specs.declared.graph.Subject.{Subject}
use Rattle.net_base.specs.declared.graph.TheConstants.{MAX_NODES}
use Rattle.subject_graph.specs.declared.fault.GraphFault.{GraphFault}
use Rattle.subject_graph.specs.declared.fault.GraphFault.TheVariants.{TooManyNodes, NoMemory}
use Rattle.subject_graph.specs.Steps.{Made}

-- what a fault tells of the graph that is defined: it has too many nodes; want of memory tells nothing
abbrev pub Refuses : GraphFault → Graph → Type 0
Refuses TooManyNodes graph = MAX_NODES < length graph.nodes
Refuses NoMemory graph = Unit {0}

-- a call makes a signal, and leaves the graph that is defined
abbrev pub Makes : Result Ref GraphFault → Graph → Made Ref → Type 0
Makes result graph made = MatchResult result (λ x. made ≡ record { graph = graph; answer = x }) (λ fault. Refuses fault made.graph)

-- a call leaves the signals and the graph that are defined
abbrev pub Fills : {U : Type 0} → Result U GraphFault → Graph → List Ref → Made (List Ref) → Type 0
Fills result graph signals made = MatchResult result (λ _. made ≡ record { graph = graph; answer = signals }) (λ fault. Refuses fault made.graph)

-- a call answers what the outputs of a subject are, and leaves its graph
abbrev pub GivesOutputs : Result (List Ref) GraphFault → Graph → Subject → Type 0
GivesOutputs result graph subject = MatchResult result (λ outputs. subject ≡ record { graph = graph; outputs = outputs }) (λ fault. Refuses fault subject.graph)
