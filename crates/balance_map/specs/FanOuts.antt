-- Who reads a node: other nodes, and outputs.
use Rattle.std.specs.Prelude.{ℕ, ◌==◌, ◌++◌, max, count_by, List, [], ◌∷◌}
use Rattle.std.specs.List.{flat_map}
use Rattle.net_base.specs.declared.graph.GNode.{GNode}
use Rattle.net_base.specs.declared.graph.GNode.TheVariants.{Inp, Neg, Both}
use Rattle.net_base.specs.declared.graph.Ref.{Ref}
use Rattle.net_base.specs.declared.graph.Ref.TheVariants.{Const, Node}
use Rattle.net_base.specs.declared.graph.Subject.{Subject}

-- the nodes that a node reads
abbrev pub fan_ins : GNode → List ℕ
fan_ins (Inp k) = []
fan_ins (Neg a) = a ∷ []
fan_ins (Both a b) = a ∷ b ∷ []

-- the node that an output reads; a constant reads none
abbrev pub ref_nodes : Ref → List ℕ
ref_nodes (Const value) = []
ref_nodes (Node node) = node ∷ []

-- the nodes that outputs read
abbrev pub output_nodes : Subject → List ℕ
output_nodes subject = flat_map ref_nodes subject.outputs

-- whatever is read in the whole graph, by a node or at an output, as often as it is read
abbrev pub reads_of : Subject → List ℕ
reads_of subject = flat_map fan_ins subject.graph.nodes ++ output_nodes subject

-- the fan-outs of a node: how often it is read, and at least 1
abbrev pub fan_outs : Subject → ℕ → ℕ
fan_outs subject node = max 1 (count_by (λ read. read == node) (reads_of subject))
