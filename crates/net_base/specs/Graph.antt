-- Graphs of AND and NOT nodes: which are proper, and which outputs they may have.
use Rattle.std.specs.Prelude.{◌≡◌, ◌<◌, ◌≤◌, ℕ, List, length, All, slice_index_or}
use Rattle.net_base.specs.declared.graph.GNode.{GNode}
use Rattle.net_base.specs.declared.graph.GNode.TheVariants.{Inp, Neg, Both}
use Rattle.net_base.specs.declared.graph.Ref.{Ref}
use Rattle.net_base.specs.declared.graph.Ref.TheVariants.{Const, Node}
use Rattle.net_base.specs.declared.graph.Graph.{Graph}
use Rattle.net_base.specs.declared.graph.Subject.{Subject}
use Rattle.net_base.specs.declared.graph.TheConstants.{MAX_NODES}

-- Where a node may stand: input k at place k, and any other behind the inputs and its fan-ins, of two the lower one first.
abbrev pub IsNodeAt : ℕ → ℕ → GNode → Type 0
IsNodeAt inputs place (Inp k) = (k ≡ place) × (k < inputs)
IsNodeAt inputs place (Neg a) = (inputs ≤ place) × (a < place)
IsNodeAt inputs place (Both a b) = (inputs ≤ place) × (a < b) × (b < place)

-- each node stands where it may
abbrev pub AreNodes : ℕ → List GNode → Type 0
AreNodes inputs nodes = (place : ℕ) (d : GNode) → place < length nodes → IsNodeAt inputs place (slice_index_or nodes place d)

-- A graph is proper: node k is input k exactly for the k below `inputs`, all others stand behind their fan-ins, and there
-- are not too many.
pub record IsProper (graph : Graph) : Type 0 where
  pub inputs : graph.inputs ≤ length graph.nodes
  pub few : length graph.nodes ≤ MAX_NODES
  pub nodes : AreNodes graph.inputs graph.nodes

-- a signal is a constant, or one of n nodes
abbrev pub IsRefThere : ℕ → Ref → Type 0
IsRefThere nodes (Const value) = Unit {0}
IsRefThere nodes (Node k) = k < nodes

-- a proper graph, in which the node of each output is there
pub record IsSubject (subject : Subject) : Type 0 where
  pub graph : IsProper subject.graph
  pub outputs : All (IsRefThere (length subject.graph.nodes)) subject.outputs
