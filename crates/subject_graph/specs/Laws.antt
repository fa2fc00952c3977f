-- What is promised of graphs as they grow, and of the subject of a design.
use Rattle.std.specs.Prelude.{◌≡◌, ◌++◌, Bool, List, length, map}
use Rattle.net_base.specs.declared.graph.GNode.{GNode}
use Rattle.net_base.specs.declared.graph.Ref.{Ref}
use Rattle.net_base.specs.declared.graph.Graph.{Graph}
use Rattle.net_base.specs.Graph.{IsRefThere}
use Rattle.net_base.specs.NodeValues.{ref_value}
use Rattle.blif_model.specs.declared.design.Ordered.{Ordered}
use Rattle.blif_model.specs.Regular.{IsRegular}
use Rattle.blif_model.specs.Values.{signal_value}
use Rattle.subject_graph.specs.Tables.{subject_of}

-- a graph keeps all nodes of another, and has others only behind them
pub record Keeps (old new : Graph) : Type 0 where
  pub inputs : new.inputs ≡ old.inputs
  pub more : List GNode
  pub nodes : new.nodes ≡ old.nodes ++ more

-- the value of a signal over each row
abbrev pub HasValue : Graph → Ref → (List Bool → Bool) → Type 0
HasValue graph x value = (row : List Bool) → ref_value graph row x ≡ value row

-- In a graph that keeps all nodes of another each signal of the other keeps its value.
abbrev pub GraphKeepsValues : Type 0
GraphKeepsValues = (old new : Graph) (row : List Bool) (x : Ref) → Keeps old new → IsRefThere (length old.nodes) x → ref_value new row x ≡ ref_value old row x

-- In the subject of a regular design each output has the value of its signal, however many nodes there are.
abbrev pub SubjectHasValues : Type 0
SubjectHasValues =
    (ordered : Ordered) (row : List Bool) → IsRegular ordered.design
    → map (ref_value (subject_of ordered).graph row) (subject_of ordered).outputs ≡ map (signal_value ordered row) ordered.design.outputs
