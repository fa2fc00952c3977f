-- What is promised of choices and of gates.
use Rattle.std.specs.Prelude.{ℕ, ◌≡◌, ◌<◌, ◌≤◌, ◌^◌, ◌⊎◌, ◌↔◌, Bool, false, List, length, map, All, Contains}
use Rattle.std.specs.Ordering.{is_lt}
use Rattle.net_base.specs.declared.graph.Subject.{Subject}
use Rattle.net_base.specs.Graph.{IsSubject}
use Rattle.net_base.specs.NodeValues.{ref_value}
use Rattle.cell_match.specs.Candidates.{candidates}
use Rattle.cut_lists.specs.CutList.{cut_list}
use Rattle.gate_net.specs.Net.{IsGateNet, EachGateIsUsed}
use Rattle.gate_net.specs.Values.{end_value}
use Rattle.balance_map.specs.declared.choice.Choice.{Choice}
use Rattle.balance_map.specs.FanOuts.{output_nodes}
use Rattle.balance_map.specs.Choices.{choice_cmp, choice_of, choice_at, choices_of}
use Rattle.balance_map.specs.Needed.{leaves_used, needed_nodes}
use Rattle.balance_map.specs.Cover.{covered, gates_of}

-- A node that isn't an input has a candidate. Its choice is what one of its candidates would be, and none would come before it.
abbrev pub ChoicesAreLeast : Type 0
ChoicesAreLeast =
    (subject : Subject) (node : ℕ) → IsSubject subject → node < length subject.graph.nodes → subject.graph.inputs ≤ node
    → Contains (map (choice_of subject (choices_of subject)) (candidates (cut_list subject.graph node))) (choice_at (choices_of subject) node)
    × All (λ (other : Choice). is_lt (choice_cmp other (choice_at (choices_of subject) node)) ≡ false)
    (map (choice_of subject (choices_of subject)) (candidates (cut_list subject.graph node)))

-- A node is needed exactly where it isn't an input, and an output reads it or it stands in the chosen formula of a needed node.
abbrev pub NeededNodesAreNeeded : Type 0
NeededNodesAreNeeded =
    (subject : Subject) (node : ℕ) → IsSubject subject → node < length subject.graph.nodes
    → Contains (needed_nodes subject) node
    ↔ (subject.graph.inputs ≤ node)
    × (Contains (output_nodes subject) node
    ⊎ ((user : ℕ) × Contains (needed_nodes subject) user × Contains (leaves_used (choice_at (choices_of subject) user)) node))

-- The gates of a subject are well formed, and each has a use, where they and the outputs can be numbered.
abbrev pub CoversAreNets : Type 0
CoversAreNets =
    (subject : Subject) → IsSubject subject → length subject.outputs < 2 ^ 31 → length (covered subject).gates < 2 ^ 31
    → IsGateNet (gates_of subject) × EachGateIsUsed (gates_of subject)

-- Over every input row each output of the gates has the value of the output of the subject.
abbrev pub CoversKeepValues : Type 0
CoversKeepValues =
    (subject : Subject) (row : List Bool) → IsSubject subject
    → map (end_value (gates_of subject) row) (gates_of subject).outputs ≡ map (ref_value subject.graph row) subject.outputs
