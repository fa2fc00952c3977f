-- The gates of all needed nodes. By induction over the nodes from the lowest: an input drives itself, and has the value of its
-- node. A needed node's leaves that stand in its chosen formula are inputs or needed, so their drivers have the values of
-- their nodes, and the walk of the formula gives a driver with the value of its cut, which is right for the node.
use Rattle.std.proofs.Common.{◌≡◌, ◌≤◌, ◌<◌, ◌++◌, ◌∙◌, ℕ, zero, suc, Bool, true, false, List, [], ◌∷◌, get_or, length, map, All, refl, sym, ap, subst, arith, ⊎_elim}
use Rattle.std.proofs.lemmas.Bool.{cases_lt}
use Rattle.std.proofs.lemmas.List.{length-map, get_or-map, get_or_past}
use Rattle.std.proofs.lemmas.List.Elements.{All-weaker}
use Rattle.std.proofs.lemmas.List.FromFn.{length-map-range_with_len, get_or-map-range_with_len}
use Rattle.net_base.specs.declared.graph.GNode.{GNode}
use Rattle.net_base.specs.declared.graph.GNode.TheVariants.{Inp, Neg, Both}
use Rattle.net_base.specs.declared.graph.Subject.{Subject}
use Rattle.net_base.specs.Graph.{IsNodeAt, IsProper}
use Rattle.net_base.specs.NodeValues.{value_of, node_values, node_value}
use Rattle.net_base.proofs.Nodes.{nodes_follow_fan_ins}
use Rattle.net_base.proofs.CallerLemmas.{All-unmap}
use Rattle.cut_word.specs.Table.{value_at}
use Rattle.cut_word.specs.Word.{leaves_in}
use Rattle.pattern_table.specs.Least.{has_formula}
use Rattle.gate_net.specs.declared.row.Driver.{Driver}
use Rattle.gate_net.specs.declared.row.Driver.TheVariants.{Input}
use Rattle.gate_net.specs.Net.{IsThere, AreGates}
use Rattle.gate_net.specs.Values.{driver_value, values_by}
use Rattle.balance_map.specs.declared.choice.Choice.{Choice}
use Rattle.balance_map.specs.Choices.{choice_at, choices_of}
use Rattle.balance_map.specs.Needed.{places_in, leaves_used}
use Rattle.balance_map.specs.Cover.{Driven, with_choice, with_driver, with_nodes, own_drivers}
use Rattle.balance_map.specs.Walks.{most_gates, IsLeafThere}
use Rattle.balance_map.proofs.Formulas.{IsGrown, IsThere-grown, value-grown, HaveValues, IsWalked, MayWalk, formula-walked}
use Rattle.balance_map.proofs.Chosen.{ComesFrom, IsOfNode, leaves-come}
use Rattle.balance_map.proofs.FormulaLeaves.{places-below, All-both, length-leaves, leaves-some, leaves-few}

-- the gates of more nodes come after those of the first
pub with_nodes-append : (choices : List Choice) (so : Driven (List Driver)) (nodes more : List ℕ) → with_nodes choices so (nodes ++ more) ≡ with_nodes choices (with_nodes choices so nodes) more
with_nodes-append choices so [] more = refl
with_nodes-append choices so (node ∷ nodes) more = with_nodes-append choices (with_driver so.by node (with_choice so.by so.gates (choice_at choices node))) nodes more

-- what drives a node
abbrev pub driver_at : List Driver → ℕ → Driver
driver_at drivers node = get_or drivers node (Input node)

module _ (subject : Subject) where
  -- the driver of a node is there, and has the node's value
  pub record HasDriver (so : Driven (List Driver)) (node : ℕ) : Type 0 where
    pub there : IsThere subject.graph.inputs (length so.gates) (driver_at so.by node)
    pub value : (row : List Bool) → driver_value row (values_by row so.gates) (driver_at so.by node) ≡ node_value subject.graph row node

  -- at first each node drives itself
  abbrev pub start : Driven (List Driver)
  start = record { gates = []; by = own_drivers subject }

  pub own-start : (node : ℕ) → driver_at (own_drivers subject) node ≡ Input node
  own-start node = ⊎_elim {C = driver_at (own_drivers subject) node ≡ Input node}
      (λ within. get_or-map-range_with_len Input 0 (length subject.graph.nodes) node node (Input node) within (omega arith))
      (λ past. let long : length (own_drivers subject) ≡ length subject.graph.nodes = length-map-range_with_len Input 0 (length subject.graph.nodes) in get_or_past (own_drivers subject) node (Input node) (omega arith))
      (cases_lt node (length subject.graph.nodes))

  -- the node at an input's place is the input
  input-is : IsProper subject.graph → (node : ℕ) → node < subject.graph.inputs → get_or subject.graph.nodes node (Inp 0) ≡ Inp node
  input-is proper node low = by (get_or subject.graph.nodes node (Inp 0)) (proper.nodes node (Inp 0) (omega (arith, proper.inputs)))
    where
      by : (n : GNode) → IsNodeAt subject.graph.inputs node n → n ≡ Inp node
      by (Inp k) at = ap Inp at.0
      by (Neg a) at = absurd (let h : subject.graph.inputs ≤ node = at.0 in omega arith)
      by (Both a b) at = absurd (let h : subject.graph.inputs ≤ node = at.0 in omega arith)

  pub HasDriver-input : IsProper subject.graph → (so : Driven (List Driver)) (node : ℕ) → node < subject.graph.inputs → driver_at so.by node ≡ Input node → HasDriver so node
  HasDriver-input proper so node low own = record {
    there = subst (IsThere subject.graph.inputs (length so.gates)) (sym own) low;
    value = λ row.
        ap (driver_value row (values_by row so.gates)) own
        ∙ sym (nodes_follow_fan_ins subject.graph row node (Inp 0) proper (omega (arith, proper.inputs)) ∙ ap (value_of row (node_values row subject.graph.nodes)) (input-is proper node low));
  }

  pub HasDriver-grown : (so after : Driven (List Driver)) (room node : ℕ) → IsGrown subject.graph.inputs so.gates room after.gates → driver_at after.by node ≡ driver_at so.by node → HasDriver so node → HasDriver after node
  HasDriver-grown so after room node grown same has = record {
    there = subst (IsThere subject.graph.inputs (length after.gates)) (sym same) (IsThere-grown subject.graph.inputs so.gates after.gates room grown (driver_at so.by node) has.there);
    value = λ row. ap (driver_value row (values_by row after.gates)) same ∙ value-grown subject.graph.inputs row so.gates after.gates room grown (driver_at so.by node) has.there ∙ has.value row;
  }

  -- a node's gates behind those before, of which there are forty more at most, and its driver has its value
  pub record IsCovered (node : ℕ) (so : Driven (List Driver)) (after : Driven Driver) : Type 0 where
    pub grown : IsGrown subject.graph.inputs so.gates 40 after.gates
    pub there : IsThere subject.graph.inputs (length after.gates) after.by
    pub value : (row : List Bool) → driver_value row (values_by row after.gates) after.by ≡ node_value subject.graph row node

  -- ---- One node
  module _ (node : ℕ) (from : ComesFrom (IsOfNode subject node) (choice_at (choices_of subject) node)) (so : Driven (List Driver)) where
    abbrev choice : Choice
    choice = choice_at (choices_of subject) node

    abbrev nodes : List ℕ
    nodes = leaves_in choice.leaves

    -- the drivers of its leaves
    abbrev drivers : List Driver
    drivers = map (driver_at so.by) nodes

    abbrev places : List ℕ
    places = places_in (length drivers) choice.depth choice.table

    length-drivers : length drivers ≡ length nodes
    length-drivers = length-map nodes (driver_at so.by)

    -- each leaf that stands in the formula has its driver
    leaf-drivers : All (HasDriver so) (leaves_used choice) → All (λ place. (place < length nodes) × HasDriver so (get_or nodes place 0)) places
    leaf-drivers has =
        subst (λ n. All (λ place. (place < length nodes) × HasDriver so (get_or nodes place 0)) (places_in n choice.depth choice.table)) (sym length-drivers)
        (All-both (λ place. place < length nodes) (λ place. HasDriver so (get_or nodes place 0)) (places_in (length nodes) choice.depth choice.table)
        (places-below (length nodes) choice.depth choice.table (leaves-some subject node from))
        (All-unmap (HasDriver so) (λ place. get_or nodes place 0) (places_in (length nodes) choice.depth choice.table) has))

    leaf-driver : (place : ℕ) → place < length nodes → get_or drivers place (Input 0) ≡ driver_at so.by (get_or nodes place 0)
    leaf-driver place within = get_or-map (driver_at so.by) nodes place 0 (Input 0) within

    formula-there : has_formula (length drivers) choice.table choice.depth ≡ true
    formula-there =
        ap (λ n. has_formula n choice.table choice.depth) (length-drivers ∙ length-leaves subject node from)
        ∙ ap (λ t. has_formula (length from.cut.leaves) t choice.depth) from.table
        ∙ ap (has_formula (length from.cut.leaves) from.cut.table) from.depth ∙ from.formula

    pub MayWalk-node : All (HasDriver so) (leaves_used choice) → MayWalk subject.graph.inputs drivers choice.depth so.gates choice.table
    MayWalk-node has = (
      formula-there,
      All-weaker (λ place. (place < length nodes) × HasDriver so (get_or nodes place 0)) (IsLeafThere subject.graph.inputs (length so.gates) drivers)
          (λ place h. subst (IsThere subject.graph.inputs (length so.gates)) (sym (leaf-driver place h.0)) h.1.there) places (leaf-drivers has),
    )

    values-there : (row : List Bool) → All (HasDriver so) (leaves_used choice) → HaveValues subject.graph.inputs drivers row so.gates places (map (node_value subject.graph row) nodes)
    values-there row has =
        All-weaker (λ place. (place < length nodes) × HasDriver so (get_or nodes place 0)) (λ place. driver_value row (values_by row so.gates) (get_or drivers place (Input 0)) ≡ get_or (map (node_value subject.graph row) nodes) place false)
        (λ place h. ap (driver_value row (values_by row so.gates)) (leaf-driver place h.0) ∙ h.1.value row ∙ sym (get_or-map (node_value subject.graph row) nodes place 0 false h.0)) places (leaf-drivers has)

    cut-value : (row : List Bool) → value_at choice.table (map (node_value subject.graph row) nodes) ≡ node_value subject.graph row node
    cut-value row =
        ap (λ t. value_at t (map (node_value subject.graph row) nodes)) from.table
        ∙ ap (λ ls. value_at from.cut.table (map (node_value subject.graph row) ls)) (leaves-come subject node from) ∙ from.is.right row

    -- it adds forty gates at most
    most : (below : ℕ) → below ≤ 3 → most_gates (suc below) ≤ 40
    most zero few = omega arith
    most (suc zero) few = omega arith
    most (suc (suc zero)) few = omega arith
    most (suc (suc (suc zero))) few = omega arith
    most (suc (suc (suc (suc below)))) few = absurd (omega arith)

    pub few-gates-deep : most_gates choice.depth ≤ 40
    few-gates-deep = subst (λ depth. most_gates depth ≤ 40) (sym from.depth) (most from.below from.shallow)

    -- what its chosen formula gives
    abbrev pub after : Driven Driver
    after = with_choice so.by so.gates choice

    pub node-covered : AreGates subject.graph.inputs so.gates → All (HasDriver so) (leaves_used choice) → IsCovered node so after
    node-covered formed has =
        let walk : IsWalked subject.graph.inputs drivers so.gates (most_gates choice.depth) places (value_at choice.table) after =
        formula-walked subject.graph.inputs drivers choice.depth so.gates choice.table formed (MayWalk-node has) in
        record {
          grown = forty walk.grown;
          there = walk.there;
          value = λ row. walk.value row (map (node_value subject.graph row) nodes) (omega (arith, length-map nodes (node_value subject.graph row), leaves-few subject node from)) (values-there row has) ∙ cut-value row;
        }
      where
        forty : IsGrown subject.graph.inputs so.gates (most_gates choice.depth) after.gates → IsGrown subject.graph.inputs so.gates 40 after.gates
        forty grown = record { formed = grown.formed; more = grown.more; tail = grown.tail; few = omega (arith, grown.few, few-gates-deep) }
