-- The needed nodes one by one: each is ready for its walk when those before it are done, and there is room for its gates.
use Rattle.std.proofs.Common.{◌≡◌, ◌≤◌, ◌<◌, ◌+◌, ◌^◌, ◌++◌, ◌∙◌, ℕ, List, Some, get_or, length, take, drop, map, sym, ap, subst, arith}
use Rattle.std.proofs.lemmas.List.{take_more, take_all, take-append-drop, length-map}
use Rattle.net_base.specs.declared.graph.Subject.{Subject}
use Rattle.net_base.specs.Graph.{IsProper}
use Rattle.cut_word.specs.Word.{leaves_in}
use Rattle.gate_net.specs.declared.row.Driver.{Driver}
use Rattle.gate_net.specs.declared.net.GateNet.{GateNet}
use Rattle.gate_net.specs.Net.{IsGateNet, bare_net}
use Rattle.balance_map.specs.declared.choice.Choice.{Choice}
use Rattle.balance_map.specs.FanOuts.{output_nodes}
use Rattle.balance_map.specs.Choices.{choice_at, choices_of}
use Rattle.balance_map.specs.Needed.{needed_nodes}
use Rattle.balance_map.specs.Cover.{Driven, with_choice, with_driver, with_nodes, covered}
use Rattle.balance_map.specs.Walks.{most_gates, IsReady}
use Rattle.balance_map.proofs.Formulas.{MayWalk}
use Rattle.balance_map.proofs.Chosen.{ComesFrom, IsOfNode}
use Rattle.balance_map.proofs.FormulaLeaves.{leaves-some, leaves-few}
use Rattle.balance_map.proofs.NodeGates.{driver_at, start, with_nodes-append, MayWalk-node, few-gates-deep}
use Rattle.balance_map.proofs.AllGates.{used, comes, gates_for, next, gates_for-push, AreGatesBelow, gates-below, used-drivers, IsAtPlace, at-place}
use Rattle.balance_map.proofs.Growth.{nodes-grow}
use Rattle.balance_map.proofs.Downwards.{IsShort, choice-is, choice-short}
use Rattle.std.specs.Prelude.{slice_get}

module _ (subject : Subject) where
  -- the gates when so many needed nodes are done
  abbrev pub after : ℕ → Driven (List Driver)
  after place = with_nodes (choices_of subject) (start subject) (take place (needed_nodes subject))

  -- The loop over the needed nodes has come to a place.
  pub record HasCovered (first : GateNet) (most place : ℕ) (nodes : List ℕ) (now : GateNet) (drivers : List Driver) : Type 0 where
    pub nodes' : nodes ≡ needed_nodes subject
    pub is : record { gates = now.gates; by = drivers } ≡ after place
    pub rest : now ≡ record first { gates = now.gates }
    pub formed : IsGateNet now
    pub few : length now.gates ≤ most

module _ (subject : Subject) (proper : IsProper subject.graph) where
  at : (place : ℕ) → place < length (needed_nodes subject) → IsAtPlace subject proper (length subject.graph.nodes) (output_nodes subject) place 0
  unfolding needed_nodes
  at place within = at-place subject proper (length subject.graph.nodes) (output_nodes subject) place 0 within

  pub node-low : (place : ℕ) → place < length (needed_nodes subject) → get_or (needed_nodes subject) place 0 < length subject.graph.nodes
  unfolding needed_nodes
  node-low place within = (at place within).low

  pub node-behind : (place : ℕ) → place < length (needed_nodes subject) → subject.graph.inputs ≤ get_or (needed_nodes subject) place 0
  unfolding needed_nodes
  node-behind place within = (at place within).behind

  comes-at : (place : ℕ) → place < length (needed_nodes subject) → ComesFrom (IsOfNode subject (get_or (needed_nodes subject) place 0)) (choice_at (choices_of subject) (get_or (needed_nodes subject) place 0))
  comes-at place within = comes subject proper (get_or (needed_nodes subject) place 0) (node-low place within) (node-behind place within)

  -- what the nodes before have
  before : (place : ℕ) → place < length (needed_nodes subject) → List ℕ
  before place within = (at place within).before

  below-at : (place : ℕ) (within : place < length (needed_nodes subject)) → AreGatesBelow subject proper (get_or (needed_nodes subject) place 0) (before place within ++ used subject proper (get_or (needed_nodes subject) place 0)) (after subject place)
  unfolding needed_nodes before
  below-at place within =
      let node : ℕ = get_or (needed_nodes subject) place 0 in
      let wanted : List ℕ = (at place within).before ++ used subject proper node in
      subst (λ nodes. AreGatesBelow subject proper node wanted (gates_for subject proper nodes)) (sym (at place within).is)
      (gates-below subject proper node wanted (omega (arith, node-low place within)))

  -- the choice of the node at a place
  abbrev choice-at : ℕ → Choice
  choice-at place = choice_at (choices_of subject) (get_or (needed_nodes subject) place 0)

  -- The node at a place is ready for its walk,
  pub node-ready : (first : GateNet) (most place : ℕ) (nodes : List ℕ) (now : GateNet) (drivers : List Driver) → first ≡ bare_net subject.graph.inputs → place < length (needed_nodes subject) → HasCovered subject first most place nodes now drivers → IsReady now.inputs (length now.gates) (map (driver_at drivers) (leaves_in (choice-at place).leaves)) (choice-at place).depth (choice-at place).table
  node-ready first most place nodes now drivers bare within so =
      let node : ℕ = get_or (needed_nodes subject) place 0 in
      let from : ComesFrom (IsOfNode subject node) (choice-at place) = comes-at place within in
      let below : AreGatesBelow subject proper node (before place within ++ used subject proper node) (after subject place) = below-at place within in
      let may : MayWalk subject.graph.inputs (map (driver_at (after subject place).by) (leaves_in (choice-at place).leaves)) (choice-at place).depth (after subject place).gates (choice-at place).table =
      MayWalk-node subject node from (after subject place) (used-drivers subject proper node (before place within) (after subject place) from below) in
      let count : length (map (driver_at (after subject place).by) (leaves_in (choice-at place).leaves)) ≡ length (leaves_in (choice-at place).leaves) = length-map (leaves_in (choice-at place).leaves) (driver_at (after subject place).by) in
      let inputs-same : now.inputs ≡ subject.graph.inputs = ap (λ (n : GateNet). n.inputs) so.rest ∙ ap (λ (n : GateNet). n.inputs) bare in
      subst (λ inputs. IsReady inputs (length now.gates) (map (driver_at drivers) (leaves_in (choice-at place).leaves)) (choice-at place).depth (choice-at place).table) (sym inputs-same)
      (subst (λ (so : Driven (List Driver)). IsReady subject.graph.inputs (length so.gates) (map (driver_at so.by) (leaves_in (choice-at place).leaves)) (choice-at place).depth (choice-at place).table) (sym so.is)
      (record {
        some = omega (arith, count, leaves-some subject node from);
        few = omega (arith, count, leaves-few subject node from);
        shallow = omega (arith, from.depth, from.shallow);
        formula = may.0;
        there = may.1;
      }))

  -- there is room for its gates,
  pub node-room : (first : GateNet) (most place : ℕ) (nodes : List ℕ) (now : GateNet) (drivers : List Driver) → place < length (needed_nodes subject) → HasCovered subject first most place nodes now drivers → length now.gates + most_gates (choice-at place).depth < 2 ^ 31
  node-room first most place nodes now drivers within so =
      let node : ℕ = get_or (needed_nodes subject) place 0 in
      let same : now.gates ≡ (after subject place).gates = ap (λ (so : Driven (List Driver)). so.gates) so.is in
      omega (arith, ap length same, (below-at place within).few, node-low place within, proper.few, few-gates-deep subject node (comes-at place within) (after subject place))

  -- and a driver for it.
  pub node-count : (first : GateNet) (most place : ℕ) (nodes : List ℕ) (now : GateNet) (drivers : List Driver) → place < length (needed_nodes subject) → HasCovered subject first most place nodes now drivers → get_or (needed_nodes subject) place 0 < length drivers
  node-count first most place nodes now drivers within so =
      let same : drivers ≡ (after subject place).by = ap (λ (so : Driven (List Driver)). so.by) so.is in
      omega (arith, ap length same, (below-at place within).count, node-low place within)

  -- one node more
  after-next : (place : ℕ) → place < length (needed_nodes subject) → after subject (place + 1) ≡ next subject proper (after subject place) (get_or (needed_nodes subject) place 0)
  after-next place within =
      ap (gates_for subject proper) (take_more (needed_nodes subject) place 0 within) ∙ gates_for-push subject proper (take place (needed_nodes subject)) (get_or (needed_nodes subject) place 0)

  pub cover-next : (first : GateNet) (most place : ℕ) (nodes : List ℕ) (now more : GateNet) (drivers written : List Driver) → place < length (needed_nodes subject) → HasCovered subject first most place nodes now drivers → record { gates = more.gates; by = written } ≡ with_driver drivers (get_or (needed_nodes subject) place 0) (with_choice drivers now.gates (choice-at place)) → more ≡ record now { gates = more.gates } → IsGateNet more → length more.gates ≤ most → HasCovered subject first most (place + 1) nodes more written
  cover-next first most place nodes now more drivers written within so is rest formed few = record {
    nodes' = so.nodes';
    is = is ∙ ap (λ (so : Driven (List Driver)). next subject proper so (get_or (needed_nodes subject) place 0)) so.is ∙ sym (after-next place within);
    rest = rest ∙ ap (λ (n : GateNet). record n { gates = more.gates }) so.rest;
    formed = formed;
    few = few;
  }

  -- all nodes
  after-all : (place : ℕ) → length (needed_nodes subject) ≤ place → after subject place ≡ covered subject
  unfolding covered
  after-all place all = ap (gates_for subject proper) (take_all place (needed_nodes subject) all)

  pub cover-all : (first : GateNet) (most place : ℕ) (nodes : List ℕ) (now : GateNet) (drivers : List Driver) → length (needed_nodes subject) ≤ place → HasCovered subject first most place nodes now drivers → record { gates = now.gates; by = drivers } ≡ covered subject
  cover-all first most place nodes now drivers all so = so.is ∙ after-all place all

  -- Where there are too many gates already, there are too many at the end.
  pub cover-many : (place : ℕ) → length (after subject place).gates ≤ length (covered subject).gates
  unfolding covered
  cover-many place =
      let nodes : List ℕ = needed_nodes subject in
      let whole : gates_for subject proper nodes ≡ with_nodes (choices_of subject) (after subject place) (drop place nodes) =
      ap (gates_for subject proper) (sym (take-append-drop place nodes)) ∙ with_nodes-append (choices_of subject) (start subject) (take place nodes) (drop place nodes) in
      omega (arith, ap (λ (so : Driven (List Driver)). length so.gates) whole, nodes-grow (choices_of subject) (after subject place) (drop place nodes))

  -- ---- For the loop: the nodes are the needed ones, and the choice that is read is the node's
  module _ (first : GateNet) (most place : ℕ) (nodes : List ℕ) (now : GateNet) (drivers old : List Driver) (choices : List Choice) (choice : Choice) (bare : first ≡ bare_net subject.graph.inputs) (within : place < length nodes) (so : HasCovered subject first most place nodes now drivers) (same : old ≡ drivers) (all : choices ≡ choices_of subject) (read : slice_get choices (get_or nodes place 0) ≡ Some choice) where
    needed-there : place < length (needed_nodes subject)
    needed-there = omega (arith, ap length so.nodes')

    choice-there : choice-at place ≡ choice
    choice-there = ap (λ ns. choice_at (choices_of subject) (get_or ns place 0)) (sym so.nodes') ∙ choice-is subject choices (get_or nodes place 0) choice all read

    pub loop-short : IsShort subject choice
    loop-short =
        subst (IsShort subject) choice-there
        (choice-short subject (get_or (needed_nodes subject) place 0) proper (node-low place needed-there) (node-behind place needed-there))

    pub loop-ready : IsReady now.inputs (length now.gates) (map (driver_at old) (leaves_in choice.leaves)) choice.depth choice.table
    loop-ready =
        subst (λ (ds : List Driver). IsReady now.inputs (length now.gates) (map (driver_at ds) (leaves_in choice.leaves)) choice.depth choice.table) (sym same)
        (subst (λ (ch : Choice). IsReady now.inputs (length now.gates) (map (driver_at drivers) (leaves_in ch.leaves)) ch.depth ch.table) choice-there
        (node-ready first most place nodes now drivers bare needed-there so))

    pub loop-room : length now.gates + most_gates choice.depth < 2 ^ 31
    loop-room = subst (λ (ch : Choice). length now.gates + most_gates ch.depth < 2 ^ 31) choice-there (node-room first most place nodes now drivers needed-there so)

    pub loop-count : get_or nodes place 0 < length old
    loop-count = omega (arith, ap length same, ap (λ ns. get_or ns place 0) so.nodes', node-count first most place nodes now drivers needed-there so)

    -- what the walk of one node more gives
    next-is : (more : GateNet) (written : List Driver) → record { gates = more.gates; by = written } ≡ with_driver old (get_or nodes place 0) (with_choice old now.gates choice) → record { gates = more.gates; by = written } ≡ with_driver drivers (get_or (needed_nodes subject) place 0) (with_choice drivers now.gates (choice-at place))
    next-is more written is =
        is
        ∙ ap (λ ds. with_driver ds (get_or nodes place 0) (with_choice ds now.gates choice)) same
        ∙ ap (λ ns. with_driver drivers (get_or ns place 0) (with_choice drivers now.gates choice)) so.nodes'
        ∙ ap (λ ch. with_driver drivers (get_or (needed_nodes subject) place 0) (with_choice drivers now.gates ch)) (sym choice-there)

    pub loop-next : (more : GateNet) (written : List Driver) → record { gates = more.gates; by = written } ≡ with_driver old (get_or nodes place 0) (with_choice old now.gates choice) → more ≡ record now { gates = more.gates } → IsGateNet more → length more.gates ≤ most → HasCovered subject first most (place + 1) nodes more written
    loop-next more written is rest formed few = cover-next first most place nodes now more drivers written needed-there so (next-is more written is) rest formed few

    pub loop-many : (more : GateNet) (written : List Driver) → record { gates = more.gates; by = written } ≡ with_driver old (get_or nodes place 0) (with_choice old now.gates choice) → most < length more.gates → most < length (covered subject).gates
    loop-many more written is many =
        let whole : record { gates = more.gates; by = written } ≡ after subject (place + 1) =
        next-is more written is ∙ ap (λ (so : Driven (List Driver)). next subject proper so (get_or (needed_nodes subject) place 0)) so.is ∙ sym (after-next place needed-there) in
        omega (arith, ap (λ (so : Driven (List Driver)). length so.gates) whole, cover-many (place + 1))
