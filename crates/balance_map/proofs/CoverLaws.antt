-- The gates of a subject are a netlist in which each gate has a use, and which keeps the values of the outputs.
use Rattle.std.proofs.Common.{◌≡◌, ◌≤◌, ◌<◌, ◌^◌, ◌++◌, ◌⊎◌, inl, inr, ◌∙◌, ℕ, zero, suc, Bool, true, false, nat_eq, List, [], ◌∷◌, get_or, length, map, All, Contains, refl, sym, ap, subst, arith, ⊎_elim, get_or-set_other, get_or-set_same}
use Rattle.std.specs.List.{flat_map}
use Rattle.std.proofs.lemmas.Bool.{cases_eq}
use Rattle.std.proofs.lemmas.Bool.Decides.{nat_tests}
use Rattle.std.proofs.lemmas.List.{length-map, map-append, get_or-map}
use Rattle.std.proofs.lemmas.List.Elements.{All-nil, All-cons, All-head, All-tail, All-map, All-weaker, Contains-append_left, Contains-append_right, Contains-append_cases}
use Rattle.std.proofs.lemmas.Simd.{map-map}
use Rattle.net_base.specs.declared.graph.Ref.{Ref}
use Rattle.net_base.specs.declared.graph.Ref.TheVariants.{Const, Node}
use Rattle.net_base.specs.declared.graph.Subject.{Subject}
use Rattle.net_base.specs.Graph.{IsProper, IsRefThere}
use Rattle.net_base.specs.Keys.{is_among}
use Rattle.net_base.specs.NodeValues.{ref_value}
use Rattle.net_base.proofs.CallerLemmas.{Contains-map}
use Rattle.cut_word.specs.Word.{leaves_in}
use Rattle.gate_net.specs.declared.row.Driver.{Driver}
use Rattle.gate_net.specs.declared.row.Driver.TheVariants.{Input, Gate}
use Rattle.gate_net.specs.declared.row.GateRow.{GateRow}
use Rattle.gate_net.specs.Net.{IsEndThere, IsGateNet, end_drivers, pin_drivers, EachGateIsUsed}
use Rattle.gate_net.specs.Values.{end_value}
use Rattle.gate_net.proofs.CallerLemmas.{map-same}
use Rattle.balance_map.specs.declared.choice.Choice.{Choice}
use Rattle.balance_map.specs.FanOuts.{ref_nodes, output_nodes}
use Rattle.balance_map.specs.Choices.{choice_at, choices_of}
use Rattle.balance_map.specs.Needed.{places_in, leaves_used, needed_nodes}
use Rattle.balance_map.specs.Cover.{Driven, with_choice, covered, end_of, gates_of}
use Rattle.balance_map.specs.Laws.{CoversAreNets, CoversKeepValues}
use Rattle.balance_map.proofs.Chosen.{ComesFrom, IsOfNode}
use Rattle.balance_map.proofs.FormulaLeaves.{places-below, leaves-some}
use Rattle.balance_map.proofs.NodeGates.{driver_at, HasDriver}
use Rattle.balance_map.proofs.AllGates.{among-left, among-right, used, needed, is_needed, needed-next, needed-same, needed-behind, needed-wanted, comes, gates_for, next, gates_for-push, AreGatesBelow, gates-below}
use Rattle.balance_map.proofs.Uses.{Contains-unmap, AreUsed, AreUsed-weaker, leaf_drivers, formula-used}
use Rattle.balance_map.proofs.NeededNodes.{among-to}

-- what drives these nodes
abbrev drivers_of : List Driver → List ℕ → List Driver
drivers_of drivers nodes = map (driver_at drivers) nodes

module _ (subject : Subject) (proper : IsProper subject.graph) where
  -- ---- Uses
  -- the drivers of the leaves in a node's formula, as nodes and as places
  leaves-same : (node : ℕ) (so : Driven (List Driver)) → ComesFrom (IsOfNode subject node) (choice_at (choices_of subject) node) → drivers_of so.by (leaves_used (choice_at (choices_of subject) node)) ≡ leaf_drivers (drivers_of so.by (leaves_in (choice_at (choices_of subject) node).leaves)) (places_in (length (drivers_of so.by (leaves_in (choice_at (choices_of subject) node).leaves))) (choice_at (choices_of subject) node).depth (choice_at (choices_of subject) node).table)
  leaves-same node so from =
      let choice : Choice = choice_at (choices_of subject) node in
      let nodes : List ℕ = leaves_in choice.leaves in
      let leaves : List Driver = drivers_of so.by nodes in
      let places : List ℕ = places_in (length nodes) choice.depth choice.table in
      map-map (driver_at so.by) (λ place. get_or nodes place 0) places
      ∙ map-same (λ place. driver_at so.by (get_or nodes place 0)) (λ place. get_or leaves place (Input 0)) places
      (All-weaker (λ place. place < length nodes) (λ place. driver_at so.by (get_or nodes place 0) ≡ get_or leaves place (Input 0))
      (λ place h. sym (get_or-map (driver_at so.by) nodes place 0 (Input 0) h)) places (places-below (length nodes) choice.depth choice.table (leaves-some subject node from)))
      ∙ ap (λ n. leaf_drivers leaves (places_in n choice.depth choice.table)) (sym (length-map nodes (driver_at so.by)))

  -- a needed node's gates are used where what it reads was owed, and it is owed itself
  node-used : (node : ℕ) (wanted : List ℕ) → node < length subject.graph.nodes → is_needed subject proper node wanted ≡ true → (so : Driven (List Driver)) → AreGatesBelow subject proper node (wanted ++ used subject proper node) so → AreUsed so.gates (λ k. Contains (drivers_of so.by (wanted ++ used subject proper node)) (Gate k)) → AreUsed (next subject proper so node).gates (λ k. Contains (drivers_of (next subject proper so node).by wanted) (Gate k))
  node-used node wanted within e so below owed =
      AreUsed-weaker after.gates (λ k. E k ⊎ (after.by ≡ Gate k)) (λ k. Contains (drivers_of now.by wanted) (Gate k))
      (λ k either. ⊎_elim {C = Contains (drivers_of now.by wanted) (Gate k)} (kept k) (λ here. subst (Contains (drivers_of now.by wanted)) (there ∙ here) (Contains-map (driver_at now.by) wanted node (among-to node wanted (needed-wanted subject proper node wanted e)))) either)
      (formula-used (drivers_of so.by nodes) choice.depth E so.gates choice.table
      (AreUsed-weaker so.gates (λ k. Contains (drivers_of so.by (wanted ++ used subject proper node)) (Gate k)) (λ k. E k ⊎ Contains (leaf_drivers (drivers_of so.by nodes) (places_in (length (drivers_of so.by nodes)) choice.depth choice.table)) (Gate k))
      (λ k has. ⊎_elim {C = E k ⊎ Contains (leaf_drivers (drivers_of so.by nodes) (places_in (length (drivers_of so.by nodes)) choice.depth choice.table)) (Gate k)} inl
      (λ leaf. inr (subst (λ ds. Contains ds (Gate k)) (leaves-same node so from) leaf))
      (Contains-append_cases (drivers_of so.by wanted) (drivers_of so.by (used subject proper node)) (Gate k)
      (subst (λ ds. Contains ds (Gate k)) (map-append (driver_at so.by) wanted (used subject proper node)) has))) owed))
    where
      choice : Choice
      choice = choice_at (choices_of subject) node

      nodes : List ℕ
      nodes = leaves_in choice.leaves

      from : ComesFrom (IsOfNode subject node) choice
      from = comes subject proper node within (needed-behind subject proper node wanted e)

      after : Driven Driver
      after = with_choice so.by so.gates choice

      now : Driven (List Driver)
      now = next subject proper so node

      E : ℕ → Type 0
      E k = Contains (drivers_of so.by wanted) (Gate k)

      there : driver_at now.by node ≡ after.by
      there = get_or-set_same so.by node after.by (Input node) (omega (arith, below.count))

      kept : (k : ℕ) → E k → Contains (drivers_of now.by wanted) (Gate k)
      kept k has =
          let found : (other : ℕ) × Contains wanted other × (driver_at so.by other ≡ Gate k) = Contains-unmap (driver_at so.by) wanted (Gate k) has in
          ⊎_elim {C = Contains (drivers_of now.by wanted) (Gate k)}
          (λ same. absurd (let own : driver_at so.by node ≡ Input node = below.own node (inl (omega arith)) in let is : Input node ≡ Gate k = sym own ∙ ap (driver_at so.by) (sym same) ∙ found.2 in cc))
          (λ apart. subst (Contains (drivers_of now.by wanted)) (get_or-set_other so.by node found.0 after.by (Input found.0) apart ∙ found.2) (Contains-map (driver_at now.by) wanted found.0 found.1))
          (cases_eq found.0 node)

  nodes-used : (node : ℕ) (wanted : List ℕ) → node ≤ length subject.graph.nodes → AreUsed (gates_for subject proper (needed subject proper node wanted)).gates (λ k. Contains (drivers_of (gates_for subject proper (needed subject proper node wanted)).by wanted) (Gate k))
  nodes-used zero wanted few = λ k within. absurd (omega arith)
  nodes-used (suc node) wanted few = by (is_needed subject proper node wanted) refl (nodes-used node (wanted ++ used subject proper node) (omega arith)) (nodes-used node wanted (omega arith))
    where
      Owes : List ℕ → Driven (List Driver) → Type 0
      Owes nodes so = AreUsed so.gates (λ k. Contains (drivers_of so.by nodes) (Gate k))

      by : (b : Bool) → is_needed subject proper node wanted ≡ b → Owes (wanted ++ used subject proper node) (gates_for subject proper (needed subject proper node (wanted ++ used subject proper node))) → Owes wanted (gates_for subject proper (needed subject proper node wanted)) → Owes wanted (gates_for subject proper (needed subject proper (suc node) wanted))
      by true e with' without =
          let nodes : List ℕ = needed subject proper node (wanted ++ used subject proper node) in
          subst (Owes wanted) (sym (ap (gates_for subject proper) (needed-next subject proper node wanted e) ∙ gates_for-push subject proper nodes node))
          (node-used node wanted (omega arith) e (gates_for subject proper nodes) (gates-below subject proper node (wanted ++ used subject proper node) (omega arith)) with')
      by false e with' without =
          subst (Owes wanted) (sym (ap (gates_for subject proper) (needed-same subject proper node wanted e))) without

  -- ---- All nodes
  pub covered-below : AreGatesBelow subject proper (length subject.graph.nodes) (output_nodes subject) (covered subject)
  unfolding covered needed_nodes
  covered-below = gates-below subject proper (length subject.graph.nodes) (output_nodes subject) (omega arith)

  covered-used : AreUsed (covered subject).gates (λ k. Contains (drivers_of (covered subject).by (output_nodes subject)) (Gate k))
  unfolding covered needed_nodes
  covered-used = nodes-used (length subject.graph.nodes) (output_nodes subject) (omega arith)

  -- ---- Outputs
  -- an output's node has its driver
  abbrev pub IsDriven : Ref → Type 0
  IsDriven (Const value) = Unit {0}
  IsDriven (Node node) = HasDriver subject (covered subject) node

  refs-driven : (refs : List Ref) → All (IsRefThere (length subject.graph.nodes)) refs → ((node : ℕ) → is_among nat_eq node (flat_map ref_nodes refs) ≡ true → is_among nat_eq node (output_nodes subject) ≡ true) → All IsDriven refs
  refs-driven [] there among = All-nil IsDriven
  refs-driven (ref ∷ refs) there among =
      All-cons IsDriven ref refs (by ref (All-head (IsRefThere (length subject.graph.nodes)) ref refs there) (λ node e. among node (among-left node (ref_nodes ref) (flat_map ref_nodes refs) e)))
      (refs-driven refs (All-tail (IsRefThere (length subject.graph.nodes)) ref refs there) (λ node e. among node (among-right node (ref_nodes ref) (flat_map ref_nodes refs) e)))
    where
      by : (r : Ref) → IsRefThere (length subject.graph.nodes) r → ((node : ℕ) → is_among nat_eq node (ref_nodes r) ≡ true → is_among nat_eq node (output_nodes subject) ≡ true) → IsDriven r
      by (Const value) there among = tt
      by (Node node) there among = covered-below.drivers node there (among node (one node))
        where
          one : (n : ℕ) → is_among nat_eq n (n ∷ []) ≡ true
          one n = grind (arith, nat_tests)

  outputs-driven : All (IsRefThere (length subject.graph.nodes)) subject.outputs → All IsDriven subject.outputs
  outputs-driven there = refs-driven subject.outputs there (λ node e. e)

  end-there : (ref : Ref) → IsDriven ref → IsEndThere subject.graph.inputs (length (covered subject).gates) (end_of (covered subject).by ref)
  end-there (Const true) driven = tt
  end-there (Const false) driven = tt
  end-there (Node node) driven = driven.there

  end-value : (row : List Bool) (ref : Ref) → IsDriven ref → end_value (gates_of subject) row (end_of (covered subject).by ref) ≡ ref_value subject.graph row ref
  end-value row (Const true) driven = refl
  end-value row (Const false) driven = refl
  end-value row (Node node) driven = driven.value row

  -- what drives the ends is what drives the outputs' nodes
  ends-drive : (drivers : List Driver) (refs : List Ref) → flat_map end_drivers (map (end_of drivers) refs) ≡ drivers_of drivers (flat_map ref_nodes refs)
  ends-drive drivers [] = refl
  ends-drive drivers (Const true ∷ refs) = ends-drive drivers refs
  ends-drive drivers (Const false ∷ refs) = ends-drive drivers refs
  ends-drive drivers (Node node ∷ refs) = ap (λ ds. driver_at drivers node ∷ ds) (ends-drive drivers refs)

  pub outputs-there : All (IsRefThere (length subject.graph.nodes)) subject.outputs → All (λ ref. IsEndThere subject.graph.inputs (length (covered subject).gates) (end_of (covered subject).by ref)) subject.outputs
  outputs-there there =
      All-weaker IsDriven (λ ref. IsEndThere subject.graph.inputs (length (covered subject).gates) (end_of (covered subject).by ref)) end-there subject.outputs (outputs-driven there)

  ends-there : All (IsRefThere (length subject.graph.nodes)) subject.outputs → All (IsEndThere subject.graph.inputs (length (covered subject).gates)) (gates_of subject).outputs
  ends-there there =
      All-map (IsEndThere subject.graph.inputs (length (covered subject).gates)) (end_of (covered subject).by) subject.outputs (outputs-there there)

  pub gates_of-net : All (IsRefThere (length subject.graph.nodes)) subject.outputs → length subject.outputs < 2 ^ 31 → length (covered subject).gates < 2 ^ 31 → IsGateNet (gates_of subject)
  gates_of-net there few_outputs few_gates = record {
    gates = covered-below.formed;
    outputs = ends-there there;
    few_gates = few_gates;
    few_outputs = omega (arith, few_outputs, length-map subject.outputs (end_of (covered subject).by));
  }

  pub gates_of-used : EachGateIsUsed (gates_of subject)
  gates_of-used k within =
      let pins : List Driver = flat_map (λ (row : GateRow). row.pins) (covered subject).gates in
      let ends : List Driver = flat_map end_drivers (gates_of subject).outputs in
      ⊎_elim {C = Contains (pin_drivers (gates_of subject)) (Gate k)}
      (λ pin. Contains-append_left pins ends (Gate k) pin)
      (λ owed. Contains-append_right pins ends (Gate k) (subst (λ ds. Contains ds (Gate k)) (sym (ends-drive (covered subject).by subject.outputs)) owed))
      (covered-used k within)

  pub gates_of-values : All (IsRefThere (length subject.graph.nodes)) subject.outputs → (row : List Bool) → map (end_value (gates_of subject) row) (gates_of subject).outputs ≡ map (ref_value subject.graph row) subject.outputs
  gates_of-values there row =
      map-map (end_value (gates_of subject) row) (end_of (covered subject).by) subject.outputs
      ∙ map-same (λ ref. end_value (gates_of subject) row (end_of (covered subject).by ref)) (ref_value subject.graph row) subject.outputs
      (All-weaker IsDriven (λ ref. end_value (gates_of subject) row (end_of (covered subject).by ref) ≡ ref_value subject.graph row ref) (end-value row) subject.outputs (outputs-driven there))

  -- Gates are far fewer than 2^31, by the limit on nodes.
  pub few-gates : length (covered subject).gates < 2 ^ 31
  few-gates = omega (arith, covered-below.few, proper.few)

-- ---- The laws
pub covers_are_nets : CoversAreNets
covers_are_nets subject is few_outputs few = (gates_of-net subject is.graph is.outputs few_outputs few, gates_of-used subject is.graph)

pub covers_keep_values : CoversKeepValues
covers_keep_values subject row is = gates_of-values subject is.graph is.outputs row
