-- The gates of the needed nodes below a number, where these are wanted: each wanted node below it has its driver.
use Rattle.std.proofs.Common.{◌≡◌, ◌≢◌, ◌≤◌, ◌<◌, ◌*◌, ◌++◌, ◌&&◌, ◌⊎◌, inl, inr, ◌∙◌, ℕ, zero, suc, Bool, true, false, cond, nat_eq, nat_le, List, [], ◌∷◌, get_or, length, take, All, refl, sym, ap, subst, arith, true≢false, ⊎_elim, get_or-set_other, get_or-set_same, length-set}
use Rattle.std.proofs.lemmas.Bool.{cases_lt, or_left, or_right, and_parts, leb-true, le-leb, eq-eqb}
use Rattle.std.proofs.lemmas.List.{length_push, take-append-le, take_all, get_or_at, get_or_append_left}
use Rattle.std.proofs.lemmas.List.Elements.{All-nil, All-cons, All-weaker}
use Rattle.std.proofs.lemmas.List.Folds.{list_any-append}
use Rattle.std.proofs.lemmas.List.FromFn.{length-map-range_with_len}
use Rattle.net_base.specs.declared.graph.Subject.{Subject}
use Rattle.net_base.specs.Graph.{IsProper}
use Rattle.net_base.specs.Keys.{is_among}
use Rattle.gate_net.specs.declared.row.Driver.{Driver}
use Rattle.gate_net.specs.declared.row.Driver.TheVariants.{Input}
use Rattle.gate_net.specs.Net.{IsThere, AreGates}
use Rattle.gate_net.specs.Values.{driver_value, values_by}
use Rattle.balance_map.specs.declared.choice.Choice.{Choice}
use Rattle.balance_map.specs.Choices.{choice_at, choices_of}
use Rattle.balance_map.specs.Needed.{leaves_used, needed_below}
use Rattle.balance_map.specs.Cover.{Driven, with_choice, with_driver, with_nodes}
use Rattle.balance_map.proofs.Chosen.{ComesFrom, IsOfNode, choice-comes}
use Rattle.balance_map.proofs.FormulaLeaves.{used-lower}
use Rattle.balance_map.proofs.NodeGates.{with_nodes-append, driver_at, HasDriver, start, own-start, HasDriver-input, HasDriver-grown, IsCovered, node-covered}

-- ---- Being among nodes
pub among-left : (node : ℕ) (nodes more : List ℕ) → is_among nat_eq node nodes ≡ true → is_among nat_eq node (nodes ++ more) ≡ true
among-left node nodes more e = list_any-append (nat_eq node) nodes more ∙ or_left (is_among nat_eq node nodes) (is_among nat_eq node more) e

pub among-right : (node : ℕ) (nodes more : List ℕ) → is_among nat_eq node more ≡ true → is_among nat_eq node (nodes ++ more) ≡ true
among-right node nodes more e = list_any-append (nat_eq node) nodes more ∙ or_right (is_among nat_eq node nodes) (is_among nat_eq node more) e

-- each of some nodes is among them
pub all-among : (nodes : List ℕ) → All (λ node. is_among nat_eq node nodes ≡ true) nodes
all-among [] = All-nil (λ node. is_among nat_eq node [] ≡ true)
all-among (first ∷ nodes) =
    All-cons (λ node. is_among nat_eq node (first ∷ nodes) ≡ true) first nodes
    (or_left (nat_eq first first) (is_among nat_eq first nodes) (eq-eqb first first refl))
    (All-weaker (λ node. is_among nat_eq node nodes ≡ true) (λ node. is_among nat_eq node (first ∷ nodes) ≡ true) (λ node e. or_right (nat_eq node first) (is_among nat_eq node nodes) e) nodes (all-among nodes))

module _ (subject : Subject) (proper : IsProper subject.graph) where
  abbrev pub inputs : ℕ
  inputs = subject.graph.inputs

  abbrev pub choices : List Choice
  choices = choices_of subject

  abbrev pub used : ℕ → List ℕ
  used node = leaves_used (choice_at choices node)

  abbrev pub needed : ℕ → List ℕ → List ℕ
  needed node wanted = needed_below inputs choices node wanted

  -- the test by which a node is needed
  abbrev pub is_needed : ℕ → List ℕ → Bool
  is_needed node wanted = nat_le inputs node && is_among nat_eq node wanted

  pub needed-next : (node : ℕ) (wanted : List ℕ) → is_needed node wanted ≡ true → needed (suc node) wanted ≡ needed node (wanted ++ used node) ++ node ∷ []
  needed-next node wanted e = ap (λ b. cond b (needed node (wanted ++ used node) ++ node ∷ []) (needed node wanted)) e

  pub needed-same : (node : ℕ) (wanted : List ℕ) → is_needed node wanted ≡ false → needed (suc node) wanted ≡ needed node wanted
  needed-same node wanted e = ap (λ b. cond b (needed node (wanted ++ used node) ++ node ∷ []) (needed node wanted)) e

  pub needed-behind : (node : ℕ) (wanted : List ℕ) → is_needed node wanted ≡ true → inputs ≤ node
  needed-behind node wanted e = leb-true inputs node (and_parts (nat_le inputs node) (is_among nat_eq node wanted) e).0

  pub needed-wanted : (node : ℕ) (wanted : List ℕ) → is_needed node wanted ≡ true → is_among nat_eq node wanted ≡ true
  needed-wanted node wanted e = (and_parts (nat_le inputs node) (is_among nat_eq node wanted) e).1

  pub comes : (node : ℕ) → node < length subject.graph.nodes → inputs ≤ node → ComesFrom (IsOfNode subject node) (choice_at choices node)
  comes node within behind = choice-comes subject node proper within behind

  -- the gates of needed nodes, from the start
  abbrev pub gates_for : List ℕ → Driven (List Driver)
  gates_for nodes = with_nodes choices (start subject) nodes

  abbrev pub next : Driven (List Driver) → ℕ → Driven (List Driver)
  next so node = with_driver so.by node (with_choice so.by so.gates (choice_at choices node))

  pub gates_for-push : (nodes : List ℕ) (node : ℕ) → gates_for (nodes ++ node ∷ []) ≡ next (gates_for nodes) node
  gates_for-push nodes node = with_nodes-append choices (start subject) nodes (node ∷ [])

  -- ---- What they have
  pub record AreGatesBelow (node : ℕ) (wanted : List ℕ) (so : Driven (List Driver)) : Type 0 where
    pub formed : AreGates inputs so.gates
    pub few : length so.gates ≤ 40 * node
    pub count : length so.by ≡ length subject.graph.nodes
    pub own : (other : ℕ) → (node ≤ other) ⊎ (other < inputs) → driver_at so.by other ≡ Input other
    pub drivers : (other : ℕ) → other < node → is_among nat_eq other wanted ≡ true → HasDriver subject so other

  below-start : (wanted : List ℕ) → AreGatesBelow 0 wanted (start subject)
  below-start wanted = record {
    formed = λ place d within. absurd (omega arith);
    few = omega arith;
    count = length-map-range_with_len Input 0 (length subject.graph.nodes);
    own = λ other where'. own-start subject other;
    drivers = λ other low. absurd (omega arith);
  }

  -- a node that isn't needed adds none
  below-same : (node : ℕ) (wanted : List ℕ) (so : Driven (List Driver)) → is_needed node wanted ≡ false → AreGatesBelow node wanted so → AreGatesBelow (suc node) wanted so
  below-same node wanted so not_needed below = record {
    formed = below.formed;
    few = omega (arith, below.few);
    count = below.count;
    own = λ other where'. below.own other (⊎_elim {C = (node ≤ other) ⊎ (other < inputs)} (λ h. inl (omega arith)) inr where');
    drivers = λ other low among. ⊎_elim {C = HasDriver subject so other}
        (λ lower. below.drivers other lower among)
        (λ last. let same : node ≡ other = omega arith in subst (HasDriver subject so) same (here (subst (λ n. is_among nat_eq n wanted ≡ true) (sym same) among)))
        (cases_lt other node);
  }
    where
      here : is_among nat_eq node wanted ≡ true → HasDriver subject so node
      here among = ⊎_elim {C = HasDriver subject so node}
          (λ input. HasDriver-input subject proper so node input (below.own node (inr input)))
          (λ behind. absurd (true≢false (sym (ap (λ b. b && is_among nat_eq node wanted) (le-leb inputs node behind) ∙ among) ∙ not_needed)))
          (cases_lt node inputs)

  -- the leaves that stand in the node's formula have their drivers
  pub used-drivers : (node : ℕ) (wanted : List ℕ) (so : Driven (List Driver)) → ComesFrom (IsOfNode subject node) (choice_at choices node) → AreGatesBelow node (wanted ++ used node) so → All (HasDriver subject so) (used node)
  used-drivers node wanted so from below = λ k d within.
      below.drivers (get_or (used node) k d) (used-lower subject node from k d within) (among-right (get_or (used node) k d) wanted (used node) (all-among (used node) k d within))

  -- a needed node has its driver afterwards
  below-next : (node : ℕ) (wanted : List ℕ) (so : Driven (List Driver)) → node < length subject.graph.nodes → inputs ≤ node → AreGatesBelow node (wanted ++ used node) so → AreGatesBelow (suc node) wanted (next so node)
  below-next node wanted so within behind below =
      let from : ComesFrom (IsOfNode subject node) (choice_at choices node) = comes node within behind in
      let added : Driven Driver = with_choice so.by so.gates (choice_at choices node) in
      let is : IsCovered subject node so added = node-covered subject node from so below.formed (used-drivers node wanted so from below) in
      let here : driver_at (next so node).by node ≡ added.by = get_or-set_same so.by node added.by (Input node) (omega (arith, below.count)) in
      record {
        formed = is.grown.formed;
        few = omega (arith, is.grown.few, below.few);
        count = length-set so.by node added.by ∙ below.count;
        own = λ other where'.
            let apart : other ≢ node = ⊎_elim {C = other ≢ node} (λ h e. absurd (omega arith)) (λ h e. absurd (omega arith)) where' in
            get_or-set_other so.by node other added.by (Input other) apart
            ∙ below.own other (⊎_elim {C = (node ≤ other) ⊎ (other < inputs)} (λ h. inl (omega arith)) inr where');
        drivers = λ other low among. ⊎_elim {C = HasDriver subject (next so node) other}
            (λ lower.
            let apart : other ≢ node = λ e. absurd (omega arith) in
            HasDriver-grown subject so (next so node) 40 other is.grown (get_or-set_other so.by node other added.by (Input other) apart) (below.drivers other lower (among-left other wanted (used node) among)))
            (λ last.
            let same : node ≡ other = omega arith in
            subst (HasDriver subject (next so node)) same
            (record {
              there = subst (IsThere inputs (length added.gates)) (sym here) is.there;
              value = λ row. ap (driver_value row (values_by row added.gates)) here ∙ is.value row;
            }))
            (cases_lt other node);
      }

  -- So the gates of the needed nodes below a number have all of this.
  pub gates-below : (node : ℕ) (wanted : List ℕ) → node ≤ length subject.graph.nodes → AreGatesBelow node wanted (gates_for (needed node wanted))
  gates-below zero wanted few = below-start wanted
  gates-below (suc node) wanted few = by (is_needed node wanted) refl (gates-below node (wanted ++ used node) (omega arith)) (gates-below node wanted (omega arith))
    where
      by : (b : Bool) → is_needed node wanted ≡ b → AreGatesBelow node (wanted ++ used node) (gates_for (needed node (wanted ++ used node))) → AreGatesBelow node wanted (gates_for (needed node wanted)) → AreGatesBelow (suc node) wanted (gates_for (needed (suc node) wanted))
      by true e with' without =
          subst (AreGatesBelow (suc node) wanted) (sym (ap gates_for (needed-next node wanted e) ∙ gates_for-push (needed node (wanted ++ used node)) node))
          (below-next node wanted (gates_for (needed node (wanted ++ used node))) (omega arith) (needed-behind node wanted e) with')
      by false e with' without =
          subst (AreGatesBelow (suc node) wanted) (sym (ap gates_for (needed-same node wanted e)))
          (below-same node wanted (gates_for (needed node wanted)) e without)

  -- ---- The needed nodes, one by one
  -- the node at a place, and how those before it are the needed ones below it, where what it reads is wanted as well
  pub record IsAtPlace (node : ℕ) (wanted : List ℕ) (place : ℕ) (d : ℕ) : Type 0 where
    pub low : get_or (needed node wanted) place d < node
    pub behind : inputs ≤ get_or (needed node wanted) place d
    pub before : List ℕ
    pub is : take place (needed node wanted) ≡ needed (get_or (needed node wanted) place d) (before ++ used (get_or (needed node wanted) place d))

  pub at-place : (node : ℕ) (wanted : List ℕ) (place d : ℕ) → place < length (needed node wanted) → IsAtPlace node wanted place d
  at-place zero wanted place d within = absurd (omega arith)
  at-place (suc node) wanted place d within = by (is_needed node wanted) refl within (at-place node (wanted ++ used node) place d) (at-place node wanted place d)
    where
      again : (nodes : List ℕ) → needed (suc node) wanted ≡ nodes → (get_or nodes place d < suc node) → inputs ≤ get_or nodes place d → (before : List ℕ) → take place nodes ≡ needed (get_or nodes place d) (before ++ used (get_or nodes place d)) → IsAtPlace (suc node) wanted place d
      again nodes e low behind before is = record {
        low = subst (λ ns. get_or ns place d < suc node) (sym e) low;
        behind = subst (λ ns. inputs ≤ get_or ns place d) (sym e) behind;
        before = before;
        is = subst (λ ns. take place ns ≡ needed (get_or ns place d) (before ++ used (get_or ns place d))) (sym e) is;
      }

      by : (b : Bool) → is_needed node wanted ≡ b → place < length (needed (suc node) wanted) → (place < length (needed node (wanted ++ used node)) → IsAtPlace node (wanted ++ used node) place d) → (place < length (needed node wanted) → IsAtPlace node wanted place d) → IsAtPlace (suc node) wanted place d
      by true e within with' without =
          let nodes = needed node (wanted ++ used node) in
          ⊎_elim {C = IsAtPlace (suc node) wanted place d}
          (λ lower.
          let at : IsAtPlace node (wanted ++ used node) place d = with' lower in
          let same : get_or (nodes ++ node ∷ []) place d ≡ get_or nodes place d = get_or_append_left nodes (node ∷ []) d place lower in
          again (nodes ++ node ∷ []) (needed-next node wanted e)
          (omega (arith, same, at.low)) (omega (arith, same, at.behind)) at.before
          (take-append-le place nodes (node ∷ []) (omega arith) ∙ at.is ∙ ap (λ n. needed n (at.before ++ used n)) (sym same)))
          (λ last.
          let here : place ≡ length nodes = omega (arith, ap length (needed-next node wanted e), length_push nodes node) in
          let same : get_or (nodes ++ node ∷ []) place d ≡ node = get_or_at nodes node [] d place (sym here) in
          again (nodes ++ node ∷ []) (needed-next node wanted e)
          (omega (arith, same)) (omega (arith, same, needed-behind node wanted e)) wanted
          (take-append-le place nodes (node ∷ []) (omega arith) ∙ take_all place nodes (omega arith) ∙ ap (λ n. needed n (wanted ++ used n)) (sym same)))
          (cases_lt place (length nodes))
      by false e within with' without =
          let at : IsAtPlace node wanted place d = without (omega (arith, ap length (needed-same node wanted e))) in
          again (needed node wanted) (needed-same node wanted e) (omega (arith, at.low)) at.behind at.before at.is
