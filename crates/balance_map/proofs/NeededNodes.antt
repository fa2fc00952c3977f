-- Which nodes are needed. By induction over the nodes from the lowest: the leaves in a node's formula are lower nodes, so whether
-- a node is needed is settled by the nodes above it alone.
use Rattle.std.proofs.Common.{◌≡◌, ◌≤◌, ◌<◌, ◌++◌, ◌&&◌, ◌⊎◌, inl, inr, ◌∙◌, ℕ, zero, suc, Bool, true, false, nat_eq, List, [], ◌∷◌, length, Contains, refl, sym, ap, subst, arith, true≢false, ⊎_elim}
use Rattle.std.specs.Cmp.{nat_eq_equiv}
use Rattle.std.proofs.lemmas.Bool.{cases_lt, le-leb, eqb-true}
use Rattle.std.proofs.lemmas.List.Elements.{All-contains, Contains-append_left, Contains-append_right, Contains-append_cases, Contains-push, Contains-push_cases}
use Rattle.std.proofs.lemmas.Map.Views.{Contains-from_any, list_any-from_Contains}
use Rattle.net_base.specs.declared.graph.Subject.{Subject}
use Rattle.net_base.specs.Graph.{IsProper}
use Rattle.net_base.specs.Keys.{is_among}
use Rattle.balance_map.specs.FanOuts.{output_nodes}
use Rattle.balance_map.specs.Needed.{needed_nodes}
use Rattle.balance_map.specs.Laws.{NeededNodesAreNeeded}
use Rattle.balance_map.proofs.FormulaLeaves.{used-lower}
use Rattle.balance_map.proofs.AllGates.{inputs, used, needed, is_needed, needed-next, needed-same, needed-behind, needed-wanted, comes, at-place, IsAtPlace}

pub among-from : (node : ℕ) (nodes : List ℕ) → Contains nodes node → is_among nat_eq node nodes ≡ true
among-from node nodes has = list_any-from_Contains nat_eq_equiv node nodes has

pub among-to : (node : ℕ) (nodes : List ℕ) → is_among nat_eq node nodes ≡ true → Contains nodes node
among-to node nodes e = Contains-from_any (λ a b same. eqb-true a b same) node nodes e

module _ (subject : Subject) (proper : IsProper subject.graph) where
  -- a needed node is below the number, and no input
  pub needed-low : (node : ℕ) (wanted : List ℕ) (k : ℕ) → Contains (needed subject proper node wanted) k → (k < node) × (inputs subject proper ≤ k)
  needed-low node wanted k has =
      let at : IsAtPlace subject proper node wanted has.0 k = at-place subject proper node wanted has.0 k has.1 in
      (subst (λ n. n < node) has.2 at.low, subst (λ n. inputs subject proper ≤ n) has.2 at.behind)

  -- a leaf in a node's formula is lower
  leaf-low : (user k : ℕ) → user < length subject.graph.nodes → inputs subject proper ≤ user → Contains (used subject proper user) k → k < user
  leaf-low user k within behind has = All-contains (λ leaf. leaf < user) (used subject proper user) k (used-lower subject user (comes subject proper user within behind)) has

  -- a node is no input, and is wanted, or a needed node reads it
  abbrev IsNeeded : ℕ → List ℕ → ℕ → Type 0
  IsNeeded node wanted k =
      (inputs subject proper ≤ k) × (Contains wanted k ⊎ ((user : ℕ) × Contains (needed subject proper node wanted) user × Contains (used subject proper user) k))

  from-next : (node : ℕ) (wanted : List ℕ) → is_needed subject proper node wanted ≡ true → (nodes : List ℕ) → nodes ≡ needed subject proper node (wanted ++ used subject proper node) → ((k : ℕ) → Contains nodes k → IsNeeded node (wanted ++ used subject proper node) k) → (k : ℕ) → Contains (nodes ++ node ∷ []) k → (inputs subject proper ≤ k) × (Contains wanted k ⊎ ((user : ℕ) × Contains (nodes ++ node ∷ []) user × Contains (used subject proper user) k))
  from-next node wanted e nodes is before k has =
      let All' : Type 0 = (inputs subject proper ≤ k) × (Contains wanted k ⊎ ((user : ℕ) × Contains (nodes ++ node ∷ []) user × Contains (used subject proper user) k)) in
      ⊎_elim {C = All'}
      (λ mine.
      let so : IsNeeded node (wanted ++ used subject proper node) k = before k mine in (
        so.0,
        ⊎_elim {C = Contains wanted k ⊎ ((user : ℕ) × Contains (nodes ++ node ∷ []) user × Contains (used subject proper user) k)}
            (λ either. ⊎_elim {C = Contains wanted k ⊎ ((user : ℕ) × Contains (nodes ++ node ∷ []) user × Contains (used subject proper user) k)}
            inl (λ leaf. inr (node, Contains-push nodes node, leaf)) (Contains-append_cases wanted (used subject proper node) k either))
            (λ reader. inr (reader.0, Contains-append_left nodes (node ∷ []) reader.0 (subst (λ ns. Contains ns reader.0) (sym is) reader.1), reader.2))
            so.1,
      ))
      (λ last. (subst (λ n. inputs subject proper ≤ n) last (needed-behind subject proper node wanted e), inl (subst (Contains wanted) last (among-to node wanted (needed-wanted subject proper node wanted e)))))
      (Contains-push_cases nodes node k has)

  needed-from : (node : ℕ) (wanted : List ℕ) (k : ℕ) → Contains (needed subject proper node wanted) k → IsNeeded node wanted k
  needed-from zero wanted k has = absurd (let h : has.0 < 0 = has.1 in omega arith)
  needed-from (suc node) wanted k has = by (is_needed subject proper node wanted) refl (needed-from node (wanted ++ used subject proper node)) (needed-from node wanted k)
    where
      by : (b : Bool) → is_needed subject proper node wanted ≡ b → ((k : ℕ) → Contains (needed subject proper node (wanted ++ used subject proper node)) k → IsNeeded node (wanted ++ used subject proper node) k) → (Contains (needed subject proper node wanted) k → IsNeeded node wanted k) → IsNeeded (suc node) wanted k
      by true e with' without =
          let nodes : List ℕ = needed subject proper node (wanted ++ used subject proper node) in
          let is = needed-next subject proper node wanted e in
          subst (λ ns. (inputs subject proper ≤ k) × (Contains wanted k ⊎ ((user : ℕ) × Contains ns user × Contains (used subject proper user) k))) (sym is)
          (from-next node wanted e nodes refl with' k (subst (λ ns. Contains ns k) is has))
      by false e with' without =
          let is = needed-same subject proper node wanted e in
          subst (λ ns. (inputs subject proper ≤ k) × (Contains wanted k ⊎ ((user : ℕ) × Contains ns user × Contains (used subject proper user) k))) (sym is)
          (without (subst (λ ns. Contains ns k) is has))

  -- the node itself is needed where it is wanted
  not-wanted : (node : ℕ) (wanted : List ℕ) → is_needed subject proper node wanted ≡ false → inputs subject proper ≤ node → Contains wanted node → ⊥
  not-wanted node wanted e behind has =
      true≢false (sym (ap (λ b. b && is_among nat_eq node wanted) (le-leb (inputs subject proper) node behind) ∙ among-from node wanted has) ∙ e)

  needed-to : (node : ℕ) (wanted : List ℕ) → node ≤ length subject.graph.nodes → (k : ℕ) → k < node → IsNeeded node wanted k → Contains (needed subject proper node wanted) k
  needed-to zero wanted few k low is = absurd (omega arith)
  needed-to (suc node) wanted few k low is = by (is_needed subject proper node wanted) refl (needed-to node (wanted ++ used subject proper node) (omega arith) k) (needed-to node wanted (omega arith) k)
    where
      by : (b : Bool) → is_needed subject proper node wanted ≡ b → (k < node → IsNeeded node (wanted ++ used subject proper node) k → Contains (needed subject proper node (wanted ++ used subject proper node)) k) → (k < node → IsNeeded node wanted k → Contains (needed subject proper node wanted) k) → Contains (needed subject proper (suc node) wanted) k
      by true e with' without =
          let nodes : List ℕ = needed subject proper node (wanted ++ used subject proper node) in
          let last : Contains (nodes ++ node ∷ []) node = Contains-push nodes node in
          subst (λ ns. Contains ns k) (sym (needed-next subject proper node wanted e))
          (⊎_elim {C = Contains (nodes ++ node ∷ []) k}
          (λ lower. Contains-append_left nodes (node ∷ []) k (with' lower (
            is.0,
            ⊎_elim {C = Contains (wanted ++ used subject proper node) k ⊎ ((user : ℕ) × Contains nodes user × Contains (used subject proper user) k)}
                (λ mine. inl (Contains-append_left wanted (used subject proper node) k mine))
                (λ reader. ⊎_elim {C = Contains (wanted ++ used subject proper node) k ⊎ ((user : ℕ) × Contains nodes user × Contains (used subject proper user) k)}
                (λ before. inr (reader.0, before, reader.2))
                (λ here. inl (Contains-append_right wanted (used subject proper node) k (subst (λ n. Contains (used subject proper n) k) (sym here) reader.2)))
                (Contains-push_cases nodes node reader.0 (subst (λ ns. Contains ns reader.0) (needed-next subject proper node wanted e) reader.1)))
                is.1,
          )))
          (λ behind. let same : node ≡ k = omega arith in subst (Contains (nodes ++ node ∷ [])) same last)
          (cases_lt k node))
      by false e with' without =
          let same = needed-same subject proper node wanted e in
          subst (λ ns. Contains ns k) (sym same)
          (⊎_elim {C = Contains (needed subject proper node wanted) k}
          (λ mine.
          let lower : k < node = ⊎_elim {C = k < node} (λ h. h)
          (λ behind. let here : k ≡ node = omega arith in absurd (not-wanted node wanted e (subst (λ n. inputs subject proper ≤ n) here is.0) (subst (Contains wanted) here mine)))
          (cases_lt k node) in
          without lower (is.0, inl mine))
          (λ reader.
          let user : Contains (needed subject proper node wanted) reader.0 = subst (λ ns. Contains ns reader.0) same reader.1 in
          let at : (reader.0 < node) × (inputs subject proper ≤ reader.0) = needed-low node wanted reader.0 user in
          let lower : k < reader.0 = leaf-low reader.0 k (omega (arith, at.0)) at.1 reader.2 in
          without (omega (arith, at.0)) (is.0, inr (reader.0, user, reader.2)))
          is.1)

pub needed_nodes_are_needed : NeededNodesAreNeeded
unfolding needed_nodes
needed_nodes_are_needed subject node is within = (
  needed-from subject is.graph (length subject.graph.nodes) (output_nodes subject) node,
  needed-to subject is.graph (length subject.graph.nodes) (output_nodes subject) (omega arith) node within,
)
