-- The actors that have a claim, after an allowed event, and the nodes that are free.
use Rattle.std.proofs.Common.{◌≡◌, ◌≢◌, ◌≤◌, ◌<◌, ◌+◌, ◌||◌, ◌∙◌, ℕ, Bool, true, false, cond, List, [], ◌∷◌, length, set, map, nat_eq, All, refl, sym, ap, inl, inr, arith}
use Rattle.std.specs.List.{count_by}
use Rattle.std.specs.Cmp.{nat_eq_equiv}
use Rattle.std.proofs.lemmas.Bool.{cases_eq, eq-eqb, ne_eqb}
use Rattle.std.proofs.lemmas.List.{get_or_default, length-map}
use Rattle.std.proofs.lemmas.List.Folds.{list_any_none}
use Rattle.std.proofs.lemmas.List.Sums.{sum_by-set, count_by-le-length}
use Rattle.net_base.specs.declared.graph.GNode.{GNode}
use Rattle.net_base.specs.declared.graph.GNode.TheVariants.{Inp, Neg, Both}
use Rattle.net_base.specs.declared.graph.Graph.{Graph}
use Rattle.cut_core.specs.declared.event.NodeState.{NodeState}
use Rattle.cut_core.specs.declared.event.NodeState.TheVariants.{Free, Claimed, Published}
use Rattle.cut_core.specs.Machine.{is_free, is_claimed_by, state_at, has_claim, state_at_start, states_at_start}
use Rattle.cut_core.specs.Sound.{IsSound}
use Rattle.cut_core.proofs.States.{there, at_any, list_any-set, list_any-same}

module _ (states : List NodeState) (actor node : ℕ) where
  -- After a claim its actor has one more,
  pub has_claim-claimed : (q : ℕ) → node < length states → state_at states node ≡ Free → has_claim (set states node (Claimed actor 0)) q ≡ cond (nat_eq actor q) true (has_claim states q)
  has_claim-claimed q within free =
      list_any-set (is_claimed_by q) states node (Claimed actor 0) within (ap (is_claimed_by q) free)
      ∙ ap (λ (b : Bool). b || has_claim states q) (nat_eq_equiv.symm q actor) ∙ or-cond (nat_eq actor q) (has_claim states q)
    where
      or-cond : (b c : Bool) → (b || c) ≡ cond b true c
      or-cond true c = refl
      or-cond false c = refl

  -- a put leaves the claims,
  pub has_claim-put : (q count more : ℕ) → state_at states node ≡ Claimed actor count → has_claim (set states node (Claimed actor more)) q ≡ has_claim states q
  has_claim-put q count more claimed = list_any-same (is_claimed_by q) states node (Claimed actor more) (sym (ap (is_claimed_by q) claimed))

  -- and after a publication the actor has none, since it had one alone.
  pub has_claim-published : (graph : Graph) (q count : ℕ) → IsSound graph states → state_at states node ≡ Claimed actor count → has_claim (set states node Published) q ≡ cond (nat_eq actor q) false (has_claim states q)
  has_claim-published graph q count sound claimed = elim (cases_eq actor q) [
    | inl same ↦ list_any_none (is_claimed_by q) (set states node Published) (none same) ∙ sym (ap (λ (b : Bool). cond b false (has_claim states q)) (eq-eqb actor q same))
    | inr apart ↦
        list_any-set (is_claimed_by q) states node Published within (ap (is_claimed_by q) claimed ∙ ne_eqb q actor (λ e. apart (sym e)))
        ∙ sym (ap (λ (b : Bool). cond b false (has_claim states q)) (ne_eqb actor q apart))
  ]
    where
      within : node < length states
      within = there states node (ap is_free claimed)

      other : (k : ℕ) (state : NodeState) → k ≢ node → state_at states k ≡ state → is_claimed_by actor state ≡ false
      other k Free apart e = refl
      other k (Claimed who more) apart e = ne_eqb actor who (λ same. apart (sound.one_claim actor k node more count (e ∙ ap (λ (a : ℕ). Claimed a more) (sym same)) claimed))
      other k Published apart e = refl

      none : actor ≡ q → All (λ (state : NodeState). is_claimed_by q state ≡ false) (set states node Published)
      none same k d low =
          ap (is_claimed_by q) (get_or_default (set states node Published) k d Free low)
          ∙ ap (λ (a : ℕ). is_claimed_by a (state_at (set states node Published) k)) (sym same)
          ∙ elim (at_any states node Published within k) [
            | inl h ↦ ap (is_claimed_by actor) h.1
            | inr h ↦ ap (is_claimed_by actor) h.1 ∙ other k (state_at states k) h.0 refl
          ]

-- ---- Free nodes
-- a free node counts one
abbrev free_bit : NodeState → ℕ
free_bit state = cond (is_free state) 1 0

-- A claimed node was one of the free ones,
pub free-claimed : (states : List NodeState) (node : ℕ) (state : NodeState) → node < length states → state_at states node ≡ Free → is_free state ≡ false → count_by is_free (set states node state) + 1 ≡ count_by is_free states
free-claimed states node state within free taken =
    let before : free_bit (state_at states node) ≡ 1 = ap free_bit free in
    let after : free_bit state ≡ 0 = ap (λ (b : Bool). cond b 1 0) taken in
    omega (arith, sum_by-set free_bit states node state Free within, before, after)

-- and any other change leaves them.
pub free-kept : (states : List NodeState) (node : ℕ) (state : NodeState) → node < length states → is_free (state_at states node) ≡ false → is_free state ≡ false → count_by is_free (set states node state) ≡ count_by is_free states
free-kept states node state within was taken =
    let before : free_bit (state_at states node) ≡ 0 = ap (λ (b : Bool). cond b 1 0) was in
    let after : free_bit state ≡ 0 = ap (λ (b : Bool). cond b 1 0) taken in
    omega (arith, sum_by-set free_bit states node state Free within, before, after)

-- ---- The start
-- At the start no actor has a claim,
pub has_claim-start : (nodes : List GNode) (q : ℕ) → has_claim (map state_at_start nodes) q ≡ false
has_claim-start [] q = refl
has_claim-start (Inp k ∷ nodes) q = has_claim-start nodes q
has_claim-start (Neg a ∷ nodes) q = has_claim-start nodes q
has_claim-start (Both a b ∷ nodes) q = has_claim-start nodes q

-- and no more nodes are free than there are.
pub free-start : (graph : Graph) → count_by is_free (states_at_start graph) ≤ length graph.nodes
free-start graph = omega (arith, count_by-le-length is_free (states_at_start graph), length-map graph.nodes state_at_start)
