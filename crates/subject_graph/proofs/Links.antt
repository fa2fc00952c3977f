-- The index of nodes: what the links of a bucket lead to, and that a node more keeps them.
use Rattle.std.proofs.Common.{◌≡◌, ◌==◌, ◌<◌, ◌≤◌, ◌+◌, ◌++◌, ◌∙◌, ⊎_elim, ℕ, zero, suc, Bool, true, false, cond, List, [], ◌∷◌, length, get_or, set, refl, sym, ap, subst, arith, add-one}
use Rattle.std.proofs.lemmas.Bool.{cases_lt, eqb-true, eq-eqb, both_ways, false_from_ne_true}
use Rattle.std.proofs.lemmas.List.{length_push, get_or_append_left, get_or_push, get_or-set_same, get_or-set_other, get_or-replicate, get_or_default, length-set, length-replicate}
use Rattle.std.proofs.Common.{replicate, lit≤, ◌^◌}
use Rattle.net_base.specs.declared.graph.GNode.{GNode}
use Rattle.net_base.specs.declared.graph.GNode.TheVariants.{Inp}
use Rattle.subject_graph.specs.declared.nodes.TheConstants.{BUCKETS}
use Rattle.subject_graph.specs.Nodes.{same_node, node_at, node_place, HasEachOnce}
use Rattle.subject_graph.specs.Index.{bucket_of, last_in, IsLinked}
use Rattle.subject_graph.proofs.Places.{same-node, place-next, HasEachOnce-push}

-- Nodes that come behind change no link of those before.
last_in-more : (nodes more : List GNode) (bucket k : ℕ) → k ≤ length nodes → last_in (nodes ++ more) bucket k ≡ last_in nodes bucket k
last_in-more nodes more bucket zero within = refl
last_in-more nodes more bucket (suc k) within =
    let at : node_at (nodes ++ more) k ≡ node_at nodes k = get_or_append_left nodes more (Inp 0) k (omega arith) in
    let rest : last_in (nodes ++ more) bucket k ≡ last_in nodes bucket k = last_in-more nodes more bucket k (omega arith) in
    λ i. cond (bucket_of (at i) == bucket) (suc k) (rest i)

-- The last node of a bucket is one of those that are looked at,
last_in-le : (nodes : List GNode) (bucket k : ℕ) → last_in nodes bucket k ≤ k
last_in-le nodes bucket zero = omega arith
last_in-le nodes bucket (suc k) = by (bucket_of (node_at nodes k) == bucket) (last_in-le nodes bucket k)
  where
    by : (b : Bool) → last_in nodes bucket k ≤ k → cond b (suc k) (last_in nodes bucket k) ≤ suc k
    by true rest = omega arith
    by false rest = omega arith

-- it is of the bucket,
last_in-here : (nodes : List GNode) (bucket k place : ℕ) → last_in nodes bucket k ≡ suc place → bucket_of (node_at nodes place) ≡ bucket
last_in-here nodes bucket zero place e = absurd (omega arith)
last_in-here nodes bucket (suc k) place e = by (bucket_of (node_at nodes k) == bucket) refl e (last_in-here nodes bucket k place)
  where
    by : (b : Bool) → b ≡ (bucket_of (node_at nodes k) == bucket) → cond b (suc k) (last_in nodes bucket k) ≡ suc place → (last_in nodes bucket k ≡ suc place → bucket_of (node_at nodes place) ≡ bucket) → bucket_of (node_at nodes place) ≡ bucket
    by true same e rest =
        let one : k ≡ place = omega arith in
        subst (λ p. bucket_of (node_at nodes p) ≡ bucket) one (eqb-true (bucket_of (node_at nodes k)) bucket (sym same))
    by false apart e rest = rest e

-- and none behind it is.
last_in-apart : (nodes : List GNode) (bucket k j : ℕ) → last_in nodes bucket k ≤ j → j < k → (bucket_of (node_at nodes j) == bucket) ≡ false
last_in-apart nodes bucket zero j from below = absurd (omega arith)
last_in-apart nodes bucket (suc k) j from below = by (bucket_of (node_at nodes k) == bucket) refl from (last_in-apart nodes bucket k j)
  where
    by : (b : Bool) → b ≡ (bucket_of (node_at nodes k) == bucket) → cond b (suc k) (last_in nodes bucket k) ≤ j → (last_in nodes bucket k ≤ j → j < k → (bucket_of (node_at nodes j) == bucket) ≡ false) → (bucket_of (node_at nodes j) == bucket) ≡ false
    by true same from rest = absurd (omega arith)
    by false apart from rest =
        ⊎_elim {C = (bucket_of (node_at nodes j) == bucket) ≡ false}
        (λ before. rest from before)
        (λ last. let one : k ≡ j = omega arith in subst (λ p. (bucket_of (node_at nodes p) == bucket) ≡ false) one (sym apart))
        (cases_lt j k)

-- A search has come to a link: no node behind it is the one that is sought, and it leads to a node of the same bucket.
pub record IsSought (nodes : List GNode) (node : GNode) (last : ℕ) : Type 0 where
  pub within : last ≤ length nodes
  pub behind : (place : ℕ) → last ≤ place → place < length nodes → same_node node (node_at nodes place) ≡ false
  pub bucket : (place : ℕ) → last ≡ suc place → bucket_of (node_at nodes place) ≡ bucket_of node

-- Where the buckets differ the nodes do.
apart-bucket : (node other : GNode) (bucket : ℕ) → bucket ≡ bucket_of node → (bucket_of other == bucket) ≡ false → same_node node other ≡ false
apart-bucket node other bucket own apart = false_from_ne_true (same_node node other) (λ same.
    let one : node ≡ other = same-node node other same in
    both_ways (bucket_of other == bucket) apart (eq-eqb (bucket_of other) bucket (sym (ap bucket_of one) ∙ sym own)))

-- It begins at the head of the node's bucket,
pub IsSought-head : (heads links : List ℕ) (nodes : List GNode) (node : GNode) → IsLinked heads links nodes → bucket_of node < BUCKETS → IsSought nodes node (get_or heads (bucket_of node) 0)
IsSought-head heads links nodes node linked below =
    let is : get_or heads (bucket_of node) 0 ≡ last_in nodes (bucket_of node) (length nodes) = linked.last (bucket_of node) below in
    subst (IsSought nodes node) (sym is) (record {
      within = last_in-le nodes (bucket_of node) (length nodes);
      behind = λ place from here. apart-bucket node (node_at nodes place) (bucket_of node) refl (last_in-apart nodes (bucket_of node) (length nodes) place from here);
      bucket = λ place e. last_in-here nodes (bucket_of node) (length nodes) place e;
    })

-- and goes on from a node that isn't the one to what that is linked to.
pub IsSought-next : (heads links : List ℕ) (nodes : List GNode) (node : GNode) (place : ℕ) → IsLinked heads links nodes → IsSought nodes node (suc place) → same_node node (node_at nodes place) ≡ false → IsSought nodes node (get_or links place 0)
IsSought-next heads links nodes node place linked sought apart =
    let own : bucket_of (node_at nodes place) ≡ bucket_of node = sought.bucket place refl in
    let here : place < length nodes = omega (arith, sought.within) in
    let bucket = bucket_of (node_at nodes place) in
    let is : get_or links place 0 ≡ last_in nodes bucket place = linked.before place here in
    let low : last_in nodes bucket place ≤ place = last_in-le nodes bucket place in
    subst (IsSought nodes node) (sym is) (record {
      within = omega arith;
      behind = λ other from there.
          ⊎_elim {C = same_node node (node_at nodes other) ≡ false}
          (λ before. apart-bucket node (node_at nodes other) bucket own (last_in-apart nodes bucket place other from before))
          (λ past.
          ⊎_elim {C = same_node node (node_at nodes other) ≡ false}
          (λ more. sought.behind other (omega arith) there)
          (λ same. let one : place ≡ other = omega arith in subst (λ p. same_node node (node_at nodes p) ≡ false) one apart)
          (cases_lt place other))
          (cases_lt other place);
      bucket = λ other e. last_in-here nodes bucket place other e ∙ own;
    })

-- The same of what is read: a number that is the one at its place.
pub sought-head : (heads links : List ℕ) (nodes : List GNode) (node : GNode) (bucket last : ℕ) → IsLinked heads links nodes → bucket ≡ bucket_of node → bucket < BUCKETS → last ≡ get_or heads bucket last → IsSought nodes node last
sought-head heads links nodes node bucket last linked own below read =
    let within : bucket < length heads = omega (arith, linked.buckets) in
    subst (IsSought nodes node) (sym (read ∙ get_or_default heads bucket last 0 within ∙ ap (λ b. get_or heads b 0) own))
    (IsSought-head heads links nodes node linked (subst (λ b. b < BUCKETS) own below))

pub sought-next : (heads links : List ℕ) (nodes : List GNode) (node : GNode) (place last next : ℕ) → IsLinked heads links nodes → IsSought nodes node last → last ≡ suc place → same_node node (node_at nodes place) ≡ false → next ≡ get_or links place next → IsSought nodes node next
sought-next heads links nodes node place last next linked sought was apart read =
    let within : place < length links = omega (arith, linked.linked, sought.within) in
    subst (IsSought nodes node) (sym (read ∙ get_or_default links place next 0 within))
    (IsSought-next heads links nodes node place linked (subst (IsSought nodes node) was sought) apart)

pub next-below : (heads links : List ℕ) (nodes : List GNode) (node : GNode) (place last next : ℕ) → IsLinked heads links nodes → IsSought nodes node last → last ≡ suc place → next ≡ get_or links place next → next < last
next-below heads links nodes node place last next linked sought was read =
    let within : place < length links = omega (arith, linked.linked, sought.within) in
    let is : next ≡ last_in nodes (bucket_of (node_at nodes place)) place = read ∙ get_or_default links place next 0 within ∙ linked.before place (omega (arith, sought.within)) in
    omega (arith, last_in-le nodes (bucket_of (node_at nodes place)) place)

-- At the end of the links the node is none of those that are there,
pub IsSought-none : (nodes : List GNode) (node : GNode) → IsSought nodes node 0 → node_place node nodes ≡ length nodes
IsSought-none nodes node sought = place-next node nodes (λ k within. sought.behind k (omega arith) within)

-- and one that is found stands at its place.
pub place-found : (nodes : List GNode) (node : GNode) (place : ℕ) → HasEachOnce nodes → place < length nodes → same_node node (node_at nodes place) ≡ true → place ≡ node_place node nodes
place-found nodes node place once within same =
    sym (once place within) ∙ ap (λ n. node_place n nodes) (sym (same-node node (node_at nodes place) same))

-- No nodes are linked by no links.
pub IsLinked-none : (heads : List ℕ) → heads ≡ replicate BUCKETS 0 → length heads ≡ BUCKETS → IsLinked heads [] []
IsLinked-none heads is long = record {
  buckets = long;
  last = λ bucket below. ap (λ hs. get_or hs bucket 0) is ∙ get_or-replicate BUCKETS bucket 0 0 below;
  linked = refl;
  before = λ place within. absurd (omega arith);
}

-- A node more is linked to what was the last of its bucket, and is the last of it now.
pub IsLinked-push : (heads links : List ℕ) (nodes : List GNode) (node : GNode) (bucket : ℕ) → IsLinked heads links nodes → bucket ≡ bucket_of node → bucket < BUCKETS →
    IsLinked (set heads bucket (length nodes + 1)) (links ++ get_or heads bucket 0 ∷ []) (nodes ++ node ∷ [])
IsLinked-push heads links nodes node bucket linked own below =
    let all = nodes ++ node ∷ [] in
    let count : length all ≡ suc (length nodes) = omega (arith, length_push nodes node) in
    let is : node_at all (length nodes) ≡ node = get_or_push nodes node (Inp 0) (length nodes) refl in
    record {
      buckets = length-set heads bucket (length nodes + 1) ∙ linked.buckets;
      last = λ other low.
          let now : last_in all other (length all) ≡ cond (bucket == other) (suc (length nodes)) (last_in nodes other (length nodes)) =
          ap (last_in all other) count ∙ (λ i. cond (bucket_of (is i) == other) (suc (length nodes)) (last_in-more nodes (node ∷ []) other (length nodes) (omega arith) i))
          ∙ ap (λ b. cond (b == other) (suc (length nodes)) (last_in nodes other (length nodes))) (sym own) in
          head-set heads bucket other (length nodes + 1) (last_in nodes other (length nodes)) (omega (arith, linked.buckets)) (linked.last other low)
          ∙ ap (λ n. cond (bucket == other) n (last_in nodes other (length nodes))) (add-one (length nodes)) ∙ sym now;
      linked = length_push links (get_or heads bucket 0) ∙ ap (λ n. n + 1) linked.linked ∙ sym (length_push nodes node);
      before = λ place within.
          ⊎_elim {C = get_or (links ++ get_or heads bucket 0 ∷ []) place 0 ≡ last_in all (bucket_of (node_at all place)) place}
          (λ old.
          let was : node_at all place ≡ node_at nodes place = get_or_append_left nodes (node ∷ []) (Inp 0) place old in
          get_or_append_left links (get_or heads bucket 0 ∷ []) 0 place (omega (arith, linked.linked))
          ∙ linked.before place old
          ∙ sym (last_in-more nodes (node ∷ []) (bucket_of (node_at nodes place)) place (omega arith))
          ∙ ap (λ n. last_in all (bucket_of n) place) (sym was))
          (λ past.
          let at : place ≡ length nodes = omega arith in
          get_or_push links (get_or heads bucket 0) 0 place (omega (arith, linked.linked))
          ∙ linked.last bucket below
          ∙ sym (last_in-more nodes (node ∷ []) bucket (length nodes) (omega arith))
          ∙ ap (λ n. last_in all n (length nodes)) (own ∙ sym (ap bucket_of is))
          ∙ ap (λ p. last_in all (bucket_of (node_at all p)) p) (sym at))
          (cases_lt place (length nodes));
    }
  where
    head-set : (heads : List ℕ) (bucket other value was : ℕ) → bucket < length heads → get_or heads other 0 ≡ was → get_or (set heads bucket value) other 0 ≡ cond (bucket == other) value was
    head-set heads bucket other value was within e = by (bucket == other) refl
      where
        by : (b : Bool) → b ≡ (bucket == other) → get_or (set heads bucket value) other 0 ≡ cond b value was
        by true same =
            let one : bucket ≡ other = eqb-true bucket other (sym same) in
            ap (λ o. get_or (set heads bucket value) o 0) (sym one) ∙ get_or-set_same heads bucket value 0 within
        by false apart =
            get_or-set_other heads bucket other value 0 (λ same. both_ways (bucket == other) (sym apart) (eq-eqb bucket other (sym same))) ∙ e

-- what the nodes with their index keep
abbrev pub IsNodes : List ℕ → List ℕ → List GNode → Type 0
IsNodes heads links nodes = IsLinked heads links nodes × HasEachOnce nodes × (length nodes ≤ 2 ^ 31)

pub none-IsNodes : (heads links : List ℕ) (nodes : List GNode) → heads ≡ replicate BUCKETS 0 → links ≡ [] → nodes ≡ [] → IsNodes heads links nodes
none-IsNodes heads links nodes zeros none empty =
    let bare : IsNodes heads [] [] = (IsLinked-none heads zeros (ap length zeros ∙ length-replicate {A = ℕ} BUCKETS 0), (λ place within. absurd (omega arith)), lit≤ tt) in
    subst (λ ls. IsNodes heads ls nodes) (sym none) (subst (λ ns. IsNodes heads [] ns) (sym empty) bare)

pub push-IsNodes : (heads links : List ℕ) (nodes : List GNode) (node : GNode) (bucket link : ℕ) (more : List ℕ) (all : List GNode) (last : ℕ) → IsNodes heads links nodes → bucket ≡ bucket_of node → bucket < BUCKETS → link ≡ get_or heads bucket link →
    more ≡ links ++ link ∷ [] → all ≡ nodes ++ node ∷ [] → last ≡ length all → length nodes ≤ node_place node nodes → length nodes < 2 ^ 31 → IsNodes (set heads bucket last) more all
push-IsNodes heads links nodes node bucket link more all last (linked, once, few) own below read linking pushing count new room =
    let within : bucket < length heads = omega (arith, linked.buckets) in
    let long : length (nodes ++ node ∷ []) ≡ length nodes + 1 = length_push nodes node in
    let head : link ≡ get_or heads bucket 0 = read ∙ get_or_default heads bucket link 0 within in
    let ends : last ≡ length nodes + 1 = count ∙ ap length pushing ∙ long in
    let next : IsNodes (set heads bucket (length nodes + 1)) (links ++ get_or heads bucket 0 ∷ []) (nodes ++ node ∷ []) =
    (IsLinked-push heads links nodes node bucket linked own below, HasEachOnce-push nodes node once new, omega arith) in
    subst (λ ns. IsNodes (set heads bucket last) more ns) (sym pushing)
    (subst (λ ls. IsNodes (set heads bucket last) ls (nodes ++ node ∷ [])) (sym (linking ∙ ap (λ l. links ++ l ∷ []) head))
    (subst (λ n. IsNodes (set heads bucket n) (links ++ get_or heads bucket 0 ∷ []) (nodes ++ node ∷ [])) (sym ends) next))
