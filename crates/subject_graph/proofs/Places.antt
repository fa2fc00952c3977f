-- The places of nodes: equal nodes, what is found, and what a node more changes.
use Rattle.std.proofs.Common.{◌≡◌, ◌==◌, ◌&&◌, ◌<◌, ◌≤◌, ◌+◌, ◌++◌, ◌∙◌, ℕ, suc, Bool, true, false, cond, not, List, [], ◌∷◌, length, get_or, refl, sym, ap, arith}
use Rattle.std.specs.Bool.{Decides}
use Rattle.std.proofs.Common.{nat_lt, map}
use Rattle.std.specs.List.{range_with_len}
use Rattle.std.proofs.lemmas.List.FromFn.{map-range_with_len_more, length-map-range_with_len, get_or-map-range_with_len}
use Rattle.std.proofs.lemmas.Bool.Decides.{Decides-ltb, Decides-eqb, Decides-like, Decides-and, nat_tests}
use Rattle.std.proofs.lemmas.Bool.{cases_lt}
use Rattle.std.proofs.lemmas.List.{length_push, get_or_append_left, get_or_push}
use Rattle.std.proofs.lemmas.List.Folds.{position_or_len_push}
use Rattle.std.proofs.lemmas.List.Sums.{prefix_len-le-length}
use Rattle.std.proofs.Common.{⊎_elim, eqb}
use Rattle.net_base.specs.declared.graph.GNode.{GNode}
use Rattle.net_base.specs.declared.graph.GNode.TheVariants.{Inp, Neg, Both}
use Rattle.subject_graph.specs.Nodes.{same_node, node_at, node_place, with_node, HasEachOnce}

both_from_parts : (a b c d : ℕ) → (a ≡ c) × (b ≡ d) → ◌≡◌ {A = GNode} (Both a b) (Both c d)
both_from_parts a b c d p = λ i. Both (p.0 i) (p.1 i)

parts_from_both : (a b c d : ℕ) → ◌≡◌ {A = GNode} (Both a b) (Both c d) → (a ≡ c) × (b ≡ d)
parts_from_both a b c d e = (cc, cc)

-- The test on nodes decides whether two are one.
pub same_node-decides : (m n : GNode) → Decides (same_node m n) (m ≡ n)
same_node-decides (Inp i) (Inp j) = Decides-like (i == j) (ap Inp) (λ e. cc) (Decides-eqb i j)
same_node-decides (Inp i) (Neg b) = (λ e. cc, λ e. cc)
same_node-decides (Inp i) (Both c d) = (λ e. cc, λ e. cc)
same_node-decides (Neg a) (Inp j) = (λ e. cc, λ e. cc)
same_node-decides (Neg a) (Neg b) = Decides-like (a == b) (ap Neg) (λ e. cc) (Decides-eqb a b)
same_node-decides (Neg a) (Both c d) = (λ e. cc, λ e. cc)
same_node-decides (Both a b) (Inp j) = (λ e. cc, λ e. cc)
same_node-decides (Both a b) (Neg c) = (λ e. cc, λ e. cc)
same_node-decides (Both a b) (Both c d) =
    Decides-like ((a == c) && (b == d)) (both_from_parts a b c d) (parts_from_both a b c d)
    (Decides-and (a == c) (b == d) (Decides-eqb a c) (Decides-eqb b d))

pub same-node : (m n : GNode) → same_node m n ≡ true → m ≡ n
same-node m n e = (same_node-decides m n).0 e

pub node-same : (n : GNode) → same_node n n ≡ true
node-same n = (same_node-decides n n).1 refl

-- Where no node is the one, its place is the next.
pub place-next : (node : GNode) (nodes : List GNode) → ((k : ℕ) → k < length nodes → same_node node (node_at nodes k) ≡ false) → node_place node nodes ≡ length nodes
place-next node [] none = refl
place-next node (n ∷ nodes) none =
    let here : same_node node n ≡ false = none 0 (omega arith) in
    let rest : node_place node nodes ≡ length nodes = place-next node nodes (λ k within. none (suc k) (omega arith)) in
    ap (λ b. cond (not b) (1 + node_place node nodes) 0) here ∙ omega (arith, rest)

-- A place is never past the next one.
pub place-le : (node : GNode) (nodes : List GNode) → node_place node nodes ≤ length nodes
place-le node nodes = prefix_len-le-length (λ x. not (same_node node x)) nodes

-- What stands at the place of a node that is there is the node.
pub node-found : (node : GNode) (nodes : List GNode) → node_place node nodes < length nodes → node_at nodes (node_place node nodes) ≡ node
node-found node [] within = absurd (omega arith)
node-found node (n ∷ nodes) within = by (same_node node n) refl within (node-found node nodes)
  where
    by : (b : Bool) → b ≡ same_node node n → cond (not b) (1 + node_place node nodes) 0 < suc (length nodes) → (node_place node nodes < length nodes → node_at nodes (node_place node nodes) ≡ node) → get_or (n ∷ nodes) (cond (not b) (1 + node_place node nodes) 0) (Inp 0) ≡ node
    by true same within rest = sym (same-node node n (sym same))
    by false apart within rest =
        let next : 1 + node_place node nodes ≡ suc (node_place node nodes) = omega arith in
        ap (λ k. get_or (n ∷ nodes) k (Inp 0)) next ∙ rest (omega arith)

-- The place of a node, where one more comes behind,
pub place-push : (node new : GNode) (nodes : List GNode) → node_place node (nodes ++ new ∷ []) ≡ cond (eqb (node_place node nodes) (length nodes)) (length nodes + cond (same_node node new) 0 1) (node_place node nodes)
place-push node new nodes = position_or_len_push (same_node node) nodes new

-- which is where it was,
pub place-kept : (node new : GNode) (nodes : List GNode) → node_place node nodes < length nodes → node_place node (nodes ++ new ∷ []) ≡ node_place node nodes
place-kept node new nodes within = by (node_place node nodes) (node_place node (nodes ++ new ∷ [])) (length nodes) (cond (same_node node new) 0 1) within (place-push node new nodes)
  where
    by : (p q n m : ℕ) → p < n → q ≡ cond (eqb p n) (n + m) p → q ≡ p
    by p q n m within e = grind (arith, nat_tests)

-- or the next, where it is the new one.
pub place-new : (node : GNode) (nodes : List GNode) → length nodes ≤ node_place node nodes → node_place node (nodes ++ node ∷ []) ≡ length nodes
place-new node nodes new =
    let least : node_place node nodes ≤ length nodes = place-le node nodes in
    by (node_place node nodes) (node_place node (nodes ++ node ∷ [])) (length nodes) (omega arith)
    (place-push node node nodes ∙ ap (λ b. cond (eqb (node_place node nodes) (length nodes)) (length nodes + cond b 0 1) (node_place node nodes)) (node-same node))
  where
    by : (p q n : ℕ) → p ≡ n → q ≡ cond (eqb p n) (n + 0) p → q ≡ n
    by p q n same e = grind (arith, nat_tests)

-- A new node behind others, each of which is there once, leaves each there once.
pub HasEachOnce-push : (nodes : List GNode) (node : GNode) → HasEachOnce nodes → length nodes ≤ node_place node nodes → HasEachOnce (nodes ++ node ∷ [])
HasEachOnce-push nodes node once new = λ place within.
    let all = nodes ++ node ∷ [] in
    let long : length all ≡ length nodes + 1 = length_push nodes node in
    ⊎_elim {C = node_place (node_at all place) all ≡ place}
    (λ before.
    let was : node_at all place ≡ node_at nodes place = get_or_append_left nodes (node ∷ []) (Inp 0) place before in
    let there : node_place (node_at nodes place) nodes ≡ place = once place before in
    ap (λ n. node_place n all) was ∙ place-kept (node_at nodes place) node nodes (omega arith) ∙ there)
    (λ past.
    let last : place ≡ length nodes = omega arith in
    let is : node_at all place ≡ node = get_or_push nodes node (Inp 0) place (sym last) in
    ap (λ n. node_place n all) is ∙ place-new node nodes new ∙ sym last)
    (cases_lt place (length nodes))

-- A new node makes one more.
pub length-with_node : (node : GNode) (nodes : List GNode) → length nodes ≤ node_place node nodes → length (with_node node nodes) ≡ length nodes + 1
length-with_node node nodes new = by (nat_lt (node_place node nodes) (length nodes)) refl
  where
    by : (b : Bool) → b ≡ nat_lt (node_place node nodes) (length nodes) → length (cond b nodes (nodes ++ node ∷ [])) ≡ length nodes + 1
    by true found = let below : node_place node nodes < length nodes = (Decides-ltb (node_place node nodes) (length nodes)).0 (sym found) in absurd (omega arith)
    by false apart = length_push nodes node

-- The nodes of inputs, and one input more, which is new among them.
pub inputs-push : (inputs : ℕ) → map Inp (range_with_len 0 (inputs + 1)) ≡ map Inp (range_with_len 0 inputs) ++ Inp inputs ∷ []
inputs-push inputs = map-range_with_len_more Inp 0 inputs inputs (omega arith)

pub length-inputs : (inputs : ℕ) → length (map Inp (range_with_len 0 inputs)) ≡ inputs
length-inputs inputs = length-map-range_with_len {X = GNode} Inp 0 inputs

pub input-at : (inputs place : ℕ) (d : GNode) → place < inputs → get_or (map Inp (range_with_len 0 inputs)) place d ≡ Inp place
input-at inputs place d within = get_or-map-range_with_len Inp 0 inputs place place d within (omega arith)

pub input-new : (inputs : ℕ) → length (map Inp (range_with_len 0 inputs)) ≤ node_place (Inp inputs) (map Inp (range_with_len 0 inputs))
input-new inputs =
    let nodes = map Inp (range_with_len 0 inputs) in
    let place = node_place (Inp inputs) nodes in
    ⊎_elim {C = length nodes ≤ place}
    (λ below.
    let here : place < inputs = omega (arith, length-inputs inputs) in
    let one : ◌≡◌ {A = GNode} (Inp place) (Inp inputs) = sym (input-at inputs place (Inp 0) here) ∙ node-found (Inp inputs) nodes below in
    let same : place ≡ inputs = cc in
    absurd (omega arith))
    (λ past. past)
    (cases_lt place (length nodes))
