-- Each step of a graph means what it is named for: the complement, the conjunction and the disjunction, over every row.
use Rattle.std.proofs.Common.{◌≡◌, ◌==◌, ◌<◌, ◌≤◌, ◌++◌, ◌∙◌, ◌&&◌, ◌||◌, ⊎_elim, ℕ, Bool, true, false, not, cond, min, max, nat_lt, List, [], ◌∷◌, length, get_or, refl, sym, ap, arith, true≢false}
use Rattle.std.proofs.lemmas.Bool.{cases_lt, eqb-true, eqb-false}
use Rattle.std.proofs.lemmas.Bool.Decides.{Decides-ltb}
use Rattle.std.proofs.lemmas.List.{length_push}
use Rattle.net_base.specs.declared.graph.GNode.{GNode}
use Rattle.net_base.specs.declared.graph.GNode.TheVariants.{Inp, Neg, Both}
use Rattle.net_base.specs.declared.graph.Ref.{Ref}
use Rattle.net_base.specs.declared.graph.Ref.TheVariants.{Const, Node}
use Rattle.net_base.specs.declared.graph.Graph.{Graph}
use Rattle.net_base.specs.Graph.{IsNodeAt, IsRefThere}
use Rattle.net_base.specs.NodeValues.{value_of, node_values, node_value, ref_value}
use Rattle.subject_graph.specs.declared.wanted.Wanted.{Wanted}
use Rattle.subject_graph.specs.declared.wanted.Wanted.TheVariants.{Ready, Needed}
use Rattle.subject_graph.specs.Nodes.{node_at, node_place}
use Rattle.subject_graph.specs.Laws.{Keeps, HasValue}
use Rattle.subject_graph.specs.Steps.{Made, complement_of, negation, is_complement, both_of, only_if, conjunction, IsWantedThere, with_wanted, with_neg, with_and, with_or}
use Rattle.subject_graph.proofs.Places.{same-node, place-le, node-found}
use Rattle.subject_graph.proofs.Formed.{IsFormed, Keeps-refl, Keeps-trans, Keeps-le, there-more, graph_keeps_values, value-at, value-last, IsFormed-push}

-- A step from a graph means a value: it leaves a formed graph that keeps the nodes, and a signal of this value over each row.
pub record Means (old : Graph) (made : Made Ref) (meaning : List Bool → Bool) : Type 0 where
  pub formed : IsFormed made.graph
  pub kept : Keeps old made.graph
  pub there : IsRefThere (length made.graph.nodes) made.answer
  pub value : HasValue made.graph made.answer meaning

-- It means another value that is the same over each row,
pub Means-same : (old : Graph) (made : Made Ref) (value other : List Bool → Bool) → ((row : List Bool) → value row ≡ other row) → Means old made value → Means old made other
Means-same old made value other same means = record { formed = means.formed; kept = means.kept; there = means.there; value = λ row. means.value row ∙ same row }

-- and from a graph before too.
pub Means-before : (first second : Graph) (made : Made Ref) (value : List Bool → Bool) → Keeps first second → Means second made value → Means first made value
Means-before first second made value keeps means = record { formed = means.formed; kept = Keeps-trans first second made.graph keeps means.kept; there = means.there; value = means.value }

-- a signal that is there means its own value
pub Means-itself : (graph : Graph) (x : Ref) → IsFormed graph → IsRefThere (length graph.nodes) x → Means graph (record { graph = graph; answer = x }) (λ row. ref_value graph row x)
Means-itself graph x formed there = record { formed = formed; kept = Keeps-refl graph; there = there; value = λ row. refl }

-- the value of what is wanted
abbrev pub wanted_value : Graph → List Bool → Wanted → Bool
wanted_value graph row (Ready x) = ref_value graph row x
wanted_value graph row (Needed node) = value_of row (node_values row graph.nodes) node

-- What is wanted is found or made, and means its value.
pub with_wanted-means : (graph : Graph) (wanted : Wanted) → IsFormed graph → IsWantedThere graph wanted → Means graph (with_wanted graph wanted) (λ row. wanted_value graph row wanted)
with_wanted-means graph (Ready x) formed there = Means-itself graph x formed there
with_wanted-means graph (Needed node) formed there = by (nat_lt (node_place node graph.nodes) (length graph.nodes)) refl
  where
    place : ℕ
    place = node_place node graph.nodes

    by : (b : Bool) → b ≡ nat_lt (node_place node graph.nodes) (length graph.nodes) → Means graph (record { graph = record graph { nodes = cond b graph.nodes (graph.nodes ++ node ∷ []) }; answer = Node (node_place node graph.nodes) }) (λ row. value_of row (node_values row graph.nodes) node)
    by true found =
        let within : node_place node graph.nodes < length graph.nodes = (Decides-ltb (node_place node graph.nodes) (length graph.nodes)).0 (sym found) in
        record {
          formed = formed;
          kept = Keeps-refl graph;
          there = within;
          value = λ row. value-at graph row (node_place node graph.nodes) formed within ∙ ap (value_of row (node_values row graph.nodes)) (node-found node graph.nodes within);
        }
    by false new =
        let low : node_place node graph.nodes ≤ length graph.nodes = place-le node graph.nodes in
        let high : length graph.nodes ≤ node_place node graph.nodes =
        ⊎_elim {C = length graph.nodes ≤ node_place node graph.nodes}
        (λ below. absurd (true≢false (sym ((Decides-ltb (node_place node graph.nodes) (length graph.nodes)).1 below) ∙ sym new)))
        (λ past. past)
        (cases_lt (node_place node graph.nodes) (length graph.nodes)) in
        let last : node_place node graph.nodes ≡ length graph.nodes = omega arith in
        record {
          formed = IsFormed-push graph node formed there;
          kept = record { inputs = refl; more = node ∷ []; nodes = refl };
          there = omega (arith, length_push graph.nodes node);
          value = λ row. value-last graph.nodes node row (node_place node graph.nodes) last;
        }

not-not : (b : Bool) → b ≡ not (not b)
not-not true = refl
not-not false = refl

-- The complement of a node: that of a complement is what it is the complement of.
complement-value : (graph : Graph) (row : List Bool) (x : ℕ) (node : GNode) → node_value graph row x ≡ value_of row (node_values row graph.nodes) node → wanted_value graph row (complement_of x node) ≡ not (node_value graph row x)
complement-value graph row x (Inp k) value = refl
complement-value graph row x (Neg y) value = not-not (node_value graph row y) ∙ ap not (sym value)
complement-value graph row x (Both a b) value = refl

complement-there : (graph : Graph) (x : ℕ) (node : GNode) → IsFormed graph → x < length graph.nodes → IsNodeAt graph.inputs x node → IsWantedThere graph (complement_of x node)
complement-there graph x (Inp k) formed within there = (formed.inputs, within)
complement-there graph x (Neg y) formed within there = omega (arith, there.1)
complement-there graph x (Both a b) formed within there = (formed.inputs, within)

negation-value : (graph : Graph) (row : List Bool) (x : Ref) → IsFormed graph → IsRefThere (length graph.nodes) x → wanted_value graph row (negation graph.nodes x) ≡ not (ref_value graph row x)
negation-value graph row (Const value) formed there = refl
negation-value graph row (Node x) formed there = complement-value graph row x (node_at graph.nodes x) (value-at graph row x formed there)

pub negation-there : (graph : Graph) (x : Ref) → IsFormed graph → IsRefThere (length graph.nodes) x → IsWantedThere graph (negation graph.nodes x)
negation-there graph (Const value) formed there = tt
negation-there graph (Node x) formed there = complement-there graph x (node_at graph.nodes x) formed there (formed.nodes x (Inp 0) there)

-- The conjunction of two nodes.
and-itself : (b : Bool) → b ≡ (b && b)
and-itself true = refl
and-itself false = refl

and-complement : (a b : Bool) → a ≡ not b → false ≡ (a && b)
and-complement a true e = ap (λ v. v && true) (sym e)
and-complement a false e = ap (λ v. v && false) (sym e)

and-swap : (a b : Bool) → (a && b) ≡ (b && a)
and-swap true true = refl
and-swap true false = refl
and-swap false true = refl
and-swap false false = refl

complement-is : (graph : Graph) (row : List Bool) (x y : ℕ) → IsFormed graph → x < length graph.nodes → is_complement graph.nodes x y ≡ true → node_value graph row x ≡ not (node_value graph row y)
complement-is graph row x y formed within is = value-at graph row x formed within ∙ ap (value_of row (node_values row graph.nodes)) (same-node (node_at graph.nodes x) (Neg y) is)

ordered-value : (values : List Bool) (x y : ℕ) → (get_or values (min x y) false && get_or values (max x y) false) ≡ (get_or values x false && get_or values y false)
ordered-value values x y =
    ⊎_elim {C = (get_or values (min x y) false && get_or values (max x y) false) ≡ (get_or values x false && get_or values y false)}
    (λ low. let first : min x y ≡ x = omega arith in let second : max x y ≡ y = omega arith in λ i. get_or values (first i) false && get_or values (second i) false)
    (λ high.
    let first : min x y ≡ y = omega arith in
    let second : max x y ≡ x = omega arith in
    (λ i. get_or values (first i) false && get_or values (second i) false) ∙ and-swap (get_or values y false) (get_or values x false))
    (cases_lt x y)

both-value : (graph : Graph) (row : List Bool) (x y : ℕ) → IsFormed graph → x < length graph.nodes → y < length graph.nodes → wanted_value graph row (both_of graph.nodes x y) ≡ (node_value graph row x && node_value graph row y)
both-value graph row x y formed first second = by (x == y) refl (is_complement graph.nodes x y) refl (is_complement graph.nodes y x) refl
  where
    by : (one : Bool) → one ≡ (x == y) → (left : Bool) → left ≡ is_complement graph.nodes x y → (right : Bool) → right ≡ is_complement graph.nodes y x →
        wanted_value graph row (cond one (Ready (Node x)) (cond (left || right) (Ready (Const false)) (Needed (Both (min x y) (max x y))))) ≡ (node_value graph row x && node_value graph row y)
    by true same left l right r =
        let one : x ≡ y = eqb-true x y (sym same) in
        and-itself (node_value graph row x) ∙ ap (λ z. node_value graph row x && node_value graph row z) one
    by false apart true l right r = and-complement (node_value graph row x) (node_value graph row y) (complement-is graph row x y formed first (sym l))
    by false apart false l true r =
        and-complement (node_value graph row y) (node_value graph row x) (complement-is graph row y x formed second (sym r))
        ∙ and-swap (node_value graph row y) (node_value graph row x)
    by false apart false l false r = ordered-value (node_values row graph.nodes) x y

both-there : (graph : Graph) (x y : ℕ) → IsFormed graph → x < length graph.nodes → y < length graph.nodes → IsWantedThere graph (both_of graph.nodes x y)
both-there graph x y formed first second = by (x == y) refl (is_complement graph.nodes x y || is_complement graph.nodes y x)
  where
    by : (one : Bool) → one ≡ (x == y) → (complement : Bool) → IsWantedThere graph (cond one (Ready (Node x)) (cond complement (Ready (Const false)) (Needed (Both (min x y) (max x y)))))
    by true same complement = first
    by false apart true = tt
    by false apart false =
        let other = eqb-false x y (sym apart) in
        (formed.inputs, grind (arith, other), omega arith)

only_if-value : (graph : Graph) (row : List Bool) (value : Bool) (x : Ref) → wanted_value graph row (only_if value x) ≡ (value && ref_value graph row x)
only_if-value graph row true x = refl
only_if-value graph row false x = refl

only_if-there : (graph : Graph) (value : Bool) (x : Ref) → IsRefThere (length graph.nodes) x → IsWantedThere graph (only_if value x)
only_if-there graph true x there = there
only_if-there graph false x there = tt

conjunction-value : (graph : Graph) (row : List Bool) (x y : Ref) → IsFormed graph → IsRefThere (length graph.nodes) x → IsRefThere (length graph.nodes) y → wanted_value graph row (conjunction graph.nodes x y) ≡ (ref_value graph row x && ref_value graph row y)
conjunction-value graph row (Const value) y formed first second = only_if-value graph row value y
conjunction-value graph row (Node x) (Const value) formed first second = only_if-value graph row value (Node x) ∙ and-swap value (node_value graph row x)
conjunction-value graph row (Node x) (Node y) formed first second = both-value graph row x y formed first second

pub conjunction-there : (graph : Graph) (x y : Ref) → IsFormed graph → IsRefThere (length graph.nodes) x → IsRefThere (length graph.nodes) y → IsWantedThere graph (conjunction graph.nodes x y)
conjunction-there graph (Const value) y formed first second = only_if-there graph value y second
conjunction-there graph (Node x) (Const value) formed first second = only_if-there graph value (Node x) first
conjunction-there graph (Node x) (Node y) formed first second = both-there graph x y formed first second

-- The steps.
pub neg-means : (graph : Graph) (x : Ref) → IsFormed graph → IsRefThere (length graph.nodes) x → Means graph (with_neg graph x) (λ row. not (ref_value graph row x))
neg-means graph x formed there =
    Means-same graph (with_neg graph x) (λ row. wanted_value graph row (negation graph.nodes x)) (λ row. not (ref_value graph row x)) (λ row. negation-value graph row x formed there)
    (with_wanted-means graph (negation graph.nodes x) formed (negation-there graph x formed there))

pub and-means : (graph : Graph) (x y : Ref) → IsFormed graph → IsRefThere (length graph.nodes) x → IsRefThere (length graph.nodes) y → Means graph (with_and graph x y) (λ row. ref_value graph row x && ref_value graph row y)
and-means graph x y formed first second =
    Means-same graph (with_and graph x y) (λ row. wanted_value graph row (conjunction graph.nodes x y)) (λ row. ref_value graph row x && ref_value graph row y) (λ row. conjunction-value graph row x y formed first second)
    (with_wanted-means graph (conjunction graph.nodes x y) formed (conjunction-there graph x y formed first second))

-- A signal of a graph before has kept its value.
pub kept-there : (old new : Graph) (x : Ref) → Keeps old new → IsRefThere (length old.nodes) x → IsRefThere (length new.nodes) x
kept-there old new x keeps there = there-more (length old.nodes) (length new.nodes) (Keeps-le old new keeps) x there

de_morgan : (a b : Bool) → not (not a && not b) ≡ (a || b)
de_morgan true b = refl
de_morgan false true = refl
de_morgan false false = refl

pub or-means : (graph : Graph) (x y : Ref) → IsFormed graph → IsRefThere (length graph.nodes) x → IsRefThere (length graph.nodes) y → Means graph (with_or graph x y) (λ row. ref_value graph row x || ref_value graph row y)
or-means graph x y formed there_x there_y =
    let first = with_neg graph x in
    let one : Means graph first (λ row. not (ref_value graph row x)) = neg-means graph x formed there_x in
    let second = with_neg first.graph y in
    let two : Means first.graph second (λ row. not (ref_value first.graph row y)) = neg-means first.graph y one.formed (kept-there graph first.graph y one.kept there_y) in
    let neither = with_and second.graph first.answer second.answer in
    let three : Means second.graph neither (λ row. ref_value second.graph row first.answer && ref_value second.graph row second.answer) =
    and-means second.graph first.answer second.answer two.formed (kept-there first.graph second.graph first.answer two.kept one.there) two.there in
    let four : Means neither.graph (with_neg neither.graph neither.answer) (λ row. not (ref_value neither.graph row neither.answer)) =
    neg-means neither.graph neither.answer three.formed three.there in
    Means-before graph neither.graph (with_or graph x y) (λ row. ref_value graph row x || ref_value graph row y)
    (Keeps-trans graph first.graph neither.graph one.kept (Keeps-trans first.graph second.graph neither.graph two.kept three.kept))
    (Means-same neither.graph (with_or graph x y) (λ row. not (ref_value neither.graph row neither.answer)) (λ row. ref_value graph row x || ref_value graph row y)
    (λ row.
    let left : ref_value second.graph row first.answer ≡ not (ref_value graph row x) =
    graph_keeps_values first.graph second.graph row first.answer two.kept one.there ∙ one.value row in
    let right : ref_value second.graph row second.answer ≡ not (ref_value graph row y) =
    two.value row ∙ ap not (graph_keeps_values graph first.graph row y one.kept there_y) in
    ap not (three.value row ∙ (λ i. left i && right i)) ∙ de_morgan (ref_value graph row x) (ref_value graph row y))
    four)

-- What three calls one after the other mean, of which each tells the value of its own answer.
pub or-meaning : (old first second third : Graph) (x y a b c : Ref) (row : List Bool) → Keeps old first → Keeps first second → IsRefThere (length old.nodes) y → IsRefThere (length first.nodes) a →
    HasValue first a (λ bits. not (ref_value old bits x)) → HasValue second b (λ bits. not (ref_value first bits y)) → HasValue third c (λ bits. ref_value second bits a && ref_value second bits b) →
    not (ref_value third row c) ≡ (ref_value old row x || ref_value old row y)
or-meaning old first second third x y a b c row one two there_y there_a value_a value_b value_c =
    let left : ref_value second row a ≡ not (ref_value old row x) = graph_keeps_values first second row a two there_a ∙ value_a row in
    let right : ref_value second row b ≡ not (ref_value old row y) = value_b row ∙ ap not (graph_keeps_values old first row y one there_y) in
    ap not (value_c row ∙ (λ i. left i && right i)) ∙ de_morgan (ref_value old row x) (ref_value old row y)
