-- Folds by halves: the bound on the depth doesn't matter, and what is folded is the conjunction of all or their disjunction.
use Rattle.std.proofs.Common.{◌≡◌, ◌≤◌, ◌++◌, ◌∙◌, ◌&&◌, ◌||◌, ℕ, zero, suc, Bool, true, false, List, [], ◌∷◌, length, take, drop, map, All, refl, sym, ap, subst, arith, length-take, length-drop}
use Rattle.std.proofs.lemmas.List.{map-append, take-append-drop}
use Rattle.std.proofs.lemmas.List.Elements.{All-take, All-drop, All-head, All-tail}
use Rattle.net_base.specs.declared.graph.Ref.{Ref}
use Rattle.net_base.specs.declared.graph.Graph.{Graph}
use Rattle.net_base.specs.Graph.{IsRefThere}
use Rattle.net_base.specs.NodeValues.{ref_value}
use Rattle.subject_graph.specs.declared.fault.GraphFault.{GraphFault}
use Rattle.subject_graph.specs.declared.folds.Folding.{Folding}
use Rattle.subject_graph.specs.declared.folds.Folding.TheVariants.{All as Every, Any as Either}
use Rattle.subject_graph.specs.Answers.{Refuses}
use Rattle.subject_graph.specs.Laws.{Keeps}
use Rattle.subject_graph.specs.Steps.{Made, unit_of, with_two, first_half, folded_within, folded}
use Rattle.subject_graph.proofs.Formed.{IsFormed, Keeps-refl, Keeps-trans, Keeps-le, all-there-more, graph_keeps_values}
use Rattle.subject_graph.proofs.Steps.{Means, Means-same, Means-before, Means-itself, and-means, or-means, kept-there}
use Rattle.subject_graph.proofs.Growth.{size, Refuses-more, two-grows, folded-grows}

-- halves are smaller
front-below : (x y : Ref) (more : List Ref) → length (take (first_half (length (x ∷ (y ∷ more)))) (x ∷ (y ∷ more))) ≤ suc (length more)
front-below x y more = omega (arith, length-take (first_half (length (x ∷ (y ∷ more)))) (x ∷ (y ∷ more)))

back-below : (x y : Ref) (more : List Ref) → length (drop (first_half (length (x ∷ (y ∷ more)))) (x ∷ (y ∷ more))) ≤ suc (length more)
back-below x y more = omega (arith, length-drop (first_half (length (x ∷ (y ∷ more)))) (x ∷ (y ∷ more)))

-- Two depths that are both large enough make one fold.
folded_within-depth : (d e : ℕ) (kind : Folding) (graph : Graph) (signals : List Ref) → length signals ≤ d → length signals ≤ e → folded_within d kind graph signals ≡ folded_within e kind graph signals
folded_within-depth zero zero kind graph signals low high = refl
folded_within-depth zero (suc e) kind graph [] low high = refl
folded_within-depth zero (suc e) kind graph (x ∷ signals) low high = absurd (omega arith)
folded_within-depth (suc d) zero kind graph [] low high = refl
folded_within-depth (suc d) zero kind graph (x ∷ signals) low high = absurd (omega arith)
folded_within-depth (suc d) (suc e) kind graph [] low high = refl
folded_within-depth (suc d) (suc e) kind graph (x ∷ []) low high = refl
folded_within-depth (suc d) (suc e) kind graph (x ∷ (y ∷ more)) low high =
    let half = first_half (length (x ∷ (y ∷ more))) in
    let front = take half (x ∷ (y ∷ more)) in
    let back = drop half (x ∷ (y ∷ more)) in
    let one : folded_within d kind graph front ≡ folded_within e kind graph front =
    folded_within-depth d e kind graph front (omega (arith, front-below x y more)) (omega (arith, front-below x y more)) in
    let two = λ (g : Graph). folded_within-depth d e kind g back (omega (arith, back-below x y more)) (omega (arith, back-below x y more)) in
    λ i. with_two kind (two (one i).graph i).graph (one i).answer (two (one i).graph i).answer

-- The fold of the first half, then that of the rest, then the two made one.
pub folded-halves : (kind : Folding) (graph : Graph) (signals : List Ref) → 2 ≤ length signals →
    let half = first_half (length signals) in
    let first = folded kind graph (take half signals) in
    let rest = folded kind first.graph (drop half signals) in
    folded kind graph signals ≡ with_two kind rest.graph first.answer rest.answer
folded-halves kind graph [] many = absurd (omega arith)
folded-halves kind graph (x ∷ []) many = absurd (omega arith)
folded-halves kind graph (x ∷ (y ∷ more)) many =
    let half = first_half (length (x ∷ (y ∷ more))) in
    let front = take half (x ∷ (y ∷ more)) in
    let back = drop half (x ∷ (y ∷ more)) in
    let depth = suc (length more) in
    let one : folded_within depth kind graph front ≡ folded kind graph front =
    folded_within-depth depth (length front) kind graph front (front-below x y more) (omega arith) in
    let two = λ (g : Graph). folded_within-depth depth (length back) kind g back (back-below x y more) (omega arith) in
    λ i. with_two kind (two (one i).graph i).graph (one i).answer (two (one i).graph i).answer

-- A fold of two or more, as calls make it one half after the other: where one is refused the whole has too many nodes,
module _ (kind : Folding) (graph : Graph) (signals : List Ref) (many : 2 ≤ length signals) where
  pub front-refused : (fault : GraphFault) → Refuses fault (folded kind graph (take (first_half (length signals)) signals)).graph → Refuses fault (folded kind graph signals).graph
  front-refused fault refuses =
      let half = first_half (length signals) in
      let first = folded kind graph (take half signals) in
      let rest = folded kind first.graph (drop half signals) in
      let one : size first.graph ≤ size rest.graph = folded-grows kind first.graph (drop half signals) in
      let two : size rest.graph ≤ size (with_two kind rest.graph first.answer rest.answer).graph = two-grows kind rest.graph first.answer rest.answer in
      subst (λ (m : Made Ref). Refuses fault m.graph) (sym (folded-halves kind graph signals many))
      (Refuses-more fault first.graph (with_two kind rest.graph first.answer rest.answer).graph (omega arith) refuses)

  module _ (one : Graph) (a : Ref) (first : folded kind graph (take (first_half (length signals)) signals) ≡ record { graph = one; answer = a }) where
    pub back-refused : (fault : GraphFault) → Refuses fault (folded kind one (drop (first_half (length signals)) signals)).graph → Refuses fault (folded kind graph signals).graph
    back-refused fault refuses =
        let half = first_half (length signals) in
        let rest = folded kind one (drop half signals) in
        subst (λ (m : Made Ref). Refuses fault m.graph)
        (ap (λ (m : Made Ref). with_two kind (folded kind m.graph (drop half signals)).graph m.answer (folded kind m.graph (drop half signals)).answer) (sym first) ∙ sym (folded-halves kind graph signals many))
        (Refuses-more fault rest.graph (with_two kind rest.graph a rest.answer).graph (two-grows kind rest.graph a rest.answer) refuses)

    -- and else they make it.
    pub fold-joined : (two : Graph) (b : Ref) → folded kind one (drop (first_half (length signals)) signals) ≡ record { graph = two; answer = b } → with_two kind two a b ≡ folded kind graph signals
    fold-joined two b second =
        let half = first_half (length signals) in
        ap (λ (n : Made Ref). with_two kind n.graph a n.answer) (sym second)
        ∙ ap (λ (m : Made Ref). with_two kind (folded kind m.graph (drop half signals)).graph m.answer (folded kind m.graph (drop half signals)).answer) (sym first)
        ∙ sym (folded-halves kind graph signals many)

-- the value of a fold of two values, and of many
abbrev pub two_value : Folding → Bool → Bool → Bool
two_value Every a b = a && b
two_value Either a b = a || b

abbrev pub unit_value : Folding → Bool
unit_value Every = true
unit_value Either = false

abbrev pub fold_value : Folding → List Bool → Bool
fold_value kind [] = unit_value kind
fold_value kind (v ∷ values) = two_value kind v (fold_value kind values)

two_value-unit : (kind : Folding) (b : Bool) → two_value kind b (unit_value kind) ≡ b
two_value-unit Every true = refl
two_value-unit Every false = refl
two_value-unit Either true = refl
two_value-unit Either false = refl

unit-two_value : (kind : Folding) (b : Bool) → b ≡ two_value kind (unit_value kind) b
unit-two_value Every b = refl
unit-two_value Either b = refl

two_value-assoc : (kind : Folding) (a b c : Bool) → two_value kind a (two_value kind b c) ≡ two_value kind (two_value kind a b) c
two_value-assoc Every true b c = refl
two_value-assoc Every false b c = refl
two_value-assoc Either true b c = refl
two_value-assoc Either false b c = refl

-- Two halves have the value of the whole.
pub fold_value-append : (kind : Folding) (xs ys : List Bool) → fold_value kind (xs ++ ys) ≡ two_value kind (fold_value kind xs) (fold_value kind ys)
fold_value-append kind [] ys = unit-two_value kind (fold_value kind ys)
fold_value-append kind (x ∷ xs) ys = ap (two_value kind x) (fold_value-append kind xs ys) ∙ two_value-assoc kind x (fold_value kind xs) (fold_value kind ys)

unit-value : (kind : Folding) (graph : Graph) (row : List Bool) → ref_value graph row (unit_of kind) ≡ unit_value kind
unit-value Every graph row = refl
unit-value Either graph row = refl

unit-there : (kind : Folding) (nodes : ℕ) → IsRefThere nodes (unit_of kind)
unit-there Every nodes = tt
unit-there Either nodes = tt

two-means : (kind : Folding) (graph : Graph) (x y : Ref) → IsFormed graph → IsRefThere (length graph.nodes) x → IsRefThere (length graph.nodes) y → Means graph (with_two kind graph x y) (λ row. two_value kind (ref_value graph row x) (ref_value graph row y))
two-means Every graph x y formed first second = and-means graph x y formed first second
two-means Either graph x y formed first second = or-means graph x y formed first second

-- Signals that are there have kept their values.
pub values-kept : (old new : Graph) (row : List Bool) (signals : List Ref) → Keeps old new → All (IsRefThere (length old.nodes)) signals → map (ref_value new row) signals ≡ map (ref_value old row) signals
values-kept old new row [] keeps there = refl
values-kept old new row (x ∷ signals) keeps there =
    let here : ref_value new row x ≡ ref_value old row x = graph_keeps_values old new row x keeps (All-head (IsRefThere (length old.nodes)) x signals there) in
    let rest : map (ref_value new row) signals ≡ map (ref_value old row) signals = values-kept old new row signals keeps (All-tail (IsRefThere (length old.nodes)) x signals there) in
    λ i. here i ∷ rest i

none-means : (kind : Folding) (graph : Graph) → IsFormed graph → Means graph (record { graph = graph; answer = unit_of kind }) (λ row. unit_value kind)
none-means kind graph formed = record { formed = formed; kept = Keeps-refl graph; there = unit-there kind (length graph.nodes); value = λ row. unit-value kind graph row }

-- A fold has the value of all signals together.
folded_within-means : (depth : ℕ) (kind : Folding) (graph : Graph) (signals : List Ref) → length signals ≤ depth → IsFormed graph → All (IsRefThere (length graph.nodes)) signals → Means graph (folded_within depth kind graph signals) (λ row. fold_value kind (map (ref_value graph row) signals))
folded_within-means zero kind graph [] deep formed there = none-means kind graph formed
folded_within-means zero kind graph (x ∷ signals) deep formed there = absurd (omega arith)
folded_within-means (suc depth) kind graph [] deep formed there = none-means kind graph formed
folded_within-means (suc depth) kind graph (x ∷ []) deep formed there =
    Means-same graph (record { graph = graph; answer = x }) (λ row. ref_value graph row x) (λ row. two_value kind (ref_value graph row x) (unit_value kind)) (λ row. sym (two_value-unit kind (ref_value graph row x)))
    (Means-itself graph x formed (All-head (IsRefThere (length graph.nodes)) x [] there))
folded_within-means (suc depth) kind graph (x ∷ (y ∷ more)) deep formed there =
    let signals = x ∷ (y ∷ more) in
    let half = first_half (length signals) in
    let front = take half signals in
    let back = drop half signals in
    let first = folded_within depth kind graph front in
    let rest = folded_within depth kind first.graph back in
    let is_there = IsRefThere (length graph.nodes) in
    let back_there : All is_there back = All-drop is_there half signals there in
    let one : Means graph first (λ row. fold_value kind (map (ref_value graph row) front)) =
    folded_within-means depth kind graph front (omega (arith, front-below x y more)) formed (All-take is_there half signals there) in
    let two : Means first.graph rest (λ row. fold_value kind (map (ref_value first.graph row) back)) =
    folded_within-means depth kind first.graph back (omega (arith, back-below x y more)) one.formed (all-there-more (length graph.nodes) (length first.graph.nodes) (Keeps-le graph first.graph one.kept) back back_there) in
    let whole : Means rest.graph (with_two kind rest.graph first.answer rest.answer) (λ row. two_value kind (ref_value rest.graph row first.answer) (ref_value rest.graph row rest.answer)) =
    two-means kind rest.graph first.answer rest.answer two.formed (kept-there first.graph rest.graph first.answer two.kept one.there) two.there in
    Means-before graph rest.graph (with_two kind rest.graph first.answer rest.answer) (λ row. fold_value kind (map (ref_value graph row) signals)) (Keeps-trans graph first.graph rest.graph one.kept two.kept)
    (Means-same rest.graph (with_two kind rest.graph first.answer rest.answer) (λ row. two_value kind (ref_value rest.graph row first.answer) (ref_value rest.graph row rest.answer)) (λ row. fold_value kind (map (ref_value graph row) signals))
    (λ row.
    let left : ref_value rest.graph row first.answer ≡ fold_value kind (map (ref_value graph row) front) = graph_keeps_values first.graph rest.graph row first.answer two.kept one.there ∙ one.value row in
    let right : ref_value rest.graph row rest.answer ≡ fold_value kind (map (ref_value graph row) back) =
    two.value row ∙ ap (fold_value kind) (values-kept graph first.graph row back one.kept back_there) in
    (λ i. two_value kind (left i) (right i))
    ∙ sym (fold_value-append kind (map (ref_value graph row) front) (map (ref_value graph row) back))
    ∙ ap (fold_value kind) (sym (map-append (ref_value graph row) front back) ∙ ap (map (ref_value graph row)) (take-append-drop half signals)))
    whole)

pub folded-means : (kind : Folding) (graph : Graph) (signals : List Ref) → IsFormed graph → All (IsRefThere (length graph.nodes)) signals → Means graph (folded kind graph signals) (λ row. fold_value kind (map (ref_value graph row) signals))
folded-means kind graph signals formed there = folded_within-means (length signals) kind graph signals (omega arith) formed there
