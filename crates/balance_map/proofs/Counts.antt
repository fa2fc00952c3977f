-- Counts of reads, read by read.
use Rattle.std.proofs.Common.{◌≡◌, ◌≤◌, ◌<◌, ◌+◌, ◌*◌, ◌++◌, ◌∙◌, ℕ, List, [], ◌∷◌, length, get_or, take, sym, ap, arith}
use Rattle.std.specs.List.{flat_map}
use Rattle.std.proofs.lemmas.Grind.{flat_map-append}
use Rattle.std.proofs.lemmas.List.{take_more, append-nil}
use Rattle.net_base.specs.declared.graph.GNode.{GNode}
use Rattle.net_base.specs.declared.graph.GNode.TheVariants.{Inp, Neg, Both}
use Rattle.net_base.specs.declared.graph.Ref.{Ref}
use Rattle.net_base.specs.declared.graph.Ref.TheVariants.{Const, Node}
use Rattle.balance_map.specs.FanOuts.{fan_ins, ref_nodes}

-- One more item of a list of which each gives some.
pub flat_map-more : {X : Type 0} (f : X → List ℕ) (xs : List X) (i : ℕ) (d : X) → i < length xs → flat_map f (take i xs) ++ f (get_or xs i d) ≡ flat_map f (take (i + 1) xs)
flat_map-more f xs i d within =
    ap (λ found. flat_map f (take i xs) ++ found) (sym (append-nil (f (get_or xs i d))))
    ∙ sym (flat_map-append f (take i xs) (get_or xs i d ∷ []))
    ∙ ap (flat_map f) (sym (take_more xs i d within))

-- A node reads two nodes at most, and an output one.
pub length-fan_ins : (nodes : List GNode) → length (flat_map fan_ins nodes) ≤ 2 * length nodes
length-fan_ins [] = omega arith
length-fan_ins (Inp k ∷ nodes) = omega (arith, length-fan_ins nodes)
length-fan_ins (Neg a ∷ nodes) = omega (arith, length-fan_ins nodes)
length-fan_ins (Both a b ∷ nodes) = omega (arith, length-fan_ins nodes)

pub length-ref_nodes : (outputs : List Ref) → length (flat_map ref_nodes outputs) ≤ length outputs
length-ref_nodes [] = omega arith
length-ref_nodes (Const value ∷ outputs) = omega (arith, length-ref_nodes outputs)
length-ref_nodes (Node node ∷ outputs) = omega (arith, length-ref_nodes outputs)
