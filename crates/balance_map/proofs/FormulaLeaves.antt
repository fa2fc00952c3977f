-- The leaves that stand in a chosen formula: each has a place among the cut's leaves, so each is a lower node.
use Rattle.std.proofs.Common.{◌≡◌, ◌≤◌, ◌<◌, ℕ, zero, suc, List, [], Option, Some, None, get_or, length, All, refl, sym, ap, subst, arith}
use Rattle.std.specs.Prelude.{unwrap_or}
use Rattle.std.proofs.lemmas.List.Elements.{All-nil, All-cons, All-map, All-weaker}
use Rattle.net_base.specs.declared.graph.Subject.{Subject}
use Rattle.cut_word.specs.Word.{leaves_in}
use Rattle.pattern_table.specs.Least.{leaf_at, least_formula}
use Rattle.pattern_table.proofs.CallerLemmas.{leaf-means}
use Rattle.balance_map.specs.declared.choice.Choice.{Choice}
use Rattle.balance_map.specs.Choices.{choice_at, choices_of}
use Rattle.balance_map.specs.Needed.{parts_in, places_in, leaves_used}
use Rattle.balance_map.proofs.Chosen.{ComesFrom, IsOfNode, leaves-come, All-flat_map}

-- The places of leaves are places, where there is a leaf.
pub places-below : (size depth table : ℕ) → 1 ≤ size → All (λ place. place < size) (places_in size depth table)
places-below size zero table some = All-cons (λ place. place < size) (unwrap_or (leaf_at size table) 0) [] (by (leaf_at size table) (λ place e. (leaf-means size table place e).0)) (All-nil (λ place. place < size))
  where
    by : (o : Option ℕ) → ((place : ℕ) → o ≡ Some place → place < size) → unwrap_or o 0 < size
    by None below = omega arith
    by (Some place) below = below place refl
places-below size (suc depth) table some =
    let parts : List ℕ = parts_in (least_formula size table (suc depth)) in
    All-flat_map (λ place. place < size) (places_in size depth) parts (λ k d h. places-below size depth (get_or parts k d) some)

-- two facts that all have
pub All-both : {X : Type 0} (P Q : X → Type 0) (xs : List X) → All P xs → All Q xs → All (λ x. P x × Q x) xs
All-both P Q xs all others = λ k d h. (all k d h, others k d h)

module _ (subject : Subject) (node : ℕ) (from : ComesFrom (IsOfNode subject node) (choice_at (choices_of subject) node)) where
  -- the choice, and its leaves
  abbrev choice : Choice
  choice = choice_at (choices_of subject) node

  pub length-leaves : length (leaves_in choice.leaves) ≡ length from.cut.leaves
  length-leaves = ap length (leaves-come subject node from)

  pub leaves-some : 1 ≤ length (leaves_in choice.leaves)
  leaves-some = omega (arith, length-leaves, from.is.cut'.some)

  pub leaves-few : length (leaves_in choice.leaves) ≤ 3
  leaves-few = omega (arith, length-leaves, from.is.cut'.few)

  pub leaves-lower : All (λ leaf. leaf < node) (leaves_in choice.leaves)
  leaves-lower = subst (All (λ leaf. leaf < node)) (sym (leaves-come subject node from)) from.is.lower

  -- The leaves that stand in the chosen formula of a node are lower nodes.
  pub used-lower : All (λ leaf. leaf < node) (leaves_used choice)
  used-lower =
      let size : ℕ = length (leaves_in choice.leaves) in
      All-map (λ leaf. leaf < node) (λ place. get_or (leaves_in choice.leaves) place 0) (places_in size choice.depth choice.table)
      (All-weaker (λ place. place < size) (λ place. get_or (leaves_in choice.leaves) place 0 < node) (λ place h. leaves-lower place 0 h) (places_in size choice.depth choice.table)
      (places-below size choice.depth choice.table leaves-some))
