-- The first of offers to stale vertices. Offers leave a heap in the order of what they gain. Those that left before were to vertices that
-- aren't stale, so all offers to stale vertices are still there, and the one that leaves next gains most of them.
use Rattle.std.proofs.Common.{◌≡◌, ◌⊎◌, inl, inr, zero, suc, ℤ, ◌≤ℤ◌, Bool, true, false, List, [], ◌∷◌, All, Contains, Ordering, Less, Equal, Greater, int_cmp, refl, ap, sym, ◌∙◌, arith, ⊎_elim}
use Rattle.std.specs.Ordering.{is_lt, nat_cmp, ordering_then}
use Rattle.std.specs.BinaryHeap.{IsUpperBound}
use Rattle.std.specs.List.Sorted.{IsPermutation}
use Rattle.std.proofs.lemmas.Int.{ints}
use Rattle.std.proofs.lemmas.Bool.{both_ways}
use Rattle.std.proofs.lemmas.Bool.Decides.{nat_tests}
use Rattle.std.proofs.lemmas.List.Elements.{All-nil, All-cons, All-head, All-tail, All-contains, All-weaker, All-contains_itself}
use Rattle.std.proofs.lemmas.List.Sorted.{All-permutation, Contains-permutation}
use Rattle.stage_flow.specs.declared.offers.Offer.{Offer}
use Rattle.stage_flow.specs.Passes.{mark_at}
use Rattle.stage_flow.specs.Mending.{offer_order, IsFirst}

-- what comes first decides, unless it is equal
first-not_less : (a b : Ordering) → is_lt (ordering_then a b) ≡ false → is_lt a ≡ false
first-not_less Less b is = is
first-not_less Equal b is = refl
first-not_less Greater b is = refl

not_less-at_most : (x y : ℤ) → is_lt (int_cmp x y) ≡ false → y ≤ℤ x
not_less-at_most x y is = grind (arith, ints, nat_tests)

pub gain-greatest : (first : Offer) (offers : List Offer) → IsUpperBound offer_order first offers → All (λ offer. offer.gain ≤ℤ first.gain) offers
gain-greatest first [] most = All-nil (λ (offer : Offer). offer.gain ≤ℤ first.gain)
gain-greatest first (offer ∷ offers) most =
    All-cons (λ (other : Offer). other.gain ≤ℤ first.gain) offer offers
    (not_less-at_most first.gain offer.gain (first-not_less (int_cmp first.gain offer.gain) (ordering_then (int_cmp first.far offer.far) (ordering_then (nat_cmp first.hops offer.hops) (nat_cmp first.vertex offer.vertex))) most.0))
    (gain-greatest first offers most.1)

-- of offers those to stale vertices are left, and no others come
pub record IsLeft (marks : List Bool) (offers left : List Offer) : Type 0 where
  pub kept : All (λ offer. mark_at marks offer.vertex ≡ true → Contains left offer) offers
  pub only : All (Contains offers) left

pub all-left : (marks : List Bool) (offers : List Offer) → IsLeft marks offers offers
all-left marks offers = record {
  kept = All-weaker (Contains offers) (λ (offer : Offer). mark_at marks offer.vertex ≡ true → Contains offers offer) (λ offer there stale. there) offers (All-contains_itself offers);
  only = All-contains_itself offers;
}

contains-cases : (first : Offer) (rest : List Offer) (offer : Offer) → Contains (first ∷ rest) offer → (offer ≡ first) ⊎ Contains rest offer
contains-cases first rest offer (zero, within, is) = inl (sym is)
contains-cases first rest offer (suc k, within, is) = inr (k, omega arith, is)

popped : (marks : List Bool) (offers left : List Offer) (first : Offer) (rest : List Offer) → IsLeft marks offers left → IsPermutation left (first ∷ rest) → All (λ offer. mark_at marks offer.vertex ≡ true → (offer ≡ first) ⊎ Contains rest offer) offers
popped marks offers left first rest was moved =
    All-weaker (λ (offer : Offer). mark_at marks offer.vertex ≡ true → Contains left offer) (λ (offer : Offer). mark_at marks offer.vertex ≡ true → (offer ≡ first) ⊎ Contains rest offer)
    (λ offer kept stale. contains-cases first rest offer (Contains-permutation left (first ∷ rest) offer moved (kept stale)))
    offers was.kept

both-only : (offers left : List Offer) (first : Offer) (rest : List Offer) → All (Contains offers) left → IsPermutation left (first ∷ rest) → All (Contains offers) (first ∷ rest)
both-only offers left first rest only moved = All-permutation (Contains offers) left (first ∷ rest) moved only

pub left-less : (marks : List Bool) (offers left : List Offer) (first : Offer) (rest : List Offer) → mark_at marks first.vertex ≡ false → IsLeft marks offers left → IsPermutation left (first ∷ rest) → IsLeft marks offers rest
left-less marks offers left first rest fresh was moved = record {
  kept =
      All-weaker (λ (offer : Offer). mark_at marks offer.vertex ≡ true → (offer ≡ first) ⊎ Contains rest offer) (λ (offer : Offer). mark_at marks offer.vertex ≡ true → Contains rest offer)
      (λ offer cases stale.
      ⊎_elim {C = Contains rest offer} (λ same. absurd (both_ways (mark_at marks offer.vertex) (ap (λ (o : Offer). mark_at marks o.vertex) same ∙ fresh) stale)) (λ there. there) (cases stale))
      offers (popped marks offers left first rest was moved);
  only = All-tail (Contains offers) first rest (both-only offers left first rest was.only moved);
}

pub first-left : (marks : List Bool) (offers left : List Offer) (first : Offer) (rest : List Offer) → mark_at marks first.vertex ≡ true → All (λ offer. offer.gain ≤ℤ first.gain) left → IsLeft marks offers left → IsPermutation left (first ∷ rest) → IsFirst marks offers first rest
first-left marks offers left first rest stale most was moved =
    let only = both-only offers left first rest was.only moved in record {
      stale = stale;
      there = All-head (Contains offers) first rest only;
      greatest =
          All-weaker (λ (offer : Offer). mark_at marks offer.vertex ≡ true → Contains left offer) (λ (offer : Offer). mark_at marks offer.vertex ≡ true → offer.gain ≤ℤ first.gain)
          (λ offer kept is. All-contains (λ (other : Offer). other.gain ≤ℤ first.gain) left offer most (kept is))
          offers was.kept;
      left = popped marks offers left first rest was moved;
      only = All-tail (Contains offers) first rest only;
    }
