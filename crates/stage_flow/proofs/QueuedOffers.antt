-- The three parts of a queue, the offers that gain, those that rise little and all others, as one list. An offer that is added to a part is
-- added to the list, and one that leaves a part, where no offer of any part gains more, leaves the list.
use Rattle.std.proofs.Common.{◌≡◌, ◌++◌, ℤ, ◌≤ℤ◌, List, [], ◌∷◌, Option, Some, None, Result, Ok, Err, OnOk, OnErr, IfSome, All, refl, sym, subst, arith}
use Rattle.std.specs.List.Sorted.{IsPermutation}
use Rattle.std.proofs.lemmas.Int.{ints}
use Rattle.std.proofs.lemmas.List.Elements.{All-append, All-cons, All-tail, All-weaker, All-same}
use Rattle.std.proofs.lemmas.List.Sorted.{All-permutation, IsPermutation-refl, IsPermutation-sym, IsPermutation-trans, IsPermutation-append_left, IsPermutation-append_right, IsPermutation-push_more, IsPermutation-middle}
use Rattle.stage_flow.specs.declared.offers.Offer.{Offer}
use Rattle.stage_flow.specs.Mending.{AreAdded, Leaves}

-- ---- What is added to a part
added : (before after : List Offer) (offer : Offer) → IsPermutation (offer ∷ before) after → AreAdded (offer ∷ []) before after
added before after offer moved = IsPermutation-push_more before before after offer (IsPermutation-refl before) moved

-- An offer joins what comes after others.
behind : (others part part' : List Offer) (offer : Offer) → IsPermutation (offer ∷ part) part' → IsPermutation (offer ∷ (others ++ part)) (others ++ part')
behind others part part' offer moved =
    IsPermutation-trans (offer ∷ (others ++ part)) (others ++ offer ∷ part) (others ++ part')
    (IsPermutation-sym (others ++ offer ∷ part) (offer ∷ (others ++ part)) (IsPermutation-middle others offer part))
    (IsPermutation-append_right others (offer ∷ part) part' moved)

pub added-gaining : (gaining gaining' small large : List Offer) (offer : Offer) → IsPermutation (offer ∷ gaining) gaining' → AreAdded (offer ∷ []) (gaining ++ (small ++ large)) (gaining' ++ (small ++ large))
added-gaining gaining gaining' small large offer moved =
    added (gaining ++ (small ++ large)) (gaining' ++ (small ++ large)) offer (IsPermutation-append_left (small ++ large) (offer ∷ gaining) gaining' moved)

pub added-small : (gaining small small' large : List Offer) (offer : Offer) → IsPermutation (offer ∷ small) small' → AreAdded (offer ∷ []) (gaining ++ (small ++ large)) (gaining ++ (small' ++ large))
added-small gaining small small' large offer moved =
    added (gaining ++ (small ++ large)) (gaining ++ (small' ++ large)) offer
    (behind gaining (small ++ large) (small' ++ large) offer (IsPermutation-append_left large (offer ∷ small) small' moved))

pub added-large : (gaining small large large' : List Offer) (offer : Offer) → IsPermutation (offer ∷ large) large' → AreAdded (offer ∷ []) (gaining ++ (small ++ large)) (gaining ++ (small ++ large'))
added-large gaining small large large' offer moved =
    added (gaining ++ (small ++ large)) (gaining ++ (small ++ large')) offer
    (behind gaining (small ++ large) (small ++ large') offer (behind small large large' offer moved))

-- ---- What leaves a part
-- No offer of others gains more than one that leaves.
leaves-before : (part part' others : List Offer) (offer : Offer) → Leaves part offer part' → All (λ other. other.gain ≤ℤ offer.gain) others → Leaves (part ++ others) offer (part' ++ others)
leaves-before part part' others offer leaves less = record {
  moved = IsPermutation-append_left others part (offer ∷ part') leaves.moved;
  greatest = All-append (λ (other : Offer). other.gain ≤ℤ offer.gain) part others leaves.greatest less;
}

pub leaves-gaining : (gaining gaining' small large : List Offer) (offer : Offer) → Leaves gaining offer gaining' → All (λ other. other.gain ≤ℤ offer.gain) small → All (λ other. other.gain ≤ℤ offer.gain) large
    → Leaves (gaining ++ (small ++ large)) offer (gaining' ++ (small ++ large))
leaves-gaining gaining gaining' small large offer leaves less least =
    leaves-before gaining gaining' (small ++ large) offer leaves (All-append (λ (other : Offer). other.gain ≤ℤ offer.gain) small large less least)

pub leaves-small : (gaining small small' large : List Offer) (offer : Offer) → gaining ≡ [] → Leaves small offer small' → All (λ other. other.gain ≤ℤ offer.gain) large
    → Leaves (gaining ++ (small ++ large)) offer (gaining ++ (small' ++ large))
leaves-small gaining small small' large offer none leaves less =
    subst (λ first. Leaves (first ++ (small ++ large)) offer (first ++ (small' ++ large))) (sym none) (leaves-before small small' large offer leaves less)

pub leaves-large : (gaining small small' large large' : List Offer) (offer : Offer) → gaining ≡ [] → small ≡ [] → small' ≡ [] → Leaves large offer large'
    → Leaves (gaining ++ (small ++ large)) offer (gaining ++ (small' ++ large'))
leaves-large gaining small small' large large' offer none no_small no_more leaves =
    subst (λ first. Leaves (first ++ (small ++ large)) offer (first ++ (small' ++ large'))) (sym none)
    (subst (λ before. Leaves (before ++ large) offer (small' ++ large')) (sym no_small)
    (subst (λ after. Leaves large offer (after ++ large')) (sym no_more) leaves))

-- ---- What all offers of a heap gain
pub all-pushed : {T E : Type 0} (P : Offer → Type 0) (result : Result T E) (before after : List Offer) (offer : Offer) → OnOk result (IsPermutation (offer ∷ before) after) → OnErr result (after ≡ before) → P offer → All P before → All P after
all-pushed P (Ok x) before after offer moved same own all = All-permutation P (offer ∷ before) after moved (All-cons P offer before own all)
all-pushed P (Err e) before after offer moved same own all = All-same P after before same all

pub all-popped : (P : Offer → Type 0) (result : Option Offer) (before after : List Offer) → IfSome result (λ offer. IsPermutation before (offer ∷ after)) → (result ≡ None → after ≡ before) → All P before → All P after
all-popped P (Some offer) before after moved same all = All-tail P offer after (All-permutation P before (offer ∷ after) moved all)
all-popped P None before after moved same all = All-same P after before (same refl) all

-- what gains no more than so much gains no more than an offer that gains as much
pub no_more-than : (gain : ℤ) (others : List Offer) (offer : Offer) → All (λ other. other.gain ≤ℤ gain) others → gain ≤ℤ offer.gain → All (λ other. other.gain ≤ℤ offer.gain) others
no_more-than gain others offer most less =
    All-weaker (λ (other : Offer). other.gain ≤ℤ gain) (λ (other : Offer). other.gain ≤ℤ offer.gain) (λ other own. omega (arith, ints, own, less)) others most
