-- Residual arcs from a stale vertex to one that isn't, and what they offer: the offers made are just those of such arcs.
use Rattle.std.proofs.Common.{◌≡◌, ◌+◌, ◌+ℤ◌, ◌-ℤ◌, ◌∙◌, ℕ, zero, suc, Bool, true, false, not, cond, List, [], ◌∷◌, map, filter, All, Contains, refl, ap, sym, subst, arith}
use Rattle.std.specs.List.{flat_map}
use Rattle.std.proofs.lemmas.Bool.{and_parts}
use Rattle.std.proofs.lemmas.List.Elements.{All-nil, All-cons, All-append, All-weaker, Contains-append_left, Contains-append_right}
use Rattle.stage_flow.specs.declared.offers.Offer.{Offer}
use Rattle.stage_flow.specs.Residual.{Way}
use Rattle.stage_flow.specs.Longest.{Reach}
use Rattle.stage_flow.specs.LawsOfWalks.{led_by}
use Rattle.stage_flow.specs.Passes.{mark_at}
use Rattle.stage_flow.specs.Mending.{cost, is_open, offer_by, offers_of}

pub open-tail : (stale : List Bool) (way : Way) → is_open stale way ≡ true → mark_at stale way.tail ≡ true
open-tail stale way is = (and_parts (mark_at stale way.tail) (not (mark_at stale way.head)) is).0

pub open-head : (stale : List Bool) (way : Way) → is_open stale way ≡ true → mark_at stale way.head ≡ false
open-head stale way is = by (mark_at stale way.head) (and_parts (mark_at stale way.tail) (not (mark_at stale way.head)) is).1
  where
    by : (test : Bool) → not test ≡ true → test ≡ false
    by true is = sym is
    by false is = refl

-- An offer depends on the old label of the tail and the right one of the head.
pub offer_by-same : (old old' right right' : ℕ → Reach) (way : Way) → old way.tail ≡ old' way.tail → right way.head ≡ right' way.head → offer_by old right way ≡ offer_by old' right' way
offer_by-same old old' right right' way tail head = λ i. record {
  gain = cost (tail i) -ℤ cost (led_by way (head i));
  vertex = way.tail;
  far = way.length +ℤ (head i).length;
  hops = (head i).hops + 1;
}

-- the offer of an open one among residual arcs
pub record IsMadeBy (labels : ℕ → Reach) (stale : List Bool) (ways : List Way) (offer : Offer) : Type 0 where
  pub way : Way
  pub there : Contains ways way
  pub is_open : is_open stale way ≡ true
  pub is : offer ≡ offer_by labels labels way

made-later : (labels : ℕ → Reach) (stale : List Bool) (first : Way) (ways : List Way) (offer : Offer) → IsMadeBy labels stale ways offer → IsMadeBy labels stale (first ∷ ways) offer
made-later labels stale first ways offer made = let (k, within, is) = made.there in record {
  way = made.way;
  there = (suc k, omega arith, is);
  is_open = made.is_open;
  is = made.is;
}

pub made-from : (labels : ℕ → Reach) (stale : List Bool) (ways : List Way) → All (IsMadeBy labels stale ways) (offers_of labels stale ways)
made-from labels stale [] = All-nil (IsMadeBy labels stale [])
made-from labels stale (first ∷ ways) =
    by (is_open stale first) refl
    (All-weaker (IsMadeBy labels stale ways) (IsMadeBy labels stale (first ∷ ways)) (made-later labels stale first ways) (offers_of labels stale ways) (made-from labels stale ways))
  where
    by : (test : Bool) → is_open stale first ≡ test → All (IsMadeBy labels stale (first ∷ ways)) (offers_of labels stale ways) → All (IsMadeBy labels stale (first ∷ ways)) (map (offer_by labels labels) (cond test (first ∷ filter (is_open stale) ways) (filter (is_open stale) ways)))
    by true own rest =
        All-cons (IsMadeBy labels stale (first ∷ ways)) (offer_by labels labels first) (offers_of labels stale ways)
        (record { way = first; there = (0, omega arith, refl); is_open = own; is = refl }) rest
    by false own rest = rest

pub made-to : (labels : ℕ → Reach) (stale : List Bool) (ways : List Way) (way : Way) → Contains ways way → is_open stale way ≡ true → Contains (offers_of labels stale ways) (offer_by labels labels way)
made-to labels stale [] way (k, within, is) test = absurd (omega arith)
made-to labels stale (first ∷ ways) way (zero, within, is) test = by (is_open stale first) (ap (is_open stale) is ∙ test)
  where
    by : (own : Bool) → own ≡ true → Contains (map (offer_by labels labels) (cond own (first ∷ filter (is_open stale) ways) (filter (is_open stale) ways))) (offer_by labels labels way)
    by true same = (0, omega arith, ap (offer_by labels labels) is)
    by false never = absurd (cc)
made-to labels stale (first ∷ ways) way (suc k, within, is) test = by (is_open stale first) (made-to labels stale ways way (k, omega arith, is) test)
  where
    by : (own : Bool) → Contains (offers_of labels stale ways) (offer_by labels labels way) → Contains (map (offer_by labels labels) (cond own (first ∷ filter (is_open stale) ways) (filter (is_open stale) ways))) (offer_by labels labels way)
    by true (j, inside, at) = (suc j, omega arith, at)
    by false rest = rest

-- ---- Offers for one number after another
pub All-flat_map : (P : Offer → Type 0) (f : ℕ → List Offer) (xs : List ℕ) → ((x : ℕ) → All P (f x)) → All P (flat_map f xs)
All-flat_map P f [] each = All-nil P
All-flat_map P f (x ∷ xs) each = All-append P (f x) (flat_map f xs) (each x) (All-flat_map P f xs each)

pub Contains-flat_map : (f : ℕ → List Offer) (xs : List ℕ) (x : ℕ) (offer : Offer) → Contains xs x → Contains (f x) offer → Contains (flat_map f xs) offer
Contains-flat_map f [] x offer (k, within, is) there = absurd (omega arith)
Contains-flat_map f (y ∷ xs) x offer (zero, within, is) there =
    Contains-append_left (f y) (flat_map f xs) offer (subst (λ z. Contains (f z) offer) (sym is) there)
Contains-flat_map f (y ∷ xs) x offer (suc k, within, is) there =
    Contains-append_right (f y) (flat_map f xs) offer (Contains-flat_map f xs x offer (k, omega arith, is) there)
