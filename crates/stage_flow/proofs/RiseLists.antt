-- Lists of offers, one for each small rise, as an offer is put at the end of one or taken from there. What holds of each list by its place
-- stays so, and to join the lists one behind the other gives the same offers, with that one more or less.
use Rattle.std.proofs.Common.{◌≡◌, ◌<◌, ◌≤◌, ◌+◌, ◌∙◌, ◌++◌, ◌≤ℤ◌, ◌-ℤ◌, ℕ, zero, suc, pos, List, [], ◌∷◌, All, length, get_or, map, refl, sym, ap, subst, arith, slice_set, below_more, ⊎_elim}
use Rattle.std.specs.List.Sorted.{IsPermutation}
use Rattle.std.proofs.lemmas.Bool.{cases_eq, cases_lt}
use Rattle.std.proofs.lemmas.Int.{ints}
use Rattle.std.proofs.lemmas.List.{length-map, get_or-map, map-set, set-set, set-get_or, get_or-set_same, get_or-set_other, get_or_past, nil_from_length}
use Rattle.std.proofs.lemmas.List.Elements.{All-nil, All-append, All-push, All-weaker, All-contains, Contains-push}
use Rattle.std.proofs.lemmas.List.Sorted.{IsPermutation-sym, IsPermutation-trans, IsPermutation-to_front, IsPermutation-append_left, IsPermutation-append_right, IsPermutation-middle}
use Rattle.net_base.proofs.CallerLemmas.{All-left}
use Rattle.stage_flow.specs.declared.offers.Offer.{Offer}
use Rattle.stage_flow.specs.Mending.{Leaves}
use Rattle.stage_flow.specs.Waiting.{joined}

-- ---- One list of many is written
-- An offer is put at the end of a list.
pub put-list : {X : Type 0} (f : X → List Offer) (xs : List X) (place : ℕ) (old new : X) (offer : Offer) → place < length xs → old ≡ get_or xs place old → f new ≡ f old ++ offer ∷ []
    → map f (slice_set xs place new) ≡ slice_set (map f xs) place (get_or (map f xs) place [] ++ offer ∷ [])
put-list f xs place old new offer low was is =
    map-set f xs place new ∙ ap (slice_set (map f xs) place) (is ∙ ap (λ list. list ++ offer ∷ []) (ap f was ∙ sym (get_or-map f xs place old [] low)))

-- Nothing is put.
pub kept-list : {X : Type 0} (f : X → List Offer) (xs : List X) (place : ℕ) (old new : X) → place < length xs → old ≡ get_or xs place old → f new ≡ f old
    → map f (slice_set xs place new) ≡ map f xs
kept-list f xs place old new low was is =
    map-set f xs place new ∙ ap (slice_set (map f xs) place) (is ∙ ap f was ∙ sym (get_or-map f xs place old [] low)) ∙ set-get_or (map f xs) place []

-- An offer is taken from the end of a list.
pub take-list : {X : Type 0} (f : X → List Offer) (xs : List X) (place : ℕ) (old new : X) (offer : Offer) → place < length xs → old ≡ get_or xs place old → f old ≡ f new ++ offer ∷ []
    → map f xs ≡ slice_set (map f (slice_set xs place new)) place (get_or (map f (slice_set xs place new)) place [] ++ offer ∷ [])
take-list f xs place old new offer low was is =
    let lists : List (List Offer) = map f xs in
    let long = length-map xs f in
    let here : get_or lists place [] ≡ f new ++ offer ∷ [] = get_or-map f xs place old [] low ∙ ap f (sym was) ∙ is in
    sym (ap (λ all. slice_set all place (get_or all place [] ++ offer ∷ [])) (map-set f xs place new)
    ∙ ap (λ list. slice_set (slice_set lists place (f new)) place (list ++ offer ∷ [])) (get_or-set_same lists place (f new) [] (omega (arith, low, long)))
    ∙ set-set lists place (f new) (f new ++ offer ∷ [])
    ∙ ap (slice_set lists place) (sym here)
    ∙ set-get_or lists place [])

-- A list is emptied, after those before it.
pub emptied-next : {X : Type 0} (f : X → List Offer) (xs : List X) (place : ℕ) (new : X) → place < length xs → f new ≡ [] → ((other : ℕ) → other < place → get_or (map f xs) other [] ≡ [])
    → (other : ℕ) → other < place + 1 → get_or (map f (slice_set xs place new)) other [] ≡ []
emptied-next f xs place new low is before =
    let long = length-map xs f in
    below_more (λ other. get_or (map f (slice_set xs place new)) other [] ≡ []) place
    (λ other less. ap (λ all. get_or all other []) (map-set f xs place new) ∙ get_or-set_other (map f xs) place other (f new) [] (λ same. absurd (omega (arith, same, less))) ∙ before other less)
    (ap (λ all. get_or all place []) (map-set f xs place new) ∙ get_or-set_same (map f xs) place (f new) [] (omega (arith, low, long)) ∙ is)

-- A list is seen to be empty, after those before it.
pub passed-next : {X : Type 0} (f : X → List Offer) (xs : List X) (from place : ℕ) (here : X) → place < length xs → here ≡ get_or xs place here → length (f here) ≡ 0
    → ((other : ℕ) → other < place → from ≤ other → length (get_or (map f xs) other []) ≡ 0) → (other : ℕ) → other < place + 1 → from ≤ other → length (get_or (map f xs) other []) ≡ 0
passed-next f xs from place here low was none before =
    below_more (λ other. from ≤ other → length (get_or (map f xs) other []) ≡ 0) place before
    (λ _. ap length (get_or-map f xs place here [] low ∙ ap f (sym was)) ∙ none)

-- ---- What holds of each list by its place
pub each-put : (C : ℕ → List Offer → Type 0) (lists : List (List Offer)) (place : ℕ) (offer : Offer) → place < length lists → C place (get_or lists place [] ++ offer ∷ []) → ((rise : ℕ) → C rise (get_or lists rise []))
    → (rise : ℕ) → C rise (get_or (slice_set lists place (get_or lists place [] ++ offer ∷ [])) rise [])
each-put C lists place offer low here each rise =
    let new : List Offer = get_or lists place [] ++ offer ∷ [] in
    ⊎_elim {C = C rise (get_or (slice_set lists place new) rise [])}
    (λ same. subst (λ k. C k (get_or (slice_set lists place new) k [])) (sym same) (subst (C place) (sym (get_or-set_same lists place new [] low)) here))
    (λ apart. subst (C rise) (sym (get_or-set_other lists place rise new [] apart)) (each rise))
    (cases_eq rise place)

pub each-taken : (C : ℕ → List Offer → Type 0) (lists : List (List Offer)) (place : ℕ) (offer : Offer) → place < length lists → ((list : List Offer) → C place (list ++ offer ∷ []) → C place list)
    → ((rise : ℕ) → C rise (get_or (slice_set lists place (get_or lists place [] ++ offer ∷ [])) rise [])) → (rise : ℕ) → C rise (get_or lists rise [])
each-taken C lists place offer low less each rise =
    let old : List Offer = get_or lists place [] ++ offer ∷ [] in
    ⊎_elim {C = C rise (get_or lists rise [])}
    (λ same. subst (λ k. C k (get_or lists k [])) (sym same) (less (get_or lists place []) (subst (C place) (get_or-set_same lists place old [] low) (each place))))
    (λ apart. subst (C rise) (get_or-set_other lists place rise old [] apart) (each rise))
    (cases_eq rise place)

-- ---- All lists one behind the other
pub joined-none : (lists : List (List Offer)) → ((place : ℕ) → length (get_or lists place []) ≡ 0) → joined lists ≡ []
joined-none [] none = refl
joined-none (list ∷ lists) none = ap (λ l. l ++ joined lists) (nil_from_length list (none zero)) ∙ joined-none lists (λ place. none (suc place))

pub all-joined : (P : Offer → Type 0) (lists : List (List Offer)) → ((place : ℕ) → All P (get_or lists place [])) → All P (joined lists)
all-joined P [] each = All-nil P
all-joined P (list ∷ lists) each = All-append P list (joined lists) (each zero) (all-joined P lists (λ place. each (suc place)))

pub joined-put : (lists : List (List Offer)) (place : ℕ) (offer : Offer) → place < length lists → IsPermutation (offer ∷ joined lists) (joined (slice_set lists place (get_or lists place [] ++ offer ∷ [])))
joined-put [] place offer low = absurd (omega (arith, low))
joined-put (list ∷ lists) zero offer low =
    IsPermutation-append_left (joined lists) (offer ∷ list) (list ++ offer ∷ []) (IsPermutation-sym (list ++ offer ∷ []) (offer ∷ list) (IsPermutation-to_front list offer))
joined-put (list ∷ lists) (suc place) offer low =
    let new : List (List Offer) = slice_set lists place (get_or lists place [] ++ offer ∷ []) in
    IsPermutation-trans (offer ∷ (list ++ joined lists)) (list ++ offer ∷ joined lists) (list ++ joined new)
    (IsPermutation-sym (list ++ offer ∷ joined lists) (offer ∷ (list ++ joined lists)) (IsPermutation-middle list offer (joined lists)))
    (IsPermutation-append_right list (offer ∷ joined lists) (joined new) (joined-put lists place offer (omega (arith, low))))

-- ---- Lists by rises
-- Each offer rises by the place of its list.
abbrev pub AreByRise : List (List Offer) → Type 0
AreByRise lists = (rise : ℕ) → All (λ offer. offer.gain ≡ pos 0 -ℤ pos rise) (get_or lists rise [])

-- No list before a level holds an offer.
abbrev pub AreFrom : ℕ → List (List Offer) → Type 0
AreFrom level lists = (rise : ℕ) → rise < level → length (get_or lists rise []) ≡ 0

-- lists with an offer at the end of one
abbrev pub lists_with : List (List Offer) → ℕ → Offer → List (List Offer)
lists_with lists place offer = slice_set lists place (get_or lists place [] ++ offer ∷ [])

pub by_rise-put : (lists : List (List Offer)) (place : ℕ) (offer : Offer) → place < length lists → offer.gain ≡ pos 0 -ℤ pos place → AreByRise lists → AreByRise (lists_with lists place offer)
by_rise-put lists place offer low rises own =
    each-put (λ rise list. All (λ (o : Offer). o.gain ≡ pos 0 -ℤ pos rise) list) lists place offer low
    (All-push (λ (o : Offer). o.gain ≡ pos 0 -ℤ pos place) (get_or lists place []) offer (own place) rises) own

pub by_rise-taken : (lists : List (List Offer)) (place : ℕ) (offer : Offer) → place < length lists → AreByRise (lists_with lists place offer) → AreByRise lists
by_rise-taken lists place offer low own =
    each-taken (λ rise list. All (λ (o : Offer). o.gain ≡ pos 0 -ℤ pos rise) list) lists place offer low
    (λ list all. All-left (λ (o : Offer). o.gain ≡ pos 0 -ℤ pos place) list (offer ∷ []) all) own

pub from-put : (lists : List (List Offer)) (place : ℕ) (offer : Offer) (level lower : ℕ) → place < length lists → lower ≤ level → lower ≤ place → AreFrom level lists → AreFrom lower (lists_with lists place offer)
from-put lists place offer level lower low within under none =
    each-put (λ rise list. rise < lower → length list ≡ 0) lists place offer low
    (λ less. absurd (omega (arith, less, under)))
    (λ rise less. none rise (omega (arith, less, within)))

pub from-taken : (lists : List (List Offer)) (place : ℕ) (offer : Offer) → place < length lists → AreFrom place (lists_with lists place offer) → AreFrom place lists
from-taken lists place offer low none =
    each-taken (λ rise list. rise < place → length list ≡ 0) lists place offer low
    (λ list _ less. absurd (omega (arith, less))) none

-- The lists from one level on up to another are seen to be empty too.
pub from-seen : {X : Type 0} (f : X → List Offer) (xs seen : List X) (level higher : ℕ) → seen ≡ xs → AreFrom level (map f xs)
    → ((place : ℕ) → place < higher → level ≤ place → length (get_or (map f seen) place []) ≡ 0) → AreFrom higher (map f xs)
from-seen f xs seen level higher same none passed rise less =
    ⊎_elim {C = length (get_or (map f xs) rise []) ≡ 0} (λ before. none rise before)
    (λ after. ap (λ all. length (get_or (map f all) rise [])) (sym same) ∙ passed rise less after) (cases_lt rise level)

pub from-all : (lists : List (List Offer)) (level : ℕ) → length lists ≤ level → AreFrom level lists → joined lists ≡ []
from-all lists level all none =
    joined-none lists (λ place.
    ⊎_elim {C = length (get_or lists place []) ≡ 0} (λ before. none place before) (λ after. ap length (get_or_past lists place [] (omega (arith, all, after)))) (cases_lt place level))

-- An offer at the end of a list rises by the list's place.
pub rise-last : (old new : List (List Offer)) (place : ℕ) (offer : Offer) → place < length new → old ≡ lists_with new place offer → AreByRise old → offer.gain ≡ pos 0 -ℤ pos place
rise-last old new place offer low is own =
    let last : List Offer = get_or new place [] ++ offer ∷ [] in
    All-contains (λ (o : Offer). o.gain ≡ pos 0 -ℤ pos place) last offer
    (subst (All (λ (o : Offer). o.gain ≡ pos 0 -ℤ pos place)) (ap (λ lists. get_or lists place []) is ∙ get_or-set_same new place last [] low) (own place))
    (Contains-push (get_or new place []) offer)

-- It rises least where no list before that one holds an offer.
pub leaves-list : (old new : List (List Offer)) (place : ℕ) (offer : Offer) → place < length new → old ≡ lists_with new place offer → AreByRise old → AreFrom place old → Leaves (joined old) offer (joined new)
leaves-list old new place offer low is own none =
    let rises = rise-last old new place offer low is own in record {
      moved =
          IsPermutation-sym (offer ∷ joined new) (joined old)
          (subst (λ lists. IsPermutation (offer ∷ joined new) (joined lists)) (sym is) (joined-put new place offer low));
      greatest = all-joined (λ other. other.gain ≤ℤ offer.gain) old (λ rise.
          ⊎_elim {C = All (λ (other : Offer). other.gain ≤ℤ offer.gain) (get_or old rise [])}
          (λ before k d within. let empty = none rise before in absurd (omega (arith, within, empty)))
          (λ after. All-weaker (λ (other : Offer). other.gain ≡ pos 0 -ℤ pos rise) (λ (other : Offer). other.gain ≤ℤ offer.gain) (λ other same. omega (arith, ints, same, rises, after)) (get_or old rise []) (own rise))
          (cases_lt rise place));
    }

-- None of the offers gains.
pub none-gains : (lists : List (List Offer)) → AreByRise lists → All (λ offer. offer.gain ≤ℤ pos 0) (joined lists)
none-gains lists own =
    all-joined (λ offer. offer.gain ≤ℤ pos 0) lists (λ rise.
    All-weaker (λ (other : Offer). other.gain ≡ pos 0 -ℤ pos rise) (λ (other : Offer). other.gain ≤ℤ pos 0) (λ other same. omega (arith, ints, same)) (get_or lists rise []) (own rise))
