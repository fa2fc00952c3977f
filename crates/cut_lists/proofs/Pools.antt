-- Pools: negations and merges cut by cut, and what all cuts of a pool have.
use Rattle.std.proofs.Common.{◌≡◌, ◌≤◌, ◌<◌, ◌+◌, ◌++◌, ◌∙◌, ℕ, Bool, true, false, cond, List, [], ◌∷◌, get_or, length, take, map, All, Option, Some, None, refl, sym, ap, arith}
use Rattle.std.specs.List.{filter_map, cons_option}
use Rattle.std.proofs.lemmas.List.{take_more, map_more}
use Rattle.std.proofs.lemmas.List.Elements.{All-nil, All-cons, All-head, All-tail, All-append, filter_map-append}
use Rattle.cut_word.specs.Cut.{CutView}
use Rattle.cut_word.specs.Merge.{merged}
use Rattle.cut_lists.specs.CutList.{is_before, insert_cut, ascending, is_covered, kept, merges}

-- ---- Cut by cut
module _ {X Y : Type 0} where
  -- one more item of a list that is mapped,
  pub map-more : (f : X → Y) (xs : List X) (i : ℕ) (x : X) (y : Y) → i < length xs → x ≡ get_or xs i x → y ≡ f x → map f (take i xs) ++ y ∷ [] ≡ map f (take (i + 1) xs)
  map-more f xs i x y within read is = ap (λ z. map f (take i xs) ++ z ∷ []) (is ∙ ap f read) ∙ sym (map_more f xs i x within)

  -- or that may give an item, or none
  pub filter_map-more : (h : X → Option Y) (xs : List X) (i : ℕ) (x : X) (o : Option Y) → i < length xs → x ≡ get_or xs i x → o ≡ h x → filter_map h (take i xs) ++ cons_option o [] ≡ filter_map h (take (i + 1) xs)
  filter_map-more h xs i x o within read is =
      ap (λ z. filter_map h (take i xs) ++ cons_option z []) (is ∙ ap h read)
      ∙ sym (filter_map-append h (take i xs) (get_or xs i x ∷ [])) ∙ ap (filter_map h) (sym (take_more xs i x within))

-- ---- What all cuts have
module _ (P : CutView → Type 0) where
  All-insert_cut : (cut : CutView) (cuts : List CutView) → P cut → All P cuts → All P (insert_cut cut cuts)
  All-insert_cut cut [] one all = All-cons P cut [] one all
  All-insert_cut cut (next ∷ cuts) one all = by (is_before next cut) (All-insert_cut cut cuts one (All-tail P next cuts all))
    where
      by : (b : Bool) → All P (insert_cut cut cuts) → All P (cond b (next ∷ insert_cut cut cuts) (cut ∷ next ∷ cuts))
      by true rest = All-cons P next (insert_cut cut cuts) (All-head P next cuts all) rest
      by false rest = All-cons P cut (next ∷ cuts) one all

  pub All-ascending : (cuts : List CutView) → All P cuts → All P (ascending cuts)
  All-ascending [] all = All-nil P
  All-ascending (cut ∷ cuts) all = All-insert_cut cut (ascending cuts) (All-head P cut cuts all) (All-ascending cuts (All-tail P cut cuts all))

  pub All-kept : (before cuts : List CutView) → All P cuts → All P (kept before cuts)
  All-kept before [] all = All-nil P
  All-kept before (cut ∷ cuts) all =
      by (is_covered before cut) (All-kept before cuts (All-tail P cut cuts all)) (All-kept (before ++ cut ∷ []) cuts (All-tail P cut cuts all))
    where
      by : (b : Bool) → All P (kept before cuts) → All P (kept (before ++ cut ∷ []) cuts) → All P (elim b [ true ↦ kept before cuts | false ↦ cut ∷ kept (before ++ cut ∷ []) cuts ])
      by true out in' = out
      by false out in' = All-cons P cut (kept (before ++ cut ∷ []) cuts) (All-head P cut cuts all) in'

  All-cons_option : (o : Option CutView) (cuts : List CutView) → ((cut : CutView) → o ≡ Some cut → P cut) → All P cuts → All P (cons_option o cuts)
  All-cons_option None cuts one all = all
  All-cons_option (Some cut) cuts one all = All-cons P cut cuts (one cut refl) all

  All-merged : (A B : CutView → Type 0) → ((a b cut : CutView) → A a → B b → merged a b ≡ Some cut → P cut) → (a : CutView) (bs : List CutView) → A a → All B bs → All P (filter_map (merged a) bs)
  All-merged A B step a [] one all = All-nil P
  All-merged A B step a (b ∷ bs) one all =
      All-cons_option (merged a b) (filter_map (merged a) bs) (λ cut is. step a b cut one (All-head B b bs all) is) (All-merged A B step a bs one (All-tail B b bs all))

  -- Merges have what each merge of two has.
  pub All-merges : (A B : CutView → Type 0) → ((a b cut : CutView) → A a → B b → merged a b ≡ Some cut → P cut) → (as' bs : List CutView) → All A as' → All B bs → All P (merges as' bs)
  All-merges A B step [] bs of-a of-b = All-nil P
  All-merges A B step (a ∷ as') bs of-a of-b =
      All-append P (filter_map (merged a) bs) (merges as' bs) (All-merged A B step a bs (All-head A a as' of-a) of-b) (All-merges A B step as' bs (All-tail A a as' of-a) of-b)

-- Two cuts have one merge at most.
pub length-merges-single : (a b : CutView) → length (merges (a ∷ []) (b ∷ [])) ≤ 1
length-merges-single a b = by (merged a b)
  where
    by : (o : Option CutView) → length (cons_option o [] ++ []) ≤ 1
    by None = omega arith
    by (Some cut) = omega arith

-- where they have one, it is the list
pub merges-single : (a b cut : CutView) → merged a b ≡ Some cut → merges (a ∷ []) (b ∷ []) ≡ cut ∷ []
merges-single a b cut is = ap (λ o. cons_option o [] ++ []) is
