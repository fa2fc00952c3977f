-- The lemmas that other crates cite: lists of answers per item, values of nodes, look-ups by key, answers that may be faults,
-- entries, items of lists, and keys that are added to others.
use Rattle.std.proofs.Common.{◌&&◌, not, ◌≡◌, ◌<◌, ◌≤◌, ◌+◌, ◌++◌, ◌||◌, ◌∙◌, ℕ, zero, suc, Bool, true, false, cond, List, [], ◌∷◌, length, get_or, take, drop, map, All, nat_eq, refl, sym, ap, arith, true≢false}
use Rattle.std.specs.Prelude.{Some, None, Result, Ok, Err, unwrap_or}
use Rattle.std.specs.Cmp.{nat_eq_equiv}
use Rattle.std.specs.List.{AllByRecursion, IsDistinct, list_any}
use Rattle.std.specs.Map.{lookup, keys_of}
use Rattle.std.proofs.lemmas.Bool.{or_from}
use Rattle.std.proofs.lemmas.List.{take_all, take-take, take_at, length_push, get_or_at, get_or-take, at_drop_more}
use Rattle.std.proofs.lemmas.List.Elements.{All-head, All-tail}
use Rattle.std.proofs.lemmas.Map.Keys.{IsDistinct-head, IsDistinct-tail}
use Rattle.net_base.specs.declared.graph.GNode.{GNode}
use Rattle.net_base.specs.declared.graph.GNode.TheVariants.{Inp, Neg, Both}
use Rattle.net_base.specs.Graph.{IsNodeAt}
use Rattle.net_base.specs.NodeValues.{value_of}
use Rattle.net_base.specs.Answers.{◌>>=◌}
use Rattle.net_base.specs.Keys.{is_among}
use Rattle.net_base.specs.PerItem.{per_item}
pub use Rattle.net_base.proofs.AddedKeys.{keys-grow, keys-among}
pub use Rattle.net_base.proofs.Lists.{All-left, All-right, All-unmap, Contains-map, Contains-one, map-reverse, position-found}

-- One answer per item, each from the answers before it.
module _ {A X : Type 0} (answer : List A → X → A) where
  -- The answers of more items come after those of the first.
  pub per_item-append : (done : List A) (items more : List X) → per_item answer done (items ++ more) ≡ per_item answer (per_item answer done items) more
  per_item-append done [] more = refl
  per_item-append done (item ∷ items) more = per_item-append (done ++ answer done item ∷ []) items more

  -- There is one answer per item.
  pub length-per_item : (done : List A) (items : List X) → length (per_item answer done items) ≡ length done + length items
  length-per_item done [] = omega arith
  length-per_item done (item ∷ items) = omega (arith, length-per_item (done ++ answer done item ∷ []) items, length_push done (answer done item))

  -- The answers before stay as they were.
  take-per_item : (done : List A) (items : List X) → take (length done) (per_item answer done items) ≡ done
  take-per_item done [] = take_all (length done) done (omega arith)
  take-per_item done (item ∷ items) =
      let more = done ++ answer done item ∷ [] in
      let longer : length done ≤ length more = omega (arith, length_push done (answer done item)) in
      sym (take-take (length done) (length more) (per_item answer more items) longer)
      ∙ ap (take (length done)) (take-per_item more items) ∙ take_at done (answer done item ∷ []) (length done) refl

  get_or-per_item_from : (done : List A) (items : List X) (k n : ℕ) (d : A) (e : X) → n ≡ length done + k → k < length items → get_or (per_item answer done items) n d ≡ answer (take n (per_item answer done items)) (get_or items k e)
  get_or-per_item_from done [] k n d e at within = absurd (omega arith)
  get_or-per_item_from done (item ∷ items) zero n d e at within =
      let more = done ++ answer done item ∷ [] in
      let all = per_item answer more items in
      let here : n ≡ length done = omega arith in
      let before : n < length more = omega (arith, length_push done (answer done item)) in
      sym (get_or-take (length more) all n d before)
      ∙ ap (λ xs. get_or xs n d) (take-per_item more items)
      ∙ get_or_at done (answer done item) [] d n (sym here)
      ∙ ap (λ xs. answer xs item) (sym (take-per_item done (item ∷ items)) ∙ ap (λ m. take m all) (sym here))
  get_or-per_item_from done (item ∷ items) (suc k) n d e at within =
      let more = done ++ answer done item ∷ [] in
      let next : n ≡ length more + k = omega (arith, length_push done (answer done item)) in
      get_or-per_item_from more items k n d e next (omega arith)

  -- The answer of an item is made from the answers of the items before it.
  pub get_or-per_item : (items : List X) (k : ℕ) (d : A) (e : X) → k < length items → get_or (per_item answer [] items) k d ≡ answer (take k (per_item answer [] items)) (get_or items k e)
  get_or-per_item items k d e within = get_or-per_item_from [] items k k d e (omega arith) within

  -- Items that are added later don't change the answers of those before.
  pub take-per_item-append : (items more : List X) → take (length items) (per_item answer [] (items ++ more)) ≡ per_item answer [] items
  take-per_item-append items more =
      let first = per_item answer [] items in
      let long : length first ≡ length items = omega (arith, length-per_item [] items) in
      ap (take (length items)) (per_item-append [] items more)
      ∙ ap (λ n. take n (per_item answer first more)) (sym long) ∙ take-per_item first more

  -- A loop over items is one answer further, with what remains one item shorter.
  pub per_item-more : (done : List A) (items : List X) (i : ℕ) (item : X) → i < length items → item ≡ get_or items i item → per_item answer (done ++ answer done item ∷ []) (drop (i + 1) items) ≡ per_item answer done (drop i items)
  per_item-more done items i item within read =
      ap (λ (x : X). per_item answer done (x ∷ drop (i + 1) items)) read ∙ sym (at_drop_more (per_item answer done) items i item within)

-- A node reads values before its own alone.
pub value_of-take : (row values : List Bool) (inputs place : ℕ) (node : GNode) → IsNodeAt inputs place node → value_of row (take place values) node ≡ value_of row values node
value_of-take row values inputs place (Inp k) there = refl
value_of-take row values inputs place (Neg a) there = ap not (get_or-take place values a false there.1)
value_of-take row values inputs place (Both a b) there =
    let low : a < place = omega (arith, there.1, there.2) in
    λ i. get_or-take place values a false low i && get_or-take place values b false there.2 i

-- Look-ups by key in a list of entries, as a map in insertion order has them. `test` tells the key that is sought.
module _ {K X : Type 0} (test : K → Bool) where
  -- What isn't among the keys isn't found,
  pub lookup-absent : (entries : List (K × X)) → list_any test (keys_of entries) ≡ false → lookup test entries ≡ None
  lookup-absent [] e = refl
  lookup-absent (entry ∷ entries) e = by (test entry.0) (lookup-absent entries) e
    where
      by : (b : Bool) → (list_any test (keys_of entries) ≡ false → lookup test entries ≡ None) → (b || list_any test (keys_of entries)) ≡ false → cond b (Some entry.1) (lookup test entries) ≡ None
      by true rest e = absurd (true≢false e)
      by false rest e = rest e

  -- and stands where it is put, at the end.
  pub lookup-push : (entries : List (K × X)) (key : K) (x : X) → test key ≡ true → lookup test entries ≡ None → lookup test (entries ++ (key, x) ∷ []) ≡ Some x
  lookup-push [] key x one e = ap (λ b. cond b (Some x) None) one
  lookup-push (entry ∷ entries) key x one e = by (test entry.0) (lookup-push entries key x one) e
    where
      by : (b : Bool) → (lookup test entries ≡ None → lookup test (entries ++ (key, x) ∷ []) ≡ Some x) → cond b (Some entry.1) (lookup test entries) ≡ None → cond b (Some entry.1) (lookup test (entries ++ (key, x) ∷ [])) ≡ Some x
      by true rest e = cc
      by false rest e = rest e

  -- What is among the keys is found where it was, whatever comes behind,
  pub lookup-append : (entries more : List (K × X)) → list_any test (keys_of entries) ≡ true → lookup test (entries ++ more) ≡ lookup test entries
  lookup-append [] more e = absurd (true≢false (sym e))
  lookup-append (entry ∷ entries) more e = by (test entry.0) (lookup-append entries more) e
    where
      by : (b : Bool) → (list_any test (keys_of entries) ≡ true → lookup test (entries ++ more) ≡ lookup test entries) → (b || list_any test (keys_of entries)) ≡ true → cond b (Some entry.1) (lookup test (entries ++ more)) ≡ cond b (Some entry.1) (lookup test entries)
      by true rest e = refl
      by false rest e = rest e

  pub lookup-found : (entries more : List (K × X)) (x : X) → lookup test entries ≡ Some x → lookup test (entries ++ more) ≡ Some x
  lookup-found [] more x e = cc
  lookup-found (entry ∷ entries) more x e = by (test entry.0) (lookup-found entries more x) e
    where
      by : (b : Bool) → (lookup test entries ≡ Some x → lookup test (entries ++ more) ≡ Some x) → cond b (Some entry.1) (lookup test entries) ≡ Some x → cond b (Some entry.1) (lookup test (entries ++ more)) ≡ Some x
      by true rest e = e
      by false rest e = rest e

  -- and what isn't found in front is looked up behind.
  pub lookup-behind : (entries more : List (K × X)) → lookup test entries ≡ None → lookup test (entries ++ more) ≡ lookup test more
  lookup-behind [] more e = refl
  lookup-behind (entry ∷ entries) more e = by (test entry.0) (lookup-behind entries more) e
    where
      by : (b : Bool) → (lookup test entries ≡ None → lookup test (entries ++ more) ≡ lookup test more) → cond b (Some entry.1) (lookup test entries) ≡ None → cond b (Some entry.1) (lookup test (entries ++ more)) ≡ lookup test more
      by true rest e = cc
      by false rest e = rest e

  -- What is found has what all entries have.
  pub lookup-all : (P : X → Type 0) (d : X) (entries : List (K × X)) → AllByRecursion (λ (entry : K × X). P entry.1) entries → list_any test (keys_of entries) ≡ true → P (unwrap_or (lookup test entries) d)
  lookup-all P d [] all e = absurd (true≢false (sym e))
  lookup-all P d (entry ∷ entries) all e = by (test entry.0) (lookup-all P d entries all.1) e
    where
      by : (b : Bool) → (list_any test (keys_of entries) ≡ true → P (unwrap_or (lookup test entries) d)) → (b || list_any test (keys_of entries)) ≡ true → P (unwrap_or (cond b (Some entry.1) (lookup test entries)) d)
      by true rest e = all.0
      by false rest e = rest e

  -- A table whose values are made from another's gives the value made from the other's.
  pub lookup-made : {Y : Type 0} (f : X → Y) (d : X) (b : Y) (entries : List (K × X)) → list_any test (keys_of entries) ≡ true → unwrap_or (lookup test (map (λ (entry : K × X). (entry.0, f entry.1)) entries)) b ≡ f (unwrap_or (lookup test entries) d)
  lookup-made f d b [] e = absurd (true≢false (sym e))
  lookup-made {Y} f d b (entry ∷ entries) e = by (test entry.0) (lookup-made f d b entries) e
    where
      made : List (K × Y)
      made = map (λ (entry : K × X). (entry.0, f entry.1)) entries

      by : (t : Bool) → (list_any test (keys_of entries) ≡ true → unwrap_or (lookup test made) b ≡ f (unwrap_or (lookup test entries) d)) → (t || list_any test (keys_of entries)) ≡ true → unwrap_or (cond t (Some (f entry.1)) (lookup test made)) b ≡ f (unwrap_or (cond t (Some entry.1) (lookup test entries)) d)
      by true rest e = refl
      by false rest e = rest e

-- Where a definition went on and didn't refuse, each of its two steps has answered.
pub bind-Ok : {A B E : Type 0} (first : Result A E) (go : A → Result B E) (b : B) → (first >>= go) ≡ Ok b → (a : A) × (first ≡ Ok a) × (go a ≡ Ok b)
bind-Ok (Ok a) go b answer = (a, refl, answer)
bind-Ok (Err e) go b answer = cc

-- A bit counts 1 at most.
pub bit-le : (b : Bool) → cond b 1 0 ≤ 1
bit-le true = omega arith
bit-le false = omega arith

-- An entry is below what all entries are below, also past the last.
pub get_or-below : (limit : ℕ) (entries : List ℕ) (k : ℕ) → 0 < limit → All (λ entry. entry < limit) entries → get_or entries k 0 < limit
get_or-below limit [] k some all = some
get_or-below limit (entry ∷ entries) zero some all = All-head (λ entry. entry < limit) entry entries all
get_or-below limit (entry ∷ entries) (suc k) some all = get_or-below limit entries k some (All-tail (λ entry. entry < limit) entry entries all)

-- What all items have, the one in the middle has.
pub AllByRecursion-middle : {A : Type 0} (P : A → Type 0) (before after : List A) (x : A) → AllByRecursion P (before ++ x ∷ after) → P x
AllByRecursion-middle P [] after x all = all.0
AllByRecursion-middle P (y ∷ before) after x all = AllByRecursion-middle P before after x all.1

-- Where no number stands twice, the next one is not among those before it.
pub is_among-next : (before after : List ℕ) (next : ℕ) → IsDistinct nat_eq (before ++ next ∷ after) → is_among nat_eq next before ≡ false
is_among-next [] after next h = refl
is_among-next (x ∷ before) after next h =
    let all = before ++ next ∷ after in
    let other : nat_eq x next ≡ false = AllByRecursion-middle (λ z. nat_eq x z ≡ false) before after next (IsDistinct-head nat_eq x all h) in
    or_from (nat_eq next x) (is_among nat_eq next before) (nat_eq_equiv.symm next x ∙ other) (is_among-next before after next (IsDistinct-tail nat_eq x all h))
