-- Vertices that were reached, and a mark for each that is there: as one is added, and as all marks are taken away.
use Rattle.std.proofs.Common.{◌≡◌, ◌<◌, ◌++◌, ◌∙◌, ◌||◌, ◌&&◌, ℕ, nat_eq, Bool, true, false, not, cond, List, [], ◌∷◌, All, length, get_or, slice_set, take, drop, replicate, refl, sym, ap, subst, arith, true≢false, ⊎_elim}
use Rattle.std.specs.List.{IsDistinct}
use Rattle.std.proofs.lemmas.Bool.{cases_lt, eqb-true, eq-eqb}
use Rattle.std.proofs.lemmas.Cmp.{nat_eq_equiv}
use Rattle.std.proofs.lemmas.Grind.{get_or_default_zero}
use Rattle.std.proofs.lemmas.List.{get_or-set_same, get_or-set_other, get_or_past, get_or-replicate, length-replicate, take_all, take-append-le}
use Rattle.std.proofs.lemmas.List.Folds.{list_any-append}
use Rattle.std.proofs.lemmas.Map.Keys.{IsDistinct-push}
use Rattle.net_base.specs.Keys.{is_among}
use Rattle.stage_flow.specs.Passes.{mark_at}
use Rattle.stage_flow.specs.Sending.{SayWhoIsThere}
use Rattle.stage_flow.proofs.SendingSearch.{at-among}

-- ---- None is there
distinct-none : IsDistinct nat_eq []
unfolding IsDistinct
distinct-none = tt

pub none-there : (marks : List Bool) (keys : List ℕ) → ((vertex : ℕ) → mark_at marks vertex ≡ false) → keys ≡ [] → SayWhoIsThere marks keys
none-there marks keys unmarked is = subst (SayWhoIsThere marks) (sym is) (record { unique = distinct-none; each = unmarked })

unmarked : (many vertex : ℕ) → mark_at (replicate many false) vertex ≡ false
unmarked many vertex =
    ⊎_elim {C = mark_at (replicate many false) vertex ≡ false} (λ within. get_or-replicate many vertex false false within)
    (λ past. get_or_past (replicate many false) vertex false (omega (arith, length-replicate {A = Bool} many false, past))) (cases_lt vertex many)

pub none-yet : (marks : List Bool) (keys : List ℕ) (many : ℕ) → marks ≡ replicate many false → keys ≡ [] → SayWhoIsThere marks keys
none-yet marks keys many is none = none-there marks keys (λ vertex. ap (λ ms. mark_at ms vertex) is ∙ unmarked many vertex) none

-- ---- One mark is written
written : (marks : List Bool) (place : ℕ) (mark : Bool) (vertex : ℕ) → place < length marks → mark_at (slice_set marks place mark) vertex ≡ cond (nat_eq vertex place) mark (mark_at marks vertex)
written marks place mark vertex low = by (nat_eq vertex place) refl
  where
    by : (b : Bool) → nat_eq vertex place ≡ b → mark_at (slice_set marks place mark) vertex ≡ cond b mark (mark_at marks vertex)
    by true same = subst (λ v. mark_at (slice_set marks place mark) v ≡ mark) (sym (eqb-true vertex place same)) (get_or-set_same marks place mark false low)
    by false apart = get_or-set_other marks place vertex mark false (λ same. true≢false (sym (eq-eqb vertex place same) ∙ apart))

-- ---- A vertex is added
pub there-added : (marks : List Bool) (keys new : List ℕ) (vertex : ℕ) → vertex < length marks → mark_at marks vertex ≡ false → new ≡ keys ++ vertex ∷ [] → SayWhoIsThere marks keys → SayWhoIsThere (slice_set marks vertex true) new
there-added marks keys new vertex low absent is was =
    let own : is_among nat_eq vertex keys ≡ false = sym (was.each vertex) ∙ absent in
    subst (SayWhoIsThere (slice_set marks vertex true)) (sym is) (record {
      unique = IsDistinct-push nat_eq_equiv keys vertex was.unique own;
      each = λ x.
          written marks vertex true x low
          ∙ ap (cond (nat_eq x vertex) true) (was.each x)
          ∙ by (nat_eq x vertex) (is_among nat_eq x keys)
          ∙ sym (list_any-append (nat_eq x) keys (vertex ∷ []));
    })
  where
    by : (here among : Bool) → cond here true among ≡ (among || (here || false))
    by true true = refl
    by true false = refl
    by false true = refl
    by false false = refl

-- ---- Vertices are let go
-- Each has a mark,
pub there-low : (marks : List Bool) (keys : List ℕ) → SayWhoIsThere marks keys → All (λ vertex. vertex < length marks) keys
there-low marks keys was place d within =
    let vertex : ℕ = get_or keys place d in
    ⊎_elim {C = vertex < length marks} (λ low. low)
    (λ past. absurd (true≢false (sym (at-among keys place vertex within (get_or_default_zero keys place d within)) ∙ sym (was.each vertex) ∙ get_or_past marks vertex false past)))
    (cases_lt vertex (length marks))

-- and where these marks are taken away none is left.
pub none-left : (before now : List Bool) (keys left : List ℕ) (many : ℕ) → SayWhoIsThere before keys → length before ≡ many → length now ≡ length before
    → ((vertex : ℕ) → mark_at now vertex ≡ (mark_at before vertex && not (is_among nat_eq vertex keys))) → left ≡ []
    → SayWhoIsThere (take many (now ++ drop (length now) before)) left
none-left before now keys left many was long same unmarked none =
    let whole : take many (now ++ drop (length now) before) ≡ now =
    take-append-le many now (drop (length now) before) (omega (arith, long, same)) ∙ take_all many now (omega (arith, long, same)) in
    none-there (take many (now ++ drop (length now) before)) left
    (λ vertex. ap (λ marks. mark_at marks vertex) whole ∙ unmarked vertex ∙ ap (λ b. b && not (is_among nat_eq vertex keys)) (was.each vertex) ∙ by (is_among nat_eq vertex keys)) none
  where
    by : (b : Bool) → (b && not b) ≡ false
    by true = refl
    by false = refl
