-- The signals of names, where the names are numbered in order of first appearance.
--
-- The names so far begin the names of the design. So the place that a name has among them, or gets behind them, is its place
-- in the design; and since no name stands twice there, it is the number of the signal whose name is spelled.
use Rattle.std.proofs.Common.{◌≡◌, ◌<◌, ◌≤◌, ◌+◌, ◌++◌, ◌∷◌, ◌==◌, ◌⊎◌, inl, inr, ℕ, Bool, true, false, not, cond, nat_eq, List, [], length, map, get_or, All, None, refl, sym, ap, subst, ◌∙◌, append_assoc, append-nil, length-append, arith, if◌then◌else◌}
use Rattle.std.specs.List.{list_any, position_or_len, IsDistinct, AllPairs}
use Rattle.std.specs.Str.{bytes_eq}
use Rattle.std.proofs.lemmas.Bool.{or_parts, cases_lt}
use Rattle.std.proofs.lemmas.Bool.Decides.{nat_tests}
use Rattle.std.proofs.lemmas.Cmp.{nat_list_eq_equiv}
use Rattle.std.proofs.lemmas.List.{length_push, get_or_append_left, get_or_push}
use Rattle.std.proofs.lemmas.List.Elements.{All-head, All-tail}
use Rattle.std.proofs.lemmas.List.Sums.{passes_at_first}
use Rattle.std.proofs.lemmas.Map.Keys.{IsDistinct-push}
use Rattle.std.proofs.lemmas.Map.Made.{AllPairs-from_IsDistinct}
use Rattle.std.proofs.lemmas.Slice.Eq.{bytes_eq-Decides}
use Rattle.net_base.specs.Keys.{is_among}
use Rattle.net_base.proofs.CallerLemmas.{is_among-next, position-found}
use Rattle.blif_model.specs.Names.{number_of, with_name}
use Rattle.blif_read.specs.declared.port.Port.{Port}
use Rattle.blif_read.specs.Signals.{is_long, with_names, signals_of}
use Rattle.blif_read.specs.Faults.{most_of, listing_fault}
use Rattle.blif_read.specs.Spelling.{IsPlainName}

-- names that begin others
pub record Extends (names front : List (List ℕ)) : Type 0 where
  pub more : List (List ℕ)
  pub whole : names ≡ front ++ more

pub extends_itself : (names : List (List ℕ)) → Extends names names
extends_itself names = record { more = []; whole = sym (append-nil names) }

pub extends_more : (names front inner : List (List ℕ)) → Extends names front → Extends front inner → Extends names inner
extends_more names front inner outer is = record { more = is.more ++ outer.more; whole = outer.whole ∙ ap (λ n. n ++ outer.more) is.whole ∙ append_assoc inner is.more outer.more }

with_name-extends : (name : List ℕ) (names : List (List ℕ)) → Extends (with_name name names) names
with_name-extends name names = by (is_among bytes_eq name names)
  where
    by : (b : Bool) → Extends (if b then names else names ++ name ∷ []) names
    by true = extends_itself names
    by false = record { more = name ∷ []; whole = refl }

pub with_names-extends : (tokens names : List (List ℕ)) → Extends (with_names tokens names) names
with_names-extends [] names = extends_itself names
with_names-extends (token ∷ tokens) names = extends_more (with_names tokens (with_name token names)) (with_name token names) names (with_names-extends tokens (with_name token names)) (with_name-extends token names)

pub with_names-append : (tokens more names : List (List ℕ)) → with_names (tokens ++ more) names ≡ with_names more (with_names tokens names)
with_names-append [] more names = refl
with_names-append (token ∷ tokens) more names = with_names-append tokens more (with_name token names)

-- no name stands twice
with_name-distinct : (name : List ℕ) (names : List (List ℕ)) → IsDistinct bytes_eq names → IsDistinct bytes_eq (with_name name names)
with_name-distinct name names distinct = by (is_among bytes_eq name names) refl
  where
    by : (b : Bool) → is_among bytes_eq name names ≡ b → IsDistinct bytes_eq (if b then names else names ++ name ∷ [])
    by true e = distinct
    by false e = IsDistinct-push nat_list_eq_equiv names name distinct e

with_names-distinct_from : (tokens names : List (List ℕ)) → IsDistinct bytes_eq names → IsDistinct bytes_eq (with_names tokens names)
with_names-distinct_from [] names distinct = distinct
with_names-distinct_from (token ∷ tokens) names distinct = with_names-distinct_from tokens (with_name token names) (with_name-distinct token names distinct)

no_names : IsDistinct bytes_eq []
unfolding IsDistinct
no_names = tt

pub with_names-distinct : (tokens : List (List ℕ)) → IsDistinct bytes_eq (with_names tokens [])
with_names-distinct tokens = with_names-distinct_from tokens [] no_names

-- where a name stands
position-none : {X : Type 0} (test : X → Bool) (xs : List X) → list_any test xs ≡ false → position_or_len test xs ≡ length xs
position-none test [] e = refl
position-none {X} test (x ∷ xs) e =
    let parts = or_parts (test x) (list_any test xs) e in
    ap (λ b. cond (not b) (1 + position_or_len test xs) 0) parts.0 ∙ omega (arith, position-none test xs parts.1)

-- the number of a name is its place among the names with it
record IsPlaced (name : List ℕ) (names : List (List ℕ)) (number : ℕ) : Type 0 where
  within : number < length names
  same : get_or names number [] ≡ name

number_of-IsPlaced : (name : List ℕ) (names : List (List ℕ)) → IsPlaced name (with_name name names) (number_of name names)
number_of-IsPlaced name names = by (is_among bytes_eq name names) refl
  where
    by : (b : Bool) → is_among bytes_eq name names ≡ b → IsPlaced name (if b then names else names ++ name ∷ []) (number_of name names)
    by true e =
        let below = position-found (bytes_eq name) names e in
        record { within = below; same = sym ((bytes_eq-Decides name (get_or names (number_of name names) [])).0 (passes_at_first (bytes_eq name) names [] below)) }
    by false e =
        let last = position-none (bytes_eq name) names e in
        record { within = omega (arith, last, length_push names name); same = get_or_push names name [] (number_of name names) (sym last) }

-- a name stands at one place
one_place : (names : List (List ℕ)) (i j : ℕ) → IsDistinct bytes_eq names → i < length names → j < length names → get_or names i [] ≡ get_or names j [] → i ≡ j
one_place names i j distinct first second same = by (cases_lt i j) (cases_lt j i)
  where
    pairs : AllPairs (λ x y. x ≡ y → ⊥) names
    pairs = AllPairs-from_IsDistinct bytes_eq-Decides names distinct

    by : (i < j) ⊎ (j ≤ i) → (j < i) ⊎ (i ≤ j) → i ≡ j
    by (inl less) other = absurd (pairs i j [] less second same)
    by (inr le) (inr ge) = omega arith
    by (inr le) (inl more) = absurd (pairs j i [] more first (sym same))

-- the name of a number
abbrev pub name_in : List (List ℕ) → ℕ → List ℕ
name_in names signal = get_or names signal []

module _ (names : List (List ℕ)) (distinct : IsDistinct bytes_eq names) where
  number_of-spelled : (front : List (List ℕ)) (signal : ℕ) → signal < length names → Extends names (with_name (name_in names signal) front) → number_of (name_in names signal) front ≡ signal
  number_of-spelled front signal below extends =
      let name = name_in names signal in
      let number = number_of name front in
      let next = with_name name front in
      let placed = number_of-IsPlaced name front in
      let long : length names ≡ length next + length extends.more = ap length extends.whole ∙ length-append next extends.more in
      let within : number < length names = omega (arith, long, placed.within) in
      let same : get_or names number [] ≡ name = ap (λ n. get_or n number []) extends.whole ∙ get_or_append_left next extends.more [] number placed.within ∙ placed.same in
      one_place names number signal distinct within below same

  -- the names begin with those of the first token, where they begin with those of all
  first_extends : (token : List ℕ) (tokens front : List (List ℕ)) → Extends names (with_names (token ∷ tokens) front) → Extends names (with_name token front)
  first_extends token tokens front extends = extends_more names (with_names tokens (with_name token front)) (with_name token front) extends (with_names-extends tokens (with_name token front))

  -- The signals of names are those whose names are spelled.
  pub signals_of-spelled : (front : List (List ℕ)) (signals : List ℕ) → All (λ signal. signal < length names) signals → Extends names (with_names (map (name_in names) signals) front) → signals_of (map (name_in names) signals) front ≡ signals
  signals_of-spelled front [] below extends = refl
  signals_of-spelled front (signal ∷ signals) below extends =
      let name = name_in names signal in
      let here = number_of-spelled front signal (All-head (λ signal. signal < length names) signal signals below) (first_extends name (map (name_in names) signals) front extends) in
      let rest = signals_of-spelled (with_name name front) signals (All-tail (λ signal. signal < length names) signal signals below) extends in
      rw (here, rest) refl

  -- Inputs or outputs that are different and not too many are listed without a fault.
  module _ (plain : All IsPlainName names) where
    name-short : (signal : ℕ) → signal < length names → is_long (name_in names signal) ≡ false
    name-short signal below = let short = (plain signal [] below).short in grind (arith, nat_tests)

    pub names-short : (signals : List ℕ) → All (λ signal. signal < length names) signals → list_any is_long (map (name_in names) signals) ≡ false
    names-short [] below = refl
    names-short (signal ∷ signals) below =
        let here = name-short signal (All-head (λ signal. signal < length names) signal signals below) in
        let rest = names-short signals (All-tail (λ signal. signal < length names) signal signals below) in
        rw (here, rest) refl

    pub listing_fault-None : (port : Port) (front : List (List ℕ)) (listed signals : List ℕ) → All (λ signal. signal < length names) signals → Extends names (with_names (map (name_in names) signals) front)
        → IsDistinct nat_eq (listed ++ signals) → length (listed ++ signals) ≤ most_of port → listing_fault port front listed (map (name_in names) signals) ≡ None
    listing_fault-None port front listed [] below extends apart few = refl
    listing_fault-None port front listed (signal ∷ signals) below extends apart few =
        let name = name_in names signal in
        let head = All-head (λ signal. signal < length names) signal signals below in
        let short = name-short signal head in
        let here = number_of-spelled front signal head (first_extends name (map (name_in names) signals) front extends) in
        let fresh : is_among nat_eq signal listed ≡ false = is_among-next listed signals signal apart in
        let room : (length listed == most_of port) ≡ false = let long = length-append listed (signal ∷ signals) in grind (arith, nat_tests) in
        let grouped : listed ++ signal ∷ signals ≡ (listed ++ signal ∷ []) ++ signals = sym (append_assoc listed (signal ∷ []) signals) in
        let rest = listing_fault-None port (with_name name front) (listed ++ signal ∷ []) signals (All-tail (λ signal. signal < length names) signal signals below) extends (subst (λ all. IsDistinct nat_eq all) grouped apart) (subst (λ all. length all ≤ most_of port) grouped few) in
        rw (here, short, fresh, room, rest) refl
