-- The table of taps: a pin goes to the tap of its driver and need, and at the end each tap has its pins.
use Rattle.std.proofs.Common.{◌≡◌, ◌≢◌, ◌<◌, ℕ, zero, suc, ◌+◌, max, cond, Bool, true, false, ◌&&◌, ◌==◌, List, [], ◌∷◌, ◌++◌, length, get_or, set, drop, replicate, refl, ap, sym, subst, ◌∙◌, arith, add-one, drop-cons, append_assoc, get_or-set_same, get_or-set_other}
use Rattle.std.proofs.lemmas.List.{append-nil, replicate-append-replicate, get_or_default}
use Rattle.gate_net.specs.declared.row.Driver.{Driver}
use Rattle.gate_net.specs.declared.row.Driver.TheVariants.{Input, Gate}
use Rattle.gate_net.specs.Rows.{same_driver}
use Rattle.gate_net.specs.Net.{IsThere}
use Rattle.gate_net.proofs.CallerLemmas.{same_driver-decides}
use Rattle.splitters.specs.Taps.{with_pin, takers, tap_count, taps_from, taps_at}
use Rattle.splitters.specs.Table.{tap_at, slot, HasTaps}

-- While the pins are gathered: what the table has, with what the pins from a number on add to it, is what all pins make.
pub record Gathers (inputs gates : ℕ) (needs : List ℕ) (drivers : List Driver) (table : List (List (List ℕ))) (pin : ℕ) (rest : List Driver) : Type 0 where
  pub count : (driver : Driver) → IsThere inputs gates driver → max (length (get_or table (slot inputs driver) [])) (tap_count needs driver pin rest) ≡ tap_count needs driver 0 drivers
  pub pins : (driver : Driver) (need : ℕ) → IsThere inputs gates driver → tap_at (get_or table (slot inputs driver) []) need ++ takers needs driver need pin rest ≡ takers needs driver need 0 drivers

-- Two drivers are the same, or stand at two places of the table.
pub slot-same : (inputs : ℕ) (a b : Driver) → same_driver a b ≡ true → slot inputs a ≡ slot inputs b
slot-same inputs a b same = ap (slot inputs) ((same_driver-decides a b).0 same)

pub slot-other : (inputs gates : ℕ) (a b : Driver) → IsThere inputs gates a → IsThere inputs gates b → same_driver a b ≡ false → slot inputs a ≢ slot inputs b
slot-other inputs gates (Input i) (Input j) there also same = λ e. grind arith
slot-other inputs gates (Input i) (Gate k) there also same = λ e. omega arith
slot-other inputs gates (Gate k) (Input i) there also same = λ e. omega arith
slot-other inputs gates (Gate j) (Gate k) there also same = λ e. grind arith

-- What one pin adds to the number of taps, and to one tap: nothing, unless it has the driver.
count-next : (same : Bool) (old new need more all : ℕ) → (same ≡ true → new ≡ max old (need + 1)) → (same ≡ false → new ≡ old) →
    max old (max (cond same (need + 1) 0) more) ≡ all → max new more ≡ all
count-next true old new need more all mine other done = let e : new ≡ max old (need + 1) = mine refl in omega arith
count-next false old new need more all mine other done = let e : new ≡ old = other refl in omega arith

pins-next : (same here : Bool) (old new rest all : List ℕ) (pin : ℕ) → (same ≡ true → new ≡ cond here (old ++ pin ∷ []) old) → (same ≡ false → new ≡ old) →
    old ++ with_pin (same && here) pin rest ≡ all → new ++ rest ≡ all
pins-next true true old new rest all pin mine other done = ap (λ (xs : List ℕ). xs ++ rest) (mine refl) ∙ append_assoc old (pin ∷ []) rest ∙ done
pins-next true false old new rest all pin mine other done = ap (λ (xs : List ℕ). xs ++ rest) (mine refl) ∙ done
pins-next false here old new rest all pin mine other done = ap (λ (xs : List ℕ). xs ++ rest) (other refl) ∙ done

-- One pin goes to the tap of its driver and need, and all other taps stay.
Gathers-next : (inputs gates : ℕ) (needs : List ℕ) (drivers : List Driver) (table : List (List (List ℕ))) (pin : ℕ) (other : Driver) (rest : List Driver) (taps : List (List ℕ)) →
    IsThere inputs gates other → slot inputs other < length table →
    length taps ≡ max (length (get_or table (slot inputs other) [])) (get_or needs pin 0 + 1) →
    ((k : ℕ) → tap_at taps k ≡ cond (get_or needs pin 0 == k) (tap_at (get_or table (slot inputs other) []) k ++ pin ∷ []) (tap_at (get_or table (slot inputs other) []) k)) →
    Gathers inputs gates needs drivers table pin (other ∷ rest) →
    Gathers inputs gates needs drivers (set table (slot inputs other) taps) (pin + 1) rest
Gathers-next inputs gates needs drivers table pin other rest taps here within count pins done =
    let place : Driver → ℕ = λ (driver : Driver). slot inputs driver in
    let new : Driver → List (List ℕ) = λ (driver : Driver). get_or (set table (slot inputs other) taps) (slot inputs driver) [] in
    let same_place : (driver : Driver) → IsThere inputs gates driver → same_driver driver other ≡ true → new driver ≡ taps =
    λ driver there same. ap (λ (n : ℕ). get_or (set table (slot inputs other) taps) n []) (slot-same inputs driver other same) ∙ get_or-set_same table (slot inputs other) taps [] within in
    let other_place : (driver : Driver) → IsThere inputs gates driver → same_driver driver other ≡ false → new driver ≡ get_or table (slot inputs driver) [] =
    λ driver there same. get_or-set_other table (slot inputs other) (slot inputs driver) taps [] (slot-other inputs gates driver other there here same) in
    let old_place : (driver : Driver) → IsThere inputs gates driver → same_driver driver other ≡ true → get_or table (slot inputs other) [] ≡ get_or table (slot inputs driver) [] =
    λ driver there same. ap (λ (n : ℕ). get_or table n []) (sym (slot-same inputs driver other same)) in
    record {
      count = λ driver there.
          count-next (same_driver driver other) (length (get_or table (slot inputs driver) [])) (length (new driver)) (get_or needs pin 0) (tap_count needs driver (pin + 1) rest) (tap_count needs driver 0 drivers)
          (λ same. ap length (same_place driver there same) ∙ count ∙ ap (λ (xs : List (List ℕ)). max (length xs) (get_or needs pin 0 + 1)) (old_place driver there same))
          (λ same. ap length (other_place driver there same))
          (done.count driver there);
      pins = λ driver need there.
          pins-next (same_driver driver other) (get_or needs pin 0 == need) (tap_at (get_or table (slot inputs driver) []) need) (tap_at (new driver) need) (takers needs driver need (pin + 1) rest) (takers needs driver need 0 drivers) pin
          (λ same. ap (λ (xs : List (List ℕ)). tap_at xs need) (same_place driver there same) ∙ pins need ∙ ap (λ (xs : List (List ℕ)). cond (get_or needs pin 0 == need) (tap_at xs need ++ pin ∷ []) (tap_at xs need)) (old_place driver there same))
          (λ same. ap (λ (xs : List (List ℕ)). tap_at xs need) (other_place driver there same))
          (done.pins driver need there);
    }

-- Lists of taps with the same pins at each need are one.
taps_from-reads : (needs : List ℕ) (drivers : List Driver) (driver : Driver) (taps : List (List ℕ)) (first count : ℕ) → length taps ≡ count →
    ((k : ℕ) → k < count → tap_at taps k ≡ takers needs driver (first + k) 0 drivers) → taps ≡ taps_from needs drivers driver first count
taps_from-reads needs drivers driver [] first zero each reads = refl
taps_from-reads needs drivers driver [] first (suc count) each reads = absurd (omega arith)
taps_from-reads needs drivers driver (tap ∷ taps) first zero each reads = absurd (omega arith)
taps_from-reads needs drivers driver (tap ∷ taps) first (suc count) each reads =
    let same : first + 0 ≡ first = omega arith in
    let head : tap ≡ takers needs driver first 0 drivers = reads 0 (omega arith) ∙ ap (λ (n : ℕ). takers needs driver n 0 drivers) same in
    let tail : taps ≡ taps_from needs drivers driver (first + 1) count =
    taps_from-reads needs drivers driver taps (first + 1) count (omega arith)
    (λ k below. let moved : first + suc k ≡ (first + 1) + k = omega arith in reads (suc k) (omega arith) ∙ ap (λ (n : ℕ). takers needs driver n 0 drivers) moved) in
    λ i. head i ∷ tail i

-- Behind the last pin the table has the taps of each driver.
pub HasTaps-gathered : (inputs gates : ℕ) (needs : List ℕ) (drivers : List Driver) (table : List (List (List ℕ))) (pin : ℕ) →
    Gathers inputs gates needs drivers table pin [] → HasTaps inputs gates needs drivers table
HasTaps-gathered inputs gates needs drivers table pin done = λ driver there.
    let taps : List (List ℕ) = get_or table (slot inputs driver) [] in
    let each : max (length (get_or table (slot inputs driver) [])) 0 ≡ tap_count needs driver 0 drivers = done.count driver there in
    taps_from-reads needs drivers driver (get_or table (slot inputs driver) []) 0 (tap_count needs driver 0 drivers) (omega arith)
    (λ k below.
    let from_zero : 0 + k ≡ k = omega arith in
    sym (append-nil (tap_at (get_or table (slot inputs driver) []) k)) ∙ done.pins driver k there ∙ ap (λ (n : ℕ). takers needs driver n 0 drivers) (sym from_zero))

-- Each driver has a place in the table.
pub slot-below : (inputs gates : ℕ) (driver : Driver) → IsThere inputs gates driver → slot inputs driver < inputs + gates
slot-below inputs gates (Input i) there = omega arith
slot-below inputs gates (Gate k) there = omega arith

pub replicate-next : (n : ℕ) (table : List (List (List ℕ))) (taps : List (List ℕ)) → table ≡ replicate n [] → taps ≡ [] → table ++ taps ∷ [] ≡ replicate (n + 1) []
replicate-next n table taps before empty =
    (λ i. before i ++ empty i ∷ []) ∙ replicate-append-replicate n 1 []

-- What is read at a driver's place of the table are its taps.
pub taps_at-read : (inputs gates : ℕ) (needs : List ℕ) (drivers : List Driver) (table : List (List (List ℕ))) (driver : Driver) (place : ℕ) (taps : List (List ℕ)) →
    HasTaps inputs gates needs drivers table → length table ≡ inputs + gates → IsThere inputs gates driver → place ≡ slot inputs driver → taps ≡ get_or table place taps →
    taps ≡ taps_at needs drivers driver
taps_at-read inputs gates needs drivers table driver place taps has each there here read =
    let within : slot inputs driver < length table = omega (arith, slot-below inputs gates driver there) in
    read ∙ ap (λ (n : ℕ). get_or table n taps) here ∙ get_or_default table (slot inputs driver) taps [] within ∙ has driver there

-- The next pin goes to its tap, as the code does it: at a place of the table, with what was there before.
pub Gathers-pin : (inputs gates : ℕ) (needs : List ℕ) (drivers : List Driver) (table : List (List (List ℕ))) (pin place need : ℕ) (taps old : List (List ℕ)) →
    pin < length drivers → IsThere inputs gates (get_or drivers pin (Input 0)) → place ≡ slot inputs (get_or drivers pin (Input 0)) → length table ≡ inputs + gates →
    need ≡ get_or needs pin 0 → old ≡ get_or table place old →
    length taps ≡ max (length old) (need + 1) → ((k : ℕ) → tap_at taps k ≡ cond (need == k) (tap_at old k ++ pin ∷ []) (tap_at old k)) →
    Gathers inputs gates needs drivers table pin (drop pin drivers) →
    Gathers inputs gates needs drivers (set table place taps) (pin + 1) (drop (pin + 1) drivers)
Gathers-pin inputs gates needs drivers table pin place need taps old within there here each need_is read count pins done =
    let other : Driver = get_or drivers pin (Input 0) in
    let inside : slot inputs (get_or drivers pin (Input 0)) < length table = omega (arith, slot-below inputs gates (get_or drivers pin (Input 0)) there) in
    let old_is : old ≡ get_or table (slot inputs (get_or drivers pin (Input 0))) [] =
    read ∙ ap (λ (n : ℕ). get_or table n old) here ∙ get_or_default table (slot inputs (get_or drivers pin (Input 0))) old [] inside in
    let split_off : drop pin drivers ≡ get_or drivers pin (Input 0) ∷ drop (pin + 1) drivers = rw (add-one, drop-cons drivers pin (Input 0)) refl in
    subst (λ (n : ℕ). Gathers inputs gates needs drivers (set table n taps) (pin + 1) (drop (pin + 1) drivers)) (sym here)
    (Gathers-next inputs gates needs drivers table pin (get_or drivers pin (Input 0)) (drop (pin + 1) drivers) taps there inside
    (count ∙ (λ i. max (length (old_is i)) (need_is i + 1)))
    (λ k. pins k ∙ (λ i. cond (need_is i == k) (tap_at (old_is i) k ++ pin ∷ []) (tap_at (old_is i) k)))
    (subst (Gathers inputs gates needs drivers table pin) split_off done))
