-- A chain: each tap spreads a wire, its pins wait with their wires, and a DRO goes on n stages later.
use Rattle.std.proofs.Common.{◌≡◌, ◌≤◌, ◌<◌, ℕ, zero, suc, ◌+◌, ◌-◌, ◌*◌, max, Bool, true, false, cond, ◌&&◌, ◌||◌, ◌==◌, List, [], ◌∷◌, ◌++◌, length, get_or, drop, refl, ap, sym, subst, ◌∙◌, arith}
use Rattle.std.proofs.lemmas.Bool.{true≢false, eqb-true}
use Rattle.std.specs.Prelude.{Some, slice_index}
use Rattle.std.proofs.Math.Nat.{mul-suc}
use Rattle.cell_lib.specs.declared.cell.Cell.TheVariants.{Dro}
use Rattle.gate_net.specs.declared.row.Driver.{Driver}
use Rattle.gate_net.specs.Rows.{same_driver}
use Rattle.pulse_net.specs.declared.net.Element.{Element}
use Rattle.pulse_net.specs.declared.net.Element.TheVariants.{Clocked}
use Rattle.pulse_net.specs.Wires.{Wires, found, cell_stage}
use Rattle.pulse_net.proofs.CallerLemmas.{after_elements-append}
use Rattle.splitters.specs.Spread.{spread_lines, spread_wires}
use Rattle.splitters.specs.Elements.{Layout, take_wires, with_cell, with_last, with_tap, with_dro, with_chain}
use Rattle.splitters.specs.Taps.{takers, tap_count, taps_from, taps_at}
use Rattle.splitters.proofs.Trees.{length-spread_wires}
use Rattle.splitters.proofs.valid.Multiplicity.{once, times, after}
use Rattle.splitters.proofs.tapped.Takers.{DrivesNone, takers-late, takers-last, below, below-from, below-true}
use Rattle.splitters.proofs.valid.Frontier.{IsLaid, IsLaid-waits, IsLaid-cell, IsSpread, IsSpread-tree}
use Rattle.splitters.proofs.valid.Pins.{Marks, held, AreStaged, MarksAgree, MarksAgree-all, held-agree, AreStaged-agree, AreStaged-stay, and_tap, IsNew, times-held, AreStaged-held, length-taken}

-- What stands after a part of the layout: the rules hold but for wires that wait, and the pins from a number on wait with
-- their wires where their taps are laid out; beside them this often each wire waits.
pub record Stands (n first : ℕ) (start : Wires ℕ) (stage : Driver → ℕ → ℕ) (needs : List ℕ) (pin : ℕ) (rest : List Driver) (marks : Marks) (waits : ℕ → ℕ) (layout : Layout) : Type 0 where
  pub laid : IsLaid n first start layout.elements layout.next (λ w. waits w + times w (held marks needs layout.taken pin rest))
  pub staged : AreStaged (after start layout.elements) stage marks needs layout.taken pin rest
  pub room : pin + length rest ≤ length layout.taken

pub AreStaged-step : (start : Wires ℕ) (elements more : List Element) (stage : Driver → ℕ → ℕ) (marks : Marks) (needs taken : List ℕ) (pin : ℕ) (drivers : List Driver) →
    AreStaged (after start elements) stage marks needs taken pin drivers → AreStaged (after start (elements ++ more)) stage marks needs taken pin drivers
AreStaged-step start elements more stage marks needs taken pin drivers h =
    subst (λ (made : Wires ℕ). AreStaged made stage marks needs taken pin drivers) (sym (after_elements-append 0 cell_stage start elements more)) (AreStaged-stay (after start elements) more stage marks needs taken pin drivers h)

pub Stands-agree : (n first : ℕ) (start : Wires ℕ) (stage : Driver → ℕ → ℕ) (needs : List ℕ) (pin : ℕ) (rest : List Driver) (marks others : Marks) (waits : ℕ → ℕ) (layout : Layout) →
    MarksAgree marks others needs pin rest → Stands n first start stage needs pin rest marks waits layout → Stands n first start stage needs pin rest others waits layout
Stands-agree n first start stage needs pin rest marks others waits layout same h = record {
  laid = IsLaid-waits n first start layout.elements layout.next (λ w. waits w + times w (held marks needs layout.taken pin rest)) (λ w. waits w + times w (held others needs layout.taken pin rest))
      (λ w. ap (λ (l : List ℕ). waits w + times w l) (held-agree marks others needs layout.taken pin rest same)) h.laid;
  staged = AreStaged-agree (after start layout.elements) stage marks others needs layout.taken pin rest same h.staged;
  room = h.room;
}

-- The last tap: its wire is spread over its pins.
Stands-last : (n first : ℕ) (start : Wires ℕ) (stage : Driver → ℕ → ℕ) (needs : List ℕ) (pin : ℕ) (rest : List Driver) (marks : Marks) (waits : ℕ → ℕ) (layout : Layout)
    (driver : Driver) (need s wire : ℕ) →
    Stands n first start stage needs pin rest marks (λ w. once w wire + waits w) layout →
    found (after start layout.elements) wire ≡ Some s →
    ((other : Driver) (its : ℕ) → (same_driver driver other && (its == need)) ≡ true → stage other its ≡ s) →
    IsNew marks driver need →
    1 ≤ length (takers needs driver need pin rest) →
    Stands n first start stage needs pin rest (and_tap marks driver need) waits (with_last wire (takers needs driver need pin rest) layout)
Stands-last n first start stage needs pin rest marks waits layout driver need s wire h source level new some =
    let pins = takers needs driver need pin rest in
    let wires = spread_wires wire layout.next (length pins) in
    let lines = spread_lines wire layout.next (length pins) in
    let old : ℕ → ℕ = λ w. waits w + times w (held marks needs layout.taken pin rest) in
    let spread = IsSpread-tree (length pins) (length pins) n first start layout.elements layout.next old wire s (omega arith) some
    (IsLaid-waits n first start layout.elements layout.next (λ w. (once w wire + waits w) + times w (held marks needs layout.taken pin rest)) (λ w. once w wire + old w) (λ w. omega arith) h.laid)
    source in
    let each : length wires ≡ length pins = length-spread_wires wire layout.next (length pins) in
    record {
      laid = IsLaid-waits n first start (layout.elements ++ lines) (layout.next + 2 * (length pins - 1)) (λ w. times w wires + old w)
          (λ w. waits w + times w (held (and_tap marks driver need) needs (take_wires pins wires layout.taken) pin rest))
          (λ w. let e = times-held marks needs driver need pin rest wires layout.taken w new each h.room in omega (arith, e)) spread.laid;
      staged = AreStaged-held (after start (layout.elements ++ lines)) stage marks needs driver need s pin rest wires layout.taken level new each h.room spread.stages
          (AreStaged-step start layout.elements lines stage marks needs layout.taken pin rest h.staged);
      room = let e = length-taken pins wires layout.taken in let r = h.room in omega (arith, e, r);
    }

-- A tap where the chain goes on: the first target is the next DRO, which stands n stages later.
pub record GoesOn (n first : ℕ) (start : Wires ℕ) (stage : Driver → ℕ → ℕ) (needs : List ℕ) (pin : ℕ) (rest : List Driver) (marks : Marks) (waits : ℕ → ℕ) (layout : Layout) (wire s : ℕ) : Type 0 where
  pub stands : Stands n first start stage needs pin rest marks (λ w. once w wire + waits w) layout
  pub source : found (after start layout.elements) wire ≡ Some s

-- the same, where the wires of the targets are given
GoesOn-wires : (n first : ℕ) (start : Wires ℕ) (stage : Driver → ℕ → ℕ) (needs : List ℕ) (pin : ℕ) (rest : List Driver) (marks : Marks) (waits : ℕ → ℕ) (elements : List Element) (next : ℕ) (taken : List ℕ)
    (driver : Driver) (need s : ℕ) (wires : List ℕ) →
    1 ≤ n →
    ((other : Driver) (its : ℕ) → (same_driver driver other && (its == need)) ≡ true → stage other its ≡ s) →
    IsNew marks driver need →
    pin + length rest ≤ length taken →
    length wires ≡ length (takers needs driver need pin rest) + 1 →
    IsSpread n first start elements next (λ w. waits w + times w (held marks needs taken pin rest)) s wires →
    AreStaged (after start elements) stage marks needs taken pin rest →
    GoesOn n first start stage needs pin rest (and_tap marks driver need) waits
    (with_cell Dro (s + n) (slice_index wires 0 ∷ []) (record { next = next; elements = elements; taken = take_wires (takers needs driver need pin rest) (drop 1 wires) taken }))
    next (s + n)
GoesOn-wires n first start stage needs pin rest marks waits elements next taken driver need s [] some level new room each spread staged = absurd (omega arith)
GoesOn-wires n first start stage needs pin rest marks waits elements next taken driver need s (head ∷ wires) some level new room each spread staged =
    let pins = takers needs driver need pin rest in
    let old : ℕ → ℕ = λ w. waits w + times w (held marks needs taken pin rest) in
    let few : length wires ≡ length pins = omega arith in
    let cell = IsLaid-cell n first start elements next (λ w. times w wires + old w) Dro (s + n) (head ∷ [])
    (IsLaid-waits n first start elements next (λ w. times w (head ∷ wires) + old w) (λ w. times w (head ∷ []) + (times w wires + old w)) (λ w. omega arith) spread.laid)
    refl
    ((s, spread.stages.0, record { after = omega arith; within = omega arith }), tt) in
    let line = Clocked Dro (s + n) (head ∷ []) next in
    record {
      stands = record {
        laid = IsLaid-waits n first start (elements ++ line ∷ []) (next + 1) (λ w. once w next + (times w wires + old w))
            (λ w. (once w next + waits w) + times w (held (and_tap marks driver need) needs (take_wires pins wires taken) pin rest))
            (λ w. let e = times-held marks needs driver need pin rest wires taken w new few room in omega (arith, e)) cell.0;
        staged = AreStaged-step start elements (line ∷ []) stage (and_tap marks driver need) needs (take_wires pins wires taken) pin rest
            (AreStaged-held (after start elements) stage marks needs driver need s pin rest wires taken level new few room spread.stages.1 staged);
        room = let e = length-taken pins wires taken in omega (arith, e);
      };
      source = cell.1;
    }

GoesOn-dro : (n first : ℕ) (start : Wires ℕ) (stage : Driver → ℕ → ℕ) (needs : List ℕ) (pin : ℕ) (rest : List Driver) (marks : Marks) (waits : ℕ → ℕ) (layout : Layout)
    (driver : Driver) (need s wire : ℕ) →
    1 ≤ n →
    GoesOn n first start stage needs pin rest marks waits layout wire s →
    ((other : Driver) (its : ℕ) → (same_driver driver other && (its == need)) ≡ true → stage other its ≡ s) →
    IsNew marks driver need →
    GoesOn n first start stage needs pin rest (and_tap marks driver need) waits
    (with_dro (s + n) wire (takers needs driver need pin rest) layout) ((with_tap wire (takers needs driver need pin rest) layout).next) (s + n)
GoesOn-dro n first start stage needs pin rest marks waits layout driver need s wire some h level new =
    let pins = takers needs driver need pin rest in
    let targets = length pins + 1 in
    let old : ℕ → ℕ = λ w. waits w + times w (held marks needs layout.taken pin rest) in
    let spread = IsSpread-tree targets targets n first start layout.elements layout.next old wire s (omega arith) (omega arith)
    (IsLaid-waits n first start layout.elements layout.next (λ w. (once w wire + waits w) + times w (held marks needs layout.taken pin rest)) (λ w. once w wire + old w) (λ w. omega arith) h.stands.laid)
    h.source in
    GoesOn-wires n first start stage needs pin rest marks waits (layout.elements ++ spread_lines wire layout.next targets) (layout.next + 2 * (targets - 1)) layout.taken driver need s
    (spread_wires wire layout.next targets) some level new h.stands.room (length-spread_wires wire layout.next targets) spread
    (AreStaged-step start layout.elements (spread_lines wire layout.next targets) stage marks needs layout.taken pin rest h.stands.staged)

-- the taps of the drivers before, and the first `count` of this driver
abbrev pub with_taps : (Driver → Bool) → Driver → ℕ → Marks
with_taps reached driver count = λ other its. reached other || (same_driver driver other && below its count)

with_taps-next : (reached : Driver → Bool) (driver : Driver) (count : ℕ) (other : Driver) (its : ℕ) →
    with_taps reached driver (suc count) other its ≡ and_tap (with_taps reached driver count) driver count other its
with_taps-next reached driver count other its = by (reached other) (same_driver driver other)
  where
    by : (before same : Bool) → (before || (same && (below its count || (its == count)))) ≡ ((before || (same && below its count)) || (same && (its == count)))
    by true same = refl
    by false true = refl
    by false false = refl

pub with_taps-new : (reached : Driver → Bool) (driver : Driver) (count : ℕ) → ((other : Driver) → same_driver driver other ≡ true → reached other ≡ false) → IsNew (with_taps reached driver count) driver count
with_taps-new reached driver count late other its = by (reached other) (same_driver driver other) (its == count) (late other) (λ e. below-from its count (omega (arith, eqb-true its count e)))
  where
    by : (before same here : Bool) → (same ≡ true → before ≡ false) → (here ≡ true → below its count ≡ false) → (same && here) ≡ true → (before || (same && below its count)) ≡ false
    by before true true l b h = (λ i. l refl i || b refl i)
    by before true false l b h = absurd (true≢false (sym h))
    by before false here l b h = absurd (true≢false (sym h))

pub takers-behind : (needs : List ℕ) (driver : Driver) (need : ℕ) (used rest : List Driver) → DrivesNone driver used →
    takers needs driver need 0 (used ++ rest) ≡ takers needs driver need (length used) rest
takers-behind needs driver need used rest none = let z : 0 + length used ≡ length used = omega arith in takers-late needs driver need 0 used rest none ∙ ap (λ p. takers needs driver need p rest) z

taps-level : (stage : Driver → ℕ → ℕ) (driver : Driver) (s n need at : ℕ) → ((other : Driver) (its : ℕ) → same_driver driver other ≡ true → stage other its ≡ s + n * its) → at ≡ s + n * need →
    (other : Driver) (its : ℕ) → (same_driver driver other && (its == need)) ≡ true → stage other its ≡ at
taps-level stage driver s n need at stages here other its = by (same_driver driver other) (its == need) (stages other its) (λ e. eqb-true its need e)
  where
    by : (same equal : Bool) → (same ≡ true → stage other its ≡ s + n * its) → (equal ≡ true → its ≡ need) → (same && equal) ≡ true → stage other its ≡ at
    by true true l e h = l refl ∙ ap (λ k. s + n * k) (e refl) ∙ sym here
    by true false l e h = absurd (true≢false (sym h))
    by false equal l e h = absurd (true≢false (sym h))

pub with_taps-plus : (reached : Driver → Bool) (driver : Driver) (count : ℕ) (other : Driver) (its : ℕ) →
    with_taps reached driver (count + 1) other its ≡ and_tap (with_taps reached driver count) driver count other its
with_taps-plus reached driver count other its = let e : count + 1 ≡ suc count = omega arith in ap (λ k. with_taps reached driver k other its) e ∙ with_taps-next reached driver count other its

times-next : (n need : ℕ) → n * (need + 1) ≡ n * need + n
times-next n need = let e : need + 1 ≡ suc need = omega arith in ap (λ k. n * k) e ∙ mul-suc n need

-- The chain of a driver from a wire that waits, whose taps behind `need` are still to be laid out.
Stands-taps : (n first : ℕ) (start : Wires ℕ) (stage : Driver → ℕ → ℕ) (needs : List ℕ) (used rest : List Driver) (reached : Driver → Bool) (waits : ℕ → ℕ)
    (driver : Driver) (s : ℕ) (need more : ℕ) (wire at : ℕ) (layout : Layout) →
    1 ≤ n →
    DrivesNone driver used →
    ((other : Driver) → same_driver driver other ≡ true → reached other ≡ false) →
    ((other : Driver) (its : ℕ) → same_driver driver other ≡ true → stage other its ≡ s + n * its) →
    at ≡ s + n * need →
    tap_count needs driver 0 (used ++ rest) ≡ need + suc more →
    GoesOn n first start stage needs (length used) rest (with_taps reached driver need) waits layout wire at →
    Stands n first start stage needs (length used) rest (with_taps reached driver (need + suc more)) waits (with_chain n at wire (taps_from needs (used ++ rest) driver need (suc more)) layout)
Stands-taps n first start stage needs used rest reached waits driver s need zero wire at layout some none late stages here counted h =
    let pins = takers needs driver need 0 (used ++ rest) in
    let behind = takers-behind needs driver need used rest none in
    let next : need + 1 ≡ suc need = omega arith in
    let last : 1 ≤ length (takers needs driver need 0 (used ++ rest)) = takers-last needs driver need 0 (used ++ rest) (counted ∙ next) in
    let done = Stands-last n first start stage needs (length used) rest (with_taps reached driver need) waits layout driver need at wire h.stands h.source
    (taps-level stage driver s n need at stages here) (with_taps-new reached driver need late)
    (subst (λ (ps : List ℕ). 1 ≤ length ps) behind last) in
    subst (λ (ps : List ℕ). Stands n first start stage needs (length used) rest (with_taps reached driver (need + 1)) waits (with_last wire ps layout)) (sym behind)
    (Stands-agree n first start stage needs (length used) rest (and_tap (with_taps reached driver need) driver need) (with_taps reached driver (need + 1)) waits
    (with_last wire (takers needs driver need (length used) rest) layout)
    (MarksAgree-all (and_tap (with_taps reached driver need) driver need) (with_taps reached driver (need + 1)) needs (length used) rest (with_taps-plus reached driver need)) done)
Stands-taps n first start stage needs used rest reached waits driver s need (suc more) wire at layout some none late stages here counted h =
    let pins = takers needs driver need 0 (used ++ rest) in
    let behind = takers-behind needs driver need used rest none in
    let done = GoesOn-dro n first start stage needs (length used) rest (with_taps reached driver need) waits layout driver need at wire some h
    (taps-level stage driver s n need at stages here) (with_taps-new reached driver need late) in
    let moved : GoesOn n first start stage needs (length used) rest (and_tap (with_taps reached driver need) driver need) waits (with_dro (at + n) wire pins layout) ((with_tap wire pins layout).next) (at + n) =
    subst (λ (ps : List ℕ). GoesOn n first start stage needs (length used) rest (and_tap (with_taps reached driver need) driver need) waits (with_dro (at + n) wire ps layout) ((with_tap wire ps layout).next) (at + n)) (sym behind) done in
    let out = (with_tap wire pins layout).next in
    let agreed : GoesOn n first start stage needs (length used) rest (with_taps reached driver (need + 1)) waits (with_dro (at + n) wire pins layout) out (at + n) = record {
      stands = Stands-agree n first start stage needs (length used) rest (and_tap (with_taps reached driver need) driver need) (with_taps reached driver (need + 1)) (λ w. once w out + waits w)
          (with_dro (at + n) wire pins layout)
          (MarksAgree-all (and_tap (with_taps reached driver need) driver need) (with_taps reached driver (need + 1)) needs (length used) rest (with_taps-plus reached driver need)) moved.stands;
      source = moved.source;
    } in
    let counts : need + suc (suc more) ≡ (need + 1) + suc more = omega arith in
    let level : at + n ≡ s + n * (need + 1) = omega (arith, times-next n need) in
    subst (λ k. Stands n first start stage needs (length used) rest (with_taps reached driver k) waits (with_chain n at wire (taps_from needs (used ++ rest) driver need (suc (suc more))) layout)) (sym counts)
    (Stands-taps n first start stage needs used rest reached waits driver s (need + 1) more out (at + n) (with_dro (at + n) wire pins layout) some none late stages level (counted ∙ counts) agreed)

-- the taps of the drivers that are reached
abbrev pub by_driver : (Driver → Bool) → Marks
by_driver reached = λ driver need. reached driver

-- one driver more is reached
abbrev pub and_driver : (Driver → Bool) → Driver → (Driver → Bool)
and_driver reached driver = λ other. reached other || same_driver driver other

pub tap_count-late : (needs : List ℕ) (driver : Driver) (pin : ℕ) (used rest : List Driver) → DrivesNone driver used → tap_count needs driver pin (used ++ rest) ≡ tap_count needs driver (pin + length used) rest
tap_count-late needs driver pin [] rest none = let e : pin ≡ pin + 0 = omega arith in ap (λ p. tap_count needs driver p rest) e
tap_count-late needs driver pin (other ∷ used) rest none =
    let e : (pin + 1) + length used ≡ pin + suc (length used) = omega arith in
    let z : max 0 (tap_count needs driver (pin + 1) (used ++ rest)) ≡ tap_count needs driver (pin + 1) (used ++ rest) = omega arith in
    ap (λ b. max (cond b (get_or needs pin 0 + 1) 0) (tap_count needs driver (pin + 1) (used ++ rest))) none.0
    ∙ z ∙ tap_count-late needs driver (pin + 1) used rest none.1
    ∙ ap (λ p. tap_count needs driver p rest) e

-- each pin of the driver has a need below the number of its taps
pub MarksAgree-chain : (needs : List ℕ) (reached : Driver → Bool) (driver : Driver) (total pin : ℕ) (drivers : List Driver) → tap_count needs driver pin drivers ≤ total →
    MarksAgree (with_taps reached driver total) (by_driver (and_driver reached driver)) needs pin drivers
MarksAgree-chain needs reached driver total pin [] few = tt
MarksAgree-chain needs reached driver total pin (other ∷ drivers) few =
    (by (same_driver driver other) (reached other) (λ low. below-true (get_or needs pin 0) total low) few, MarksAgree-chain needs reached driver total (pin + 1) drivers (omega arith))
  where
    by : (same before : Bool) → (get_or needs pin 0 < total → below (get_or needs pin 0) total ≡ true) → max (cond same (get_or needs pin 0 + 1) 0) (tap_count needs driver (pin + 1) drivers) ≤ total →
        (before || same) ≡ (before || (same && below (get_or needs pin 0) total))
    by same true low few = refl
    by true false low few = sym (low (omega arith))
    by false false low few = refl

pub with_taps-none : (reached : Driver → Bool) (driver other : Driver) (its : ℕ) → with_taps reached driver 0 other its ≡ by_driver reached other its
with_taps-none reached driver other its = by (reached other) (same_driver driver other)
  where
    by : (before same : Bool) → (before || (same && false)) ≡ before
    by true same = refl
    by false true = refl
    by false false = refl

-- The whole chain of a driver: behind it each pin of the driver waits with its wire.
pub Stands-chain : (n first : ℕ) (start : Wires ℕ) (stage : Driver → ℕ → ℕ) (needs : List ℕ) (used rest : List Driver) (reached : Driver → Bool) (waits : ℕ → ℕ)
    (driver : Driver) (s wire : ℕ) (layout : Layout) →
    1 ≤ n →
    DrivesNone driver used →
    ((other : Driver) → same_driver driver other ≡ true → reached other ≡ false) →
    ((other : Driver) (its : ℕ) → same_driver driver other ≡ true → stage other its ≡ s + n * its) →
    1 ≤ tap_count needs driver 0 (used ++ rest) →
    GoesOn n first start stage needs (length used) rest (by_driver reached) waits layout wire s →
    Stands n first start stage needs (length used) rest (by_driver (and_driver reached driver)) waits (with_chain n s wire (taps_at needs (used ++ rest) driver) layout)
Stands-chain n first start stage needs used rest reached waits driver s wire layout some none late stages taps h =
    by (tap_count needs driver 0 (used ++ rest)) refl
  where
    by : (count : ℕ) → tap_count needs driver 0 (used ++ rest) ≡ count →
        Stands n first start stage needs (length used) rest (by_driver (and_driver reached driver)) waits (with_chain n s wire (taps_from needs (used ++ rest) driver 0 count) layout)
    by zero e = absurd (omega arith)
    by (suc more) e =
        let z : s ≡ s + n * 0 = omega arith in
        let same : 0 + suc more ≡ suc more = omega arith in
        let begun : GoesOn n first start stage needs (length used) rest (with_taps reached driver 0) waits layout wire s = record {
          stands = Stands-agree n first start stage needs (length used) rest (by_driver reached) (with_taps reached driver 0) (λ w. once w wire + waits w) layout
              (MarksAgree-all (by_driver reached) (with_taps reached driver 0) needs (length used) rest (with_taps-none reached driver)) h.stands;
          source = h.source;
        } in
        let done = Stands-taps n first start stage needs used rest reached waits driver s 0 more wire s layout some none late stages z (e ∙ sym same) begun in
        let few : tap_count needs driver (length used) rest ≤ 0 + suc more =
        let f = tap_count-late needs driver 0 used rest none in let y : 0 + length used ≡ length used = omega arith in let g = ap (λ p. tap_count needs driver p rest) y in omega (arith, f, g, e) in
        Stands-agree n first start stage needs (length used) rest (with_taps reached driver (0 + suc more)) (by_driver (and_driver reached driver)) waits (with_chain n s wire (taps_from needs (used ++ rest) driver 0 (suc more)) layout)
        (MarksAgree-chain needs reached driver (0 + suc more) (length used) rest few) done
