-- A chain hands the driver of its wire to all its taps: each DRO passes its driver on.
use Rattle.std.proofs.Common.{◌≡◌, ◌≤◌, ℕ, zero, suc, ◌+◌, ◌-◌, ◌*◌, Bool, true, false, ◌&&◌, ◌==◌, List, [], ◌∷◌, ◌++◌, length, get_or, drop, refl, ap, sym, subst, ◌∙◌, arith}
use Rattle.std.proofs.lemmas.Bool.{true≢false}
use Rattle.std.specs.Prelude.{Some, slice_index}
use Rattle.cell_lib.specs.declared.cell.Cell.TheVariants.{Dro}
use Rattle.gate_net.specs.declared.row.Driver.{Driver}
use Rattle.gate_net.specs.declared.row.Driver.TheVariants.{Input}
use Rattle.gate_net.specs.Rows.{same_driver}
use Rattle.gate_net.proofs.CallerLemmas.{same_driver-decides}
use Rattle.pulse_net.specs.declared.net.Element.{Element}
use Rattle.pulse_net.specs.declared.net.Element.TheVariants.{Clocked}
use Rattle.pulse_net.specs.Wires.{Wires, found}
use Rattle.pulse_net.specs.Unfolding.{Unfolding, driver_of, unfold_element, unfold_elements}
use Rattle.pulse_net.proofs.CallerLemmas.{carried-found, unfold_elements-append, with_wire-keeps, with_wire-found}
use Rattle.splitters.specs.Spread.{spread_lines, spread_wires}
use Rattle.splitters.specs.Elements.{Layout, take_wires, with_cell, with_last, with_tap, with_dro, with_chain}
use Rattle.splitters.specs.Taps.{takers, tap_count, taps_from, taps_at}
use Rattle.splitters.proofs.Trees.{length-spread_wires}
use Rattle.splitters.proofs.valid.Pins.{Marks, AreStaged, MarksAgree, MarksAgree-all, AreStaged-agree, and_tap, IsNew, AreStaged-held, length-taken}
use Rattle.splitters.proofs.tapped.Takers.{DrivesNone, takers-last}
use Rattle.splitters.proofs.valid.Chains.{takers-behind, with_taps, with_taps-new, with_taps-plus, with_taps-none, by_driver, and_driver, tap_count-late, MarksAgree-chain}
use Rattle.splitters.proofs.unfolds.Wires.{Keeps, IsFresh, with_wire-fresh, AreKept, AreKept-then, IsHanded, IsHanded-tree}

-- what is known behind the elements so far
abbrev pub so_far : Unfolding → Layout → Unfolding
so_far start layout = unfold_elements layout.elements start

-- what a tap carries: its driver, at each need
abbrev pub its_driver : Driver → ℕ → Driver
its_driver driver need = driver

-- What a part of the layout drives: of the pins from a number on, those whose taps are laid out take a wire of their driver.
pub record Drives (start : Unfolding) (needs : List ℕ) (pin : ℕ) (rest : List Driver) (marks : Marks) (layout : Layout) : Type 0 where
  pub fresh : IsFresh layout.next (so_far start layout).wires
  pub driven : AreStaged (so_far start layout).wires its_driver marks needs layout.taken pin rest
  pub room : pin + length rest ≤ length layout.taken

pub Drives-agree : (start : Unfolding) (needs : List ℕ) (pin : ℕ) (rest : List Driver) (marks others : Marks) (layout : Layout) →
    MarksAgree marks others needs pin rest → Drives start needs pin rest marks layout → Drives start needs pin rest others layout
Drives-agree start needs pin rest marks others layout same h = record {
  fresh = h.fresh;
  driven = AreStaged-agree (so_far start layout).wires its_driver marks others needs layout.taken pin rest same h.driven;
  room = h.room;
}

pub AreStaged-keep : (made more : Wires Driver) (marks : Marks) (needs taken : List ℕ) (pin : ℕ) (drivers : List Driver) → Keeps made more →
    AreStaged made its_driver marks needs taken pin drivers → AreStaged more its_driver marks needs taken pin drivers
AreStaged-keep made more marks needs taken pin [] keeps h = tt
AreStaged-keep made more marks needs taken pin (driver ∷ drivers) keeps h =
    (λ e. keeps (get_or taken pin 0) driver (h.0 e), AreStaged-keep made more marks needs taken (pin + 1) drivers keeps h.1)

-- a step of the layout: what it drives then, and what it keeps
pub record Step (start : Unfolding) (needs : List ℕ) (pin : ℕ) (rest : List Driver) (marks : Marks) (layout later : Layout) : Type 0 where
  pub drives : Drives start needs pin rest marks later
  pub kept : AreKept (so_far start layout) (so_far start later)

-- a step to a wire with this driver, from which the chain goes on
record GoesOn (start : Unfolding) (needs : List ℕ) (pin : ℕ) (rest : List Driver) (marks : Marks) (layout later : Layout) (wire : ℕ) (driver : Driver) : Type 0 where
  step : Step start needs pin rest marks layout later
  source : found (so_far start later).wires wire ≡ Some driver

same-its : (driver : Driver) (need : ℕ) (other : Driver) (its : ℕ) → (same_driver driver other && (its == need)) ≡ true → other ≡ driver
same-its driver need other its = by (same_driver driver other) (λ e. sym ((same_driver-decides driver other).0 e))
  where
    by : (same : Bool) → (same ≡ true → other ≡ driver) → (same && (its == need)) ≡ true → other ≡ driver
    by true equal h = equal refl
    by false equal h = absurd (true≢false (sym h))

-- a wire is spread over its targets, `targets` of them
spread-handed : (start : Unfolding) (elements : List Element) (next wire targets : ℕ) (driver : Driver) → 1 ≤ targets →
    IsFresh next (unfold_elements elements start).wires → found (unfold_elements elements start).wires wire ≡ Some driver →
    IsHanded (unfold_elements elements start) (unfold_elements (elements ++ spread_lines wire next targets) start) (next + 2 * (targets - 1)) driver (spread_wires wire next targets)
spread-handed start elements next wire targets driver some fresh h =
    subst (λ (later : Unfolding). IsHanded (unfold_elements elements start) later (next + 2 * (targets - 1)) driver (spread_wires wire next targets)) (sym (unfold_elements-append elements (spread_lines wire next targets) start))
    (IsHanded-tree targets targets (unfold_elements elements start) wire next driver (omega arith) some fresh h)

-- The last tap: its wire is spread over its pins.
Drives-last : (start : Unfolding) (needs : List ℕ) (pin : ℕ) (rest : List Driver) (marks : Marks) (layout : Layout) (driver : Driver) (need wire : ℕ) →
    Drives start needs pin rest marks layout → found (so_far start layout).wires wire ≡ Some driver → IsNew marks driver need → 1 ≤ length (takers needs driver need pin rest) →
    Step start needs pin rest (and_tap marks driver need) layout (with_last wire (takers needs driver need pin rest) layout)
Drives-last start needs pin rest marks layout driver need wire h source new some =
    let pins = takers needs driver need pin rest in
    let wires = spread_wires wire layout.next (length pins) in
    let handed = spread-handed start layout.elements layout.next wire (length pins) driver some h.fresh source in
    let made = (so_far start (with_last wire pins layout)).wires in
    let each : length wires ≡ length pins = length-spread_wires wire layout.next (length pins) in
    record {
      drives = record {
        fresh = handed.fresh;
        driven = AreStaged-held made its_driver marks needs driver need driver pin rest wires layout.taken (same-its driver need) new each h.room handed.handed
            (AreStaged-keep (so_far start layout).wires made marks needs layout.taken pin rest handed.kept.wires h.driven);
        room = let e = length-taken pins wires layout.taken in let r = h.room in omega (arith, e, r);
      };
      kept = handed.kept;
    }

-- A DRO behind what stands so far makes the next wire with the driver of its pin.
dro-passes : (start : Unfolding) (elements : List Element) (next stage head : ℕ) (driver : Driver) →
    IsFresh next (unfold_elements elements start).wires → found (unfold_elements elements start).wires head ≡ Some driver →
    IsHanded (unfold_elements elements start) (unfold_elements (elements ++ Clocked Dro stage (head ∷ []) next ∷ []) start) (next + 1) driver (next ∷ [])
dro-passes start elements next stage head driver fresh h =
    let so = unfold_elements elements start in
    let d = driver_of so.wires head in
    let hands : d ≡ driver = carried-found (Input 0) so.wires head driver h in
    let passed : IsHanded so (unfold_element (Clocked Dro stage (head ∷ []) next) so) (next + 1) driver (next ∷ []) = record {
      fresh = with_wire-fresh so.wires next d fresh;
      handed = (with_wire-found so.wires next d (fresh next (omega arith)) ∙ ap Some hands, tt);
      kept = record { wires = with_wire-keeps so.wires next d; gates = refl; stages = refl };
    } in
    subst (λ (later : Unfolding). IsHanded so later (next + 1) driver (next ∷ [])) (sym (unfold_elements-append elements (Clocked Dro stage (head ∷ []) next ∷ []) start)) passed

-- A tap where the chain goes on, where the wires of the targets are given: the first is the next DRO's.
GoesOn-wires : (start : Unfolding) (needs : List ℕ) (pin : ℕ) (rest : List Driver) (marks : Marks) (layout : Layout) (elements : List Element) (next : ℕ) (driver : Driver) (need stage : ℕ) (wires : List ℕ) →
    IsNew marks driver need → Drives start needs pin rest marks layout → length wires ≡ length (takers needs driver need pin rest) + 1 →
    IsHanded (so_far start layout) (unfold_elements elements start) next driver wires →
    GoesOn start needs pin rest (and_tap marks driver need) layout
    (with_cell Dro stage (slice_index wires 0 ∷ []) (record { next = next; elements = elements; taken = take_wires (takers needs driver need pin rest) (drop 1 wires) layout.taken }))
    next driver
GoesOn-wires start needs pin rest marks layout elements next driver need stage [] new h each handed = absurd (omega arith)
GoesOn-wires start needs pin rest marks layout elements next driver need stage (head ∷ wires) new h each handed =
    let pins = takers needs driver need pin rest in
    let few : length wires ≡ length pins = omega arith in
    let passed = dro-passes start elements next stage head driver handed.fresh handed.handed.0 in
    let before = unfold_elements elements start in
    let behind = unfold_elements (elements ++ Clocked Dro stage (head ∷ []) next ∷ []) start in
    record {
      step = record {
        drives = record {
          fresh = passed.fresh;
          driven = AreStaged-keep before.wires behind.wires (and_tap marks driver need) needs (take_wires pins wires layout.taken) pin rest passed.kept.wires
              (AreStaged-held before.wires its_driver marks needs driver need driver pin rest wires layout.taken (same-its driver need) new few h.room handed.handed.1
              (AreStaged-keep (so_far start layout).wires before.wires marks needs layout.taken pin rest handed.kept.wires h.driven));
          room = let e = length-taken pins wires layout.taken in let r = h.room in omega (arith, e, r);
        };
        kept = AreKept-then (so_far start layout) before behind handed.kept passed.kept;
      };
      source = passed.handed.0;
    }

Drives-dro : (start : Unfolding) (needs : List ℕ) (pin : ℕ) (rest : List Driver) (marks : Marks) (layout : Layout) (driver : Driver) (need stage wire : ℕ) →
    Drives start needs pin rest marks layout → found (so_far start layout).wires wire ≡ Some driver → IsNew marks driver need →
    GoesOn start needs pin rest (and_tap marks driver need) layout (with_dro stage wire (takers needs driver need pin rest) layout) ((with_tap wire (takers needs driver need pin rest) layout).next) driver
Drives-dro start needs pin rest marks layout driver need stage wire h source new =
    let targets = length (takers needs driver need pin rest) + 1 in
    GoesOn-wires start needs pin rest marks layout (layout.elements ++ spread_lines wire layout.next targets) (layout.next + 2 * (targets - 1)) driver need stage
    (spread_wires wire layout.next targets) new h (length-spread_wires wire layout.next targets)
    (spread-handed start layout.elements layout.next wire targets driver (omega arith) h.fresh source)

pub Step-then : (start : Unfolding) (needs : List ℕ) (pin : ℕ) (rest : List Driver) (marks : Marks) (layout later last : Layout) →
    AreKept (so_far start layout) (so_far start later) → Step start needs pin rest marks later last → Step start needs pin rest marks layout last
Step-then start needs pin rest marks layout later last before h = record { drives = h.drives; kept = AreKept-then (so_far start layout) (so_far start later) (so_far start last) before h.kept }

pub Step-agree : (start : Unfolding) (needs : List ℕ) (pin : ℕ) (rest : List Driver) (marks others : Marks) (layout later : Layout) →
    MarksAgree marks others needs pin rest → Step start needs pin rest marks layout later → Step start needs pin rest others layout later
Step-agree start needs pin rest marks others layout later same h = record { drives = Drives-agree start needs pin rest marks others later same h.drives; kept = h.kept }

-- The chain of a driver, whose taps behind `need` are still to be laid out.
Drives-taps : (start : Unfolding) (needs : List ℕ) (used rest : List Driver) (reached : Driver → Bool) (driver : Driver) (n need more wire at : ℕ) (layout : Layout) →
    DrivesNone driver used →
    ((other : Driver) → same_driver driver other ≡ true → reached other ≡ false) →
    tap_count needs driver 0 (used ++ rest) ≡ need + suc more →
    Drives start needs (length used) rest (with_taps reached driver need) layout →
    found (so_far start layout).wires wire ≡ Some driver →
    Step start needs (length used) rest (with_taps reached driver (need + suc more)) layout (with_chain n at wire (taps_from needs (used ++ rest) driver need (suc more)) layout)
Drives-taps start needs used rest reached driver n need zero wire at layout none late counted h source =
    let pin = length used in
    let behind = takers-behind needs driver need used rest none in
    let next : need + 1 ≡ suc need = omega arith in
    let last : 1 ≤ length (takers needs driver need 0 (used ++ rest)) = takers-last needs driver need 0 (used ++ rest) (counted ∙ next) in
    let done = Drives-last start needs pin rest (with_taps reached driver need) layout driver need wire h source (with_taps-new reached driver need late)
    (subst (λ (ps : List ℕ). 1 ≤ length ps) behind last) in
    subst (λ (ps : List ℕ). Step start needs pin rest (with_taps reached driver (need + 1)) layout (with_last wire ps layout)) (sym behind)
    (Step-agree start needs pin rest (and_tap (with_taps reached driver need) driver need) (with_taps reached driver (need + 1)) layout (with_last wire (takers needs driver need pin rest) layout)
    (MarksAgree-all (and_tap (with_taps reached driver need) driver need) (with_taps reached driver (need + 1)) needs pin rest (with_taps-plus reached driver need)) done)
Drives-taps start needs used rest reached driver n need (suc more) wire at layout none late counted h source =
    let pin = length used in
    let pins = takers needs driver need 0 (used ++ rest) in
    let behind = takers-behind needs driver need used rest none in
    let marks = and_tap (with_taps reached driver need) driver need in
    let done = Drives-dro start needs pin rest (with_taps reached driver need) layout driver need (at + n) wire h source (with_taps-new reached driver need late) in
    let moved : GoesOn start needs pin rest marks layout (with_dro (at + n) wire pins layout) ((with_tap wire pins layout).next) driver =
    subst (λ (ps : List ℕ). GoesOn start needs pin rest marks layout (with_dro (at + n) wire ps layout) ((with_tap wire ps layout).next) driver) (sym behind) done in
    let later = with_dro (at + n) wire pins layout in
    let agreed = Drives-agree start needs pin rest marks (with_taps reached driver (need + 1)) later
    (MarksAgree-all marks (with_taps reached driver (need + 1)) needs pin rest (with_taps-plus reached driver need)) moved.step.drives in
    let counts : need + suc (suc more) ≡ (need + 1) + suc more = omega arith in
    let last = with_chain n at wire (taps_from needs (used ++ rest) driver need (suc (suc more))) layout in
    subst (λ k. Step start needs pin rest (with_taps reached driver k) layout last) (sym counts)
    (Step-then start needs pin rest (with_taps reached driver ((need + 1) + suc more)) layout later last moved.step.kept
    (Drives-taps start needs used rest reached driver n (need + 1) more ((with_tap wire pins layout).next) (at + n) later none late (counted ∙ counts) agreed moved.source))

-- The whole chain of a driver: behind it each pin of the driver takes a wire of it.
pub Drives-chain : (start : Unfolding) (needs : List ℕ) (used rest : List Driver) (reached : Driver → Bool) (driver : Driver) (n stage wire : ℕ) (layout : Layout) →
    DrivesNone driver used →
    ((other : Driver) → same_driver driver other ≡ true → reached other ≡ false) →
    1 ≤ tap_count needs driver 0 (used ++ rest) →
    Drives start needs (length used) rest (by_driver reached) layout →
    found (so_far start layout).wires wire ≡ Some driver →
    Step start needs (length used) rest (by_driver (and_driver reached driver)) layout (with_chain n stage wire (taps_at needs (used ++ rest) driver) layout)
Drives-chain start needs used rest reached driver n stage wire layout none late taps h source = by (tap_count needs driver 0 (used ++ rest)) refl
  where
    by : (count : ℕ) → tap_count needs driver 0 (used ++ rest) ≡ count →
        Step start needs (length used) rest (by_driver (and_driver reached driver)) layout (with_chain n stage wire (taps_from needs (used ++ rest) driver 0 count) layout)
    by zero e = absurd (omega arith)
    by (suc more) e =
        let same : 0 + suc more ≡ suc more = omega arith in
        let begun = Drives-agree start needs (length used) rest (by_driver reached) (with_taps reached driver 0) layout
        (MarksAgree-all (by_driver reached) (with_taps reached driver 0) needs (length used) rest (with_taps-none reached driver)) h in
        let done = Drives-taps start needs used rest reached driver n 0 more wire stage layout none late (e ∙ sym same) begun source in
        let few : tap_count needs driver (length used) rest ≤ 0 + suc more =
        let f = tap_count-late needs driver 0 used rest none in let y : 0 + length used ≡ length used = omega arith in let g = ap (λ p. tap_count needs driver p rest) y in omega (arith, f, g, e) in
        Step-agree start needs (length used) rest (with_taps reached driver (0 + suc more)) (by_driver (and_driver reached driver)) layout
        (with_chain n stage wire (taps_from needs (used ++ rest) driver 0 (suc more)) layout)
        (MarksAgree-chain needs reached driver (0 + suc more) (length used) rest few) done
