-- The pins that wait: those of the taps that are laid out, each with its wire, and how a tap adds its own.
use Rattle.std.proofs.Common.{◌≡◌, ◌≤◌, ◌<◌, ℕ, ◌+◌, Bool, true, false, ◌&&◌, ◌||◌, ◌==◌, List, [], ◌∷◌, length, get_or, set, refl, ap, sym, ◌∙◌, arith, get_or-set_same, get_or-set_other}
use Rattle.std.proofs.lemmas.List.{length-set}
use Rattle.std.proofs.lemmas.Bool.{true≢false}
use Rattle.std.specs.Prelude.{Some, ⊤}
use Rattle.gate_net.specs.declared.row.Driver.{Driver}
use Rattle.gate_net.specs.Rows.{same_driver}
use Rattle.pulse_net.specs.declared.net.Element.{Element}
use Rattle.pulse_net.specs.Wires.{Wires, found, cell_stage}
use Rattle.pulse_net.proofs.CallerLemmas.{after_elements-found}
use Rattle.splitters.specs.Elements.{take_wires}
use Rattle.splitters.specs.Taps.{with_pin, takers}
use Rattle.splitters.proofs.valid.Multiplicity.{once, times, after, AreFound}

-- which taps are laid out: of a driver, by the need of their pins
abbrev pub Marks : Type 0
Marks = Driver → ℕ → Bool

-- the wires of the pins from a number on whose taps are laid out
abbrev pub held : Marks → List ℕ → List ℕ → ℕ → List Driver → List ℕ
held marks needs taken pin [] = []
held marks needs taken pin (driver ∷ drivers) = with_pin (marks driver (get_or needs pin 0)) (get_or taken pin 0) (held marks needs taken (pin + 1) drivers)

-- each of these wires is found, and carries what its tap carries: its stage, say
abbrev pub AreStaged : {A : Type 0} → Wires A → (Driver → ℕ → A) → Marks → List ℕ → List ℕ → ℕ → List Driver → Type 0
AreStaged made stage marks needs taken pin [] = ⊤
AreStaged made stage marks needs taken pin (driver ∷ drivers) =
    (marks driver (get_or needs pin 0) ≡ true → found made (get_or taken pin 0) ≡ Some (stage driver (get_or needs pin 0)))
    × AreStaged made stage marks needs taken (pin + 1) drivers

-- two marks agree on these pins
abbrev pub MarksAgree : Marks → Marks → List ℕ → ℕ → List Driver → Type 0
MarksAgree marks others needs pin [] = ⊤
MarksAgree marks others needs pin (driver ∷ drivers) = (others driver (get_or needs pin 0) ≡ marks driver (get_or needs pin 0)) × MarksAgree marks others needs (pin + 1) drivers

pub MarksAgree-all : (marks others : Marks) (needs : List ℕ) (pin : ℕ) (drivers : List Driver) → ((driver : Driver) (need : ℕ) → others driver need ≡ marks driver need) → MarksAgree marks others needs pin drivers
MarksAgree-all marks others needs pin [] same = tt
MarksAgree-all marks others needs pin (driver ∷ drivers) same = (same driver (get_or needs pin 0), MarksAgree-all marks others needs (pin + 1) drivers same)

pub held-agree : (marks others : Marks) (needs taken : List ℕ) (pin : ℕ) (drivers : List Driver) → MarksAgree marks others needs pin drivers → held others needs taken pin drivers ≡ held marks needs taken pin drivers
held-agree marks others needs taken pin [] same = refl
held-agree marks others needs taken pin (driver ∷ drivers) same =
    let rest = held-agree marks others needs taken (pin + 1) drivers same.1 in
    λ i. with_pin (same.0 i) (get_or taken pin 0) (rest i)

pub AreStaged-agree : {A : Type 0} (made : Wires A) (stage : Driver → ℕ → A) (marks others : Marks) (needs taken : List ℕ) (pin : ℕ) (drivers : List Driver) →
    MarksAgree marks others needs pin drivers → AreStaged made stage marks needs taken pin drivers → AreStaged made stage others needs taken pin drivers
AreStaged-agree made stage marks others needs taken pin [] same h = tt
AreStaged-agree made stage marks others needs taken pin (driver ∷ drivers) same h =
    (λ e. h.0 (sym same.0 ∙ e), AreStaged-agree made stage marks others needs taken (pin + 1) drivers same.1 h.1)

pub AreStaged-stay : (made : Wires ℕ) (elements : List Element) (stage : Driver → ℕ → ℕ) (marks : Marks) (needs taken : List ℕ) (pin : ℕ) (drivers : List Driver) →
    AreStaged made stage marks needs taken pin drivers → AreStaged (after made elements) stage marks needs taken pin drivers
AreStaged-stay made elements stage marks needs taken pin [] h = tt
AreStaged-stay made elements stage marks needs taken pin (driver ∷ drivers) h =
    (λ e. after_elements-found 0 cell_stage made elements (get_or taken pin 0) (stage driver (get_or needs pin 0)) (h.0 e), AreStaged-stay made elements stage marks needs taken (pin + 1) drivers h.1)

-- an earlier pin's wire doesn't matter
held-set : (marks : Marks) (needs taken : List ℕ) (p wire pin : ℕ) (drivers : List Driver) → p < pin → held marks needs (set taken p wire) pin drivers ≡ held marks needs taken pin drivers
held-set marks needs taken p wire pin [] early = refl
held-set marks needs taken p wire pin (driver ∷ drivers) early =
    let here : get_or (set taken p wire) pin 0 ≡ get_or taken pin 0 = get_or-set_other taken p pin wire 0 (λ e. omega arith) in
    let rest = held-set marks needs taken p wire (pin + 1) drivers (omega arith) in
    λ i. with_pin (marks driver (get_or needs pin 0)) (here i) (rest i)

AreStaged-set : {A : Type 0} (made : Wires A) (stage : Driver → ℕ → A) (marks : Marks) (needs taken : List ℕ) (p wire pin : ℕ) (drivers : List Driver) → p < pin →
    AreStaged made stage marks needs taken pin drivers → AreStaged made stage marks needs (set taken p wire) pin drivers
AreStaged-set made stage marks needs taken p wire pin [] early h = tt
AreStaged-set made stage marks needs taken p wire pin (driver ∷ drivers) early h =
    let here : get_or (set taken p wire) pin 0 ≡ get_or taken pin 0 = get_or-set_other taken p pin wire 0 (λ e. omega arith) in
    (λ e. ap (found made) here ∙ h.0 e, AreStaged-set made stage marks needs taken p wire (pin + 1) drivers (omega arith) h.1)

-- pins take their wires and leave those of earlier pins
get_or-taken : (needs : List ℕ) (driver : Driver) (need pin : ℕ) (drivers : List Driver) (wires taken : List ℕ) (p : ℕ) → p < pin →
    get_or (take_wires (takers needs driver need pin drivers) wires taken) p 0 ≡ get_or taken p 0
get_or-taken needs driver need pin [] wires taken p early = refl
get_or-taken needs driver need pin (other ∷ drivers) wires taken p early =
    by (same_driver driver other && (get_or needs pin 0 == need)) wires (λ ws old. get_or-taken needs driver need (pin + 1) drivers ws old p (omega arith))
  where
    by : (here : Bool) (wires : List ℕ) → ((ws old : List ℕ) → get_or (take_wires (takers needs driver need (pin + 1) drivers) ws old) p 0 ≡ get_or old p 0) →
        get_or (take_wires (with_pin here pin (takers needs driver need (pin + 1) drivers)) wires taken) p 0 ≡ get_or taken p 0
    by false wires rest = rest wires taken
    by true [] rest = refl
    by true (wire ∷ wires) rest = rest wires (set taken pin wire) ∙ get_or-set_other taken pin p wire 0 (λ e. omega arith)

-- the taps that are laid out, and one more
abbrev pub and_tap : Marks → Driver → ℕ → Marks
and_tap marks driver need = λ other its. marks other its || (same_driver driver other && (its == need))

-- a tap that isn't laid out yet
abbrev pub IsNew : Marks → Driver → ℕ → Type 0
IsNew marks driver need = (other : Driver) (its : ℕ) → (same_driver driver other && (its == need)) ≡ true → marks other its ≡ false

-- Where the pins of a tap take their wires, these wait beside those that waited.
pub times-held : (marks : Marks) (needs : List ℕ) (driver : Driver) (need pin : ℕ) (drivers : List Driver) (wires taken : List ℕ) (w : ℕ) →
    IsNew marks driver need →
    length wires ≡ length (takers needs driver need pin drivers) → pin + length drivers ≤ length taken →
    times w (held (and_tap marks driver need) needs (take_wires (takers needs driver need pin drivers) wires taken) pin drivers)
    ≡ times w wires + times w (held marks needs taken pin drivers)
times-held marks needs driver need pin [] [] taken w new each room = omega arith
times-held marks needs driver need pin [] (wire ∷ wires) taken w new each room = absurd (omega arith)
times-held marks needs driver need pin (other ∷ drivers) wires taken w new each room =
    by (same_driver driver other && (get_or needs pin 0 == need)) (marks other (get_or needs pin 0)) wires (new other (get_or needs pin 0)) each
    (λ ws old few same. times-held marks needs driver need (pin + 1) drivers ws old w new few (omega (arith, same)))
  where
    by : (here before : Bool) (wires : List ℕ) → (here ≡ true → before ≡ false) → length wires ≡ length (with_pin here pin (takers needs driver need (pin + 1) drivers)) →
        ((ws old : List ℕ) → length ws ≡ length (takers needs driver need (pin + 1) drivers) → length old ≡ length taken →
        times w (held (and_tap marks driver need) needs (take_wires (takers needs driver need (pin + 1) drivers) ws old) (pin + 1) drivers) ≡ times w ws + times w (held marks needs old (pin + 1) drivers)) →
        times w (with_pin (before || here) (get_or (take_wires (with_pin here pin (takers needs driver need (pin + 1) drivers)) wires taken) pin 0) (held (and_tap marks driver need) needs (take_wires (with_pin here pin (takers needs driver need (pin + 1) drivers)) wires taken) (pin + 1) drivers))
        ≡ times w wires + times w (with_pin before (get_or taken pin 0) (held marks needs taken (pin + 1) drivers))
    by false true wires fresh each go =
        let rest = go wires taken each refl in
        let here : once w (get_or (take_wires (takers needs driver need (pin + 1) drivers) wires taken) pin 0) ≡ once w (get_or taken pin 0) = ap (once w) (get_or-taken needs driver need (pin + 1) drivers wires taken pin (omega arith)) in
        omega (arith, rest, here)
    by false false wires fresh each go = go wires taken each refl
    by true true wires fresh each go = let e : true ≡ false = fresh refl in absurd (true≢false e)
    by true false [] fresh each go = absurd (omega arith)
    by true false (wire ∷ wires) fresh each go =
        let rest = go wires (set taken pin wire) (omega arith) (length-set taken pin wire) in
        let here : once w (get_or (take_wires (takers needs driver need (pin + 1) drivers) wires (set taken pin wire)) pin 0) ≡ once w wire =
        ap (once w) (get_or-taken needs driver need (pin + 1) drivers wires (set taken pin wire) pin (omega arith) ∙ get_or-set_same taken pin wire 0 (omega arith)) in
        let kept : times w (held marks needs (set taken pin wire) (pin + 1) drivers) ≡ times w (held marks needs taken (pin + 1) drivers) = ap (times w) (held-set marks needs taken pin wire (pin + 1) drivers (omega arith)) in
        omega (arith, rest, here, kept)

-- And each of them carries what its tap carries, where the spread wires do.
pub AreStaged-held : {A : Type 0} (made : Wires A) (stage : Driver → ℕ → A) (marks : Marks) (needs : List ℕ) (driver : Driver) (need : ℕ) (s : A) (pin : ℕ) (drivers : List Driver) (wires taken : List ℕ) →
    ((other : Driver) (its : ℕ) → (same_driver driver other && (its == need)) ≡ true → stage other its ≡ s) →
    IsNew marks driver need →
    length wires ≡ length (takers needs driver need pin drivers) → pin + length drivers ≤ length taken →
    AreFound made s wires →
    AreStaged made stage marks needs taken pin drivers →
    AreStaged made stage (and_tap marks driver need) needs (take_wires (takers needs driver need pin drivers) wires taken) pin drivers
AreStaged-held made stage marks needs driver need s pin [] wires taken level new each room are h = tt
AreStaged-held made stage marks needs driver need s pin (other ∷ drivers) wires taken level new each room are h =
    by (same_driver driver other && (get_or needs pin 0 == need)) (marks other (get_or needs pin 0)) wires (level other (get_or needs pin 0)) each are h.0
    (λ ws old few same found_all staged. AreStaged-held made stage marks needs driver need s (pin + 1) drivers ws old level new few (omega (arith, same)) found_all staged)
  where
    kept : (before : Bool) → (before || false) ≡ true → before ≡ true
    kept true e = refl
    kept false e = e

    by : (here before : Bool) (wires : List ℕ) → (here ≡ true → stage other (get_or needs pin 0) ≡ s) → length wires ≡ length (with_pin here pin (takers needs driver need (pin + 1) drivers)) →
        AreFound made s wires → (before ≡ true → found made (get_or taken pin 0) ≡ Some (stage other (get_or needs pin 0))) →
        ((ws old : List ℕ) → length ws ≡ length (takers needs driver need (pin + 1) drivers) → length old ≡ length taken → AreFound made s ws → AreStaged made stage marks needs old (pin + 1) drivers →
        AreStaged made stage (and_tap marks driver need) needs (take_wires (takers needs driver need (pin + 1) drivers) ws old) (pin + 1) drivers) →
        ((before || here) ≡ true → found made (get_or (take_wires (with_pin here pin (takers needs driver need (pin + 1) drivers)) wires taken) pin 0) ≡ Some (stage other (get_or needs pin 0)))
        × AreStaged made stage (and_tap marks driver need) needs (take_wires (with_pin here pin (takers needs driver need (pin + 1) drivers)) wires taken) (pin + 1) drivers
    by false before wires staged each are old go = (
      λ e. ap (found made) (get_or-taken needs driver need (pin + 1) drivers wires taken pin (omega arith)) ∙ old (kept before e),
      go wires taken each refl are h.1,
    )
    by true before [] staged each are old go = absurd (omega arith)
    by true before (wire ∷ wires) staged each are old go = (
      λ e. ap (found made) (get_or-taken needs driver need (pin + 1) drivers wires (set taken pin wire) pin (omega arith) ∙ get_or-set_same taken pin wire 0 (omega arith)) ∙ are.0 ∙ ap Some (sym (staged refl)),
      go wires (set taken pin wire) (omega arith) (length-set taken pin wire) are.1
          (AreStaged-set made stage marks needs taken pin wire (pin + 1) drivers (omega arith) h.1),
    )

pub length-taken : (pins wires taken : List ℕ) → length (take_wires pins wires taken) ≡ length taken
length-taken [] wires taken = refl
length-taken (pin ∷ pins) [] taken = refl
length-taken (pin ∷ pins) (wire ∷ wires) taken = length-taken pins wires (set taken pin wire) ∙ length-set taken pin wire
