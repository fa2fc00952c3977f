-- Counting units over a region, a set of vertices. Where no residual arc leaves it, no arc leaves it, and an arc that enters it
-- carries nothing, since its reverse would leave. So over the region as many units leave vertices as enter them. All vertices
-- together are such a region.
use Rattle.std.proofs.Common.{◌≡◌, ◌≢◌, ◌<◌, ◌≤◌, ◌+◌, ◌-◌, ◌*◌, ◌==◌, ◌∙◌, ℕ, zero, suc, Bool, true, false, cond, List, [], ◌∷◌, get_or, All, refl, sym, ap, arith, ⊎_elim}
use Rattle.std.specs.List.{flat_map}
use Rattle.std.proofs.lemmas.Bool.{cases_lt}
use Rattle.std.proofs.lemmas.Bool.Decides.{nat_tests}
use Rattle.std.proofs.lemmas.List.Elements.{All-nil, All-cons, All-head, All-tail, All-weaker}
use Rattle.net_base.proofs.CallerLemmas.{All-left, All-right}
use Rattle.flow_net.specs.declared.net.Pin.{Pin}
use Rattle.flow_net.specs.declared.net.Net.{Net}
use Rattle.flow_net.specs.declared.net.Flow.{Flow}
use Rattle.flow_net.specs.Arcs.{Arc, forward_arc, back_arc, arcs_from, arcs_of}
use Rattle.flow_net.specs.Flows.{units_on, units_out, units_in}
use Rattle.flow_net.proofs.CallerLemmas.{total, below, All-arcs_from, gathered}
use Rattle.stage_flow.specs.Residual.{Way, adding, taking, ways_on, ways_of, vertex_count}
use Rattle.stage_flow.specs.LawsOfSending.{NoneLeaves}
use Rattle.stage_flow.proofs.Linked.{IsUpward}

-- ---- Lists
pub All-flat_map : {X Y : Type 0} (P : Y → Type 0) (f : X → List Y) (xs : List X) → All P (flat_map f xs) → All (λ x. All P (f x)) xs
All-flat_map P f [] all = All-nil (λ x. All P (f x))
All-flat_map P f (x ∷ xs) all =
    All-cons (λ x. All P (f x)) x xs (All-left P (f x) (flat_map f xs) all) (All-flat_map P f xs (All-right P (f x) (flat_map f xs) all))

-- ---- Arcs and pins
-- What holds of all arcs of pins holds of both arcs of each pin, wherever the pin stands, if it doesn't mind where that is.
pub pins-from_arcs : (P : Arc → Type 0) (Q : Pin → Type 0) (net : Net) → ((pin : Pin) (place : ℕ) → P (forward_arc place pin) → P (back_arc net place pin) → Q pin) → (place : ℕ) (pins : List Pin) → All P (arcs_from net place pins) → All Q pins
pins-from_arcs P Q net gives place [] all = All-nil Q
pins-from_arcs P Q net gives place (pin ∷ pins) all =
    let after = All-tail P (forward_arc place pin) (back_arc net place pin ∷ arcs_from net (place + 1) pins) all in
    All-cons Q pin pins
    (gives pin place (All-head P (forward_arc place pin) (back_arc net place pin ∷ arcs_from net (place + 1) pins) all) (All-head P (back_arc net place pin) (arcs_from net (place + 1) pins) after))
    (pins-from_arcs P Q net gives (place + 1) pins (All-tail P (back_arc net place pin) (arcs_from net (place + 1) pins) after))

-- the two vertices of an arc are among the vertices
abbrev pub IsAmong : ℕ → Arc → Type 0
IsAmong vertices arc = (arc.tail < vertices) × (arc.head < vertices)

pub arcs-among : (net : Net) → All (IsUpward net) net.pins → All (IsAmong (vertex_count net)) (arcs_of net)
arcs-among net pins =
    All-arcs_from (IsAmong (vertex_count net)) net 0 net.pins
    (λ k d within at. among (get_or net.pins k d) (pins k d within) at)
  where
    among : (pin : Pin) → IsUpward net pin → (at : ℕ) → IsAmong (vertex_count net) (forward_arc at pin) × IsAmong (vertex_count net) (back_arc net at pin)
    among pin up at =
        let numbered : pin.driver < net.drivers = up.laid.numbered in
        let to : pin.to < net.gates + 2 = up.laid.ends in
        let from : pin.from < pin.to = up.upward in
        ((omega arith, omega arith), (omega arith, omega arith))

-- ---- Units over a region
-- 1 in a region, and 0 outside
abbrev pub one_in : (ℕ → Bool) → ℕ → ℕ
one_in region vertex = cond (region vertex) 1 0

-- an arc carries units only between vertices of the region, or outside it
abbrev pub IsKept : Flow → (ℕ → Bool) → Arc → Type 0
IsKept flow region arc = one_in region arc.tail * units_on flow arc ≡ one_in region arc.head * units_on flow arc

total-same : {X : Type 0} (f g : X → ℕ) (xs : List X) → All (λ x. f x ≡ g x) xs → total f xs ≡ total g xs
total-same f g [] all = refl
total-same f g (x ∷ xs) all = omega (arith, All-head (λ x. f x ≡ g x) x xs all, total-same f g xs (All-tail (λ x. f x ≡ g x) x xs all))

-- So over the region as many units leave vertices as enter them.
pub out_is_in : (net : Net) (flow : Flow) (region : ℕ → Bool) → All (IsUpward net) net.pins → All (IsKept flow region) (arcs_of net) → below (λ v. one_in region v * units_out net flow v) (vertex_count net) ≡ below (λ v. one_in region v * units_in net flow v) (vertex_count net)
out_is_in net flow region pins kept =
    let p = one_in region in
    let arcs = arcs_of net in
    let bound = vertex_count net in
    let low = arcs-among net pins in
    sym (gathered flow p (λ arc. arc.tail) bound arcs (All-weaker (IsAmong bound) (λ arc. arc.tail < bound) (λ arc h. h.0) arcs low))
    ∙ total-same (λ arc. p arc.tail * units_on flow arc) (λ arc. p arc.head * units_on flow arc) arcs kept
    ∙ gathered flow p (λ arc. arc.head) bound arcs (All-weaker (IsAmong bound) (λ arc. arc.head < bound) (λ arc h. h.1) arcs low)

-- Where no residual arc leaves a region, arcs stay in it, and carry nothing into it.
abbrev pub Stays : (ℕ → Bool) → Arc → Type 0
Stays region arc = region arc.tail ≡ true → region arc.head ≡ true

pub ways-stay : (net : Net) (flow : Flow) (region : ℕ → Bool) → NoneLeaves (ways_of net flow) region → All (Stays region) (arcs_of net)
ways-stay net flow region none =
    All-weaker (λ arc. All (λ (way : Way). region way.tail ≡ true → region way.head ≡ true) (ways_on flow arc)) (Stays region)
    (λ arc ways. All-head (λ (way : Way). region way.tail ≡ true → region way.head ≡ true) (adding arc) (cond (units_on flow arc == 0) [] (taking arc ∷ [])) ways)
    (arcs_of net) (All-flat_map (λ (way : Way). region way.tail ≡ true → region way.head ≡ true) (ways_on flow) (arcs_of net) none)

not_none : (units : ℕ) → (suc units == 0) ≡ false
not_none units = grind (arith, nat_tests)

kept_by : (units : ℕ) (b c : Bool) → (b ≡ true → c ≡ true) → ((units == 0) ≡ false → c ≡ true → b ≡ true) → cond b 1 0 * units ≡ cond c 1 0 * units
kept_by units true true on back = refl
kept_by units false false on back = refl
kept_by units true false on back = let e = on refl in absurd (cc)
kept_by zero false true on back = refl
kept_by (suc units) false true on back = let e = back (not_none units) refl in absurd (cc)

pub ways-kept : (net : Net) (flow : Flow) (region : ℕ → Bool) → NoneLeaves (ways_of net flow) region → All (IsKept flow region) (arcs_of net)
ways-kept net flow region none =
    All-weaker (λ arc. All P (ways_on flow arc)) (IsKept flow region)
    (λ arc ways.
    let rest = All-tail P (adding arc) (cond (units_on flow arc == 0) [] (taking arc ∷ [])) ways in
    kept_by (units_on flow arc) (region arc.tail) (region arc.head)
    (All-head P (adding arc) (cond (units_on flow arc == 0) [] (taking arc ∷ [])) ways)
    (back arc (units_on flow arc == 0) rest))
    (arcs_of net) (All-flat_map P (ways_on flow) (arcs_of net) none)
  where
    P : Way → Type 0
    P way = region way.tail ≡ true → region way.head ≡ true

    back : (arc : Arc) (b : Bool) → All P (cond b [] (taking arc ∷ [])) → b ≡ false → region arc.head ≡ true → region arc.tail ≡ true
    back arc true all some = absurd (cc)
    back arc false all some = All-head P (taking arc) [] all

-- ---- Sums below a bound
pub below-le : (f g : ℕ → ℕ) (n : ℕ) → ((k : ℕ) → k < n → f k ≤ g k) → below f n ≤ below g n
below-le f g zero each = omega arith
below-le f g (suc n) each = omega (arith, each n (omega arith), below-le f g n (λ k low. each k (omega arith)))

-- Two sums of which one is at most the other term by term, and no less as a whole, have the same terms.
pub terms-same : (f g : ℕ → ℕ) (n : ℕ) → ((k : ℕ) → k < n → f k ≤ g k) → below g n ≤ below f n → (k : ℕ) → k < n → f k ≡ g k
terms-same f g zero each whole k low = absurd (omega arith)
terms-same f g (suc n) each whole k low =
    let last = each n (omega arith) in
    let before = below-le f g n (λ j less. each j (omega arith)) in
    ⊎_elim {C = f k ≡ g k}
    (λ less. terms-same f g n (λ j inside. each j (omega arith)) (omega (arith, last)) k less)
    (λ least. let e : k ≡ n = omega arith in let a = ap f e in let b = ap g e in omega (arith, last, before, a, b))
    (cases_lt k n)

-- Of two sums the greater has a greater term.
pub some-less : (f g : ℕ → ℕ) (n : ℕ) → below f n < below g n → (k : ℕ) × (k < n) × (f k < g k)
some-less f g zero less = absurd (omega arith)
some-less f g (suc n) less =
    ⊎_elim {C = (k : ℕ) × (k < suc n) × (f k < g k)}
    (λ last. (n, omega arith, last))
    (λ no_less. let found = some-less f g n (omega arith) in let low = found.1 in (found.0, omega (arith, low), found.2))
    (cases_lt (f n) (g n))

-- One term more by one makes a sum more by one.
pub below-same : (f g : ℕ → ℕ) (n : ℕ) → ((k : ℕ) → k < n → g k ≡ f k) → below g n ≡ below f n
below-same f g zero each = refl
below-same f g (suc n) each = omega (arith, each n (omega arith), below-same f g n (λ k low. each k (omega arith)))

pub below-one_more : (f g : ℕ → ℕ) (n place : ℕ) → place < n → g place ≡ f place + 1 → ((k : ℕ) → k < n → k ≢ place → g k ≡ f k) → below g n ≡ below f n + 1
below-one_more f g zero place low one others = absurd (omega arith)
below-one_more f g (suc n) place low one others =
    ⊎_elim {C = below g (suc n) ≡ below f (suc n) + 1}
    (λ less. omega (arith, below-one_more f g n place less one (λ k within. others k (omega arith)), others n (omega arith) (λ e. omega (arith, e, less))))
    (λ least.
    let e : n ≡ place = omega arith in
    let a = ap f e in
    let b = ap g e in
    omega (arith, a, b, one, below-same f g n (λ k within. others k (omega arith) (λ same. omega (arith, same, within, least)))))
    (cases_lt place n)

pub below-ones : (n : ℕ) → below (λ k. 1) n ≡ n
below-ones zero = refl
below-ones (suc n) = omega (arith, below-ones n)

-- What is left of each term adds up to what is left of the whole.
pub below-left : (f g : ℕ → ℕ) (n : ℕ) → ((k : ℕ) → k < n → f k ≤ g k) → below f n + below (λ k. g k - f k) n ≡ below g n
below-left f g zero each = refl
below-left f g (suc n) each = omega (arith, each n (omega arith), below-left f g n (λ k low. each k (omega arith)))
