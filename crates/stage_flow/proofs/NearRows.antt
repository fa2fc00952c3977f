-- What rows have of arcs: the entry of an arc at one of its vertices tells the whole arc, and leads away from that vertex.
use Rattle.std.proofs.Common.{◌≡◌, ◌≢◌, ◌<◌, ◌≤◌, ◌+◌, ◌-◌, ◌*◌, ◌/◌, ◌%◌, ◌==◌, ◌∙◌, ◌-ℤ◌, ℕ, ℤ, pos, Bool, true, false, cond, List, [], ◌∷◌, length, get_or, map, nat_lt, All, Contains, refl, ap, sym, subst, arith}
use Rattle.std.specs.List.{range_with_len}
use Rattle.std.proofs.lemmas.Bool.Decides.{nat_tests}
use Rattle.std.proofs.lemmas.List.Elements.{All-nil, All-cons, All-head, All-tail, All-map, All-filter, All-contains, All-contains_itself, filter_passes}
use Rattle.flow_net.specs.declared.net.Pin.{Pin}
use Rattle.flow_net.specs.declared.net.Net.{Net}
use Rattle.flow_net.specs.Arcs.{Arc, arcs_of}
use Rattle.stage_flow.specs.declared.ways.Near.{Near}
use Rattle.stage_flow.specs.Residual.{vertex_count}
use Rattle.stage_flow.specs.Given.{IsNetwork, touches, arcs_at, number_of, weight_of, length_of, near_arc, arc_by_end, IsRow, AreIncidences}
use Rattle.stage_flow.specs.Search.{AreNumbers, numbers_at, arc_by, pin_at, arc_at, near_of, row_of}
use Rattle.stage_flow.proofs.Linked.{IsUpward}
use Rattle.stage_flow.proofs.ResidualArcs.{All-arcs_by}
use Rattle.stage_flow.proofs.ProgressNetworks.{upward, light}
use Rattle.stage_flow.proofs.Units.{arc-low}
use Rattle.stage_flow.proofs.SendingArcs.{arc_at-is}
use Rattle.stage_flow.proofs.IncidenceRows.{Laid, laid-many, laid-row}

-- ---- How an entry is made
-- An entry by the ends of an arc, as they are read off the arc's pin.
pub near-read : (net : Net) (vertex number other : ℕ) (pin : Pin) (ends : ℕ × ℕ) (even : Bool) → (number % 2 == 0) ≡ even → pin_at net (number / 2) ≡ pin → ends ≡ ((arc_by even net pin number).tail, (arc_by even net pin number).head)
    → other ≡ cond (ends.0 == vertex) ends.1 ends.0 → ◌≡◌ {A = Near} (record { other = other; code = 2 * number + pin.weight }) (near_of net vertex number)
near-read net vertex number other pin ends even test is read at =
    ap (λ k. build k (2 * number + pin.weight))
    (at
    ∙ ap (λ (pair : ℕ × ℕ). cond (pair.0 == vertex) pair.1 pair.0) read
    ∙ ap (λ b. other_of (arc_by b net pin number)) (sym test)
    ∙ ap (λ (p : Pin). other_of (arc_by (number % 2 == 0) net p number)) (sym is))
    ∙ ap (λ (p : Pin). build (other_of (arc_at net number)) (2 * number + p.weight)) (sym is)
  where
    build : ℕ → ℕ → Near
    build other code = record { other = other; code = code }

    other_of : Arc → ℕ
    other_of arc = cond (arc.tail == vertex) arc.head arc.tail

-- ---- What an entry tells
-- Arcs lead from the lesser vertex to the greater.
arcs-upward : (net : Net) → IsNetwork net → All (λ (arc : Arc). arc.tail < arc.head) (arcs_of net)
arcs-upward net is =
    All-arcs_by (λ arc. Unit {0}) (λ arc. arc.tail < arc.head) (IsUpward net) net
    (λ at pin up forward back. (up.upward, omega (arith, up.laid.ends)))
    0 net.pins (upward net is) (λ k d within. tt)

-- An entry that has the other vertex, the number and the length of an arc at a vertex stands for it.
decoded : (vertex : ℕ) (arc : Arc) (near : Near) → arc.tail < arc.head → touches vertex arc ≡ true → near.other ≡ cond (arc.tail == vertex) arc.head arc.tail → number_of near ≡ arc.number → length_of near ≡ arc.length
    → (near_arc vertex near ≡ arc) × (near.other ≢ vertex)
decoded vertex arc near up at other number long = by (arc.tail == vertex) refl
  where
    build : ℕ → ℕ → ℤ → ℕ → Arc
    build tail head long number = record { tail = tail; head = head; length = long; number = number }

    whole : (tail head : ℕ) → tail ≡ arc.tail → head ≡ arc.head → build tail head (length_of near) (number_of near) ≡ arc
    whole tail head tails heads =
        ap (λ t. build t head (length_of near) (number_of near)) tails
        ∙ ap (λ h. build arc.tail h (length_of near) (number_of near)) heads
        ∙ ap (λ l. build arc.tail arc.head l (number_of near)) long
        ∙ ap (λ n. build arc.tail arc.head arc.length n) number

    by : (begins : Bool) → (arc.tail == vertex) ≡ begins → (near_arc vertex near ≡ arc) × (near.other ≢ vertex)
    by true e =
        let tail : arc.tail ≡ vertex = grind (arith, nat_tests) in
        let head : near.other ≡ arc.head = other ∙ ap (λ b. cond b arc.head arc.tail) e in
        let test : nat_lt near.other vertex ≡ false = grind (arith, nat_tests) in
        (ap (λ b. arc_by_end b vertex near) test ∙ whole vertex near.other (sym tail) head, λ same. omega (arith, tail, head, same, up))
    by false e =
        let head : arc.head ≡ vertex = grind (arith, nat_tests) in
        let tail : near.other ≡ arc.tail = other ∙ ap (λ b. cond b arc.head arc.tail) e in
        let test : nat_lt near.other vertex ≡ true = grind (arith, nat_tests) in
        (ap (λ b. arc_by_end b vertex near) test ∙ whole near.other vertex tail (sym head), λ same. omega (arith, tail, head, same, up))

-- The length of an arc, by the entry of a row.
long-by : (net : Net) (number : ℕ) (near : Near) → number_of near ≡ number → weight_of near ≡ (pin_at net (number / 2)).weight → length_of near ≡ (arc_at net number).length
long-by net number near same weight =
    ap (λ n. cond (n % 2 == 0) (pos (weight_of near)) (pos 0 -ℤ pos (weight_of near))) same
    ∙ ap (λ w. cond (number % 2 == 0) (pos w) (pos 0 -ℤ pos w)) weight
    ∙ by (number % 2 == 0)
  where
    by : (even : Bool) → cond even (pos (pin_at net (number / 2)).weight) (pos 0 -ℤ pos (pin_at net (number / 2)).weight) ≡ (arc_by even net (pin_at net (number / 2)) number).length
    by true = refl
    by false = refl

-- the entry of an arc in a vertex' row stands for that arc, and leads away from the vertex
abbrev Tells : Net → ℕ → Arc → Type 0
Tells net vertex arc = (near_arc vertex (near_of net vertex arc.number) ≡ arc) × ((near_of net vertex arc.number).other ≢ vertex)

-- It does for each arc that begins or ends there,
tells : (net : Net) → IsNetwork net → (vertex : ℕ) (arc : Arc) → Contains (arcs_of net) arc → touches vertex arc ≡ true → Tells net vertex arc
tells net is vertex arc there at =
    let near : Near = near_of net vertex arc.number in
    let pin : Pin = pin_at net (arc.number / 2) in
    let same = arc_at-is net arc there in
    let weight : pin.weight ≤ 1 = light net is (arc.number / 2) (record { driver = 0; from = 0; to = 0; weight = 0 }) (arc-low net arc there) in
    let number : number_of near ≡ arc.number = omega (arith, weight) in
    let own : weight_of near ≡ pin.weight = omega (arith, weight) in
    decoded vertex arc near (All-contains (λ (one : Arc). one.tail < one.head) (arcs_of net) arc (arcs-upward net is) there) at
    (ap (λ (one : Arc). cond (one.tail == vertex) one.head one.tail) same)
    number
    (long-by net arc.number near number own ∙ ap (λ (one : Arc). one.length) same)

-- so for all arcs at the vertex.
all-tell : (net : Net) → IsNetwork net → (vertex : ℕ) → All (Tells net vertex) (arcs_at net vertex)
all-tell net is vertex k d within =
    tells net is vertex (get_or (arcs_at net vertex) k d)
    (All-filter (touches vertex) (Contains (arcs_of net)) (arcs_of net) (All-contains_itself (arcs_of net)) k d within)
    (filter_passes (touches vertex) (arcs_of net) k d within)

map-tells : (net : Net) (vertex : ℕ) (arcs : List Arc) → All (Tells net vertex) arcs → map (near_arc vertex) (map (near_of net vertex) (map (λ (arc : Arc). arc.number) arcs)) ≡ arcs
map-tells net vertex [] all = refl
map-tells net vertex (arc ∷ arcs) all =
    ap (λ one. one ∷ map (near_arc vertex) (map (near_of net vertex) (map (λ (each : Arc). each.number) arcs))) (All-head (Tells net vertex) arc arcs all).0
    ∙ ap (λ rest. arc ∷ rest) (map-tells net vertex arcs (All-tail (Tells net vertex) arc arcs all))

all-apart : (net : Net) (vertex : ℕ) (arcs : List Arc) → All (Tells net vertex) arcs → All (λ (near : Near). near.other ≢ vertex) (map (near_of net vertex) (map (λ (arc : Arc). arc.number) arcs))
all-apart net vertex [] all = All-nil (λ (near : Near). near.other ≢ vertex)
all-apart net vertex (arc ∷ arcs) all =
    All-cons (λ (near : Near). near.other ≢ vertex) (near_of net vertex arc.number) (map (near_of net vertex) (map (λ (each : Arc). each.number) arcs))
    (All-head (Tells net vertex) arc arcs all).1
    (all-apart net vertex arcs (All-tail (Tells net vertex) arc arcs all))

-- ---- Rows
-- the row that is wanted at each vertex, by lists of numbers
abbrev pub wanted_rows : Net → List (List ℕ) → ℕ → List Near
wanted_rows net lists vertex = map (near_of net vertex) (get_or lists vertex [])

-- Rows that are laid so stand for the arcs at each vertex.
pub laid-stand : (net : Net) (lists : List (List ℕ)) (many : ℕ) (starts : List ℕ) (entries : List Near) → IsNetwork net → AreNumbers net lists → many ≡ length lists → Laid (wanted_rows net lists) many starts entries
    → AreIncidences net (map (row_of starts entries) (range_with_len 0 (length starts - 1)))
laid-stand net lists many starts entries is numbers all laid =
    let rows : List (List Near) = map (row_of starts entries) (range_with_len 0 (length starts - 1)) in
    let row : (vertex : ℕ) → vertex < vertex_count net → get_or rows vertex [] ≡ map (near_of net vertex) (numbers_at net vertex) =
    (λ vertex low. laid-row (wanted_rows net lists) many starts entries laid vertex (omega (arith, low, all, numbers.each)) ∙ ap (map (near_of net vertex)) (numbers.at vertex low)) in
    record {
      each = laid-many (wanted_rows net lists) many starts entries laid ∙ all ∙ numbers.each;
      at = λ vertex low. subst (IsRow net vertex) (sym (row vertex low)) (record {
        arcs = map-tells net vertex (arcs_at net vertex) (all-tell net is vertex);
        apart = all-apart net vertex (arcs_at net vertex) (all-tell net is vertex);
      });
    }

-- Each number at a vertex leads to a pin.
pub numbers-low : (net : Net) (vertex : ℕ) → All (λ number. number / 2 < length net.pins) (numbers_at net vertex)
numbers-low net vertex =
    All-map (λ number. number / 2 < length net.pins) (λ (arc : Arc). arc.number) (arcs_at net vertex)
    (λ k d within. arc-low net (get_or (arcs_at net vertex) k d) (All-filter (touches vertex) (Contains (arcs_of net)) (arcs_of net) (All-contains_itself (arcs_of net)) k d within))
