-- From every vertex a mirror that wants is reached, so there is a receiver. What walks with fewer arcs than there are vertices reach is
-- a region that no residual arc leaves. It holds the vertex that they begin in; and nobody is cut off. So it holds a mirror that wants.
use Rattle.std.proofs.Common.{◌≡◌, ◌<◌, ◌≤◌, ◌+◌, ◌-◌, ◌==◌, ℕ, zero, suc, Bool, true, false, cond, List, [], ◌∷◌, filter, Option, Some, None, is_some, All, refl, ap, subst, arith, ⊎_elim}
use Rattle.std.specs.List.{flat_map, range_with_len}
use Rattle.std.proofs.lemmas.Bool.{cases_lt, false_from_ne_true}
use Rattle.std.proofs.lemmas.List.Elements.{All-nil, All-cons, All-head, All-tail, All-append, All-weaker}
use Rattle.flow_net.specs.declared.net.Net.{Net}
use Rattle.flow_net.specs.declared.net.Flow.{Flow}
use Rattle.flow_net.specs.Network.{network_of}
use Rattle.flow_net.specs.Arcs.{Arc, arcs_of}
use Rattle.flow_net.specs.Flows.{units_on}
use Rattle.stage_flow.specs.Residual.{Way, adding, taking, ways_on, ways_of, vertex_count}
use Rattle.stage_flow.specs.Longest.{Reach, is_better}
use Rattle.stage_flow.specs.Rounds.{Reached, or_better, first_best, best_to, is_wanting, wanting, sender, receiver, flow_after}
use Rattle.stage_flow.specs.LawsOfSending.{IsPartFlow, SomeMirrorWants, SomeVertexHasToSend, MovesAUnit, SendsAUnit, AReceiverIsFound, RoundsMakeAFullFlow}
use Rattle.stage_flow.proofs.Linked.{IsLinked, networks-linked}
use Rattle.stage_flow.proofs.Counting.{IsAmong, arcs-among}
use Rattle.stage_flow.proofs.ReachedByWalks.{none-leaves_reached, reaches-from}
use Rattle.stage_flow.proofs.CutOff.{region-empty}
use Rattle.stage_flow.proofs.Wants.{wanting-mirror, sender-low}
use Rattle.stage_flow.proofs.AllRounds.{rounds-full}
use Rattle.stage_flow.proofs.StillToSend.{sender-found}

-- The residual arcs' heads are among the vertices.
All-joined : {X Y : Type 0} (P : X → Type 0) (Q : Y → Type 0) (f : X → List Y) (xs : List X) → ((x : X) → P x → All Q (f x)) → All P xs → All Q (flat_map f xs)
All-joined P Q f [] each all = All-nil Q
All-joined P Q f (x ∷ xs) each all =
    All-append Q (f x) (flat_map f xs) (each x (All-head P x xs all)) (All-joined P Q f xs each (All-tail P x xs all))

pub ways-among : (net : Net) (flow : Flow) → IsLinked net → All (λ (way : Way). way.head < vertex_count net) (ways_of net flow)
ways-among net flow linked =
    All-joined (IsAmong (vertex_count net)) Low (ways_on flow) (arcs_of net)
    (λ arc among. All-cons Low (adding arc) (cond (units_on flow arc == 0) [] (taking arc ∷ [])) among.1 (back arc among.0 (units_on flow arc == 0)))
    (arcs-among net linked.pins)
  where
    Low : Way → Type 0
    Low way = way.head < vertex_count net

    back : (arc : Arc) → arc.tail < vertex_count net → (b : Bool) → All Low (cond b [] (taking arc ∷ []))
    back arc low true = All-nil Low
    back arc low false = All-cons Low (taking arc) [] low (All-nil Low)

-- Where no best is found, none of the vertices is reached.
none-best : (best : ℕ → Option Reach) (found : Option Reached) (vertices : List ℕ) → is_some (first_best best found vertices) ≡ false → (is_some found ≡ false) × All (λ v. is_some (best v) ≡ false) vertices
none-best best found [] none = (none, All-nil (λ v. is_some (best v) ≡ false))
none-best best found (vertex ∷ vertices) none =
    let rest = none-best best (or_better found vertex (best vertex)) vertices none in
    let here = by found (best vertex) rest.0 in
    (here.0, All-cons (λ v. is_some (best v) ≡ false) vertex vertices here.1 rest.1)
  where
    kept : (c : Bool) (a b : Reached) → is_some (cond c (Some a) (Some b)) ≡ true
    kept true a b = refl
    kept false a b = refl

    by : (found : Option Reached) (reach : Option Reach) → is_some (or_better found vertex reach) ≡ false → (is_some found ≡ false) × (is_some reach ≡ false)
    by found None h = (h, refl)
    by None (Some reach) h = absurd (cc)
    by (Some one) (Some reach) h =
        let some = kept (is_better reach one.reach) (record { vertex = vertex; reach = reach }) one in
        absurd (cc)

-- What holds of all numbers of a range that pass a test holds of each that does.
pub at_passing : (P : ℕ → Type 0) (test : ℕ → Bool) (a n k : ℕ) → All P (filter test (range_with_len a n)) → a ≤ k → k < a + n → test k ≡ true → P k
at_passing P test a zero k all from low passes = absurd (omega arith)
at_passing P test a (suc n) k all from low passes =
    by (test a) refl all (λ rest next. at_passing P test (a + 1) n k rest next (omega arith) passes)
  where
    rest : List ℕ
    rest = filter test (range_with_len (a + 1) n)

    by : (b : Bool) → test a ≡ b → All P (cond b (a ∷ rest) rest) → (All P rest → a + 1 ≤ k → P k) → P k
    by true e all further =
        ⊎_elim {C = P k} (λ less. further (All-tail P a rest all) (omega arith))
        (λ no_less. let same : a ≡ k = omega arith in subst P same (All-head P a rest all)) (cases_lt a k)
    by false e all further =
        ⊎_elim {C = P k} (λ less. further all (omega arith))
        (λ no_less. let same : k ≡ a = omega arith in let clash = ap test same in absurd (cc)) (cases_lt a k)

surely : (b : Bool) → (b ≡ false → ⊥) → b ≡ true
surely true h = refl
surely false h = absurd (h refl)

-- While a mirror wants, some mirror receives what a vertex sends.
pub receiver-found : (net : Net) (flow : Flow) (from : ℕ) → IsLinked net → IsPartFlow net flow → SomeMirrorWants net flow → from < vertex_count net → is_some (receiver net flow from) ≡ true
receiver-found net flow from linked part some low =
    let ways = ways_of net flow in
    let vertices = vertex_count net in
    let heads = ways-among net flow linked in
    let region = λ (v : ℕ). is_some (best_to net flow from v) in
    surely (is_some (receiver net flow from))
    (λ missing.
    let unreached = (none-best (best_to net flow from) None (wanting net flow) missing).1 in
    let empty = region-empty net flow region linked part (none-leaves_reached ways from vertices heads low)
    (λ vertex reached. false_from_ne_true (is_wanting net flow vertex)
    (λ wants.
    let mirror = wanting-mirror net flow vertex wants in
    let high = mirror.1 in
    let e = mirror.2 in
    let not = at_passing (λ v. is_some (best_to net flow from v) ≡ false) (is_wanting net flow) 0 vertices vertex unreached (omega arith) (omega (arith, high, e)) wants in
    absurd (cc)))
    some from low in
    let own = reaches-from ways from vertices heads low (vertices - 1) in
    absurd (cc))

-- What was found first, and what is there of each vertex, is there of the best.
first_best-has : (P : Reached → Type 0) (best : ℕ → Option Reach) (found : Option Reached) (vertices : List ℕ) → ((one : Reached) → found ≡ Some one → P one) → All (λ v. (reach : Reach) → best v ≡ Some reach → P (record { vertex = v; reach = reach })) vertices → (one : Reached) → first_best best found vertices ≡ Some one → P one
first_best-has P best found [] own each one is = own one is
first_best-has P best found (vertex ∷ vertices) own each one is =
    first_best-has P best (or_better found vertex (best vertex)) vertices (by found (best vertex) refl own (All-head Q vertex vertices each))
    (All-tail Q vertex vertices each) one is
  where
    Q : ℕ → Type 0
    Q v = (reach : Reach) → best v ≡ Some reach → P (record { vertex = v; reach = reach })

    either : (c : Bool) (a b : Reached) → P a → P b → (one : Reached) → cond c (Some a) (Some b) ≡ Some one → P one
    either true a b p q one e = let same : a ≡ one = cc in subst P same p
    either false a b p q one e = let same : b ≡ one = cc in subst P same q

    by : (found : Option Reached) (reach : Option Reach) → best vertex ≡ reach → ((one : Reached) → found ≡ Some one → P one) → Q vertex → (one : Reached) → or_better found vertex reach ≡ Some one → P one
    by found None at own here one e = own one e
    by None (Some reach) at own here one e =
        let same : record { vertex = vertex; reach = reach } ≡ one = cc in
        subst P same (here reach at)
    by (Some old) (Some reach) at own here one e =
        either (is_better reach old.reach) (record { vertex = vertex; reach = reach }) old (here reach at) (own old refl) one e

filter-passes : (test : ℕ → Bool) (xs : List ℕ) → All (λ x. test x ≡ true) (filter test xs)
filter-passes test [] = All-nil (λ x. test x ≡ true)
filter-passes test (x ∷ xs) = by (test x) refl (filter-passes test xs)
  where
    by : (b : Bool) → test x ≡ b → All (λ y. test y ≡ true) (filter test xs) → All (λ y. test y ≡ true) (cond b (x ∷ filter test xs) (filter test xs))
    by true e rest = All-cons (λ y. test y ≡ true) x (filter test xs) e rest
    by false e rest = rest

-- The receiver wants, and its reach is the best to it.
pub receiver-wants : (net : Net) (flow : Flow) (from : ℕ) (found : Reached) → receiver net flow from ≡ Some found → (is_wanting net flow found.vertex ≡ true) × (best_to net flow from found.vertex ≡ Some found.reach)
receiver-wants net flow from found is =
    first_best-has (λ one. (is_wanting net flow one.vertex ≡ true) × (best_to net flow from one.vertex ≡ Some one.reach)) (best_to net flow from) None (wanting net flow)
    (λ one e. absurd (cc))
    (All-weaker (λ v. is_wanting net flow v ≡ true)
    (λ v. (reach : Reach) → best_to net flow from v ≡ Some reach → (is_wanting net flow v ≡ true) × (best_to net flow from v ≡ Some reach))
    (λ v wants reach e. (wants, e)) (wanting net flow) (filter-passes (is_wanting net flow) (range_with_len 0 (vertex_count net))))
    found is

-- ---- A round
pub some-of : (found : Option Reached) → is_some found ≡ true → (one : Reached) × (found ≡ Some one)
some-of None h = absurd (cc)
some-of (Some one) h = (one, refl)

-- A round sends a unit where one goes from its sender to its receiver, since there are both, and the one has to send and the other wants.
pub round-sends : (net : Net) (before after : Flow) → IsLinked net → IsPartFlow net before → SomeMirrorWants net before → SomeVertexHasToSend net before → ((from : ℕ) (found : Reached) → sender net before ≡ Some from → receiver net before from ≡ Some found → MovesAUnit net from found.vertex before after) → SendsAUnit net before after
round-sends net before after linked part wants has moves =
    let from = sender-found net before has in
    let low = (sender-low net before from.0 from.2).0 in
    let found = some-of (receiver net before from.0) (receiver-found net before from.0 linked part wants (omega (arith, low))) in
    record {
      sender = from.0;
      receiver = found.0.vertex;
      sends = from.2;
      receives = (receiver-wants net before from.0 found.0 found.1).0;
      moves = moves from.0 found.0 from.1 found.1;
    }

pub rounds-make-full : RoundsMakeAFullFlow
rounds-make-full net phases formed each moves =
    let whole = network_of net phases in
    let linked = networks-linked net phases formed each in
    rounds-full whole linked.few linked.pins (flow_after whole) refl
    (λ rounds part wants has. round-sends whole (flow_after whole rounds) (flow_after whole (suc rounds)) linked part wants has (λ from found. moves rounds from found part))

pub a-receiver : AReceiverIsFound
a-receiver net phases flow from formed each part wants low =
    let whole = network_of net phases in
    let found = some-of (receiver whole flow from) (receiver-found whole flow from (networks-linked net phases formed each) part wants low) in
    let best = receiver-wants whole flow from found.0 found.1 in
    (found.0, found.1, best.0, best.1)
