-- No residual arc leaves a mirror that wants: arcs start at source, gates and sink, so only the reverse of an arc with units could
-- leave it, and with that unit the mirror has received its own.
use Rattle.std.proofs.Common.{◌≡◌, ◌<◌, ◌≤◌, ◌+◌, ◌==◌, ◌&&◌, ◌∙◌, ℕ, zero, suc, ℤ, negsuc, ◌<ℤ◌, nat_lt, nat_le, int_lt, Bool, true, false, cond, List, [], ◌∷◌, All, Contains, refl, ap, sym, subst, arith, ⊎_elim}
use Rattle.std.proofs.lemmas.Bool.{and_parts, leb-true, ltb-true, eq-eqb, ne_eqb}
use Rattle.std.proofs.lemmas.Bool.Decides.{nat_tests}
use Rattle.std.proofs.lemmas.Int.{ints}
use Rattle.std.proofs.lemmas.List.Elements.{All-head, All-tail, All-weaker, All-contains, All-contains_itself}
use Rattle.flow_net.specs.declared.net.Net.{Net}
use Rattle.flow_net.specs.declared.net.Flow.{Flow}
use Rattle.flow_net.specs.Arcs.{Arc, forward_arc, back_arc, arcs_of}
use Rattle.flow_net.specs.Flows.{units_on, out_minus_in, wants}
use Rattle.flow_net.proofs.CallerLemmas.{total, sum-is_total, All-arcs_from}
use Rattle.stage_flow.specs.Residual.{Way, ways_of, vertex_count}
use Rattle.stage_flow.specs.Rounds.{is_wanting}
use Rattle.stage_flow.proofs.Along.{way-on}
use Rattle.stage_flow.proofs.NetworkEnds.{IsPinLow}

less-by_test : (a b : ℤ) → int_lt a b ≡ true → a <ℤ b
less-by_test a b test = grind (arith, ints)

-- a mirror wants one unit more in than out
pub wants-mirror : (net : Net) (v : ℕ) → net.gates + 2 ≤ v → v < vertex_count net → wants net v ≡ negsuc 0
wants-mirror net zero high low = absurd (omega arith)
wants-mirror net (suc k) high low =
    let test : nat_lt k net.gates ≡ false = grind (arith, nat_tests) in
    let other : (k == net.gates) ≡ false = grind (arith, nat_tests) in
    let mirror : nat_lt k (net.gates + 1 + net.drivers) ≡ true = grind (arith, nat_tests) in
    rw (test, other, mirror) refl

total-none : (f : Arc → ℕ) (arcs : List Arc) → All (λ arc. f arc ≡ 0) arcs → total f arcs ≡ 0
total-none f [] none = refl
total-none f (arc ∷ arcs) none =
    let own = All-head (λ one. f one ≡ 0) arc arcs none in
    let rest = total-none f arcs (All-tail (λ one. f one ≡ 0) arc arcs none) in
    omega (arith, own, rest)

total-more : (f : Arc → ℕ) (arcs : List Arc) (arc : Arc) → Contains arcs arc → f arc ≤ total f arcs
total-more f [] arc (k, within, is) = absurd (omega arith)
total-more f (first ∷ arcs) arc (zero, within, is) = let same = ap f is in omega (arith, same)
total-more f (first ∷ arcs) arc (suc k, within, is) = let rest = total-more f arcs arc (k, omega arith, is) in omega (arith, rest)

abbrev StartsLow : Net → Arc → Type 0
StartsLow net arc = arc.tail < net.gates + 2

arcs-start_low : (net : Net) → All (IsPinLow net) net.pins → All (StartsLow net) (arcs_of net)
arcs-start_low net low =
    All-arcs_from (StartsLow net) net 0 net.pins
    (All-weaker (IsPinLow net) (λ pin. (at : ℕ) → StartsLow net (forward_arc at pin) × StartsLow net (back_arc net at pin)) (λ pin h at. (h.from, h.to)) net.pins low)

at_most : (n : ℕ) (test : Bool) → test ≡ true → n ≤ cond test n 0
at_most n test is = rw is (omega arith)

nothing_at : (n : ℕ) (test : Bool) → test ≡ false → cond test n 0 ≡ 0
nothing_at n test is = rw is refl

pub no_way_leaves_wanting : (net : Net) (flow : Flow) → All (IsPinLow net) net.pins → (mirror : ℕ) → is_wanting net flow mirror ≡ true → All (λ way. way.tail ≡ mirror → ⊥) (ways_of net flow)
no_way_leaves_wanting net flow low mirror wanting =
    All-weaker (Contains (ways_of net flow)) (λ way. way.tail ≡ mirror → ⊥) each (ways_of net flow) (All-contains_itself (ways_of net flow))
  where
    high : net.gates + 2 ≤ mirror
    high =
        leb-true (net.gates + 2) mirror
        (and_parts (nat_le (net.gates + 2) mirror) (nat_lt mirror (vertex_count net) && int_lt (wants net mirror) (out_minus_in net flow mirror)) wanting).0

    more : nat_lt mirror (vertex_count net) && int_lt (wants net mirror) (out_minus_in net flow mirror) ≡ true
    more = (and_parts (nat_le (net.gates + 2) mirror) (nat_lt mirror (vertex_count net) && int_lt (wants net mirror) (out_minus_in net flow mirror)) wanting).1

    own : negsuc 0 <ℤ out_minus_in net flow mirror
    own =
        let parts = and_parts (nat_lt mirror (vertex_count net)) (int_lt (wants net mirror) (out_minus_in net flow mirror)) more in
        subst (λ w. w <ℤ out_minus_in net flow mirror) (wants-mirror net mirror high (ltb-true mirror (vertex_count net) parts.0)) (less-by_test (wants net mirror) (out_minus_in net flow mirror) parts.1)

    each : (way : Way) → Contains (ways_of net flow) way → way.tail ≡ mirror → ⊥
    each way there starts =
        let on = way-on net flow way there in
        let leaves = λ (arc : Arc). cond (arc.tail == mirror) (units_on flow arc) 0 in
        let enters = λ (arc : Arc). cond (arc.head == mirror) (units_on flow arc) 0 in
        let first = arcs-start_low net low in
        ⊎_elim {C = ⊥}
        (λ adds.
        let tail = ap (λ (w : Way). w.tail) adds in
        let start : on.arc.tail < net.gates + 2 = All-contains (StartsLow net) (arcs_of net) on.arc first on.there in
        omega (arith, tail, start, starts, high))
        (λ takes.
        let tail = ap (λ (w : Way). w.tail) takes.0 in
        let some = takes.1 in
        let ends : on.arc.head ≡ mirror = sym tail ∙ starts in
        let into = total-more enters (arcs_of net) on.arc on.there in
        let least = at_most (units_on flow on.arc) (on.arc.head == mirror) (eq-eqb on.arc.head mirror ends) in
        let out = total-none leaves (arcs_of net)
        (All-weaker (StartsLow net) (λ arc. leaves arc ≡ 0) (λ arc h. nothing_at (units_on flow arc) (arc.tail == mirror) (ne_eqb arc.tail mirror (λ same. omega (arith, same, h, high)))) (arcs_of net) first) in
        let received = own in
        omega (arith, ints, into, least, some, out, received, sum-is_total leaves (arcs_of net), sum-is_total enters (arcs_of net)))
        on.is
