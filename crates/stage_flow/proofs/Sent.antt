-- Parts of a full flow. No units are one; and a unit more, from a vertex that has to send to a mirror that wants, leaves one.
use Rattle.std.proofs.Common.{◌≡◌, ◌≢◌, ◌≤◌, ◌+◌, ◌==◌, ◌∙◌, ℕ, zero, suc, ℤ, pos, negsuc, ◌+ℤ◌, ◌-ℤ◌, Bool, true, false, cond, List, length, get_or, replicate, refl, sym, ap, arith, ⊎_elim}
use Rattle.std.specs.List.{flat_map, sum_by}
use Rattle.std.proofs.lemmas.Bool.{cases_lt}
use Rattle.std.specs.Cmp.{nat_eq_equiv}
use Rattle.std.proofs.lemmas.Bool.Decides.{nat_tests}
use Rattle.std.proofs.lemmas.Int.{ints}
use Rattle.std.proofs.lemmas.List.{length-replicate}
use Rattle.std.proofs.lemmas.List.Recursion.{is_sum_by}
use Rattle.flow_net.specs.declared.net.Net.{Net}
use Rattle.flow_net.specs.declared.net.Units.{Units}
use Rattle.flow_net.specs.declared.net.Flow.{Flow}
use Rattle.flow_net.specs.Arcs.{Arc, arcs_of}
use Rattle.flow_net.specs.Flows.{pin_units, units_on, units_out, units_in, out_minus_in, wants}
use Rattle.stage_flow.specs.Rounds.{no_units}
use Rattle.stage_flow.specs.LawsOfSending.{IsPartFlow, MovesAUnit, SendsAUnit}
use Rattle.stage_flow.proofs.Wants.{wants-to_send, wants-high, wants-mirror, wanting-mirror, sender-low}

-- ---- No units
abbrev none : Units
none = record { forward = 0; back = 0 }

pub nothing_on : (n k : ℕ) → get_or (flat_map pin_units (replicate n none)) k 0 ≡ 0
nothing_on zero k = refl
nothing_on (suc n) zero = refl
nothing_on (suc n) (suc zero) = refl
nothing_on (suc n) (suc (suc k)) = nothing_on n k

sum_of_none : {X : Type 0} (f : X → ℕ) (xs : List X) → ((x : X) → f x ≡ 0) → sum_by f xs ≡ 0
sum_of_none f xs each = sym (is_sum_by (λ ys. 0) f refl (λ y ys. omega (arith, each y)) xs)

if_none : (b : Bool) (u : ℕ) → u ≡ 0 → cond b u 0 ≡ 0
if_none true u e = e
if_none false u e = refl

pub nothing_out : (net : Net) (vertex : ℕ) → units_out net (no_units net) vertex ≡ 0
nothing_out net vertex =
    sum_of_none (λ (arc : Arc). cond (arc.tail == vertex) (units_on (no_units net) arc) 0) (arcs_of net)
    (λ arc. if_none (arc.tail == vertex) (units_on (no_units net) arc) (nothing_on (length net.pins) arc.number))

pub nothing_in : (net : Net) (vertex : ℕ) → units_in net (no_units net) vertex ≡ 0
nothing_in net vertex =
    sum_of_none (λ (arc : Arc). cond (arc.head == vertex) (units_on (no_units net) arc) 0) (arcs_of net)
    (λ arc. if_none (arc.head == vertex) (units_on (no_units net) arc) (nothing_on (length net.pins) arc.number))

pub no_units-part : (net : Net) → IsPartFlow net (no_units net)
no_units-part net = record {
  each = length-replicate (length net.pins) none;
  sent = λ vertex low.
      let out = nothing_out net vertex in
      let into = nothing_in net vertex in
      let want = wants-to_send net vertex low in (omega (arith, ints, out, into), omega (arith, ints, out, into, want));
  received = λ vertex high.
      let out = nothing_out net vertex in
      let into = nothing_in net vertex in
      let want = wants-high net vertex high in (omega (arith, ints, out, into, want), omega (arith, ints, out, into));
}

-- ---- A unit more
-- a number or another
same_or : (a b : ℕ) {C : Type 0} → (a ≡ b → C) → (a ≢ b → C) → C
same_or a b {C} same other =
    ⊎_elim {C = C} (λ less. other (λ e. omega (arith, less, e)))
    (λ no_less. ⊎_elim {C = C} (λ more. other (λ e. omega (arith, more, e))) (λ no_more. same (omega arith)) (cases_lt b a)) (cases_lt a b)

pub sent-part : (net : Net) (before after : Flow) → IsPartFlow net before → SendsAUnit net before after → IsPartFlow net after
sent-part net before after part sends =
    let from = sends.sender in
    let to = sends.receiver in
    let moves = sends.moves in
    let low = sender-low net before from sends.sends in
    let mirror = wanting-mirror net before to sends.receives in
    let high : net.gates + 2 ≤ to = omega (arith, mirror.2) in
    let want : wants net to ≡ negsuc 0 = ap (wants net) mirror.2 ∙ wants-mirror net mirror.0 mirror.1 in
    record {
      each = moves.each ∙ part.each;
      sent = λ vertex less.
          let old = part.sent vertex less in
          same_or vertex from
          (λ e.
          let now = ap (out_minus_in net after) e ∙ moves.start in
          let was = ap (out_minus_in net before) e in
          let own = ap (wants net) e in (omega (arith, ints, now, was, old.0), omega (arith, ints, now, own, low.1)))
          (λ other.
          let now = moves.others vertex other (λ e. omega (arith, e, less, high)) in (omega (arith, ints, now, old.0), omega (arith, ints, now, old.1)));
      received = λ vertex more.
          let old = part.received vertex more in
          same_or vertex to
          (λ e.
          let now = ap (out_minus_in net after) e ∙ moves.end in
          let was = ap (out_minus_in net before) e in
          let own = ap (wants net) e ∙ want in
          let nothing = mirror.3 in (omega (arith, ints, now, own, nothing), omega (arith, ints, now, was, old.1)))
          (λ other.
          let now = moves.others vertex (λ e. omega (arith, e, more, low.0)) other in (omega (arith, ints, now, old.0), omega (arith, ints, now, old.1)));
    }

-- A unit goes from one vertex to another where what leaves each vertex less what enters it is one more at the first and one less at the
-- second.
pub moved-a_unit : (net : Net) (from to : ℕ) (before after : Flow) → from ≢ to → length after.pins ≡ length before.pins
    → ((vertex : ℕ) → out_minus_in net after vertex ≡ (out_minus_in net before vertex +ℤ cond (from == vertex) (pos 1) (pos 0)) -ℤ cond (to == vertex) (pos 1) (pos 0))
    → MovesAUnit net from to before after
moved-a_unit net from to before after apart each changes = record {
  each = each;
  start =
      let own : (from == from) ≡ true = nat_eq_equiv.refl from in
      let other : (to == from) ≡ false = unequal to from (λ e. apart (sym e)) in
      let a = by_test (from == from) true own in
      let b = by_test (to == from) false other in
      let now = changes from in omega (arith, ints, now, a, b);
  end =
      let own : (to == to) ≡ true = nat_eq_equiv.refl to in
      let other : (from == to) ≡ false = unequal from to apart in
      let a = by_test (from == to) false other in
      let b = by_test (to == to) true own in
      let now = changes to in omega (arith, ints, now, a, b);
  others = λ vertex not_from not_to.
      let a = by_test (from == vertex) false (unequal from vertex (λ e. not_from (sym e))) in
      let b = by_test (to == vertex) false (unequal to vertex (λ e. not_to (sym e))) in
      let now = changes vertex in omega (arith, ints, now, a, b);
}
  where
    by_test : (b c : Bool) → b ≡ c → cond b (pos 1) (pos 0) ≡ cond c (pos 1) (pos 0)
    by_test b c e = ap (λ (t : Bool). let one : ℤ = cond t (pos 1) (pos 0) in one) e

    unequal : (a b : ℕ) → a ≢ b → (a == b) ≡ false
    unequal a b h = grind (arith, nat_tests)
