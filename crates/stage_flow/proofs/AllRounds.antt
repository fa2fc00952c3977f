-- All rounds. In a part of a full flow as many units were sent as received, since all that leaves vertices enters vertices. So
-- while fewer units were received than there are drivers, a mirror wants and a vertex has to send; and where as many were, every
-- vertex has what it wants. Each round that sends a unit counts one more.
use Rattle.std.proofs.Common.{◌≡◌, ◌<◌, ◌≤◌, ◌+◌, ◌-◌, ◌*◌, ◌∙◌, ℕ, zero, suc, pos, ◌-ℤ◌, Bool, true, All, refl, sym, ap, subst, arith, ⊎_elim}
use Rattle.std.proofs.lemmas.Bool.{cases_lt}
use Rattle.std.proofs.lemmas.Int.{ints}
use Rattle.flow_net.specs.declared.net.Net.{Net}
use Rattle.flow_net.specs.declared.net.Flow.{Flow}
use Rattle.flow_net.specs.Arcs.{mirror_of}
use Rattle.flow_net.specs.Flows.{units_out, units_in, out_minus_in, wants, IsFullFlow}
use Rattle.flow_net.proofs.CallerLemmas.{below}
use Rattle.stage_flow.specs.Residual.{vertex_count}
use Rattle.stage_flow.specs.Rounds.{no_units}
use Rattle.stage_flow.specs.LawsOfSending.{IsPartFlow, SomeMirrorWants, SomeVertexHasToSend, SendsAUnit}
use Rattle.stage_flow.proofs.Linked.{IsUpward}
use Rattle.stage_flow.proofs.Counting.{out_is_in, terms-same, some-less, below-one_more, below-ones, below-left}
use Rattle.stage_flow.proofs.Wants.{to_send, wants-to_send, below-to_send, wants-mirror, wants-past, wanting-mirror, mirror-wanting, sender-low, vertex-sends}
use Rattle.stage_flow.proofs.Sent.{no_units-part, sent-part, nothing_out, nothing_in}

-- the units that a vertex sent, and those that the mirror of a driver received
abbrev pub sent_by : Net → Flow → ℕ → ℕ
sent_by net flow vertex = units_out net flow vertex - units_in net flow vertex

abbrev pub received_by : Net → Flow → ℕ → ℕ
received_by net flow driver = units_in net flow (mirror_of net driver) - units_out net flow (mirror_of net driver)

-- all units that were sent, and all that were received
abbrev pub all_sent : Net → Flow → ℕ
all_sent net flow = below (sent_by net flow) (net.gates + 2)

abbrev pub all_received : Net → Flow → ℕ
all_received net flow = below (received_by net flow) net.drivers

everywhere : ℕ → Bool
everywhere vertex = true

module _ (net : Net) (flow : Flow) (few : net.gates ≤ net.drivers) (pins : All (IsUpward net) net.pins) (part : IsPartFlow net flow) where
  abbrev out : ℕ → ℕ
  out v = 1 * units_out net flow v

  abbrev into : ℕ → ℕ
  into v = 1 * units_in net flow v

  up_to_sink : (n : ℕ) → n ≤ net.gates + 2 → below out n ≡ below into n + below (sent_by net flow) n
  up_to_sink zero within = refl
  up_to_sink (suc n) within =
      let more : units_in net flow n ≤ units_out net flow n = omega (arith, ints, (part.sent n (omega arith)).0) in
      omega (arith, up_to_sink n (omega arith), more)

  up_to_mirrors : (n : ℕ) → n ≤ net.drivers → below out (net.gates + 2 + n) + below (received_by net flow) n ≡ below into (net.gates + 2 + n) + all_sent net flow
  up_to_mirrors zero within =
      let e : net.gates + 2 + 0 ≡ net.gates + 2 = omega arith in
      let a = ap (below out) e in
      let b = ap (below into) e in
      omega (arith, a, b, up_to_sink (net.gates + 2) (omega arith))
  up_to_mirrors (suc n) within =
      let v = net.gates + 2 + n in
      let e : net.gates + 2 + suc n ≡ suc v = omega arith in
      let a = ap (below out) e in
      let b = ap (below into) e in
      let more : units_out net flow v ≤ units_in net flow v = omega (arith, ints, (part.received v (omega arith)).1) in
      omega (arith, a, b, up_to_mirrors n (omega arith), more)

  -- As many units were sent as received.
  pub sent-received : all_sent net flow ≡ all_received net flow
  sent-received =
      let same : below out (vertex_count net) ≡ below into (vertex_count net) = out_is_in net flow (λ v. true) pins (λ k d within. refl) in
      omega (arith, same, up_to_mirrors net.drivers (omega arith))

  -- No vertex sent more than it is to, and no mirror received more than one.
  pub sent-le : (vertex : ℕ) → vertex < net.gates + 2 → sent_by net flow vertex ≤ to_send net vertex
  sent-le vertex low = omega (arith, ints, (part.sent vertex low).1, wants-to_send net vertex low)

  pub received-le : (driver : ℕ) → driver < net.drivers → received_by net flow driver ≤ 1
  received-le driver low =
      let v = mirror_of net driver in
      let high : net.gates + 2 ≤ v = omega arith in
      omega (arith, ints, (part.received v high).0, wants-mirror net driver low)

  -- As many mirrors want a unit as units are still to be sent.
  pub left-wanted : below (λ vertex. to_send net vertex - sent_by net flow vertex) (net.gates + 2) ≡ below (λ driver. 1 - received_by net flow driver) net.drivers
  left-wanted =
      omega (
        arith,
        sent-received,
        below-to_send net few,
        below-ones net.drivers,
        below-left (sent_by net flow) (to_send net) (net.gates + 2) sent-le,
        below-left (received_by net flow) (λ driver. 1) net.drivers received-le,
      )

  -- While fewer units were received than there are drivers, a mirror wants, and a vertex has to send.
  pub some-wants : all_received net flow < net.drivers → SomeMirrorWants net flow
  some-wants less =
      let found = some-less (received_by net flow) (λ driver. 1) net.drivers (omega (arith, below-ones net.drivers)) in
      let nothing = found.2 in
      (mirror_of net found.0, mirror-wanting net flow found.0 found.1 (omega (arith, nothing)))

  pub some-sends : all_received net flow < net.drivers → SomeVertexHasToSend net flow
  some-sends less =
      let found = some-less (sent_by net flow) (to_send net) (net.gates + 2) (omega (arith, below-to_send net few, sent-received)) in
      let low = found.1 in
      let rest = found.2 in
      (found.0, omega (arith, low), vertex-sends net flow found.0 low (omega (arith, rest)) (omega (arith, rest)))

  -- Where a mirror wants, fewer were received than there are drivers.
  pub wanting-less : SomeMirrorWants net flow → all_received net flow < net.drivers
  wanting-less (mirror, wanting) =
      let found = wanting-mirror net flow mirror wanting in
      let here = found.2 in
      let out' = ap (units_out net flow) here in
      let in' = ap (units_in net flow) here in
      let nothing : units_in net flow (mirror_of net found.0) ≤ units_out net flow (mirror_of net found.0) = omega (arith, found.3, out', in') in
      ⊎_elim {C = all_received net flow < net.drivers} (λ less. less)
      (λ all.
      let one = terms-same (received_by net flow) (λ driver. 1) net.drivers received-le (omega (arith, below-ones net.drivers)) found.0 found.1 in
      absurd (omega (arith, one, nothing)))
      (cases_lt (all_received net flow) net.drivers)

  -- Where as many were received as there are drivers, each vertex has what it wants.
  pub all-full : all_received net flow ≡ net.drivers → IsFullFlow net flow
  all-full all = record {
    each = part.each;
    wanted = λ vertex.
        ⊎_elim {C = out_minus_in net flow vertex ≡ wants net vertex} (λ low. sends vertex low)
        (λ high.
        ⊎_elim {C = out_minus_in net flow vertex ≡ wants net vertex} (λ low. receives vertex high low)
        (λ past. let both = part.received vertex high in let want = wants-past net vertex past in omega (arith, ints, both.0, both.1, want))
        (cases_lt vertex (vertex_count net)))
        (cases_lt vertex (net.gates + 2));
  }
    where
      sends : (vertex : ℕ) → vertex < net.gates + 2 → out_minus_in net flow vertex ≡ wants net vertex
      sends vertex low =
          let same = terms-same (sent_by net flow) (to_send net) (net.gates + 2) sent-le (omega (arith, below-to_send net few, sent-received, all)) vertex low in
          omega (arith, ints, same, (part.sent vertex low).0, wants-to_send net vertex low)

      receives : (vertex : ℕ) → net.gates + 2 ≤ vertex → vertex < vertex_count net → out_minus_in net flow vertex ≡ wants net vertex
      receives vertex high low =
          let driver = vertex - (net.gates + 2) in
          let within : driver < net.drivers = omega arith in
          let here : mirror_of net driver ≡ vertex = omega arith in
          let one = terms-same (received_by net flow) (λ driver. 1) net.drivers received-le (omega (arith, below-ones net.drivers, all)) driver within in
          let want = wants-mirror net driver within in
          subst (λ v. out_minus_in net flow v ≡ wants net v) here (omega (arith, ints, one, want))

-- ---- Round by round
one_more : (out into out' into' : ℕ) → (pos out' -ℤ pos into') ≡ (pos out -ℤ pos into) -ℤ pos 1 → out ≡ into → into' - out' ≡ into - out + 1
one_more out into out' into' e same = omega (arith, ints)

as_many : (out into out' into' : ℕ) → (pos out' -ℤ pos into') ≡ (pos out -ℤ pos into) → into' - out' ≡ into - out
as_many out into out' into' e = omega (arith, ints)

-- A unit that is sent is received.
pub received-more : (net : Net) (before after : Flow) → IsPartFlow net before → SendsAUnit net before after → all_received net after ≡ all_received net before + 1
received-more net before after part sends =
    let to = sends.receiver in
    let moves = sends.moves in
    let from_low = (sender-low net before sends.sender sends.sends).0 in
    let mirror = wanting-mirror net before to sends.receives in
    let driver = mirror.0 in
    let here : to ≡ mirror_of net driver = mirror.2 in
    let high : net.gates + 2 ≤ to = omega (arith, here) in
    let none : units_out net before to ≡ units_in net before to = omega (arith, ints, mirror.3, (part.received to high).1) in
    below-one_more (received_by net before) (received_by net after) net.drivers driver mirror.1
    (subst (λ v. units_in net after v - units_out net after v ≡ units_in net before v - units_out net before v + 1) here
    (one_more (units_out net before to) (units_in net before to) (units_out net after to) (units_in net after to) moves.end none))
    (λ k low other.
    let v = mirror_of net k in
    as_many (units_out net before v) (units_in net before v) (units_out net after v) (units_in net after v)
    (moves.others v (λ e. omega (arith, e, from_low)) (λ e. other (omega (arith, e, here)))))

sum_of_nothing : (f : ℕ → ℕ) (n : ℕ) → ((k : ℕ) → f k ≡ 0) → below f n ≡ 0
sum_of_nothing f zero each = refl
sum_of_nothing f (suc n) each = omega (arith, each n, sum_of_nothing f n each)

none-received : (net : Net) → all_received net (no_units net) ≡ 0
none-received net =
    sum_of_nothing (received_by net (no_units net)) net.drivers
    (λ driver. omega (arith, nothing_in net (mirror_of net driver), nothing_out net (mirror_of net driver)))

-- Flows that begin with no units, each of which sends one to the next while a mirror wants and a vertex has to send: after n of them,
-- for at most as many as there are drivers, n units were sent and received.
module _ (net : Net) (few : net.gates ≤ net.drivers) (pins : All (IsUpward net) net.pins) (flows : ℕ → Flow) (first : flows 0 ≡ no_units net)
    (next : (round : ℕ) → IsPartFlow net (flows round) → SomeMirrorWants net (flows round) → SomeVertexHasToSend net (flows round) → SendsAUnit net (flows round) (flows (suc round))) where
  pub rounds-received : (n : ℕ) → n ≤ net.drivers → IsPartFlow net (flows n) × (all_received net (flows n) ≡ n)
  rounds-received zero within = (subst (IsPartFlow net) (sym first) (no_units-part net), ap (all_received net) first ∙ none-received net)
  rounds-received (suc n) within =
      let before = rounds-received n (omega arith) in
      let less : all_received net (flows n) < net.drivers = omega (arith, before.1) in
      let sends = next n before.0 (some-wants net (flows n) few pins before.0 less) (some-sends net (flows n) few pins before.0 less) in (
        sent-part net (flows n) (flows (suc n)) before.0 sends,
        omega (arith, before.1, received-more net (flows n) (flows (suc n)) before.0 sends),
      )

  pub rounds-full : IsFullFlow net (flows net.drivers)
  rounds-full =
      let all = rounds-received net.drivers (omega arith) in
      all-full net (flows net.drivers) few pins all.0 all.1
