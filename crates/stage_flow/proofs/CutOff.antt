-- Nobody is cut off. Take a region that no residual arc leaves, and of which no mirror wants.
--
-- A driver in the region has its user there by the forward arc, and by the user's back arc its mirror. So each driver in the region
-- has its mirror in it, and the region holds at least as many mirrors as drivers. Over the region as many units leave vertices as
-- enter them; each of its mirrors has received a unit, and no driver sends more than one. So it holds no more mirrors than drivers:
-- the mirrors in the region are just those of the drivers in it.
--
-- So a user in the region has its driver in it, since it has the driver's mirror. If the region holds any vertex it holds a user,
-- from there by users of users the sink, then by users' drivers each gate, and then, as each driver has a user, each mirror. But one
-- of these wants.
use Rattle.std.proofs.Common.{◌≡◌, ◌<◌, ◌≤◌, ◌+◌, ◌-◌, ◌*◌, ◌∙◌, ℕ, zero, suc, Bool, true, false, cond, All, refl, sym, ap, subst, arith, ⊎_elim}
use Rattle.std.proofs.Math.Nat.{mul-le-mul_left}
use Rattle.std.proofs.lemmas.Bool.{cases_lt, false_from_ne_true}
use Rattle.std.proofs.lemmas.Int.{ints}
use Rattle.flow_net.specs.declared.net.Pin.{Pin}
use Rattle.flow_net.specs.declared.net.Net.{Net}
use Rattle.flow_net.specs.declared.net.Flow.{Flow}
use Rattle.flow_net.specs.Network.{network_of}
use Rattle.flow_net.specs.Arcs.{mirror_of, arcs_of}
use Rattle.flow_net.specs.Flows.{units_out, units_in}
use Rattle.flow_net.proofs.CallerLemmas.{below, home, wants-gate, wants-sink}
use Rattle.stage_flow.specs.Residual.{ways_of, vertex_count}
use Rattle.stage_flow.specs.LawsOfSending.{IsPartFlow, SomeMirrorWants, NoneLeaves, NoneWants, NobodyIsCutOff}
use Rattle.stage_flow.proofs.Wants.{wants-source, home-input, home-gate, below-homes, served, wanting-mirror}
use Rattle.stage_flow.proofs.Linked.{IsUpward, IsLinked, networks-linked}
use Rattle.stage_flow.proofs.Counting.{pins-from_arcs, one_in, IsKept, out_is_in, Stays, ways-stay, ways-kept, terms-same}

-- ---- Mirrors in the region against drivers
times_less : (x out into most : ℕ) → out ≤ into + most → x * out ≤ x * into + x * most
times_less x out into most h = omega (arith, mul-le-mul_left x h)

times_served : (b : Bool) (out into : ℕ) → (b ≡ true → out + 1 ≤ into) → cond b 1 0 * out + cond b 1 0 ≤ cond b 1 0 * into
times_served true out into h = omega (arith, h refl)
times_served false out into h = omega arith

module _ (net : Net) (flow : Flow) (region : ℕ → Bool) (linked : IsLinked net) (part : IsPartFlow net flow) (none : NoneWants net flow region) where
  abbrev p : ℕ → ℕ
  p = one_in region

  abbrev leaving : ℕ → ℕ
  leaving v = p v * units_out net flow v

  abbrev entering : ℕ → ℕ
  entering v = p v * units_in net flow v

  abbrev gates_in : ℕ → ℕ
  gates_in k = p (suc k)

  abbrev mirrors_in : ℕ → ℕ
  mirrors_in driver = p (net.gates + 2 + driver)

  abbrev sources_in : ℕ
  sources_in = p 0 * (net.drivers - net.gates)

  to_gates : (n : ℕ) → n ≤ net.gates → below leaving (suc n) ≤ below entering (suc n) + sources_in + below gates_in n
  to_gates zero within =
      let most : units_out net flow 0 ≤ units_in net flow 0 + (net.drivers - net.gates) = omega (arith, ints, (part.sent 0 (omega arith)).1, wants-source net) in
      omega (arith, times_less (p 0) (units_out net flow 0) (units_in net flow 0) (net.drivers - net.gates) most)
  to_gates (suc n) within =
      let v = suc n in
      let most : units_out net flow v ≤ units_in net flow v + 1 = omega (arith, ints, (part.sent v (omega arith)).1, wants-gate net n (omega arith)) in
      omega (arith, to_gates n (omega arith), times_less (p v) (units_out net flow v) (units_in net flow v) 1 most)

  to_sink : below leaving (suc (suc net.gates)) ≤ below entering (suc (suc net.gates)) + sources_in + below gates_in net.gates
  to_sink =
      let v = suc net.gates in
      let most : units_out net flow v ≤ units_in net flow v + 0 = omega (arith, ints, (part.sent v (omega arith)).1, wants-sink net) in
      omega (arith, to_gates net.gates (omega arith), times_less (p v) (units_out net flow v) (units_in net flow v) 0 most)

  to_mirrors : (n : ℕ) → n ≤ net.drivers → below leaving (net.gates + 2 + n) + below mirrors_in n ≤ below entering (net.gates + 2 + n) + sources_in + below gates_in net.gates
  to_mirrors zero within =
      let e : net.gates + 2 + 0 ≡ suc (suc net.gates) = omega arith in
      let into = ap (below entering) e in
      let out = ap (below leaving) e in
      omega (arith, to_sink, into, out)
  to_mirrors (suc n) within =
      let v = net.gates + 2 + n in
      let e : net.gates + 2 + suc n ≡ suc v = omega arith in
      let into = ap (below entering) e in
      let out = ap (below leaving) e in
      let one = times_served (region v) (units_out net flow v) (units_in net flow v) (λ inside. served net flow n (omega arith) (none v inside)) in
      omega (arith, to_mirrors n (omega arith), into, out, one)

  -- No more mirrors are in the region than drivers.
  pub few_mirrors : All (IsKept flow region) (arcs_of net) → below mirrors_in net.drivers ≤ below (λ driver. p (home net driver)) net.drivers
  few_mirrors kept =
      omega (arith, to_mirrors net.drivers (omega arith), out_is_in net flow region linked.pins kept, below-homes net p linked.few)

-- ---- From one vertex of the region to all
-- a user of a driver: it stands above the driver, at a gate or the sink, it is in the region if the driver is, and the driver's
-- mirror is in the region if it is
pub record IsUser (net : Net) (region : ℕ → Bool) (driver user : ℕ) : Type 0 where
  pub above : home net driver < user
  pub low : user < net.gates + 2
  pub reached : region (home net driver) ≡ true → region user ≡ true
  pub mirrored : region user ≡ true → region (mirror_of net driver) ≡ true

-- a region stays at a pin: with the driver it holds the user, and with the user the mirror
abbrev StaysAt : Net → (ℕ → Bool) → Pin → Type 0
StaysAt net region pin = (region pin.from ≡ true → region pin.to ≡ true) × (region pin.to ≡ true → region (mirror_of net pin.driver) ≡ true)

-- Each driver has a user.
pub user_of : (net : Net) (region : ℕ → Bool) → IsLinked net → All (Stays region) (arcs_of net) → (driver : ℕ) → driver < net.drivers → (user : ℕ) × IsUser net region driver user
user_of net region linked stays driver low =
    let found = linked.used driver low in
    let pin = found.1 in
    let up : IsUpward net pin = subst (IsUpward net) found.3 (linked.pins found.0 pin found.2) in
    let at : StaysAt net region pin = subst (StaysAt net region) found.3
    (pins-from_arcs (Stays region) (StaysAt net region) net (λ one place forward back. (forward, back)) 0 net.pins stays found.0 pin found.2) in
    let own : pin.driver ≡ driver = found.4 in
    let from : pin.from ≡ home net driver = up.laid.starts ∙ ap (home net) own in (
      pin.to,
      record {
        above = let above = up.upward in omega (arith, above, from);
        low = up.laid.ends;
        reached = λ inside. at.0 (ap region from ∙ inside);
        mirrored = λ inside. sym (ap (λ d. region (mirror_of net d)) own) ∙ at.1 inside;
      },
    )

ones_le : (b c : Bool) → (b ≡ true → c ≡ true) → cond b 1 0 ≤ cond c 1 0
ones_le true true h = omega arith
ones_le true false h = let e = h refl in absurd (cc)
ones_le false true h = omega arith
ones_le false false h = omega arith

ones_back : (b c : Bool) → cond c 1 0 ≤ cond b 1 0 → c ≡ true → b ≡ true
ones_back true c same h = refl
ones_back false true same h = absurd (omega arith)
ones_back false false same h = h

module _ (net : Net) (flow : Flow) (region : ℕ → Bool) (linked : IsLinked net) (part : IsPartFlow net flow) (leaves : NoneLeaves (ways_of net flow) region) (none : NoneWants net flow region) where
  user : (driver : ℕ) → driver < net.drivers → (user : ℕ) × IsUser net region driver user
  user = user_of net region linked (ways-stay net flow region leaves)

  -- The mirrors in the region are those of the drivers in it.
  home_of_mirror : (driver : ℕ) → driver < net.drivers → region (mirror_of net driver) ≡ true → region (home net driver) ≡ true
  home_of_mirror driver low inside =
      ones_back (region (home net driver)) (region (mirror_of net driver))
      (let same = terms-same (λ d. one_in region (home net d)) (λ d. one_in region (net.gates + 2 + d)) net.drivers
      (λ d few. let found = user d few in ones_le (region (home net d)) (region (mirror_of net d)) (λ h. found.1.mirrored (found.1.reached h)))
      (few_mirrors net flow region linked part none (ways-kept net flow region leaves)) driver low in
      omega (arith, same))
      inside

  -- By users of users to the sink,
  to_the_sink : (steps vertex : ℕ) → net.gates + 1 ≤ vertex + steps → 0 < vertex → vertex < net.gates + 2 → region vertex ≡ true → region (suc net.gates) ≡ true
  to_the_sink zero vertex near some low inside = let e : suc net.gates ≡ vertex = omega arith in ap region e ∙ inside
  to_the_sink (suc steps) vertex near some low inside =
      ⊎_elim {C = region (suc net.gates) ≡ true}
      (λ gate.
      let k = vertex - 1 in
      let few = linked.few in
      let driver = net.drivers - net.gates + k in
      let own : home net driver ≡ vertex = (let e : suc k ≡ vertex = omega arith in home-gate net k ∙ e) in
      let found = user driver (omega arith) in
      let above = found.1.above in
      to_the_sink steps found.0 (omega (arith, above, own)) (omega (arith, above)) found.1.low (found.1.reached (ap region own ∙ inside)))
      (λ last. let e : suc net.gates ≡ vertex = omega arith in ap region e ∙ inside)
      (cases_lt vertex (suc net.gates))

  -- by users' drivers down to each gate,
  to_each_user : region (suc net.gates) ≡ true → (steps vertex : ℕ) → net.gates + 1 ≤ vertex + steps → 0 < vertex → vertex < net.gates + 2 → region vertex ≡ true
  to_each_user sink zero vertex near some low = let e : vertex ≡ suc net.gates = omega arith in ap region e ∙ sink
  to_each_user sink (suc steps) vertex near some low =
      ⊎_elim {C = region vertex ≡ true}
      (λ gate.
      let k = vertex - 1 in
      let few = linked.few in
      let driver = net.drivers - net.gates + k in
      let within : driver < net.drivers = omega arith in
      let own : home net driver ≡ vertex = (let e : suc k ≡ vertex = omega arith in home-gate net k ∙ e) in
      let found = user driver within in
      let above = found.1.above in
      let next = to_each_user sink steps found.0 (omega (arith, above, own)) (omega (arith, above)) found.1.low in
      sym (ap region own) ∙ home_of_mirror driver within (found.1.mirrored next))
      (λ last. let e : vertex ≡ suc net.gates = omega arith in ap region e ∙ sink)
      (cases_lt vertex (suc net.gates))

  -- and by users to each mirror.
  to_each_mirror : (vertex : ℕ) → 0 < vertex → vertex < net.gates + 2 → region vertex ≡ true → (driver : ℕ) → driver < net.drivers → region (mirror_of net driver) ≡ true
  to_each_mirror vertex some low inside driver within =
      let sink = to_the_sink (net.gates + 1) vertex (omega arith) some low inside in
      let found = user driver within in
      let above = found.1.above in
      found.1.mirrored (to_each_user sink (net.gates + 1) found.0 (omega arith) (omega (arith, above)) found.1.low)

  -- From a driver in the region there is a user in it.
  from_driver : (d : ℕ) → d < net.drivers → region (home net d) ≡ true → (driver : ℕ) → driver < net.drivers → region (mirror_of net driver) ≡ true
  from_driver d few inside =
      let found = user d few in
      let above = found.1.above in
      to_each_mirror found.0 (omega (arith, above)) found.1.low (found.1.reached inside)

  from_vertex : (vertex : ℕ) → vertex < vertex_count net → region vertex ≡ true → (driver : ℕ) → driver < net.drivers → region (mirror_of net driver) ≡ true
  from_vertex zero low inside driver within =
      let inputs : net.gates < net.drivers = linked.entered (omega arith) in
      from_driver 0 (omega arith) (ap region (home-input net 0 (omega arith)) ∙ inside) driver within
  from_vertex (suc k) low inside driver within =
      ⊎_elim {C = region (mirror_of net driver) ≡ true}
      (λ less. to_each_mirror (suc k) (omega arith) less inside driver within)
      (λ past.
      let d = suc k - (net.gates + 2) in
      let few : d < net.drivers = omega arith in
      let e : mirror_of net d ≡ suc k = omega arith in
      from_driver d few (home_of_mirror d few (ap region e ∙ inside)) driver within)
      (cases_lt (suc k) (net.gates + 2))

  -- But a mirror wants, so there is none.
  pub region-empty : SomeMirrorWants net flow → (vertex : ℕ) → vertex < vertex_count net → region vertex ≡ false
  region-empty (mirror, wanting) vertex low =
      false_from_ne_true (region vertex)
      (λ inside.
      let found = wanting-mirror net flow mirror wanting in
      let all = ap region found.2 ∙ from_vertex vertex low inside found.0 found.1 in
      let not = none mirror all in
      absurd (cc))

pub nobody-cut_off : NobodyIsCutOff
nobody-cut_off net phases flow region formed each part some leaves none =
    region-empty (network_of net phases) flow region (networks-linked net phases formed each) part leaves none some
