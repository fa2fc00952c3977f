-- Full flows, summed by vertices. Take each vertex's potential times the units that enter it, and times those that leave it.
-- The two sums differ by what the vertices want: nothing at the sink, and nothing at the source, whose potential is 0; a gate's
-- epoch, since one unit more leaves it; a mirror's potential, since one unit more enters it. The drivers of mirrors are the used
-- inputs, at epoch 0, and the gates, each once. So the gates' epochs cancel, and the chains are left, whatever the epochs.
use Rattle.std.proofs.Common.{◌≡◌, ◌<◌, ◌≤◌, ◌+◌, ◌-◌, ◌*◌, ◌==◌, ◌∙◌, ℕ, zero, suc, pos, negsuc, true, false, cond, nat_lt, List, sum, refl, ap, arith}
use Rattle.std.proofs.lemmas.Bool.Decides.{nat_tests}
use Rattle.std.proofs.lemmas.Int.{ints}
use Rattle.std.proofs.lemmas.List.Sums.{sum_by_push}
use Rattle.flow_net.specs.declared.net.Pin.{Pin}
use Rattle.flow_net.specs.declared.net.Net.{Net}
use Rattle.flow_net.specs.declared.net.Flow.{Flow}
use Rattle.flow_net.specs.declared.net.Epochs.{Epochs}
use Rattle.flow_net.specs.Flows.{units_out, units_in, wants, IsFullFlow}
use Rattle.flow_net.specs.Epochs.{epoch_at, chain_length, chain_lengths, dro_count}
use Rattle.flow_net.proofs.Sums.{below, below-start, below-next}
use Rattle.flow_net.proofs.Potentials.{home, potential, potential-vertex, potential-mirror}

-- The lengths of the chains of the first drivers add up.
below-chains : (epochs : Epochs) (pins : List Pin) (drivers : ℕ) → below (chain_length epochs pins) drivers ≡ sum (chain_lengths epochs pins drivers)
below-chains epochs pins zero = refl
below-chains epochs pins (suc drivers) =
    omega (arith, below-chains epochs pins drivers, sum_by_push (λ x. x) (chain_lengths epochs pins drivers) (chain_length epochs pins drivers))

-- What vertices want.
pub wants-gate : (net : Net) (k : ℕ) → k < net.gates → wants net (suc k) ≡ pos 1
wants-gate net k low = let test : nat_lt k net.gates ≡ true = grind (arith, nat_tests) in rw test refl

pub wants-sink : (net : Net) → wants net (suc net.gates) ≡ pos 0
wants-sink net =
    let test : nat_lt net.gates net.gates ≡ false = grind (arith, nat_tests) in
    let same : (net.gates == net.gates) ≡ true = grind (arith, nat_tests) in
    rw (test, same) refl

wants-mirror : (net : Net) (k : ℕ) → net.gates < k → k < net.gates + 1 + net.drivers → wants net (suc k) ≡ negsuc 0
wants-mirror net k high low =
    let test : nat_lt k net.gates ≡ false = grind (arith, nat_tests) in
    let other : (k == net.gates) ≡ false = grind (arith, nat_tests) in
    let mirror : nat_lt k (net.gates + 1 + net.drivers) ≡ true = grind (arith, nat_tests) in
    rw (test, other, mirror) refl

more_times : (x out into : ℕ) → out ≡ into + 1 → x * out ≡ x * into + x
more_times x out into e = let f = ap (λ u. x * u) e in omega (arith, f)

-- the epochs of the gates, and the potentials times what enters and what leaves
abbrev gate_epoch : Epochs → ℕ → ℕ
gate_epoch epochs k = epoch_at epochs (suc k)

module _ (net : Net) (flow : Flow) (epochs : Epochs) (few : net.gates ≤ net.drivers) (full : IsFullFlow net flow) where
  abbrev entering : ℕ → ℕ
  entering v = potential net epochs v * units_in net flow v

  abbrev leaving : ℕ → ℕ
  leaving v = potential net epochs v * units_out net flow v

  -- Up to the gates, what leaves is more than what enters by each gate's epoch,
  up_to_gates : (n : ℕ) → n ≤ net.gates → below entering (suc n) + below (gate_epoch epochs) n ≡ below leaving (suc n)
  up_to_gates zero within =
      let none : potential net epochs 0 ≡ 0 = potential-vertex net epochs 0 (omega arith) in
      let in_none = ap (λ x. x * units_in net flow 0) none in
      let out_none = ap (λ x. x * units_out net flow 0) none in
      omega (arith, in_none, out_none)
  up_to_gates (suc n) within =
      let own : potential net epochs (suc n) ≡ gate_epoch epochs n = potential-vertex net epochs (suc n) (omega arith) in
      let one : units_out net flow (suc n) ≡ units_in net flow (suc n) + 1 = omega (arith, ints, full.wanted (suc n), wants-gate net n (omega arith)) in
      let times = more_times (potential net epochs (suc n)) (units_out net flow (suc n)) (units_in net flow (suc n)) one in
      omega (arith, up_to_gates n (omega arith), own, times)

  -- and the sink doesn't change that.
  up_to_sink : below entering (suc (suc net.gates)) + below (gate_epoch epochs) net.gates ≡ below leaving (suc (suc net.gates))
  up_to_sink =
      let same : units_out net flow (suc net.gates) ≡ units_in net flow (suc net.gates) = omega (arith, ints, full.wanted (suc net.gates), wants-sink net) in
      let times = ap (λ u. potential net epochs (suc net.gates) * u) same in
      omega (arith, up_to_gates net.gates (omega arith), times)

  abbrev mirror_potential : ℕ → ℕ
  mirror_potential driver = potential net epochs (net.gates + 2 + driver)

  -- At the mirrors what enters is more by each mirror's potential.
  up_to_mirrors : (n : ℕ) → n ≤ net.drivers → below entering (net.gates + 2 + n) + below (gate_epoch epochs) net.gates ≡ below leaving (net.gates + 2 + n) + below mirror_potential n
  up_to_mirrors zero within =
      let e : net.gates + 2 + 0 ≡ suc (suc net.gates) = omega arith in
      let into = ap (below entering) e in
      let out = ap (below leaving) e in
      omega (arith, up_to_sink, into, out)
  up_to_mirrors (suc n) within =
      let v = net.gates + 2 + n in
      let e : v ≡ suc (net.gates + 1 + n) = omega arith in
      let want : wants net v ≡ negsuc 0 = ap (wants net) e ∙ wants-mirror net (net.gates + 1 + n) (omega arith) (omega arith) in
      let one : units_in net flow v ≡ units_out net flow v + 1 = omega (arith, ints, full.wanted v, want) in
      let times = more_times (potential net epochs v) (units_in net flow v) (units_out net flow v) one in
      omega (arith, up_to_mirrors n (omega arith), below-next entering (net.gates + 2) n, below-next leaving (net.gates + 2) n, times)

  abbrev inputs : ℕ
  inputs = net.drivers - net.gates

  -- The potentials of the mirrors of used inputs are their chains,
  input_mirrors : (n : ℕ) → n ≤ inputs → below mirror_potential n ≡ below (chain_length epochs net.pins) n
  input_mirrors zero within = refl
  input_mirrors (suc n) within =
      let test : nat_lt n inputs ≡ true = grind (arith, nat_tests) in
      let source : home net n ≡ 0 = ap (λ b. cond b 0 (suc (n - inputs))) test in
      let epoch : epoch_at epochs (home net n) ≡ 0 = ap (epoch_at epochs) source in
      omega (arith, input_mirrors n (omega arith), potential-mirror net epochs n, epoch)

  -- and those of gates are their chains and their epochs.
  gate_mirrors : (n : ℕ) → n ≤ net.gates → below mirror_potential (inputs + n) ≡ below (chain_length epochs net.pins) (inputs + n) + below (gate_epoch epochs) n
  gate_mirrors zero within =
      omega (arith, input_mirrors inputs (omega arith), below-start mirror_potential inputs, below-start (chain_length epochs net.pins) inputs)
  gate_mirrors (suc n) within =
      let driver = inputs + n in
      let test : nat_lt driver inputs ≡ false = grind (arith, nat_tests) in
      let same : suc (driver - inputs) ≡ suc n = omega arith in
      let gate : home net driver ≡ suc n = ap (λ b. cond b 0 (suc (driver - inputs))) test ∙ same in
      let epoch : epoch_at epochs (home net driver) ≡ gate_epoch epochs n = ap (epoch_at epochs) gate in
      omega (
        arith,
        gate_mirrors n (omega arith),
        below-next mirror_potential inputs n,
        below-next (chain_length epochs net.pins) inputs n,
        potential-mirror net epochs driver,
        epoch,
      )

  -- So what enters is more than what leaves by the count.
  pub in_is_out_and_count : below entering (net.gates + 2 + net.drivers) ≡ below leaving (net.gates + 2 + net.drivers) + dro_count net epochs
  in_is_out_and_count =
      let all : inputs + net.gates ≡ net.drivers = omega arith in
      let mirrors = ap (below mirror_potential) all in
      let chains = ap (below (chain_length epochs net.pins)) all in
      omega (
        arith,
        up_to_mirrors net.drivers (omega arith),
        gate_mirrors net.gates (omega arith),
        mirrors,
        chains,
        below-chains epochs net.pins net.drivers,
      )
