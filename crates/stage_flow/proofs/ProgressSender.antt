-- Who sends in a round: the source while used inputs are left, and then the gates in order.
use Rattle.std.proofs.Common.{◌≡◌, ◌≢◌, ◌<◌, ◌≤◌, ◌+◌, ◌-◌, ◌∙◌, ℕ, zero, suc, nat_lt, true, false, cond, Some, refl, ap, subst, arith, ⊎_elim}
use Rattle.std.proofs.lemmas.Bool.{cases_lt, cases_eq}
use Rattle.std.proofs.lemmas.Bool.Decides.{nat_tests}
use Rattle.std.proofs.lemmas.Int.{ints}
use Rattle.net_base.proofs.CallerLemmas.{bit-le}
use Rattle.flow_net.specs.declared.net.Net.{Net}
use Rattle.flow_net.specs.declared.net.Flow.{Flow}
use Rattle.stage_flow.specs.Rounds.{has_to_send, sender}
use Rattle.stage_flow.specs.UnderWay.{sent_in, sender_in, HasSent}
use Rattle.stage_flow.proofs.Wants.{to_send, wants-to_send, vertex-sends, sender-low as sends-low}
use Rattle.stage_flow.proofs.StillToSend.{sender-found}

-- what the sender of a round sent before it, and sends in it
abbrev pub SendsMore : Net → ℕ → ℕ → Type 0
SendsMore net rounds vertex = (sent_in net (rounds + 1) vertex ≡ sent_in net rounds vertex + 1) × (sent_in net rounds vertex + 1 ≤ to_send net vertex) × (vertex < net.gates + 2)

pub sent-sender : (net : Net) (rounds : ℕ) → net.gates ≤ net.drivers → rounds < net.drivers → SendsMore net rounds (sender_in net rounds)
sent-sender net rounds few more = ⊎_elim {C = SendsMore net rounds (sender_in net rounds)} source gate (cases_lt rounds (net.drivers - net.gates))
  where
    source : rounds < net.drivers - net.gates → SendsMore net rounds (sender_in net rounds)
    source less =
        let test : nat_lt rounds (net.drivers - net.gates) ≡ true = grind (arith, nat_tests) in
        let is : 0 ≡ sender_in net rounds = rw test refl in
        let sends : SendsMore net rounds 0 = (omega arith, omega arith, omega arith) in
        subst (SendsMore net rounds) is sends

    gate : net.drivers - net.gates ≤ rounds → SendsMore net rounds (sender_in net rounds)
    gate past =
        let k = rounds - (net.drivers - net.gates) in
        let test : nat_lt rounds (net.drivers - net.gates) ≡ false = grind (arith, nat_tests) in
        let here : suc k ≡ k + 1 = omega arith in
        let is : suc k ≡ sender_in net rounds = rw test here in
        let now : nat_lt (net.drivers - net.gates + k) rounds ≡ false = grind (arith, nat_tests) in
        let then : nat_lt (net.drivers - net.gates + k) (rounds + 1) ≡ true = grind (arith, nat_tests) in
        let low : nat_lt k net.gates ≡ true = grind (arith, nat_tests) in
        let none : sent_in net rounds (suc k) ≡ 0 = ap (λ b. cond b 1 0) now in
        let one : sent_in net (rounds + 1) (suc k) ≡ 1 = ap (λ b. cond b 1 0) then in
        let all : to_send net (suc k) ≡ 1 = ap (λ b. cond b 1 0) low in
        let sends : SendsMore net rounds (suc k) = (omega (arith, none, one), omega (arith, none, all), omega arith) in
        subst (SendsMore net rounds) is sends

-- Nobody else sends in it.
pub sent-others : (net : Net) (rounds vertex : ℕ) → vertex ≢ sender_in net rounds → sent_in net (rounds + 1) vertex ≡ sent_in net rounds vertex
sent-others net rounds zero other = ⊎_elim {C = sent_in net (rounds + 1) 0 ≡ sent_in net rounds 0} source past (cases_lt rounds (net.drivers - net.gates))
  where
    source : rounds < net.drivers - net.gates → sent_in net (rounds + 1) 0 ≡ sent_in net rounds 0
    source less =
        let test : nat_lt rounds (net.drivers - net.gates) ≡ true = grind (arith, nat_tests) in
        absurd (other (rw test refl))

    past : net.drivers - net.gates ≤ rounds → sent_in net (rounds + 1) 0 ≡ sent_in net rounds 0
    past high = omega arith
sent-others net rounds (suc k) other = ap (λ b. cond b 1 0) same
  where
    same : nat_lt (net.drivers - net.gates + k) (rounds + 1) ≡ nat_lt (net.drivers - net.gates + k) rounds
    same = ⊎_elim {C = nat_lt (net.drivers - net.gates + k) (rounds + 1) ≡ nat_lt (net.drivers - net.gates + k) rounds} here apart (cases_eq (net.drivers - net.gates + k) rounds)
      where
        here : net.drivers - net.gates + k ≡ rounds → nat_lt (net.drivers - net.gates + k) (rounds + 1) ≡ nat_lt (net.drivers - net.gates + k) rounds
        here e =
            let test : nat_lt rounds (net.drivers - net.gates) ≡ false = grind (arith, nat_tests) in
            let is : suc k ≡ rounds - (net.drivers - net.gates) + 1 = omega arith in
            absurd (other (rw test is))

        apart : net.drivers - net.gates + k ≢ rounds → nat_lt (net.drivers - net.gates + k) (rounds + 1) ≡ nat_lt (net.drivers - net.gates + k) rounds
        apart e = grind (arith, nat_tests)

-- So in a part of a full flow with these units that vertex is the sender.
pub sender-has : (net : Net) (rounds : ℕ) (flow : Flow) → net.gates ≤ net.drivers → rounds < net.drivers → HasSent net rounds flow → has_to_send net flow (sender_in net rounds) ≡ true
sender-has net rounds flow few more sent =
    let from = sender_in net rounds in
    let sends = sent-sender net rounds few more in
    let now = sent.sent from sends.2 in
    vertex-sends net flow from sends.2 (omega (arith, sends.1)) (omega (arith, ints, now, sends.1))

-- A vertex before it has sent what it is to.
lower-done : (net : Net) (rounds vertex : ℕ) → vertex < sender_in net rounds → to_send net vertex ≤ sent_in net rounds vertex
lower-done net rounds vertex low = ⊎_elim {C = to_send net vertex ≤ sent_in net rounds vertex} source (λ past. at vertex low past) (cases_lt rounds (net.drivers - net.gates))
  where
    source : rounds < net.drivers - net.gates → to_send net vertex ≤ sent_in net rounds vertex
    source less =
        let test : nat_lt rounds (net.drivers - net.gates) ≡ true = grind (arith, nat_tests) in
        let is : sender_in net rounds ≡ 0 = rw test refl in
        absurd (omega (arith, is))

    at : (v : ℕ) → v < sender_in net rounds → net.drivers - net.gates ≤ rounds → to_send net v ≤ sent_in net rounds v
    at zero below past = omega arith
    at (suc k) below past =
        let test : nat_lt rounds (net.drivers - net.gates) ≡ false = grind (arith, nat_tests) in
        let is : sender_in net rounds ≡ rounds - (net.drivers - net.gates) + 1 = rw test refl in
        let now : nat_lt (net.drivers - net.gates + k) rounds ≡ true = grind (arith, nat_tests, is) in
        let one : sent_in net rounds (suc k) ≡ 1 = ap (λ b. cond b 1 0) now in
        omega (arith, one, bit-le (nat_lt k net.gates))

pub sender-is : (net : Net) (rounds : ℕ) (flow : Flow) → net.gates ≤ net.drivers → rounds < net.drivers → HasSent net rounds flow → sender net flow ≡ Some (sender_in net rounds)
sender-is net rounds flow few more sent =
    let from = sender_in net rounds in
    let sends = sent-sender net rounds few more in
    let has = sender-has net rounds flow few more sent in
    let found = sender-found net flow (from, omega (arith, sends.2), has) in
    let first = found.0 in
    let not_after : from < first → ⊥ = λ (after : from < first). let none = found.3 from after in absurd (cc) in
    let not_before : first < from → ⊥ = λ (before : first < from).
    let low = sends-low net flow first found.2 in
    let done = lower-done net rounds first before in
    absurd (omega (arith, ints, low.1, done, sent.sent first low.0, wants-to_send net first low.0)) in
    let same : first ≡ from = ⊎_elim {C = first ≡ from} (λ less. absurd (not_before less)) (λ high. ⊎_elim {C = first ≡ from} (λ more. absurd (not_after more)) (λ no_more. omega (arith, high, no_more)) (cases_lt from first)) (cases_lt first from) in
    found.1 ∙ ap (λ v. Some v) same
