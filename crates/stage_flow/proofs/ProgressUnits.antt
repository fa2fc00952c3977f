-- What was sent: nothing before the first round, and each round sends its sender's unit.
use Rattle.std.proofs.Common.{◌≡◌, ◌≢◌, ◌<◌, ◌≤◌, ◌+◌, ◌-◌, ◌*◌, ◌==◌, ◌∙◌, ℕ, zero, suc, ℤ, pos, nat_lt, Bool, true, false, cond, List, [], ◌∷◌, length, get_or, replicate, All, Contains, Some, refl, sym, ap, subst, arith, ⊎_elim}
use Rattle.std.specs.List.{flat_map}
use Rattle.std.proofs.lemmas.Bool.{cases_eq}
use Rattle.std.proofs.lemmas.Bool.Decides.{nat_tests}
use Rattle.std.proofs.lemmas.Int.{ints}
use Rattle.std.proofs.lemmas.List.Elements.{All-nil, All-cons, All-head, All-tail, Contains-get_or}
use Rattle.flow_net.specs.declared.net.Net.{Net}
use Rattle.flow_net.specs.declared.net.Units.{Units}
use Rattle.flow_net.specs.declared.net.Flow.{Flow}
use Rattle.flow_net.specs.Arcs.{Arc, arcs_of}
use Rattle.flow_net.specs.Flows.{pin_units, units_on, out_minus_in}
use Rattle.stage_flow.specs.Residual.{Way}
use Rattle.stage_flow.specs.Rounds.{no_units, moved, path_of, after_round}
use Rattle.stage_flow.specs.LawsOfSending.{MovesAUnit}
use Rattle.stage_flow.specs.LawsOfWalks.{unit_at, IsRound}
use Rattle.stage_flow.specs.UnderWay.{sent_in, sender_in, CarriesFew, HasSent}
use Rattle.stage_flow.proofs.Wants.{wanting-mirror}
use Rattle.stage_flow.proofs.Sent.{no_units-part, nothing_out, nothing_in, sent-part}
use Rattle.stage_flow.proofs.Units.{length-arcs_from, arcs_from-number}
use Rattle.stage_flow.proofs.ProgressSender.{sent-sender, sent-others, sender-has}

-- ---- Before the first round
none-sent : (net : Net) (vertex : ℕ) → sent_in net 0 vertex ≡ 0
none-sent net zero = omega arith
none-sent net (suc k) =
    let test : nat_lt (net.drivers - net.gates + k) 0 ≡ false = grind (arith, nat_tests) in
    ap (λ b. cond b 1 0) test

none-carried : (n : ℕ) → All (CarriesFew 0) (replicate n (record { forward = 0; back = 0 }))
none-carried zero = All-nil (CarriesFew 0)
none-carried (suc n) = All-cons (CarriesFew 0) (record { forward = 0; back = 0 }) (replicate n (record { forward = 0; back = 0 })) (omega arith, omega arith) (none-carried n)

pub first-sent : (net : Net) → HasSent net 0 (no_units net)
first-sent net = record {
  part = no_units-part net;
  sent = λ vertex low. omega (arith, ints, nothing_out net vertex, nothing_in net vertex, none-sent net vertex);
  few = none-carried (length net.pins);
}

-- ---- A round
add-zero_left : (n : ℕ) → 2 * 0 + n ≡ n
add-zero_left n = omega arith

unit-here : (place vertex : ℕ) → place ≡ vertex → unit_at place vertex ≡ pos 1
unit-here place vertex e =
    let test : (place == vertex) ≡ true = grind (arith, nat_tests) in
    ap (λ b. cond b (pos 1) (pos 0)) test

unit-else : (place vertex : ℕ) → place ≢ vertex → unit_at place vertex ≡ pos 0
unit-else place vertex other =
    let test : (place == vertex) ≡ false = grind (arith, nat_tests) in
    ap (λ b. cond b (pos 1) (pos 0)) test

moved-le : (takes : Bool) (units : ℕ) → moved takes units ≤ units + 1
moved-le true units = omega arith
moved-le false units = omega arith

-- An arc gains a unit at most, on the path or off it.
carried : (before after : Flow) (arcs : List Arc) (arc : Arc) (path : List Way) → Contains arcs arc
    → All (λ way. (one : Arc) → Contains arcs one → one.number ≡ way.number → units_on after one ≡ moved way.takes (units_on before one)) path
    → (All (λ way. way.number ≡ arc.number → ⊥) path → units_on after arc ≡ units_on before arc)
    → units_on after arc ≤ units_on before arc + 1
carried before after arcs arc [] there sent unsent = omega (arith, unsent (All-nil (λ (way : Way). way.number ≡ arc.number → ⊥)))
carried before after arcs arc (way ∷ path) there sent unsent =
    ⊎_elim {C = units_on after arc ≤ units_on before arc + 1} here
    (λ (other : way.number ≢ arc.number).
    carried before after arcs arc path there (All-tail Sends way path sent)
    (λ none. unsent (All-cons (λ (one : Way). one.number ≡ arc.number → ⊥) way path other none)))
    (cases_eq way.number arc.number)
  where
    Sends : Way → Type 0
    Sends one = (own : Arc) → Contains arcs own → own.number ≡ one.number → units_on after own ≡ moved one.takes (units_on before own)

    here : way.number ≡ arc.number → units_on after arc ≤ units_on before arc + 1
    here same = omega (arith, All-head Sends way path sent arc there (sym same), moved-le way.takes (units_on before arc))

-- The units of the pin at a place stand at its arcs' numbers.
forward-at : (pins : List Units) (k : ℕ) (d : Units) → k < length pins → get_or (flat_map pin_units pins) (2 * k) 0 ≡ (get_or pins k d).forward
forward-at [] k d within = absurd (omega arith)
forward-at (units ∷ pins) zero d within = refl
forward-at (units ∷ pins) (suc k) d within =
    let next : 2 * suc k ≡ suc (suc (2 * k)) = omega arith in
    ap (λ n. get_or (flat_map pin_units (units ∷ pins)) n 0) next ∙ forward-at pins k d (omega arith)

back-at : (pins : List Units) (k : ℕ) (d : Units) → k < length pins → get_or (flat_map pin_units pins) (2 * k + 1) 0 ≡ (get_or pins k d).back
back-at [] k d within = absurd (omega arith)
back-at (units ∷ pins) zero d within = refl
back-at (units ∷ pins) (suc k) d within =
    let next : 2 * suc k + 1 ≡ suc (suc (2 * k + 1)) = omega arith in
    ap (λ n. get_or (flat_map pin_units (units ∷ pins)) n 0) next ∙ back-at pins k d (omega arith)

module _ (net : Net) (flow : Flow) (far : ℕ → ℤ) (hops : ℕ → ℕ) (from mirror : ℕ) (round : IsRound net flow far hops from mirror) where
  -- Each number is that of an arc, and such an arc gains a unit at most.
  gains : (number : ℕ) → number < 2 * length net.pins → get_or (flat_map pin_units (after_round net flow).pins) number 0 ≤ get_or (flat_map pin_units flow.pins) number 0 + 1
  gains number low =
      let d : Arc = record { tail = 0; head = 0; length = pos 0; number = 0 } in
      let long = length-arcs_from net 0 net.pins in
      let within : number < length (arcs_of net) = omega (arith, long) in
      let arc = get_or (arcs_of net) number d in
      let is : arc.number ≡ number = arcs_from-number net 0 net.pins number d within ∙ add-zero_left number in
      let more = carried flow (after_round net flow) (arcs_of net) arc (path_of net flow (Some from)) (Contains-get_or (arcs_of net) number d within) round.units (round.others arc (Contains-get_or (arcs_of net) number d within)) in
      subst (λ n. get_or (flat_map pin_units (after_round net flow).pins) n 0 ≤ get_or (flat_map pin_units flow.pins) n 0 + 1) is more

  pub few-carried : (rounds : ℕ) → length flow.pins ≡ length net.pins → All (CarriesFew rounds) flow.pins → All (CarriesFew (rounds + 1)) (after_round net flow).pins
  few-carried rounds each few k d within =
      let long = round.each.each in
      let inside : k < length flow.pins = omega (arith, long, each) in
      let new = (after_round net flow).pins in
      let old = few k d inside in (
        omega (arith, gains (2 * k) (omega (arith, long)), forward-at new k d within, forward-at flow.pins k d inside, old.0),
        omega (arith, gains (2 * k + 1) (omega (arith, long)), back-at new k d within, back-at flow.pins k d inside, old.1),
      )

-- A round sends its sender's unit.
pub round-sends : (net : Net) (rounds : ℕ) (flow : Flow) (far : ℕ → ℤ) (hops : ℕ → ℕ) (mirror : ℕ) → net.gates ≤ net.drivers → rounds < net.drivers → HasSent net rounds flow → IsRound net flow far hops (sender_in net rounds) mirror → HasSent net (rounds + 1) (after_round net flow)
round-sends net rounds flow far hops mirror few more sent round =
    let from = sender_in net rounds in
    let sends = sent-sender net rounds few more in
    let receives = wanting-mirror net flow mirror round.receives.wants in
    let high : net.gates + 2 ≤ mirror = omega (arith, receives.2) in
    let differs : mirror ≢ from = λ (e : mirror ≡ from). omega (arith, e, sends.2) in
    let ends = round.ends in
    let moves : MovesAUnit net from mirror flow (after_round net flow) =
    record {
      each = round.each.each ∙ sym sent.part.each;
      start = omega (arith, ints, ends from, unit-here from from refl, unit-else mirror from differs);
      end = omega (arith, ints, ends mirror, unit-here mirror mirror refl, unit-else from mirror (λ e. differs (sym e)));
      others = λ vertex start end. omega (arith, ints, ends vertex, unit-else from vertex (λ e. start (sym e)), unit-else mirror vertex (λ e. end (sym e)));
    } in
    record {
      part =
          sent-part net flow (after_round net flow) sent.part
          (record { sender = from; receiver = mirror; sends = sender-has net rounds flow few more sent; receives = round.receives.wants; moves = moves });
      sent = λ vertex low.
          ⊎_elim {C = out_minus_in net (after_round net flow) vertex ≡ pos (sent_in net (rounds + 1) vertex)}
          (λ (same : vertex ≡ from).
          subst (λ v. out_minus_in net (after_round net flow) v ≡ pos (sent_in net (rounds + 1) v)) (sym same)
          (omega (arith, ints, moves.start, sent.sent from sends.2, sends.0)))
          (λ (other : vertex ≢ from). omega (arith, ints, moves.others vertex other (λ e. omega (arith, e, high, low)), sent.sent vertex low, sent-others net rounds vertex other))
          (cases_eq vertex from);
      few = few-carried net flow far hops from mirror round rounds sent.part.each sent.few;
    }
